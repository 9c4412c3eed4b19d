-- How large rows are.
use Rattle.std.specs.{Prelude.{ℕ, ◌+◌, List, Option, length, sum_by, unwrap_or}, FinMap.values, Option.option_map}
use Rattle.pm_rows.specs.Fold.{RowMap}

-- a row takes twelve bytes, for its key and the length of its value, and the bytes of the value
abbrev pub row_size : List ℕ → ℕ
row_size value = 12 + length value

-- what the row of a key takes, or nothing where the key has no row
abbrev pub size_at : Option (List ℕ) → ℕ
size_at value = unwrap_or (option_map row_size value) 0

-- the size of rows is the sum over all of them
abbrev pub size_of : RowMap → ℕ
size_of rows = sum_by row_size (values rows)
