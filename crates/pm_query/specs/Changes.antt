-- What a change leaves at its key.
use Rattle.std.specs.{Prelude.{ℕ, ℤ, List, [], ◌∷◌, Option, Some, None}, FinMap.{insert, remove}}
use Rattle.pm_rows.specs.Fold.{RowMap}
pub use Rattle.pm_rows.specs.Size.{size_at}

-- a key with a value has that value, and one without has no row
abbrev pub left_at : RowMap → ℤ → Option (List ℕ) → RowMap
left_at rows key (Some value) = insert rows key value
left_at rows key None = remove rows key

-- the rows with what the entries leave at their keys
abbrev pub laid_over : RowMap → List (ℤ × Option (List ℕ)) → RowMap
laid_over rows [] = rows
laid_over rows (entry ∷ entries) = left_at (laid_over rows entries) entry.0 entry.1

-- how many rows a key has that has this value or none
abbrev pub rows_at : Option (List ℕ) → ℕ
rows_at None = 0
rows_at (Some value) = 1
