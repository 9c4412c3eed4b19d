-- How the fields of `Rows` stand for a finite map.
use Rattle.std.specs.{Prelude.{◌≡◌, ℕ, ℤ, ◌<◌, ◌^◌, List, length, All, FitsSigned, sum_by}, Ordering.int_cmp, Int.w64, Str.IsUtf8, BTreeMap.{BTreeMap, IsOrdered, keys, values}, FinMap.from_sorted}
use Rattle.pm_rows.specs.{Fold.RowMap, Size.row_size}

-- the map of the table's entries
abbrev pub rows_in : BTreeMap ℤ (List ℕ) → RowMap
rows_in table = from_sorted table.entries

-- the keys rise, each key and each value is of its type, and the size is the sum over the rows
pub record IsTable (table : BTreeMap ℤ (List ℕ)) (size : ℕ) : Type 0 where
  pub ordered : IsOrdered int_cmp table
  pub in_range : All (FitsSigned w64) (keys table)
  pub texts : All IsUtf8 (values table)
  pub lengths : All (λ value. length value < 2 ^ 64) (values table)
  pub sum : size ≡ sum_by row_size (values table)
