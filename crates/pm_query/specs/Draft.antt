-- How changes lie over a table.
use Rattle.std.specs.{Prelude.{◌≡◌, ℕ, ℤ, List, Option, IfSome}, Ordering.int_cmp, FinMap.{len, entries}, BTreeMap.{BTreeMap, IsOrdered}}
use Rattle.pm_rows.specs.{Fold.RowMap, Size.size_of}
use Rattle.pm_query.specs.Changes.{laid_over}

-- the keys of the changes rise, and the number of rows, their size and, once it was made, their list are kept
pub record IsDraft (table : RowMap) (changes : BTreeMap ℤ (Option (List ℕ))) (count size : ℕ) (listed : Option (List (ℤ × List ℕ))) : Type 0 where
  pub ordered : IsOrdered int_cmp changes
  pub counted : count ≡ len (laid_over table changes.entries)
  pub sized : size ≡ size_of (laid_over table changes.entries)
  pub listed_is : IfSome listed (λ pairs. pairs ≡ entries (laid_over table changes.entries))
