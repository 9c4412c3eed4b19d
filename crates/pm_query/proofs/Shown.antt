-- The entries of rows with changes over them.
use Rattle.std.{proofs.Common.{◌≡◌, ℕ, ℤ, not, List, [], ◌∷◌, Option, Some, None, refl, ap, ◌∙◌}, specs.{Ordering.{int_cmp, eq_by_cmp}, Cmp.int_cmp_total, FinMap.{entries, entries-insert, put, Entries.where_key}}}
use Rattle.pm_rows.{specs.Fold.RowMap, proofs.RowLaws.entries-remove}
use Rattle.pm_query.specs.{Changes.laid_over, Merge.laid}

-- the entries of rows with changes over them are those of the rows with each change
pub entries-laid_over : (rows : RowMap) (changes : List (ℤ × Option (List ℕ))) → entries (laid_over rows changes) ≡ laid (entries rows) changes
entries-laid_over rows [] = refl
entries-laid_over rows ((key, None) ∷ changes) = entries-remove (laid_over rows changes) key ∙ ap (where_key int_cmp (λ other. not (eq_by_cmp int_cmp key other))) (entries-laid_over rows changes)
entries-laid_over rows ((key, Some value) ∷ changes) = entries-insert int_cmp_total (laid_over rows changes) key value ∙ ap (put int_cmp key value) (entries-laid_over rows changes)
