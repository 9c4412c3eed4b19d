-- How the number of rows and their size change with one of them.
use Rattle.std.{proofs.Common.{◌≡◌, ℕ, ℤ, suc, ◌+◌, ◌-◌, ◌≤◌, true, false, cond, List, [], ◌∷◌, length, Option, Some, None, is_some, ap, arith}, specs.{Ordering.{int_cmp, eq_by_cmp}, Cmp.int_cmp_total, FinMap.{get, len, entries, find, get-entries, len-entries, len-insert, len-remove}}}
use Rattle.pm_rows.{specs.{Fold.RowMap, Size.size_of}, proofs.RowLaws.{size-insert, size-remove}}
use Rattle.pm_query.specs.Changes.{left_at, rows_at, size_at}

-- a key that has a row is one of the rows
rows_at-find : (key : ℤ) (es : List (ℤ × List ℕ)) → rows_at (find int_cmp key es) ≤ length es
rows_at-find key [] = omega arith
rows_at-find key (e ∷ es) = elim (eq_by_cmp int_cmp key e.0) as (λ b. rows_at (cond b (Some e.1) (find int_cmp key es)) ≤ suc (length es)) [ true ↦ omega arith | false ↦ omega (arith, rows_at-find key es) ]

has_row : (rows : RowMap) (key : ℤ) → rows_at (get rows key) ≤ len rows
has_row rows key = omega (arith, rows_at-find key (entries rows), ap rows_at (get-entries rows key), len-entries rows)

-- the size with a value or none at a key
pub size-left_at : (rows : RowMap) (key : ℤ) (value : Option (List ℕ)) → size_of (left_at rows key value) + size_at (get rows key) ≡ size_of rows + size_at value
size-left_at rows key None = omega (arith, size-remove rows key)
size-left_at rows key (Some value) = size-insert rows key value

-- and the number of rows
pub len-left_at : (rows : RowMap) (key : ℤ) (value : Option (List ℕ)) → len (left_at rows key value) + rows_at (get rows key) ≡ len rows + rows_at value
len-left_at rows key None = counted (get rows key) _ _ (len-remove int_cmp_total rows key) (has_row rows key) where
  counted : (o : Option (List ℕ)) (n m : ℕ) → n ≡ cond (is_some o) (m - 1) m → rows_at o ≤ m → n + rows_at o ≡ m + 0
  counted None n m e h = omega (arith, e)
  counted (Some v) n m e h = omega (arith, e, h)
len-left_at rows key (Some value) = counted (get rows key) _ _ (len-insert int_cmp_total rows key value) where
  counted : (o : Option (List ℕ)) (n m : ℕ) → n ≡ cond (is_some o) m (m + 1) → n + rows_at o ≡ m + 1
  counted None n m e = omega (arith, e)
  counted (Some v) n m e = omega (arith, e)

-- the row of a key is part of the size
pub size-at-most : (rows : RowMap) (key : ℤ) → size_at (get rows key) ≤ size_of rows
size-at-most rows key = omega (arith, size-remove rows key)

-- and one of the rows
pub len-at-most : (rows : RowMap) (key : ℤ) → rows_at (get rows key) ≤ len rows
len-at-most rows key = has_row rows key
