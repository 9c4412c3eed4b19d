-- Rows in order, with changes over them.
use Rattle.std.specs.{Prelude.{ℕ, ℤ, not, List, [], ◌∷◌, Option, Some, None}, Ordering.{int_cmp, eq_by_cmp}, FinMap.Entries.{put, where_key}}

-- the rows with a value at a key, in its place, or without the key
abbrev pub put_or_drop : ℤ × Option (List ℕ) → List (ℤ × List ℕ) → List (ℤ × List ℕ)
put_or_drop (key, Some value) rows = put int_cmp key value rows
put_or_drop (key, None) rows = where_key int_cmp (λ other. not (eq_by_cmp int_cmp key other)) rows

-- with each of the changes
abbrev pub laid : List (ℤ × List ℕ) → List (ℤ × Option (List ℕ)) → List (ℤ × List ℕ)
laid rows [] = rows
laid rows (change ∷ changes) = put_or_drop change (laid rows changes)
