-- The rows as a finite map, and what commits make of them.
use Rattle.std.specs.{Prelude.{ℕ, ℤ, List, Option, Some, None, fold}, Ordering.int_cmp, FinMap.{FinMap, empty, insert, remove}}
use Rattle.pm_rows.specs.declared.commit.Change.{Change, TheVariants.{Put, Del}}

-- rows: each key has at most one value, a list of bytes
abbrev pub RowMap : Type 0
RowMap = FinMap int_cmp (List ℕ)

-- the second of a pair put at the first, its key
abbrev pub put_pair : RowMap → ℤ × List ℕ → RowMap
put_pair rows pair = insert rows pair.0 pair.1

-- the rows of pairs, put one after the other: of those of one key the last is left
abbrev pub rows_of_pairs : List (ℤ × List ℕ) → RowMap
rows_of_pairs pairs = fold put_pair empty pairs

-- the key that a change is about
abbrev pub key_of : Change → ℤ
key_of (Put key value) = key
key_of (Del key) = key

-- what a change leaves at its key: a value, or no row
abbrev pub value_left : Change → Option (List ℕ)
value_left (Put key value) = Some value
value_left (Del key) = None

-- a put sets its key to its value, and a deletion takes its key out
abbrev pub changed : RowMap → Change → RowMap
changed rows (Put key value) = insert rows key value
changed rows (Del key) = remove rows key

-- the rows after the changes of one commit, in order
abbrev pub committed : RowMap → List Change → RowMap
committed rows changes = fold changed rows changes

-- the fold of commits: the rows after all of them, in order
abbrev pub folded : RowMap → List (List Change) → RowMap
folded rows commits = fold committed rows commits
