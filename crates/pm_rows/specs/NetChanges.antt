-- How a commit is made: what it leaves at each of its keys, room for those that have no row yet, and then the values.
use Rattle.std.specs.{Prelude.{◌≡◌, ℕ, ℤ, Bool, ◌&&◌, List, [], ◌∷◌, Option, Some, None, is_some, is_none, IsSome, map, filter, unwrap_or}, Ordering.int_cmp, BTreeMap.{BTreeMap, IsOrdered}}
use Rattle.std.specs.FinMap as rows
use Rattle.std.specs.BTreeMap as tree
use Rattle.pm_rows.specs.{declared.commit.Change.Change, Fold.{RowMap, committed}}

-- by rising key, the value that a key has afterwards, or `None` where it has no row
abbrev pub NetChanges : Type 0
NetChanges = BTreeMap ℤ (Option (List ℕ))

-- these are the net changes of a list of changes: whatever the rows before, they say what a key that they name has
-- afterwards, and the others have what they had
pub record IsNet (changes : List Change) (net : NetChanges) : Type 0 where
  pub ordered : IsOrdered int_cmp net
  pub left : (before : RowMap) (key : ℤ) → rows.get (committed before changes) key ≡ unwrap_or (tree.get int_cmp net key) (rows.get before key)

-- whether a key gets a value and has no row
abbrev pub lacks_row : RowMap → ℤ × Option (List ℕ) → Bool
lacks_row before entry = is_some entry.1 && is_none (rows.get before entry.0)

-- the keys that get a value and have no row
abbrev pub missing_keys : RowMap → NetChanges → List ℤ
missing_keys before net = map (λ entry. entry.0) (filter (lacks_row before) net.entries)

-- each key that gets a value has a row, and keys that the net changes don't name are as they were
pub record HasRoom (net : NetChanges) (before now : RowMap) : Type 0 where
  pub room : (key : ℤ) (value : List ℕ) → tree.get int_cmp net key ≡ Some (Some value) → IsSome (rows.get now key)
  pub others : (key : ℤ) → tree.get int_cmp net key ≡ None → rows.get now key ≡ rows.get before key

-- the rows with what a net change leaves at its key
abbrev pub settled : RowMap → ℤ × Option (List ℕ) → RowMap
settled now (key, Some value) = rows.insert now key value
settled now (key, None) = rows.remove now key

-- along the entries, each key that gets a value has a row when it gets it
abbrev pub IsReady : RowMap → List (ℤ × Option (List ℕ)) → Type 0
IsReady now [] = Unit {0}
IsReady now (entry ∷ entries) = (IsSome entry.1 → IsSome (rows.get now entry.0)) × IsReady (settled now entry) entries
