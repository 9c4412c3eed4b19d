-- Which keys staged commits change, and how a table keeps that.
use Rattle.std.specs.{Prelude.{◌≡◌, ℕ, ℤ, Bool, cond, List, Option, None, Some, nat_eq, nat_lt, unwrap_or, count_by, sum_by}, Ordering.{int_cmp, int_eq}, BTreeMap.BTreeMap}
use Rattle.std.specs.BTreeMap as tree
use Rattle.pm_rows.specs.{Fold.key_of, declared.commit.Change.Change}

-- the change is about this key
abbrev pub is_about : ℤ → Change → Bool
is_about key change = int_eq (key_of change) key

-- how many of a commit's changes are
abbrev pub times_in : ℤ → List Change → ℕ
times_in key commit = count_by (is_about key) commit

-- and how many of all changes of these commits
abbrev pub times_named : ℤ → List (List Change) → ℕ
times_named key commits = sum_by (times_in key) commits

-- one of these commits changes the row of this key
abbrev pub is_named : ℤ → List (List Change) → Bool
is_named key commits = nat_lt 0 (times_named key commits)

-- ---- the table

-- a number is kept where it isn't 0
abbrev pub counted : ℕ → Option ℕ
counted times = cond (nat_eq times 0) None (Some times)

-- the table has each key with its number
abbrev pub Counts : BTreeMap ℤ ℕ → (ℤ → ℕ) → Type 0
Counts table times = (key : ℤ) → tree.get int_cmp table key ≡ counted (times key)

-- the number that it has of a key
abbrev pub times_at : BTreeMap ℤ ℕ → ℤ → ℕ
times_at table key = unwrap_or (tree.get int_cmp table key) 0
