-- The history of the store's commits: a base, the commits after it, and how many of all of them are acknowledged.
use Rattle.std.specs.Prelude.{ℕ, ◌+◌, ◌-◌, max, List, [], ◌∷◌, ◌++◌, length, take}
use Rattle.pm_rows.specs.{Fold.{RowMap, folded}, declared.commit.Change.Change, Standing.Standing}

-- Number n of a history is its base with the first commits after it, up to the n-th since the cluster was made.
pub record History : Type 0 where
  pub base : Standing
  pub commits : List (List Change)
  pub acked : ℕ

-- the number of all its commits
abbrev pub count_of : History → ℕ
count_of history = history.base.count + length history.commits

-- the rows after all of them
abbrev pub rows_of : History → RowMap
rows_of history = folded history.base.rows history.commits

-- number n
abbrev pub number : History → ℕ → Standing
number history n = record { rows = folded history.base.rows (take (n - history.base.count) history.commits); count = n }

-- no commit after the base yet
abbrev pub beginning : Standing → History
beginning base = record { base = base; commits = []; acked = base.count }

-- one commit more; a commit without changes is none
abbrev pub with_commit : History → List Change → History
with_commit history [] = history
with_commit history (change ∷ changes) = record history { commits = history.commits ++ (change ∷ changes) ∷ [] }

-- the commits up to this number are acknowledged
abbrev pub acknowledged : History → ℕ → History
acknowledged history front = record history { acked = max history.acked front }

-- those up to this number are left
abbrev pub kept : History → ℕ → History
kept history count = record history { commits = take (count - history.base.count) history.commits }
