-- What commits come to.
use Rattle.std.specs.Prelude.{ℕ, ◌+◌, List, length}
use Rattle.pm_rows.specs.{Fold.{RowMap, folded}, declared.commit.Change.Change}

-- the rows after so many commits since the cluster was made
pub record Standing : Type 0 where
  pub rows : RowMap
  pub count : ℕ

-- with these commits after them
abbrev pub after : Standing → List (List Change) → Standing
after standing commits = record { rows = folded standing.rows commits; count = standing.count + length commits }
