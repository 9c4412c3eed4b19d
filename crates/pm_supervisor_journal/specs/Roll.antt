-- The children that are there, by their pids.
use Rattle.std.specs.Prelude.{ℕ, ◌==◌, if◌then◌else◌, List, [], ◌∷◌, Option, Some, None}
use Rattle.pm_supervisor.specs.{pm_exit.declared.child.Kind.Kind, Children.Child}
use Rattle.pm_supervisor_journal.specs.declared.roll.Enrolled.{Enrolled}

-- what the child with this pid is for
abbrev pub kind_in : ℕ → List Enrolled → Option Kind
kind_in pid [] = None
kind_in pid (c ∷ cs) = if c.pid == pid then Some c.kind else kind_in pid cs

-- the others
abbrev pub without : ℕ → List Enrolled → List Enrolled
without pid [] = []
without pid (c ∷ cs) = if c.pid == pid then cs else c ∷ without pid cs

-- the roll of the supervisor's children
abbrev pub roll_of : List Child → List Enrolled
roll_of [] = []
roll_of (c ∷ cs) = record { pid = c.pid; kind = c.kind } ∷ roll_of cs
