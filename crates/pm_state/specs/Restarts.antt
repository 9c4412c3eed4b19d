-- Restarts, as a journal tells of them. The manual: 20.14 "Error Handling".
use Rattle.std.specs.{Prelude.{◌≡◌, ◌≢◌, ℕ, Bool, true, false, not, ◌==◌, ◌&&◌, ◌||◌, if◌then◌else◌, List, [], ◌∷◌}, List.AllByRecursion}
use Rattle.pm_supervisor.specs.{pm_exit.{declared.child.{Kind.Kind, Status.Status}, Ends.class_of}, pm_admit.declared.Cac.TheVariants.Ok as Admitted, declared.Limits.Limits, Children.{Child, is_session, is_startup_child, is_checkpointer, is_writer, is_dead_end, count_of, one_if}, Steps.is_normal}
use Rattle.pm_supervisor.specs.declared.Ending.TheVariants as ending
use Rattle.pm_state.specs.{declared.{event.PmEvent.PmEvent, machine.Machine.Machine}, TurnRules.is_not_running}
use Rattle.pm_state.specs.declared.event.PmEvent.TheVariants as entry

-- who is let in

-- a child ended abnormally, by its kind and its end alone: so that every end of a checkpointer counts as one
abbrev pub is_abnormal : Kind → Bool → Status → Bool
is_abnormal kind was_active status = not (is_normal (class_of kind false was_active status))

-- whether a child has ended abnormally, and redo hasn't ended since
abbrev pub recovers_after : Bool → PmEvent → Bool
recovers_after before (entry.Exited pid kind status was_active at) = before || is_abnormal kind was_active status
recovers_after before (entry.RedoEnded generation kept) = false
recovers_after before _ = before

-- no connection is accepted as a session meanwhile
abbrev pub MayStand : Bool → PmEvent → Type 0
MayStand recovers (entry.Accepted pid decision) = recovers ≡ true → decision ≢ Admitted
MayStand recovers _ = Unit {0}

abbrev pub AdmitsFrom : Bool → List PmEvent → Type 0
AdmitsFrom recovers [] = Unit {0}
AdmitsFrom recovers (e ∷ journal) = MayStand recovers e × AdmitsFrom (recovers_after recovers e) journal

-- who is there

-- the pids without this one, which stands among them at most once
abbrev pub without_pid : ℕ → List ℕ → List ℕ
without_pid pid [] = []
without_pid pid (other ∷ pids) = if other == pid then pids else other ∷ without_pid pid pids

-- the children that are there, by their pids
abbrev pub there_after : List ℕ → PmEvent → List ℕ
there_after there (entry.Started pid kind) = pid ∷ there
there_after there (entry.Accepted pid decision) = pid ∷ there
there_after there (entry.Exited pid kind status was_active at) = without_pid pid there
there_after there _ = there

-- a next generation begins where nobody is there
abbrev pub BeginsAlone : List ℕ → PmEvent → Type 0
BeginsAlone there (entry.Reset generation) = there ≡ []
BeginsAlone there _ = Unit {0}

abbrev pub BeginsFrom : List ℕ → List PmEvent → Type 0
BeginsFrom there [] = Unit {0}
BeginsFrom there (e ∷ journal) = BeginsAlone there e × BeginsFrom (there_after there e) journal

-- what the options say

-- the server starts again only where it is to, and ends for want of a restart only where it isn't
abbrev pub IsAsSet : Limits → PmEvent → Type 0
IsAsSet limits (entry.Reset generation) = limits.restart_after_crash ≡ true
IsAsSet limits (entry.Ended ending.RestartOff) = limits.restart_after_crash ≡ false
IsAsSet limits _ = Unit {0}

abbrev pub AreAsSet : Limits → List PmEvent → Type 0
AreAsSet limits journal = AllByRecursion (IsAsSet limits) journal

-- all of it

pub record RestartsInOrder (limits : Limits) (journal : List PmEvent) : Type 0 where
  -- from an abnormal end of a child until redo has ended no connection is accepted as a session
  pub admits : AdmitsFrom false journal
  -- a next generation begins only with no child left
  pub begins : BeginsFrom [] journal
  -- and only where the server is to start again after a crash
  pub as_set : AreAsSet limits journal

-- the machine counts the children that are there. One whose start isn't reported isn't there yet
pub record Counts (m : Machine) (children : List Child) : Type 0 where
  pub sessions : count_of is_session children ≡ m.children
  pub dead_ends : count_of is_dead_end children ≡ m.dead_ends
  pub startup : count_of is_startup_child children ≡ one_if (not (is_not_running m.startup) && not m.startup_due)
  pub checkpointer : count_of is_checkpointer children ≡ one_if m.checkpointer
  pub writer : count_of is_writer children ≡ one_if m.writer
