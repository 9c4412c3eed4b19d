-- Crashes of children, as a journal notes them.
use Rattle.std.specs.{Prelude.{◌≡◌, ◌⊎◌, Bool, true, false, ◌&&◌, ◌||◌, List, [], ◌∷◌, All, is_some}, List.AllByRecursion}
use Rattle.pm_once.specs.pm_state.pm_exit.declared.child.Kind.TheVariants as kinds
use Rattle.pm_once.specs.{pm_state.{pm_exit.Ends.{class_of, is_exit_1}, pm_modes.declared.Mode.TheVariants.Smart, pm_supervisor.{declared.Limits.Limits, Children.is_startup_child, Steps.is_normal}, declared.{event.PmEvent.PmEvent, machine.Machine.Machine}, Exits.is_shutdown, Journal.{IsLegal, Replay, replay_begun, replayed}}, pm_supervisor_chain.Steps.{AreSteps, Step, journal_of}, pm_supervisor_journal.Stands.any_moment, pm_server.Journal.asked_in, pm_once_children.{AuxiliaryRuns.{AreToldBehind, nothing_heard}, Calm.EndThemselves}, pm_once_acts.Steps.EndsWith}
use Rattle.pm_once.specs.pm_state.pm_supervisor.declared.Ending.TheVariants as endings
use Rattle.pm_once.specs.pm_state.declared.event.PmEvent.TheVariants as entry

-- ---- entries

-- The end of a child was a normal one as the machine met it, or a startup child gave up with code 1 for a shutdown. None was
-- told to end at once, and none was killed.
abbrev pub IsOrderly : Machine → PmEvent → Type 0
IsOrderly m (entry.Exited pid kind status was_active at) =
    is_normal (class_of kind (is_shutdown m.state) was_active status)
    || (is_startup_child kind && (is_exit_1 status && is_some m.shutdown)) ≡ true
IsOrderly m (entry.QuitSent why) = ⊥
IsOrderly m (entry.KillSent at) = ⊥
IsOrderly m _ = Unit {0}

-- a startup child has ended by itself without its redo, or a checkpointer without its checkpoint
abbrev pub is_undone : PmEvent → Bool
is_undone (entry.Exited pid kinds.Startup status was_active at) = is_exit_1 status
is_undone (entry.Exited pid kinds.Checkpointer status was_active at) = is_exit_1 status
is_undone _ = false

-- what comes after that: no child ends, no generation begins, and the server doesn't end clean
abbrev pub IsBehindUndone : PmEvent → Type 0
IsBehindUndone (entry.Exited pid kind status was_active at) = ⊥
IsBehindUndone (entry.Reset generation) = ⊥
IsBehindUndone (entry.Ended endings.Clean) = ⊥
IsBehindUndone _ = Unit {0}

-- ---- whole journals

-- each entry, after what those before it leave
abbrev pub AreOrderly : Replay → List PmEvent → Type 0
AreOrderly r [] = Unit {0}
AreOrderly r (e ∷ journal) = IsOrderly r.machine e × AreOrderly (replayed r e) journal

-- so far as no child has left its work undone, which is the last that ends
abbrev pub AreOrderlySoFar : Replay → List PmEvent → Type 0
AreOrderlySoFar r [] = Unit {0}
AreOrderlySoFar r (e ∷ journal) =
    ((is_undone e ≡ true) × AllByRecursion IsBehindUndone journal)
    ⊎ (IsOrderly r.machine e × AreOrderlySoFar (replayed r e) journal)

-- ---- the law

-- The steps of a run over a disk that doesn't fail: each child was told what the journal says, and ended by itself outside the
-- store; and Smart shutdowns alone were asked for.
pub record AreUnharmed (limits : Limits) (steps : List Step) : Type 0 where
  pub legal : IsLegal limits any_moment (journal_of steps)
  pub are_steps : AreSteps limits steps
  pub smart : All (λ mode. mode ≡ Smart) (asked_in (journal_of steps))
  pub runs : AreToldBehind nothing_heard steps
  pub ends : EndThemselves nothing_heard steps

-- No child crashed there but the last one that ended, if that left its work undone; and where the server ended clean none did.
pub record CompletesItsRuns : Type 0 where
  pub orderly : (limits : Limits) (steps : List Step) → AreUnharmed limits steps → AreOrderlySoFar (replay_begun limits) (journal_of steps)
  pub clean :
      (limits : Limits) (steps : List Step) → AreUnharmed limits steps → EndsWith (entry.Ended endings.Clean) steps
      → AreOrderly (replay_begun limits) (journal_of steps)
