-- Crashes of children, as the machine meets them entry by entry, and the first of a journal.
use Rattle.std.specs.Prelude.{◌≡◌, Bool, true, false, not, ◌&&◌, ◌||◌, List, [], ◌∷◌, ◌++◌, is_some}
use Rattle.pm_state.specs.{pm_exit.Ends.{class_of, is_exit_1}, pm_modes.declared.Mode.TheVariants.Immediate, pm_supervisor.{declared.Limits.Limits, Children.is_startup_child, Steps.is_normal}, declared.{event.PmEvent.PmEvent, machine.Machine.Machine}, Exits.is_shutdown, Journal.{Replay, all_replayed, replay_begun, replayed}}
use Rattle.pm_state.specs.pm_supervisor.declared.Ending.TheVariants as endings
use Rattle.pm_state.specs.declared.event.PmEvent.TheVariants as entry

-- The end of a child that isn't a normal one by its class. A startup child that gives up with code 1 for a shutdown is none.
abbrev pub is_crash : Machine → PmEvent → Bool
is_crash m (entry.Exited pid kind status was_active at) =
    not (is_normal (class_of kind (is_shutdown m.state) was_active status)
    || (is_startup_child kind && (is_exit_1 status && is_some m.shutdown)))
is_crash m _ = false

-- none is among these, each as it is met after those before it
abbrev pub HasNoCrash : Replay → List PmEvent → Type 0
HasNoCrash r [] = Unit {0}
HasNoCrash r (e ∷ journal) = (is_crash r.machine e ≡ false) × HasNoCrash (replayed r e) journal

-- what stands after these entries
abbrev pub stands_behind : Limits → List PmEvent → Machine
stands_behind limits before = (all_replayed (replay_begun limits) before).machine

-- The entry is the first crash of the journal.
pub record IsFirstCrash (limits : Limits) (journal : List PmEvent) (e : PmEvent) : Type 0 where
  pub before : List PmEvent
  pub behind : List PmEvent
  pub is : journal ≡ before ++ e ∷ behind
  pub none : HasNoCrash (replay_begun limits) before
  pub crash : is_crash (stands_behind limits before) e ≡ true

-- nobody outside asks for a kill, or to stop at once
abbrev pub IsUnasked : PmEvent → Type 0
IsUnasked (entry.KillAsked pid) = ⊥
IsUnasked (entry.Asked Immediate at) = ⊥
IsUnasked _ = Unit {0}

-- It tells of no order to end at once, of no next generation, and of no end of the server after a crash.
abbrev pub IsHarmless : PmEvent → Type 0
IsHarmless (entry.QuitSent why) = ⊥
IsHarmless (entry.KillSent at) = ⊥
IsHarmless (entry.Reset generation) = ⊥
IsHarmless (entry.Ended endings.AfterCrash) = ⊥
IsHarmless (entry.Ended endings.RestartOff) = ⊥
IsHarmless _ = Unit {0}
