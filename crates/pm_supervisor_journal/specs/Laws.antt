-- The laws of a supervisor at work, one for each function of `laws.rt`, whose contract it is.
use Rattle.std.specs.Prelude.{◌≡◌, ℕ, ◌≤◌, Bool, true, false, List, [], ◌∷◌, ◌++◌, Option, Some, unwrap_or, is_some}
use Rattle.pm_state.specs.{pm_modes.declared.Mode.Mode, pm_supervisor.{declared.Limits.Limits, Between.is_child_step, Steps.{SupervisorEvent, Trace, MayHappen, empty_trace, happened}}, declared.{event.PmEvent.PmEvent, action.Action.Action}, Journal.{Replay, IsLegal, all_replayed, all_reported, entries_of_call, replay_begun}, InStep.IsInStep, Facts.Holds}
use Rattle.pm_supervisor_journal.specs.{Moments.AreGiven, declared.exit.ChildExit.ChildExit, Roll.kind_in, Standing.{Standing, IsAtRest, Making, MayAsk, MayTake, accepting, asking, done, entry_for, exiting, first_due, kill_entry, killed, made, nothing_done, ticking, turning}, Stands.{IsSettled, Stands, any_moment, behind, entries_due, highest_pid}}

pub record KeepsALegalJournal : Type 0 where
  -- at every moment, also while acts are due
  pub legal :
      (limits : Limits) (journal : List PmEvent) (s : Standing) (h : Trace) → Stands limits (Some journal) s h
      → IsLegal limits any_moment journal
  -- the clock gives the moments of a journal that is legal by it
  pub by_clock :
      (gives : ℕ → Bool) (limits : Limits) (journal : List PmEvent) → IsLegal limits any_moment journal
      → AreGiven (λ at. gives at ≡ true) journal → IsLegal limits gives journal
  -- where nothing is due, journal, machine and supervisor are in step
  pub in_step :
      (limits : Limits) (journal : List PmEvent) (s : Standing) (h : Trace) → Stands limits (Some journal) s h → s.due ≡ []
      → IsInStep limits (record { replay = all_replayed (replay_begun limits) journal; machine = s.machine; trace = h })
  -- and also where the journal isn't told the machine shows the supervisor
  pub holds :
      (limits : Limits) (told : Option (List PmEvent)) (s : Standing) (h : Trace) → Stands limits told s h → s.due ≡ []
      → Holds limits s.machine h
  -- a step of a child leaves no entry
  pub child :
      (limits : Limits) (told : Option (List PmEvent)) (s : Standing) (h : Trace) (event : SupervisorEvent)
      → Stands limits told s h → is_child_step event ≡ true → MayHappen limits h event → Stands limits told s (happened h event)
  -- no pid is above this one
  pub pids :
      (limits : Limits) (told : Option (List PmEvent)) (s : Standing) (h : Trace) → Stands limits told s h → s.last_pid ≤ highest_pid

abbrev pub replay_by : Limits → List PmEvent → Replay
replay_by limits journal = all_replayed (replay_begun limits) journal

-- the journal, once the acts that are due are done and noted
abbrev pub with_due : Limits → List PmEvent → Standing → List PmEvent
with_due limits journal s = journal ++ entries_due s (replay_by limits journal)

-- the same after a call, whose own entries are noted
abbrev pub with_call : Limits → List PmEvent → Standing → Making → List PmEvent
with_call limits journal s making = with_due limits (journal ++ making.entries) (made making s)

pub record NotesWhatIsDue : Type 0 where
  -- an act notes the first of the entries that are due, and leaves the others
  pub notes :
      (limits : Limits) (journal : List PmEvent) (s : Standing) (h : Trace) (action : Action) → Stands limits (Some journal) s h
      → first_due s.due ≡ Some action
      → with_due limits (journal ++ entry_for action s ∷ []) (done action s) ≡ with_due limits journal s
  pub reports :
      (s : Standing) (action : Action) → first_due s.due ≡ Some action
      → all_reported (done action s).due (done action s).machine ≡ all_reported s.due s.machine
  -- the entries of a call and its acts are those of the journal's definition
  pub asks :
      (limits : Limits) (journal : List PmEvent) (s : Standing) (mode : Mode) (at : ℕ)
      → with_call limits journal s (asking mode at s)
      ≡ journal ++ entries_of_call 0 (replay_by limits journal) s.machine (asking mode at s).call
  pub exits :
      (limits : Limits) (journal : List PmEvent) (s : Standing) (h : Trace) (exit : ChildExit) (at : ℕ)
      → Stands limits (Some journal) s h
      → with_call limits journal s (exiting exit at s)
      ≡ journal ++ entries_of_call (unwrap_or exit.kept 0) (replay_by limits journal) s.machine (exiting exit at s).call

-- Over a given journal, whether it is told or not: a call leaves it with the entries of the call, and an act with its own.
pub record GoesOnOverItsJournal : Type 0 where
  pub begins : (limits : Limits) → Stands limits (Some []) (nothing_done limits) empty_trace
  pub turns :
      (limits : Limits) (journal : List PmEvent) (s : Standing) (h : Trace) → Stands limits (Some journal) s h → IsAtRest s
      → s.owes_smart ≡ false → Stands limits (Some journal) (made turning s) (behind s.machine turning.call h)
  -- time leaves no entry but those of its acts
  pub ticks :
      (limits : Limits) (journal : List PmEvent) (s : Standing) (h : Trace) (at : ℕ) → Stands limits (Some journal) s h → IsAtRest s
      → s.owes_smart ≡ false → Stands limits (Some journal) (made (ticking at s) s) (behind s.machine (ticking at s).call h)
  pub kills :
      (limits : Limits) (journal : List PmEvent) (s : Standing) (h : Trace) (pid : ℕ) → Stands limits (Some journal) s h → IsAtRest s
      → s.owes_smart ≡ false → is_some (kind_in pid s.children) ≡ true
      → Stands limits (Some (journal ++ kill_entry pid ∷ [])) (killed pid s) h
  pub asks :
      (limits : Limits) (journal : List PmEvent) (s : Standing) (h : Trace) (mode : Mode) (at : ℕ) → Stands limits (Some journal) s h
      → IsAtRest s → MayAsk mode s
      → Stands limits (Some (journal ++ (asking mode at s).entries)) (made (asking mode at s) s) (behind s.machine (asking mode at s).call h)
  pub accepts :
      (limits : Limits) (journal : List PmEvent) (s : Standing) (h : Trace) → Stands limits (Some journal) s h → IsAtRest s
      → IsSettled s → MayTake s
      → Stands limits (Some (journal ++ (accepting s).entries)) (made (accepting s) s) (behind s.machine (accepting s).call h)
  pub exits :
      (limits : Limits) (journal : List PmEvent) (s : Standing) (h : Trace) (exit : ChildExit) (at : ℕ)
      → Stands limits (Some journal) s h → IsAtRest s → s.owes_smart ≡ false → kind_in exit.pid s.children ≡ Some exit.kind
      → Stands limits (Some (journal ++ (exiting exit at s).entries)) (made (exiting exit at s) s) (behind s.machine (exiting exit at s).call h)
  pub acts :
      (limits : Limits) (journal : List PmEvent) (s : Standing) (h : Trace) (action : Action) → Stands limits (Some journal) s h
      → first_due s.due ≡ Some action → Stands limits (Some (journal ++ entry_for action s ∷ [])) (done action s) h
