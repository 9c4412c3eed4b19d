-- A supervisor that nothing has disturbed: nobody has crashed, and nobody has asked for a shutdown.
use Rattle.std.specs.Prelude.{◌≡◌, Bool, true, List, [], ◌∷◌, ◌⊎◌, false, None, is_some, not, ◌&&◌, ◌||◌, fold}
use Rattle.pm_server.specs.{pm_admit.declared.PmState.PmState, pm_state.declared.{machine.StartupStatus.{StartupStatus, TheVariants.Running}, action.Action.Action, event.PmEvent.PmEvent}, pm_supervisor_journal.Standing.Standing, pm_exit.{Ends.{is_exit_0, is_exit_1}, declared.child.Status.TheVariants.Code}}
use Rattle.pm_server.specs.pm_admit.declared.PmState.TheVariants as state
use Rattle.pm_server.specs.pm_exit.declared.child.Kind.TheVariants as kinds
use Rattle.pm_server.specs.pm_supervisor.declared.Ending.TheVariants as endings
use Rattle.pm_server.specs.pm_state.declared.action.Action.TheVariants as act
use Rattle.pm_once_children.specs.{Auxiliaries.heard_of, AuxiliaryRuns.{nothing_heard, Heard, IsIdleRun, heard_after}, declared.auxiliaries.Auxiliaries.Auxiliaries}
use Rattle.pm_server.specs.pm_state.declared.event.PmEvent.TheVariants as entry
use Rattle.pm_once_acts.specs.pm_supervisor_chain.Steps.{ChildRun, Runs, Step, journal_by}

-- it comes up, or it serves
abbrev pub IsUp : PmState → StartupStatus → Bool → Type 0
IsUp state.Init startup conns = Unit {0}
IsUp state.Startup startup conns = startup ≡ Running
IsUp state.Run startup conns = conns ≡ true
IsUp _ startup conns = ⊥

-- the acts of that
abbrev pub AreCalm : PmState → List Action → Type 0
AreCalm at [] = Unit {0}
AreCalm at (act.Start kinds.Startup ∷ acts) = (at ≡ state.Startup) × AreCalm at acts
AreCalm at (act.Start kind ∷ acts) = AreCalm at acts
AreCalm at (act.Ready ∷ acts) = AreCalm at acts
AreCalm at (act.Say line ∷ acts) = AreCalm at acts
AreCalm at (act.End endings.StartupFailed ∷ acts) = AreCalm at acts
AreCalm at (_ ∷ acts) = ⊥

-- It is up, or its start has failed; its auxiliary children were told nothing, and a startup child is there only while it starts.
pub record IsCalm (s : Standing) (auxiliaries : Auxiliaries) : Type 0 where
  pub unasked : is_some s.machine.shutdown ≡ false
  pub stage : (s.machine.ended ≡ true) ⊎ IsUp s.machine.state s.machine.startup s.machine.conns
  pub acts : AreCalm s.machine.state s.due
  pub unheard : heard_of auxiliaries ≡ nothing_heard
  pub startup : (auxiliaries.startup ≡ None) ⊎ (s.machine.state ≡ state.Startup)

-- what a crash leads to: the next generation, or an end for want of a restart
abbrev pub is_behind_crash : PmEvent → Bool
is_behind_crash (entry.Reset generation) = true
is_behind_crash (entry.Ended endings.RestartOff) = true
is_behind_crash _ = false

-- the child ended by itself, outside the store, with code 0 or 1
abbrev pub IsFineExit : ChildRun → Type 0
IsFineExit run = ((is_exit_0 run.status || is_exit_1 run.status) && not run.was_active) ≡ true

-- so a session's child does
abbrev pub HasFineSession : Step → Type 0
HasFineSession (Runs run at) = run.kind ≡ kinds.Backend → IsFineExit run
HasFineSession _ = Unit {0}

-- A child ended by itself, outside the store: with code 0 or 1, or with 2 where all were told to end at once.
abbrev pub EndsItself : Heard → Step → Type 0
EndsItself heard (Runs run at) = IsFineExit run ⊎ ((heard.quit ≡ true) × IsIdleRun (Code 2) run)
EndsItself heard _ = Unit {0}

-- each by what was told before it
abbrev pub EndThemselves : Heard → List Step → Type 0
EndThemselves heard [] = Unit {0}
EndThemselves heard (step ∷ steps) = EndsItself heard step × EndThemselves (fold heard_after heard (journal_by step)) steps
