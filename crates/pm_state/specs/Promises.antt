-- What a reader of the manual counts on, beside the table. The manual: 19.5 "Shutting Down the Server", and 20.14 "Error
-- Handling" for the restart after a crash.
use Rattle.std.specs.Prelude.{◌≡◌, Bool, true, false, not, ◌&&◌, ◌||◌, List, [], ◌∷◌, is_some}
use Rattle.pm_exit.specs.{declared.child.Status.Status, Ends.{is_exit_0, is_exit_1}}
use Rattle.pm_admit.specs.{declared.PmState.PmState, Admission.{is_run, is_startup}}
use Rattle.pm_admit.specs.declared.PmState.TheVariants as state
use Rattle.pm_state.specs.{declared.{action.Action.Action, machine.Machine.Machine}, Exits.{is_running, is_shutdown}, Transition.Transition}
use Rattle.pm_state.specs.declared.action.Action.TheVariants as act

abbrev pub is_ready_act : Action → Bool
is_ready_act act.Ready = true
is_ready_act _ = false

-- what ends the wait for children that were told to end at once: they are killed, or none is left
abbrev pub is_release : Action → Bool
is_release act.KillAll = true
is_release act.Ready = true
is_release act.Reset = true
is_release _ = false

abbrev pub has_act : (Action → Bool) → List Action → Bool
has_act test [] = false
has_act test (a ∷ acts) = test a || has_act test acts

-- every child is told to end at once
abbrev pub is_quit : Action → Bool
is_quit (act.Quit why) = true
is_quit _ = false

-- a child is started among the acts, and only then connections are served
abbrev pub starts_before_ready : List Action → Bool
starts_before_ready [] = false
starts_before_ready (act.Ready ∷ acts) = false
starts_before_ready (act.Start kind ∷ acts) = has_act is_ready_act acts
starts_before_ready (_ ∷ acts) = starts_before_ready acts

-- the end of the startup child is a crash: redo hasn't ended, it didn't give up for a shutdown, and it doesn't end the server
abbrev pub is_startup_crash : Machine → Status → Bool
is_startup_crash m status =
    not (is_exit_0 status) && not (is_some m.shutdown && is_exit_1 status) && not (is_startup m.state && is_running m.startup)

abbrev pub is_ask_checkpoint : Action → Bool
is_ask_checkpoint act.AskCheckpoint = true
is_ask_checkpoint _ = false

abbrev pub is_terminate : Action → Bool
is_terminate act.Terminate = true
is_terminate _ = false

abbrev pub is_stop_backends : PmState → Bool
is_stop_backends state.StopBackends = true
is_stop_backends _ = false

-- what a turn promises
pub record Promises (m : Machine) (o : Transition) : Type 0 where
  -- the last checkpoint is asked for, where it is waited for
  pub checkpoint : is_shutdown m.state || (not (is_shutdown o.after.state) || has_act is_ask_checkpoint o.acts) ≡ true
  -- sessions that are to end are told to
  pub told : not (is_stop_backends m.state) || has_act is_terminate o.acts ≡ true
  -- when connections are no more allowed, the wait for the last session ends by telling the rest to end
  pub drained : not (is_run m.state) || (is_run o.after.state || has_act is_terminate o.acts) ≡ true
  -- a turn never begins to serve connections
  pub serves : is_run m.state || not (is_run o.after.state) ≡ true
  -- the moment stays until children are killed, or none is left
  pub moment : not (is_some m.abort_at) || (is_some o.after.abort_at || has_act is_release o.acts) ≡ true
