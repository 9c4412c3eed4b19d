-- The actions tell of each start.
use Rattle.std.proofs.Common.{◌≡◌, ℕ, ◌+◌, ◌||◌, ◌++◌, sym, ◌∙◌, ap, zero-add, Bool, true, false, List, [], ◌∷◌, Option, refl, arith}
use Rattle.pm_supervisor.specs.{pm_exit.{declared.child.{Kind.Kind, Class.Class}, Ends.class_of}, pm_modes.{declared.Mode.Mode, Strength.strengthen_of}, Children.{is_session, is_startup_child, is_checkpointer, is_writer, is_dead_end, one_if}}
use Rattle.pm_supervisor.specs.pm_exit.declared.child.Kind.TheVariants as kind
use Rattle.pm_supervisor.specs.pm_exit.declared.child.Class.TheVariants as class
use Rattle.pm_supervisor.specs.pm_admit.declared.PmState.TheVariants as state
use Rattle.pm_state.specs.{declared.{action.Action.Action, machine.{Machine.Machine, Exit.Exit}}, Transition.{Transition, transition}, Exits.{crash_rule, without_startup, signalled_state, startup_exited, checkpointer_exited, unless_normal, exited_by, less_one, is_shutdown}, Requests.{asked_with, ticked_at}, TurnRules.{start_recovery, restart_writer, end_smart, stop_backends, backends_gone, dead_ends_gone, children_gone, and_then, turned_of}, Machine.{MachineEvent, Accepted, Started, Exited, Asked, Ticked, Turned, step, IsReady}, Starts.{starts_in, has_end, is_report}}
use Rattle.pm_state.specs.declared.action.Action.TheVariants as act

-- what is due after the actions is what they start, each once, and the machine has ended where they end the server
pub record TellsAll (o : Transition) : Type 0 where
  pub startup : starts_in is_startup_child o.acts ≡ one_if o.after.startup_due
  pub checkpointer : starts_in is_checkpointer o.acts ≡ one_if o.after.checkpointer_due
  pub writer : starts_in is_writer o.acts ≡ one_if o.after.writer_due
  pub sessions : starts_in is_session o.acts ≡ 0
  pub dead_ends : starts_in is_dead_end o.acts ≡ 0
  pub ended : has_end o.acts ≡ o.after.ended

asked-tells : (m : Machine) (answer : Option Mode) (now : ℕ) → IsReady m → TellsAll (asked_with answer m now)
asked-tells m answer now ready = grind arith

ticked-tells : (m : Machine) (now : ℕ) → IsReady m → TellsAll (ticked_at m.abort_at m now)
ticked-tells m now ready = grind arith

crash-tells : (m : Machine) (exit : Exit) → IsReady m → TellsAll (crash_rule m exit)
unfolding crash_rule
crash-tells m exit ready = grind arith

startup-tells : (m : Machine) (exit : Exit) → IsReady m → TellsAll (startup_exited m exit)
unfolding startup_exited
startup-tells m exit ready =
    let crashed : TellsAll (crash_rule (without_startup m (signalled_state m.state)) exit) =
    crash-tells (without_startup m (signalled_state m.state)) exit
    (record {
      goes_on = ready.goes_on;
      startup_reported = ready.startup_reported;
      checkpointer_reported = ready.checkpointer_reported;
      writer_reported = ready.writer_reported;
    })
    in
    record {
      startup = grind arith;
      checkpointer = grind arith;
      writer = grind arith;
      sessions = grind arith;
      dead_ends = grind arith;
      ended = grind arith;
    }

-- in a turn: what a rule adds to the actions is what becomes due by it
record Adds (m : Machine) (o : Transition) : Type 0 where
  startup : starts_in is_startup_child o.acts + one_if m.startup_due ≡ one_if o.after.startup_due
  checkpointer : starts_in is_checkpointer o.acts + one_if m.checkpointer_due ≡ one_if o.after.checkpointer_due
  writer : starts_in is_writer o.acts + one_if m.writer_due ≡ one_if o.after.writer_due
  sessions : starts_in is_session o.acts ≡ 0
  dead_ends : starts_in is_dead_end o.acts ≡ 0
  ended : has_end o.acts || m.ended ≡ o.after.ended

-- what is due in the middle of a turn is due in one state alone
record IsQuiet (m : Machine) : Type 0 where
  startup : m.startup_due ≡ true → m.state ≡ state.Startup
  checkpointer : m.checkpointer_due ≡ true → m.state ≡ state.Shutdown
  writer : m.writer_due ≡ true → (m.state ≡ state.Run) × (m.conns ≡ true)
  ended : m.ended ≡ false

starts_in-append : (test : Kind → Bool) (xs ys : List Action) → starts_in test (xs ++ ys) ≡ starts_in test xs + starts_in test ys
starts_in-append test [] ys = sym (zero-add (starts_in test ys))
starts_in-append test (act.Start k ∷ xs) ys = omega (arith, starts_in-append test xs ys)
starts_in-append test (act.Quit why ∷ xs) ys = starts_in-append test xs ys
starts_in-append test (act.Terminate ∷ xs) ys = starts_in-append test xs ys
starts_in-append test (act.KillAll ∷ xs) ys = starts_in-append test xs ys
starts_in-append test (act.AskCheckpoint ∷ xs) ys = starts_in-append test xs ys
starts_in-append test (act.Ready ∷ xs) ys = starts_in-append test xs ys
starts_in-append test (act.Reset ∷ xs) ys = starts_in-append test xs ys
starts_in-append test (act.Say l ∷ xs) ys = starts_in-append test xs ys
starts_in-append test (act.End how ∷ xs) ys = starts_in-append test xs ys

has_end-append : (xs ys : List Action) → has_end (xs ++ ys) ≡ has_end xs || has_end ys
has_end-append [] ys = refl
has_end-append (act.Start k ∷ xs) ys = has_end-append xs ys
has_end-append (act.Quit why ∷ xs) ys = has_end-append xs ys
has_end-append (act.Terminate ∷ xs) ys = has_end-append xs ys
has_end-append (act.KillAll ∷ xs) ys = has_end-append xs ys
has_end-append (act.AskCheckpoint ∷ xs) ys = has_end-append xs ys
has_end-append (act.Ready ∷ xs) ys = has_end-append xs ys
has_end-append (act.Reset ∷ xs) ys = has_end-append xs ys
has_end-append (act.Say l ∷ xs) ys = has_end-append xs ys
has_end-append (act.End how ∷ xs) ys = refl

or-chain : (a b c d e : Bool) → a || c ≡ d → b || d ≡ e → (a || b) || c ≡ e
or-chain a b c d e p q = grind arith

adds-then : (m : Machine) (o : Transition) (rule : Machine → Transition) → Adds m o → Adds o.after (rule o.after) → Adds m (and_then o rule)
adds-then m o rule first second =
    let more : List Action = (rule o.after).acts in
    record {
      startup = omega (arith, starts_in-append is_startup_child o.acts more, first.startup, second.startup);
      checkpointer = omega (arith, starts_in-append is_checkpointer o.acts more, first.checkpointer, second.checkpointer);
      writer = omega (arith, starts_in-append is_writer o.acts more, first.writer, second.writer);
      sessions = omega (arith, starts_in-append is_session o.acts more, first.sessions, second.sessions);
      dead_ends = omega (arith, starts_in-append is_dead_end o.acts more, first.dead_ends, second.dead_ends);
      ended =
          ap (λ b. b || m.ended) (has_end-append o.acts more)
          ∙ or-chain (has_end o.acts) (has_end more) m.ended o.after.ended (rule o.after).after.ended first.ended second.ended;
    }

start_recovery-adds : (m : Machine) → IsReady m → Adds m (start_recovery m)
unfolding start_recovery
start_recovery-adds m before = grind arith

restart_writer-adds : (m : Machine) → m.writer_due ≡ false → Adds m (restart_writer m)
unfolding restart_writer
restart_writer-adds m before = grind arith

end_smart-adds : (m : Machine) → IsQuiet m → Adds m (end_smart m)
unfolding end_smart
end_smart-adds m before = grind arith

stop_backends-adds : (m : Machine) → IsQuiet m → Adds m (stop_backends m)
unfolding stop_backends
stop_backends-adds m before = grind arith

backends_gone-adds : (m : Machine) → IsQuiet m → Adds m (backends_gone m)
unfolding backends_gone
backends_gone-adds m before =
    record {
      startup = grind arith;
      checkpointer = grind arith;
      writer = grind arith;
      sessions = grind arith;
      dead_ends = grind arith;
      ended = grind arith;
    }

dead_ends_gone-adds : (m : Machine) → IsQuiet m → Adds m (dead_ends_gone m)
unfolding dead_ends_gone
dead_ends_gone-adds m before = grind arith

children_gone-adds : (m : Machine) → IsQuiet m → Adds m (children_gone m)
unfolding children_gone
children_gone-adds m before = grind arith

restart_writer-quiet : (m : Machine) → IsQuiet m → IsQuiet (restart_writer m).after
unfolding restart_writer
restart_writer-quiet m quiet = grind arith

end_smart-quiet : (m : Machine) → IsQuiet m → IsQuiet (end_smart m).after
unfolding end_smart
end_smart-quiet m quiet = grind arith

stop_backends-quiet : (m : Machine) → IsQuiet m → IsQuiet (stop_backends m).after
unfolding stop_backends
stop_backends-quiet m quiet = grind arith

backends_gone-quiet : (m : Machine) → IsQuiet m → IsQuiet (backends_gone m).after
unfolding backends_gone
backends_gone-quiet m quiet = grind arith

dead_ends_gone-quiet : (m : Machine) → IsQuiet m → IsQuiet (dead_ends_gone m).after
unfolding dead_ends_gone
dead_ends_gone-quiet m quiet = grind arith

start_recovery-quiet : (m : Machine) → IsReady m → IsQuiet (start_recovery m).after × ((start_recovery m).after.writer_due ≡ false)
unfolding start_recovery
start_recovery-quiet m ready = grind arith

adds-tells : (m : Machine) (o : Transition) → IsReady m → Adds m o → TellsAll o
adds-tells m o ready adds = grind arith

turned-tells : (m : Machine) → IsReady m → TellsAll (turned_of m)
unfolding turned_of
turned-tells m ready =
    let o1 : Transition = start_recovery m in
    let o2 : Transition = and_then o1 restart_writer in
    let o3 : Transition = and_then o2 end_smart in
    let o4 : Transition = and_then o3 stop_backends in
    let o5 : Transition = and_then o4 backends_gone in
    let o6 : Transition = and_then o5 dead_ends_gone in
    let begun = start_recovery-quiet m ready in
    let q2 : IsQuiet o2.after = restart_writer-quiet o1.after begun.0 in
    let q3 : IsQuiet o3.after = end_smart-quiet o2.after q2 in
    let q4 : IsQuiet o4.after = stop_backends-quiet o3.after q3 in
    let q5 : IsQuiet o5.after = backends_gone-quiet o4.after q4 in
    let q6 : IsQuiet o6.after = dead_ends_gone-quiet o5.after q5 in
    adds-tells m (and_then o6 children_gone) ready
    (adds-then m o6 children_gone
    (adds-then m o5 dead_ends_gone
    (adds-then m o4 backends_gone
    (adds-then m o3 stop_backends
    (adds-then m o2 end_smart
    (adds-then m o1 restart_writer (start_recovery-adds m ready) (restart_writer-adds o1.after begun.1))
    (end_smart-adds o2.after q2))
    (stop_backends-adds o3.after q3))
    (backends_gone-adds o4.after q4))
    (dead_ends_gone-adds o5.after q5))
    (children_gone-adds o6.after q6))

less_one-ready : (k : Kind) (m : Machine) → IsReady m → IsReady (less_one k m)
less_one-ready k m ready = grind arith

calm-tells : (m : Machine) → IsReady m → TellsAll (transition [] m)
calm-tells m ready = grind arith

checkpointer-tells : (cls : Class) (m : Machine) (exit : Exit) → IsReady m → TellsAll (checkpointer_exited cls m exit)
checkpointer-tells class.Normal m exit ready = grind arith
checkpointer-tells class.Crash m exit ready = crash-tells m exit ready
checkpointer-tells class.StartupFailed m exit ready = crash-tells m exit ready

unless_normal-tells : (cls : Class) (m : Machine) (exit : Exit) → IsReady m → TellsAll (unless_normal cls m exit)
unless_normal-tells class.Normal m exit ready = calm-tells m ready
unless_normal-tells class.Crash m exit ready = crash-tells m exit ready
unless_normal-tells class.StartupFailed m exit ready = crash-tells m exit ready

other-tells : (k : Kind) (m : Machine) (exit : Exit) (was_active : Bool) → IsReady m
    → TellsAll (unless_normal (class_of k (is_shutdown m.state) was_active exit.status) (less_one k m) exit)
other-tells k m exit was_active ready =
    unless_normal-tells (class_of k (is_shutdown m.state) was_active exit.status) (less_one k m) exit (less_one-ready k m ready)

exited-tells : (m : Machine) (k : Kind) (exit : Exit) (was_active : Bool) → IsReady m → TellsAll (exited_by k m exit was_active)
exited-tells m kind.Startup exit was_active ready = startup-tells m exit ready
exited-tells m kind.Checkpointer exit was_active ready =
    checkpointer-tells (class_of kind.Checkpointer (is_shutdown m.state) was_active exit.status) (less_one kind.Checkpointer m) exit
    (less_one-ready kind.Checkpointer m ready)
exited-tells m kind.Writer exit was_active ready = other-tells kind.Writer m exit was_active ready
exited-tells m kind.Worker exit was_active ready = other-tells kind.Worker m exit was_active ready
exited-tells m kind.Backend exit was_active ready = other-tells kind.Backend m exit was_active ready
exited-tells m kind.DeadEnd exit was_active ready = other-tells kind.DeadEnd m exit was_active ready

pub step-tells : (m : Machine) (event : MachineEvent) → is_report event ≡ false → IsReady m → TellsAll (step m event)
step-tells m Accepted other ready = grind arith
step-tells m (Started k) other ready = absurd cc
step-tells m (Exited pid k status was_active now) other ready =
    exited-tells m k (record { pid = pid; kind = k; status = status; now = now }) was_active ready
step-tells m (Asked mode now) other ready = asked-tells m (strengthen_of m.shutdown mode) now ready
step-tells m (Ticked now) other ready = ticked-tells m now ready
step-tells m Turned other ready = turned-tells m ready
