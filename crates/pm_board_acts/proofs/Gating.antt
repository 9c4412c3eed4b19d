-- What a call leaves of the gate: its acts leave it as its events do.
use Rattle.std.{proofs.Common.{◌≡◌, ℕ, ◌+◌, List, [], ◌∷◌, ◌++◌, refl, sym, ap, ◌∙◌}, specs.Prelude.{nat_le, Bool, true, false, not, ◌==◌, ◌&&◌, ◌||◌, if◌then◌else◌, Option, Some, None, is_some, is_none}}
use Rattle.pm_board.specs.{pm_exit.{declared.child.{Kind.Kind, Class.Class}, Ends.{class_of, is_exit_0, is_exit_1}}, pm_supervisor.{Phase.Phase, Steps.{SupervisorEvent, Trace, all_happened, happened, is_normal, shared_after}}, Gate.Gate}
use Rattle.pm_board.specs.pm_exit.declared.child.Kind.TheVariants as kind
use Rattle.pm_board.specs.pm_exit.declared.child.Class.TheVariants as class
use Rattle.pm_state.specs.{pm_modes.{declared.Mode.Mode, Strength.{is_immediate, strengthen_of}}, pm_admit.{declared.PmState.PmState, Admission.is_startup}, declared.{action.Action.Action, machine.Machine.Machine}, Transition.{Transition, transition}, Exits.{redo_ended, waiting_state, exit_line, crash_rule, unless_normal, startup_exited, checkpointer_exited, exited_by, less_one, without_startup, signalled_state, is_running, is_shutdown}, Requests.{asked_in, asked_with, ticked_at}, TurnRules.{are_backends_gone, start_recovery, start_recovery_in, restart_writer, restart_writer_in, end_smart, end_smart_in, stop_backends, stop_backends_in, backends_gone, backends_gone_in, dead_ends_gone, dead_ends_gone_in, children_gone, children_gone_in, turned_of, startup_starts}, Shows.{Call, Accepts, Starts, Exits, Asks, Ticks, TakesTurn, Attaches, Touches, Detaches, events_of, events_of_exit, events_of_request, events_of_turn, events_of_call, events_in, machine_after, move_of, order_of, phase_of}, Journal.acts_of_call, InStep.reports_of}
use Rattle.pm_state.specs.pm_modes.declared.Mode.TheVariants as mode
use Rattle.pm_state.specs.pm_admit.declared.PmState.TheVariants as state
use Rattle.pm_board.specs.pm_supervisor.declared.Ending.TheVariants as ending
use Rattle.pm_board.specs.pm_supervisor.declared.Reason.TheVariants as reason
use Rattle.pm_board.specs.pm_supervisor.Steps as supervisor
use Rattle.pm_state.specs.declared.action.Action.TheVariants as action
use Rattle.pm_state.specs.declared.action.Line.TheVariants as line
use Rattle.pm_board_acts.{specs.{Acts.{gate_by, gate_shown}, Laws.CallsLeaveTheGate}, proofs.Turning.in_order}

-- ---- events

abbrev gate_event : SupervisorEvent → Gate → Gate
gate_event (supervisor.Notice why) gate = record gate { noticed = Some why }
gate_event (supervisor.RedoEnded true) gate = record gate { is_open = true; noticed = None }
gate_event supervisor.Reset gate = record { generation = gate.generation + 1; is_open = false; noticed = None }
gate_event _ gate = gate

one_event : (h : Trace) (e : SupervisorEvent) → gate_shown (happened h e).now.shared ≡ gate_event e (gate_shown h.now.shared)
one_event h (supervisor.Accept pid decision) = refl
one_event h (supervisor.Start pid kind) = refl
one_event h (supervisor.Attach pid reserve) = refl
one_event h (supervisor.Touch pid) = refl
one_event h (supervisor.Detach pid) = refl
one_event h (supervisor.Exit pid kind status was_active) = refl
one_event h (supervisor.Notice why) = refl
one_event h (supervisor.Ask how) = refl
one_event h supervisor.Checkpointed = refl
one_event h (supervisor.RedoEnded true) = refl
one_event h (supervisor.RedoEnded false) = refl
one_event h supervisor.Reset = refl
one_event h (supervisor.End how) = refl
one_event h (supervisor.Move to) = refl

abbrev gate_events : List SupervisorEvent → Gate → Gate
gate_events [] gate = gate
gate_events (e ∷ es) gate = gate_events es (gate_event e gate)

all_events : (h : Trace) (es : List SupervisorEvent) → gate_shown (all_happened h es).now.shared ≡ gate_events es (gate_shown h.now.shared)
all_events h [] = refl
all_events h (e ∷ es) = all_events (happened h e) es ∙ ap (gate_events es) (one_event h e)

events-append : (xs ys : List SupervisorEvent) (gate : Gate) → gate_events (xs ++ ys) gate ≡ gate_events ys (gate_events xs gate)
events-append [] ys gate = refl
events-append (x ∷ xs) ys gate = events-append xs ys (gate_event x gate)

-- reports of starts leave the gate
reports_leave : (m : Machine) (last : ℕ) (acts : List Action) (gate : Gate) → gate_events (events_in m (reports_of last acts)) gate ≡ gate
reports_leave m last [] gate = refl
reports_leave m last (action.Start k ∷ acts) gate = reports_leave (machine_after m (Starts (last + 1) k)) (last + 1) acts gate
reports_leave m last (action.Quit why ∷ acts) gate = reports_leave m last acts gate
reports_leave m last (action.Terminate ∷ acts) gate = reports_leave m last acts gate
reports_leave m last (action.KillAll ∷ acts) gate = reports_leave m last acts gate
reports_leave m last (action.AskCheckpoint ∷ acts) gate = reports_leave m last acts gate
reports_leave m last (action.Ready ∷ acts) gate = reports_leave m last acts gate
reports_leave m last (action.Reset ∷ acts) gate = reports_leave m last acts gate
reports_leave m last (action.Say l ∷ acts) gate = reports_leave m last acts gate
reports_leave m last (action.End how ∷ acts) gate = reports_leave m last acts gate

-- ---- acts

by-append : (xs ys : List Action) (gate : Gate) → gate_by (xs ++ ys) gate ≡ gate_by ys (gate_by xs gate)
by-append [] ys gate = refl
by-append (action.Start k ∷ xs) ys gate = by-append xs ys gate
by-append (action.Quit why ∷ xs) ys gate = by-append xs ys (record gate { noticed = Some why })
by-append (action.Terminate ∷ xs) ys gate = by-append xs ys gate
by-append (action.KillAll ∷ xs) ys gate = by-append xs ys gate
by-append (action.AskCheckpoint ∷ xs) ys gate = by-append xs ys gate
by-append (action.Ready ∷ xs) ys gate = by-append xs ys (record gate { is_open = true; noticed = None })
by-append (action.Reset ∷ xs) ys gate = by-append xs ys (record { generation = gate.generation + 1; is_open = false; noticed = None })
by-append (action.Say l ∷ xs) ys gate = by-append xs ys gate
by-append (action.End how ∷ xs) ys gate = by-append xs ys gate

-- ---- an end

crash_gate : (m : Machine) (exit : _) (gate : Gate) → gate_events (events_of (crash_rule m exit).acts) gate ≡ gate_by (crash_rule m exit).acts gate
unfolding crash_rule
crash_gate m exit gate = by (not m.fatal && not (is_immediate m.shutdown))
  where
    by : (b : Bool) → (let acts : List Action = (if b then action.Say (exit_line exit) ∷ action.Say line.TerminatingOthers ∷ action.Quit reason.Crash ∷ [] else []) in gate_events (events_of acts) gate ≡ gate_by acts gate)
    by true = refl
    by false = refl

normal_gate : (cl : Class) (m : Machine) (exit : _) (gate : Gate) → gate_events (events_of (unless_normal cl m exit).acts) gate ≡ gate_by (unless_normal cl m exit).acts gate
normal_gate class.Normal m exit gate = refl
normal_gate class.Crash m exit gate = crash_gate m exit gate
normal_gate class.StartupFailed m exit gate = crash_gate m exit gate

checkpointer_gate : (cl : Class) (m : Machine) (exit : _) (gate : Gate) → gate_events (events_of (checkpointer_exited cl m exit).acts) gate ≡ gate_by (checkpointer_exited cl m exit).acts gate
checkpointer_gate class.Normal m exit gate = refl
checkpointer_gate class.Crash m exit gate = crash_gate m exit gate
checkpointer_gate class.StartupFailed m exit gate = crash_gate m exit gate

startup_gate : (m : Machine) (exit : _) (was_active : Bool) (gate : Gate)
    → gate_events (events_of_exit m kind.Startup exit.status was_active ++ events_of (startup_exited m exit).acts) gate ≡ gate_by (startup_exited m exit).acts gate
unfolding startup_exited
startup_gate m exit was_active gate = by (is_some m.shutdown) (is_none m.shutdown) (is_exit_0 exit.status) (is_exit_1 exit.status) (is_startup m.state && is_running m.startup) (none_is m.shutdown)
  where
    none_is : {A : Type 0} (o : Option A) → is_none o ≡ not (is_some o)
    none_is None = refl
    none_is (Some x) = refl

    rest : (c : Bool) → (let acts : List Action = (if c then transition (action.Say (exit_line exit) ∷ action.Say line.AbortingStartup ∷ action.End ending.StartupFailed ∷ []) (record (without_startup m m.state) { ended = true })
        else crash_rule (without_startup m (signalled_state m.state)) exit).acts in gate_events (events_of acts) gate ≡ gate_by acts gate)
    rest true = refl
    rest false = crash_gate (without_startup m (signalled_state m.state)) exit gate

    by : (s n a b c : Bool) → n ≡ not s → (let acts : List Action = (if s && (a || b) then transition [] (without_startup m (waiting_state m.state))
        else if a then redo_ended m
        else if c then transition (action.Say (exit_line exit) ∷ action.Say line.AbortingStartup ∷ action.End ending.StartupFailed ∷ []) (record (without_startup m m.state) { ended = true })
        else crash_rule (without_startup m (signalled_state m.state)) exit).acts in
        gate_events ((if a then supervisor.RedoEnded n ∷ [] else []) ++ events_of acts) gate ≡ gate_by acts gate)
    by true true a b c is = absurd (let no_ : true ≡ false = is in cc)
    by true false true b c is = refl
    by true false false true c is = refl
    by true false false false c is = rest c
    by false false a b c is = absurd (let no_ : false ≡ true = is in cc)
    by false true true b c is = refl
    by false true false b c is = rest c

exits_gate : (m : Machine) (kind : Kind) (exit : _) (was_active : Bool) (gate : Gate)
    → gate_events (events_of_exit m kind exit.status was_active ++ events_of (exited_by kind m exit was_active).acts) gate ≡ gate_by (exited_by kind m exit was_active).acts gate
exits_gate m kind.Startup exit was_active gate = startup_gate m exit was_active gate
exits_gate m kind.Checkpointer exit was_active gate = by (is_normal (class_of kind.Checkpointer (is_shutdown m.state) was_active exit.status))
  where
    by : (b : Bool) → gate_events ((if b then supervisor.Checkpointed ∷ [] else []) ++ events_of (checkpointer_exited (class_of kind.Checkpointer (is_shutdown m.state) was_active exit.status) (less_one kind.Checkpointer m) exit).acts) gate
        ≡ gate_by (checkpointer_exited (class_of kind.Checkpointer (is_shutdown m.state) was_active exit.status) (less_one kind.Checkpointer m) exit).acts gate
    by true = checkpointer_gate (class_of kind.Checkpointer (is_shutdown m.state) was_active exit.status) (less_one kind.Checkpointer m) exit gate
    by false = checkpointer_gate (class_of kind.Checkpointer (is_shutdown m.state) was_active exit.status) (less_one kind.Checkpointer m) exit gate
exits_gate m kind.Writer exit was_active gate = normal_gate (class_of kind.Writer (is_shutdown m.state) was_active exit.status) (less_one kind.Writer m) exit gate
exits_gate m kind.Worker exit was_active gate = normal_gate (class_of kind.Worker (is_shutdown m.state) was_active exit.status) (less_one kind.Worker m) exit gate
exits_gate m kind.Backend exit was_active gate = normal_gate (class_of kind.Backend (is_shutdown m.state) was_active exit.status) (less_one kind.Backend m) exit gate
exits_gate m kind.DeadEnd exit was_active gate = normal_gate (class_of kind.DeadEnd (is_shutdown m.state) was_active exit.status) (less_one kind.DeadEnd m) exit gate

-- ---- requests, and the time

asked_gate : (how : Mode) (p : PmState) (m : Machine) (now : ℕ) (gate : Gate) → gate_events (events_of (asked_in how p m now).acts) gate ≡ gate_by (asked_in how p m now).acts gate
asked_gate mode.Smart state.Run m now gate = refl
asked_gate mode.Smart state.Startup m now gate = refl
asked_gate mode.Smart state.Init m now gate = refl
asked_gate mode.Smart state.StopBackends m now gate = refl
asked_gate mode.Smart state.WaitBackends m now gate = refl
asked_gate mode.Smart state.Shutdown m now gate = refl
asked_gate mode.Smart state.WaitDeadEnd m now gate = refl
asked_gate mode.Smart state.NoChildren m now gate = refl
asked_gate mode.Fast state.Startup m now gate = refl
asked_gate mode.Fast state.Run m now gate = refl
asked_gate mode.Fast state.Init m now gate = refl
asked_gate mode.Fast state.StopBackends m now gate = refl
asked_gate mode.Fast state.WaitBackends m now gate = refl
asked_gate mode.Fast state.Shutdown m now gate = refl
asked_gate mode.Fast state.WaitDeadEnd m now gate = refl
asked_gate mode.Fast state.NoChildren m now gate = refl
asked_gate mode.Immediate p m now gate = refl

requested_gate : (asked : Option Mode) (m : Machine) (now : ℕ) (gate : Gate) → gate_events (events_of_request asked ++ events_of (asked_with asked m now).acts) gate ≡ gate_by (asked_with asked m now).acts gate
requested_gate None m now gate = refl
requested_gate (Some how) m now gate = asked_gate how m.state (record m { shutdown = Some how }) now gate

ticked_gate : (since : Option ℕ) (m : Machine) (now : ℕ) (gate : Gate) → gate_events (events_of (ticked_at since m now).acts) gate ≡ gate_by (ticked_at since m now).acts gate
ticked_gate None m now gate = refl
ticked_gate (Some at) m now gate = both (nat_le (at + 5000) now && (m.fatal || is_immediate m.shutdown))
  where
    both : (b : Bool) → (let acts : List Action = (if b then transition (action.KillAll ∷ []) (record m { abort_at = None }) else transition [] m).acts in gate_events (events_of acts) gate ≡ gate_by acts gate)
    both true = refl
    both false = refl

-- ---- a turn

move_leaves : (a b : Phase) (gate : Gate) → gate_events (move_of a b) gate ≡ gate
move_leaves a b gate = both (order_of a == order_of b)
  where
    both : (c : Bool) → gate_events (if c then [] else supervisor.Move b ∷ []) gate ≡ gate
    both true = refl
    both false = refl

children_gate : (p : PmState) (m : Machine) (gate : Gate) → gate_events (events_of (children_gone_in p m).acts) gate ≡ gate_by (children_gone_in p m).acts gate
children_gate state.Init m gate = refl
children_gate state.Startup m gate = refl
children_gate state.Run m gate = refl
children_gate state.StopBackends m gate = refl
children_gate state.WaitBackends m gate = refl
children_gate state.Shutdown m gate = refl
children_gate state.WaitDeadEnd m gate = refl
children_gate state.NoChildren m gate = by (is_some m.shutdown && m.fatal) (is_some m.shutdown) (not m.limits.restart_after_crash)
  where
    by : (a b c : Bool) → (let acts : List Action = (if a
        then transition (action.Say line.Abnormal ∷ action.End ending.AfterCrash ∷ []) (record m { ended = true })
        else if b
        then transition (action.Say line.Down ∷ action.End ending.Clean ∷ []) (record m { ended = true })
        else if c
        then transition (action.Say line.RestartOff ∷ action.End ending.RestartOff ∷ []) (record m { ended = true })
        else transition
        (action.Say line.Reinitializing ∷ action.Reset ∷ action.Start kind.Startup ∷ [])
        (record (startup_starts m) { abort_at = None })).acts in gate_events (events_of acts) gate ≡ gate_by acts gate)
    by true b c = refl
    by false true c = refl
    by false false true = refl
    by false false false = refl

-- the other rules leave the gate
start_leaves : (p : PmState) (m : Machine) (gate : Gate) → gate_by (start_recovery_in p m).acts gate ≡ gate
start_leaves state.Init m gate = refl
start_leaves state.Startup m gate = refl
start_leaves state.Run m gate = refl
start_leaves state.StopBackends m gate = refl
start_leaves state.WaitBackends m gate = refl
start_leaves state.Shutdown m gate = refl
start_leaves state.WaitDeadEnd m gate = refl
start_leaves state.NoChildren m gate = refl

writer_leaves : (p : PmState) (m : Machine) (gate : Gate) → gate_by (restart_writer_in p m).acts gate ≡ gate
writer_leaves state.Init m gate = refl
writer_leaves state.Startup m gate = refl
writer_leaves state.StopBackends m gate = refl
writer_leaves state.WaitBackends m gate = refl
writer_leaves state.Shutdown m gate = refl
writer_leaves state.WaitDeadEnd m gate = refl
writer_leaves state.NoChildren m gate = refl
writer_leaves state.Run m gate = by (m.conns && not m.writer)
  where
    by : (b : Bool) → gate_by (if b then transition (action.Start kind.Writer ∷ []) (record m { writer_due = true }) else transition [] m).acts gate ≡ gate
    by true = refl
    by false = refl

smart_leaves : (p : PmState) (m : Machine) (gate : Gate) → gate_by (end_smart_in p m).acts gate ≡ gate
smart_leaves state.Init m gate = refl
smart_leaves state.Startup m gate = refl
smart_leaves state.StopBackends m gate = refl
smart_leaves state.WaitBackends m gate = refl
smart_leaves state.Shutdown m gate = refl
smart_leaves state.WaitDeadEnd m gate = refl
smart_leaves state.NoChildren m gate = refl
smart_leaves state.Run m gate = by (not m.conns && (m.children == 0))
  where
    by : (b : Bool) → gate_by (if b then transition [] (record m { state = state.StopBackends }) else transition [] m).acts gate ≡ gate
    by true = refl
    by false = refl

stop_leaves : (p : PmState) (m : Machine) (gate : Gate) → gate_by (stop_backends_in p m).acts gate ≡ gate
stop_leaves state.Init m gate = refl
stop_leaves state.Startup m gate = refl
stop_leaves state.Run m gate = refl
stop_leaves state.StopBackends m gate = refl
stop_leaves state.WaitBackends m gate = refl
stop_leaves state.Shutdown m gate = refl
stop_leaves state.WaitDeadEnd m gate = refl
stop_leaves state.NoChildren m gate = refl

backends_leave : (p : PmState) (m : Machine) (gate : Gate) → gate_by (backends_gone_in p m).acts gate ≡ gate
backends_leave state.Init m gate = refl
backends_leave state.Startup m gate = refl
backends_leave state.Run m gate = refl
backends_leave state.StopBackends m gate = refl
backends_leave state.Shutdown m gate = refl
backends_leave state.WaitDeadEnd m gate = refl
backends_leave state.NoChildren m gate = refl
backends_leave state.WaitBackends m gate = by (not (are_backends_gone m)) (m.fatal || is_immediate m.shutdown) m.checkpointer
  where
    by : (a b c : Bool) → gate_by (if a then transition [] m
        else if b
        then (if c then transition [] m else transition [] (record m { state = state.WaitDeadEnd }))
        else if c then transition (action.AskCheckpoint ∷ []) (record m { state = state.Shutdown })
        else transition
        (action.Start kind.Checkpointer ∷ action.AskCheckpoint ∷ [])
        (record m { checkpointer_due = true; state = state.Shutdown })).acts gate ≡ gate
    by true b c = refl
    by false true true = refl
    by false true false = refl
    by false false true = refl
    by false false false = refl

dead_leave : (p : PmState) (m : Machine) (gate : Gate) → gate_by (dead_ends_gone_in p m).acts gate ≡ gate
dead_leave state.Init m gate = refl
dead_leave state.Startup m gate = refl
dead_leave state.Run m gate = refl
dead_leave state.StopBackends m gate = refl
dead_leave state.WaitBackends m gate = refl
dead_leave state.Shutdown m gate = refl
dead_leave state.NoChildren m gate = refl
dead_leave state.WaitDeadEnd m gate = by (are_backends_gone m && not m.checkpointer && (m.dead_ends == 0))
  where
    by : (b : Bool) → gate_by (if b then transition [] (record m { state = state.NoChildren }) else transition [] m).acts gate ≡ gate
    by true = refl
    by false = refl

skip : (xs ys : List Action) (gate : Gate) → gate_by xs gate ≡ gate → gate_by (xs ++ ys) gate ≡ gate_by ys gate
skip xs ys gate leaves = by-append xs ys gate ∙ ap (gate_by ys) leaves

skip_events : (xs ys : List SupervisorEvent) (gate : Gate) → gate_events xs gate ≡ gate → gate_events (xs ++ ys) gate ≡ gate_events ys gate
skip_events xs ys gate leaves = events-append xs ys gate ∙ ap (gate_events ys) leaves

turn_gate : (m : Machine) (gate : Gate) → gate_events (events_of_turn m) gate ≡ gate_by (turned_of m).acts gate
unfolding start_recovery restart_writer end_smart stop_backends backends_gone dead_ends_gone children_gone
turn_gate m gate =
    let a : Transition = start_recovery m in
    let b : Transition = restart_writer a.after in
    let c : Transition = end_smart b.after in
    let d : Transition = stop_backends c.after in
    let e : Transition = backends_gone d.after in
    let f : Transition = dead_ends_gone e.after in
    let g : Transition = children_gone f.after in
    (skip_events (move_of (phase_of m) (phase_of a.after)) _ gate (move_leaves (phase_of m) (phase_of a.after) gate)
    ∙ (skip_events (move_of (phase_of a.after) (phase_of c.after)) _ gate (move_leaves (phase_of a.after) (phase_of c.after) gate)
    ∙ (skip_events (move_of (phase_of c.after) (phase_of e.after)) _ gate (move_leaves (phase_of c.after) (phase_of e.after) gate)
    ∙ (skip_events (move_of (phase_of e.after) (phase_of f.after)) _ gate (move_leaves (phase_of e.after) (phase_of f.after) gate)
    ∙ children_gate f.after.state f.after gate))))
    ∙ sym (ap (λ (acts : List Action). gate_by acts gate) (in_order m)
    ∙ (skip a.acts _ gate (start_leaves m.state m gate)
    ∙ (skip b.acts _ gate (writer_leaves a.after.state a.after gate)
    ∙ (skip c.acts _ gate (smart_leaves b.after.state b.after gate)
    ∙ (skip d.acts _ gate (stop_leaves c.after.state c.after gate)
    ∙ (skip e.acts _ gate (backends_leave d.after.state d.after gate)
    ∙ skip f.acts g.acts gate (dead_leave e.after.state e.after gate)))))))

of_call : (m : Machine) (call : Call) (gate : Gate) → gate_events (events_of_call m call) gate ≡ gate_by (acts_of_call m call) gate
of_call m (Accepts pid) gate = refl
of_call m (Starts pid kind) gate = refl
of_call m (Exits pid kind status was_active now) gate = exits_gate m kind _ was_active gate
of_call m (Asks mode now) gate = requested_gate (strengthen_of m.shutdown mode) m now gate
of_call m (Ticks now) gate = ticked_gate m.abort_at m now gate
of_call m TakesTurn gate = turn_gate m gate
of_call m (Attaches pid reserve) gate = refl
of_call m (Touches pid) gate = refl
of_call m (Detaches pid) gate = refl

pub calls_leave : CallsLeaveTheGate
calls_leave m h call =
    all_events h (events_in m (call ∷ reports_of (all_happened h (events_of_call m call)).now.shared.last_pid (acts_of_call m call)))
    ∙ (events-append (events_of_call m call) (events_in (machine_after m call) (reports_of (all_happened h (events_of_call m call)).now.shared.last_pid (acts_of_call m call))) (gate_shown h.now.shared)
    ∙ (reports_leave (machine_after m call) (all_happened h (events_of_call m call)).now.shared.last_pid (acts_of_call m call) (gate_events (events_of_call m call) (gate_shown h.now.shared))
    ∙ of_call m call (gate_shown h.now.shared)))
