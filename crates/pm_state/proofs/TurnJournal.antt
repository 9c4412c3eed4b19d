-- What a turn writes is a legal journal: row by row, and each row's acts in order.
use Rattle.std.{proofs.{Common.{◌≡◌, ℕ, Bool, true, false, not, ◌||◌, List, [], ◌∷◌, ◌++◌, refl, arith, ap, sym, ◌∙◌, subst}, lemmas.Bool.{or_parts, or_right}}, specs.Prelude.◌==◌}
use Rattle.pm_supervisor.specs.{pm_exit.declared.child.Kind.Kind, pm_modes.Strength.is_immediate, pm_admit.declared.PmState.PmState, declared.Limits.Limits}
use Rattle.pm_supervisor.specs.pm_admit.declared.PmState.TheVariants as state
use Rattle.pm_state.{specs.{declared.{action.Action.Action, event.PmEvent.PmEvent, machine.Machine.Machine}, Machine.{started_as, begun}, Transition.{Transition, transition}, TurnRules.{start_recovery, restart_writer, end_smart, stop_backends, backends_gone, children_gone}, Shows.{Call, Accepts, Starts, Exits, Asks, Ticks, TakesTurn, Attaches, Touches, Detaches}, Journal.{Do, Replay, settled, dues, row_of, replayed, all_replayed, reported, all_reported, entry_of, entries_of, entries_of_call, machine_with_reports, caused, dues_after, MayCome, AreLegal, Agrees, Writes, MayWrite, replay_begun}, Starts.has_start}, proofs.{Settling.{is_quiet, settled-quiet, settled-settled, settled-ended}, TurnCases.{late_of, with_terminate, TurnCases, by-turn, by-late, may_idle, is_no_children, children-quiet, is_asking, late-cause, late-calm, late-asks, asking-settled}, Journal.{is_kill, has_kill, dues-write, accept-writes, exit-writes, ask-writes, tick-writes}}}
use Rattle.pm_state.specs.declared.action.Action.TheVariants as act
use Rattle.pm_state.specs.declared.event.PmEvent.TheVariants as entry

-- a row

pub report_of : Action → Machine → Machine
report_of (act.Start k) m = started_as k m
report_of _ m = m

-- what the first act of a row is and leaves
pub record IsFirst (gives : ℕ → Bool) (r : Replay) (o : Transition) (a : Action) (rest : List Action) (e : PmEvent) : Type 0 where
  pub come : MayCome gives r e
  pub cause : caused r.machine e ≡ o
  pub due : dues_after r.machine e ≡ dues rest
  pub report : reported e o.after ≡ report_of a o.after

pub is-first : (gives : ℕ → Bool) (kept now : ℕ) (r : Replay) (a : Action) (rest : List Action) → is_kill (Do a) ≡ false
    → (row_of r.machine).acts ≡ a ∷ rest → IsFirst gives r (row_of r.machine) a rest (entry_of kept now r.shown (Do a))
unfolding report_of
is-first gives kept now r (act.Start k) rest none is =
    record { come = rw is (refl, refl); cause = refl; due = rw is refl; report = refl }
is-first gives kept now r (act.Quit why) rest none is = record { come = rw is refl; cause = refl; due = rw is refl; report = refl }
is-first gives kept now r act.Terminate rest none is = record { come = rw is tt; cause = refl; due = rw is refl; report = refl }
is-first gives kept now r act.KillAll rest none is = absurd (let e : true ≡ false = none in cc)
is-first gives kept now r act.AskCheckpoint rest none is = record { come = rw is tt; cause = refl; due = rw is refl; report = refl }
is-first gives kept now r act.Ready rest none is = record { come = rw is refl; cause = refl; due = rw is refl; report = refl }
is-first gives kept now r act.Reset rest none is = record { come = rw is refl; cause = refl; due = rw is refl; report = refl }
is-first gives kept now r (act.Say line) rest none is = record { come = rw is refl; cause = refl; due = rw is refl; report = refl }
is-first gives kept now r (act.End how) rest none is = record { come = rw is refl; cause = refl; due = rw is refl; report = refl }

report-all : (a : Action) (rest : List Action) (m : Machine) → all_reported (a ∷ rest) m ≡ all_reported rest (report_of a m)
unfolding report_of
report-all (act.Start k) rest m = refl
report-all (act.Quit why) rest m = refl
report-all act.Terminate rest m = refl
report-all act.KillAll rest m = refl
report-all act.AskCheckpoint rest m = refl
report-all act.Ready rest m = refl
report-all act.Reset rest m = refl
report-all (act.Say line) rest m = refl
report-all (act.End how) rest m = refl

report-calm : (a : Action) (rest : List Action) (m : Machine) → not (has_start (a ∷ rest)) || is_quiet m.state ≡ true
    → not (has_start rest) || is_quiet (report_of a m).state ≡ true
unfolding report_of
report-calm (act.Start k) rest m calm = grind arith
report-calm (act.Quit why) rest m calm = calm
report-calm act.Terminate rest m calm = calm
report-calm act.KillAll rest m calm = calm
report-calm act.AskCheckpoint rest m calm = calm
report-calm act.Ready rest m calm = calm
report-calm act.Reset rest m calm = calm
report-calm (act.Say line) rest m calm = calm
report-calm (act.End how) rest m calm = calm

not_asked : (b : Bool) (T : Type 0) → b ≡ false → b ≡ true → T
not_asked b T isnt is = absurd cc

-- a row whose first act is a
row-writes : (gives : ℕ → Bool) (kept now : ℕ) (a : Action) (rest : List Action) (r : Replay) → r.due ≡ [] → r.machine.ended ≡ false
    → r.asks_smart ≡ false → (row_of r.machine).acts ≡ a ∷ rest → has_kill (dues (a ∷ rest)) ≡ false
    → not (has_start (a ∷ rest)) || is_quiet (row_of r.machine).after.state ≡ true
    → Writes gives r (entries_of kept now r (dues (a ∷ rest))) (all_reported (a ∷ rest) (row_of r.machine).after)
row-writes gives kept now a rest r none_due on none is no_kill calm =
    let no : (is_kill (Do a) ≡ false) × (has_kill (dues rest) ≡ false) = or_parts (is_kill (Do a)) (has_kill (dues rest)) no_kill in
    let e : PmEvent = entry_of kept now r.shown (Do a) in
    let first : IsFirst gives r (row_of r.machine) a rest e = is-first gives kept now r a rest no.0 is in
    let left : Machine = report_of a (row_of r.machine).after in
    let owes : (replayed r e).due ≡ dues rest = rw none_due first.due in
    let replays : (replayed r e).machine ≡ settled left =
    rw none_due (ap (λ o. settled (reported e o.after)) first.cause ∙ ap settled first.report) in
    let others : Writes gives (replayed r e) (entries_of kept now (replayed r e) (dues rest)) (all_reported rest left) =
    dues-write gives kept now rest (replayed r e) left owes replays no.1 (report-calm a rest (row_of r.machine).after calm) in
    rw (report-all a rest (row_of r.machine).after)
    (record { legal = (rw none_due (on, not_asked r.asks_smart _ none, first.come), others.legal); agrees = others.agrees })

-- nothing is done
nothing-writes : (gives : ℕ → Bool) (r : Replay) (m : Machine) → Agrees r m → Writes gives r [] m
nothing-writes gives r m agrees = record { legal = tt; agrees = agrees }

children-row : (m : Machine) → is_no_children m.state ≡ true → row_of m ≡ children_gone m
unfolding row_of
children-row m is = grind arith

last-no_kill : (m : Machine) → has_kill (dues (children_gone m).acts) ≡ false
unfolding children_gone
last-no_kill m = grind arith

last-calm : (m : Machine) → not (has_start (children_gone m).acts) || is_quiet (children_gone m).after.state ≡ true
unfolding children_gone
last-calm m = grind arith

abbrev is_none : List Action → Bool
is_none [] = true
is_none (a ∷ acts) = false

last-some : (m : Machine) → is_no_children m.state ≡ true → is_none (children_gone m).acts ≡ false
unfolding children_gone
last-some m is = grind arith

-- a row that has acts
some-writes : (gives : ℕ → Bool) (kept now : ℕ) (acts : List Action) (r : Replay) → r.due ≡ [] → r.machine.ended ≡ false
    → r.asks_smart ≡ false → (row_of r.machine).acts ≡ acts → is_none acts ≡ false → has_kill (dues acts) ≡ false
    → not (has_start acts) || is_quiet (row_of r.machine).after.state ≡ true
    → Writes gives r (entries_of kept now r (dues acts)) (all_reported acts (row_of r.machine).after)
some-writes gives kept now [] r none_due on none is some no_kill calm = absurd (let e : true ≡ false = some in cc)
some-writes gives kept now (a ∷ rest) r none_due on none is some no_kill calm =
    row-writes gives kept now a rest r none_due on none is no_kill calm

-- what is done is this transition
abbrev pub Does : (ℕ → Bool) → ℕ → Replay → Transition → Type 0
Does gives kept r o = Writes gives r (entries_of kept 0 r (dues o.acts)) (all_reported o.acts o.after)

row-does : (gives : ℕ → Bool) (kept : ℕ) (r : Replay) (o : Transition) → r.due ≡ [] → r.machine.ended ≡ false
    → r.asks_smart ≡ false → row_of r.machine ≡ o → is_none o.acts ≡ false → has_kill (dues o.acts) ≡ false
    → not (has_start o.acts) || is_quiet o.after.state ≡ true → Does gives kept r o
row-does gives kept r o none_due on none is some no_kill calm =
    subst (Does gives kept r) is
    (some-writes gives kept 0 (row_of r.machine).acts r none_due on none refl (rw is some) (rw is no_kill) (rw is calm))

children-does : (gives : ℕ → Bool) (kept : ℕ) (r : Replay) → r.due ≡ [] → r.machine.ended ≡ false → r.asks_smart ≡ false
    → settled r.machine ≡ r.machine → Does gives kept r (children_gone r.machine)
children-does gives kept r none_due on none settles =
    elim (is_no_children r.machine.state) as
    (λ v. is_no_children r.machine.state ≡ v → Does gives kept r (children_gone r.machine)) [
      | true ↦ λ is. row-does gives kept r (children_gone r.machine) none_due on none (children-row r.machine is)
          (last-some r.machine is) (last-no_kill r.machine) (last-calm r.machine)
      | false ↦ λ other. subst (Does gives kept r) (sym (children-quiet r.machine other))
          (nothing-writes gives r r.machine (record { machine = sym settles; none_due = none_due }))
    ]
    refl

asking-row : (m : Machine) → is_asking m ≡ true → row_of m ≡ backends_gone m
unfolding row_of
asking-row m asking = grind arith

asking-some : (m : Machine) → m.fatal || is_immediate m.shutdown ≡ false → is_asking m ≡ true → is_none (backends_gone m).acts ≡ false
unfolding backends_gone
asking-some m calm asking = grind arith

asking-no_kill : (m : Machine) → has_kill (dues (backends_gone m).acts) ≡ false
unfolding backends_gone
asking-no_kill m = grind arith

asking-calm : (m : Machine) → not (has_start (backends_gone m).acts) || is_quiet (backends_gone m).after.state ≡ true
unfolding backends_gone
asking-calm m = grind arith

last-does : (gives : ℕ → Bool) (kept : ℕ) (r : Replay) (m : Machine) → Agrees r m → m.ended ≡ false → r.asks_smart ≡ false
    → Does gives kept r (children_gone (settled m))
last-does gives kept r m agrees on none =
    subst (λ s. Does gives kept r (children_gone s)) agrees.machine
    (children-does gives kept r agrees.none_due (ap (λ s. s.ended) agrees.machine ∙ (settled-ended m ∙ on)) none
    (ap settled agrees.machine ∙ (settled-settled m ∙ sym agrees.machine)))

ask-does : (gives : ℕ → Bool) (kept : ℕ) (r : Replay) (m : Machine) → Agrees r m → m.ended ≡ false → r.asks_smart ≡ false
    → m.fatal || is_immediate m.shutdown ≡ false → is_asking m ≡ true → Does gives kept r (backends_gone m)
ask-does gives kept r m agrees on none calm asking =
    let same : r.machine ≡ m = agrees.machine ∙ asking-settled m calm asking in
    row-does gives kept r (backends_gone m) agrees.none_due (rw same on) none (ap row_of same ∙ asking-row m asking)
    (asking-some m calm asking) (asking-no_kill m) (asking-calm m)

late-does : (gives : ℕ → Bool) (kept : ℕ) (r : Replay) (m : Machine) → Agrees r m → m.ended ≡ false → r.asks_smart ≡ false
    → Does gives kept r (late_of m)
late-does gives kept r m agrees on none =
    elim (m.fatal || is_immediate m.shutdown) as (λ v. m.fatal || is_immediate m.shutdown ≡ v → Does gives kept r (late_of m)) [
      | true ↦ λ cause. subst (Does gives kept r) (sym (late-cause m cause)) (last-does gives kept r m agrees on none)
      | false ↦ λ calm. elim (is_asking m) as (λ v. is_asking m ≡ v → Does gives kept r (late_of m)) [
        | true ↦ λ asking. subst (Does gives kept r) (sym (late-asks m calm asking)) (ask-does gives kept r m agrees on none calm asking)
        | false ↦ λ other. subst (Does gives kept r) (sym (late-calm m calm other)) (last-does gives kept r m agrees on none)
      ]
          refl
    ]
    refl

-- one row is done, which only starts a child
start-does : (gives : ℕ → Bool) (kept : ℕ) (r : Replay) (m : Machine) (o : Transition) → Agrees r m → m.ended ≡ false → r.asks_smart ≡ false
    → is_quiet m.state ≡ true → row_of m ≡ o → is_none o.acts ≡ false → has_kill (dues o.acts) ≡ false
    → is_quiet o.after.state ≡ true → Does gives kept r o
start-does gives kept r m o agrees on none quiet is some no_kill calm =
    let same : r.machine ≡ m = agrees.machine ∙ settled-quiet m quiet in
    row-does gives kept r o agrees.none_due (rw same on) none (ap row_of same ∙ is) some no_kill
    (or_right (not (has_start o.acts)) (is_quiet o.after.state) calm)

-- children are told to end, and the last rules follow
terminate-does : (gives : ℕ → Bool) (kept : ℕ) (r : Replay) (m w : Machine) → Agrees r m → m.ended ≡ false → w.ended ≡ false → r.asks_smart ≡ false
    → is_quiet m.state ≡ true → row_of m ≡ transition (act.Terminate ∷ []) w → Does gives kept r (with_terminate (late_of w))
unfolding with_terminate report_of
terminate-does gives kept r m w agrees on still none quiet is =
    let same : r.machine ≡ m = agrees.machine ∙ settled-quiet m quiet in
    let row : row_of r.machine ≡ transition (act.Terminate ∷ []) w = ap row_of same ∙ is in
    let e : PmEvent = entry.TerminateSent in
    let first : IsFirst gives r (row_of r.machine) act.Terminate [] e = is-first gives kept 0 r act.Terminate [] refl (ap (λ o. o.acts) row) in
    let next : Agrees (replayed r e) w = record {
      machine = rw agrees.none_due (ap (λ o. settled o.after) row);
      none_due = rw agrees.none_due first.due;
    } in
    let rest : Does gives kept (replayed r e) (late_of w) = late-does gives kept (replayed r e) w next still none in
    record { legal = (rw agrees.none_due (rw same on, not_asked r.asks_smart _ none, first.come), rest.legal); agrees = rest.agrees }

row-init : (m : Machine) → row_of (record m { state = state.Init }) ≡ start_recovery (record m { state = state.Init })
unfolding row_of
row-init m = refl

row-no_writer : (m : Machine) → row_of (record m { state = state.Run; conns = true; writer = false }) ≡ restart_writer (record m { state = state.Run; conns = true; writer = false })
unfolding row_of
row-no_writer m = refl

row-drained : (m : Machine) → (m.children == 0) ≡ true
    → row_of (record m { state = state.Run; conns = false }) ≡ transition (act.Terminate ∷ []) (record m { state = state.WaitBackends; conns = false })
unfolding row_of end_smart stop_backends
row-drained m none = rw none refl

row-stopping : (m : Machine) → row_of (record m { state = state.StopBackends }) ≡ transition (act.Terminate ∷ []) (record m { state = state.WaitBackends })
unfolding row_of stop_backends
row-stopping m = refl

-- what the two rows that start a child do
init-starts : (m : Machine) → (is_none (start_recovery (record m { state = state.Init })).acts ≡ false)
    × (has_kill (dues (start_recovery (record m { state = state.Init })).acts) ≡ false)
    × (is_quiet (start_recovery (record m { state = state.Init })).after.state ≡ true)
unfolding start_recovery
init-starts m = (refl, refl, refl)

writer-starts : (m : Machine) → (is_none (restart_writer (record m { state = state.Run; conns = true; writer = false })).acts ≡ false)
    × (has_kill (dues (restart_writer (record m { state = state.Run; conns = true; writer = false })).acts) ≡ false)
    × (is_quiet (restart_writer (record m { state = state.Run; conns = true; writer = false })).after.state ≡ true)
unfolding restart_writer
writer-starts m = (refl, refl, refl)

-- a turn

abbrev TurnDoes : (ℕ → Bool) → ℕ → Replay → Machine → Transition → Type 0
TurnDoes gives kept r m o = Agrees r m → m.ended ≡ false → r.asks_smart ≡ false → Does gives kept r o

turn-does : (gives : ℕ → Bool) (kept : ℕ) (r : Replay) → TurnCases (TurnDoes gives kept r)
turn-does gives kept r =
    record {
      begins = λ m agrees on none. (let starts = init-starts m in
          start-does gives kept r (record m { state = state.Init }) _ agrees on none refl (row-init m) starts.0 starts.1 starts.2);
      lacks_writer = λ m agrees on none. (let starts = writer-starts m in
          start-does gives kept r (record m { state = state.Run; conns = true; writer = false }) _ agrees on none refl (row-no_writer m)
          starts.0 starts.1 starts.2);
      idle = λ m quiet agrees on none. nothing-writes gives r m agrees;
      drained = λ m empty agrees on none.
          terminate-does gives kept r (record m { state = state.Run; conns = false }) (record m { state = state.WaitBackends; conns = false })
          agrees on on none refl (row-drained m empty);
      stopping = λ m agrees on none.
          terminate-does gives kept r (record m { state = state.StopBackends }) (record m { state = state.WaitBackends }) agrees on on none refl (row-stopping m);
      late = λ m is agrees on none. late-does gives kept r m agrees on none;
    }

pub turn-writes : (gives : ℕ → Bool) (kept : ℕ) (r : Replay) (m : Machine) → Agrees r m → m.ended ≡ false → r.asks_smart ≡ false
    → Writes gives r (entries_of_call kept r m TakesTurn) (machine_with_reports m TakesTurn)
turn-writes gives kept r m agrees on none = by-turn (TurnDoes gives kept r) (turn-does gives kept r) m agrees on none

-- after a turn no move waits

started-quiet : (k : Kind) (m : Machine) → is_quiet m.state ≡ true → is_quiet (started_as k m).state ≡ true
started-quiet k m quiet = grind arith

reports-quiet : (acts : List Action) (m : Machine) → is_quiet m.state ≡ true → is_quiet (all_reported acts m).state ≡ true
reports-quiet [] m quiet = quiet
reports-quiet (act.Start k ∷ acts) m quiet = reports-quiet acts (started_as k m) (started-quiet k m quiet)
reports-quiet (act.Quit why ∷ acts) m quiet = reports-quiet acts m quiet
reports-quiet (act.Terminate ∷ acts) m quiet = reports-quiet acts m quiet
reports-quiet (act.KillAll ∷ acts) m quiet = reports-quiet acts m quiet
reports-quiet (act.AskCheckpoint ∷ acts) m quiet = reports-quiet acts m quiet
reports-quiet (act.Ready ∷ acts) m quiet = reports-quiet acts m quiet
reports-quiet (act.Reset ∷ acts) m quiet = reports-quiet acts m quiet
reports-quiet (act.Say line ∷ acts) m quiet = reports-quiet acts m quiet
reports-quiet (act.End how ∷ acts) m quiet = reports-quiet acts m quiet

-- the machine after an transition, with its starts reported, waits for no move
abbrev IsStill : Transition → Type 0
IsStill o = settled (all_reported o.acts o.after) ≡ all_reported o.acts o.after

still-quiet : (o : Transition) → is_quiet o.after.state ≡ true → IsStill o
still-quiet o quiet = settled-quiet (all_reported o.acts o.after) (reports-quiet o.acts o.after quiet)

last-quiet : (m : Machine) → is_no_children m.state ≡ true → is_quiet (children_gone m).after.state ≡ true
unfolding children_gone
last-quiet m is = grind arith

children-still : (m : Machine) → settled m ≡ m → IsStill (children_gone m)
children-still m settles =
    elim (is_no_children m.state) as (λ v. is_no_children m.state ≡ v → IsStill (children_gone m)) [
      | true ↦ λ is. still-quiet (children_gone m) (last-quiet m is)
      | false ↦ λ other. subst IsStill (sym (children-quiet m other)) settles
    ]
    refl

asking-quiet : (m : Machine) → m.fatal || is_immediate m.shutdown ≡ false → is_asking m ≡ true → is_quiet (backends_gone m).after.state ≡ true
unfolding backends_gone
asking-quiet m calm asking = grind arith

late-still : (m : Machine) → IsStill (late_of m)
late-still m =
    by-late IsStill (λ n calm asking. still-quiet (backends_gone n) (asking-quiet n calm asking)) children-still m

terminate-still : (m : Machine) → IsStill (with_terminate (late_of m))
unfolding with_terminate
terminate-still m = late-still m

idle-quiet : (p : PmState) → may_idle p ≡ true → is_quiet p ≡ true
idle-quiet p idle = grind arith

turn-still : TurnCases (λ m o. IsStill o)
turn-still =
    record {
      begins = λ m. still-quiet (start_recovery (record m { state = state.Init })) (init-starts m).2;
      lacks_writer = λ m. still-quiet (restart_writer (record m { state = state.Run; conns = true; writer = false })) (writer-starts m).2;
      idle = λ m quiet. settled-quiet m (idle-quiet m.state quiet);
      drained = λ m empty. terminate-still (record m { state = state.WaitBackends; conns = false });
      stopping = λ m. terminate-still (record m { state = state.WaitBackends });
      late = λ m is. late-still m;
    }

pub turned-still : (m : Machine) → settled (machine_with_reports m TakesTurn) ≡ machine_with_reports m TakesTurn
turned-still m = by-turn (λ n o. IsStill o) turn-still m

-- one law for all calls

pub call-writes : (gives : ℕ → Bool) (kept : ℕ) (r : Replay) (m : Machine) (call : Call) → Agrees r m → m.ended ≡ false → MayWrite gives r m call
    → Writes gives r (entries_of_call kept r m call) (machine_with_reports m call)
call-writes gives kept r m (Accepts pid) agrees on may = accept-writes gives kept r m pid agrees on may.0 may.1
call-writes gives kept r m (Starts pid k) agrees on may = absurd may
call-writes gives kept r m (Exits pid k status a now) agrees on may = exit-writes gives kept r m pid k status a now agrees on may.0 may.1
call-writes gives kept r m (Asks mode now) agrees on may = ask-writes gives kept r m mode now agrees on may.0 may.1
call-writes gives kept r m (Ticks now) agrees on may = tick-writes gives kept r m now agrees on may.0 may.1
call-writes gives kept r m TakesTurn agrees on may = turn-writes gives kept r m agrees on may
call-writes gives kept r m (Attaches pid reserve) agrees on may = absurd may
call-writes gives kept r m (Touches pid) agrees on may = absurd may
call-writes gives kept r m (Detaches pid) agrees on may = absurd may

pub begun-agrees : (limits : Limits) → Agrees (replay_begun limits) (begun limits)
begun-agrees limits = record { machine = sym (settled-quiet (begun limits) refl); none_due = refl }

-- journals in parts

pub legal-append : (gives : ℕ → Bool) (r : Replay) (xs ys : List PmEvent) → AreLegal gives r xs → AreLegal gives (all_replayed r xs) ys → AreLegal gives r (xs ++ ys)
legal-append gives r [] ys first second = second
legal-append gives r (x ∷ xs) ys first second = (first.0, legal-append gives (replayed r x) xs ys first.1 second)
