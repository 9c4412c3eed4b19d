-- The acts of a turn, and the gate.
use Rattle.std.{proofs.{Common.{◌≡◌, List, [], ◌∷◌, ◌++◌, refl, sym, ap, subst, ◌∙◌, arith, append_assoc}, lemmas.Bool.{eqb-true, not-true, and_parts}}, specs.Prelude.{Bool, true, false, not, ◌==◌, ◌&&◌, ◌||◌, if◌then◌else◌, None, is_some}}
use Rattle.pm_board.specs.{pm_exit.declared.child.Kind.Kind, Gate.Gate}
use Rattle.pm_board.specs.pm_exit.declared.child.Kind.TheVariants as kind
use Rattle.pm_state.specs.{pm_modes.Strength.{is_immediate, strengthen_of}, pm_admit.declared.PmState.PmState, declared.{action.Action.Action, machine.Machine.Machine}, Transition.{Transition, transition}, TurnRules.{startup_starts, is_not_running, are_backends_gone, start_recovery, restart_writer, end_smart, stop_backends, backends_gone, dead_ends_gone, children_gone, children_gone_in, turned_of}, Facts.{Facts, HoldsIn}, Shows.{Accepts, Starts, Exits, Asks, Ticks, TakesTurn, Attaches, Touches, Detaches}}
use Rattle.pm_state.specs.pm_admit.declared.PmState.TheVariants as state
use Rattle.pm_supervisor.{specs.{declared.Limits.Limits, Children.{Child, count_of, one_if, is_session, is_startup_child, is_checkpointer, is_writer, is_dead_end}, Supervisor.Supervisor}, proofs.CountLaws.none_counted}
use Rattle.pm_state.specs.declared.action.Action.TheVariants as action
use Rattle.pm_state.specs.declared.action.Line.TheVariants as line
use Rattle.pm_supervisor.specs.declared.Ending.TheVariants as ending
use Rattle.pm_supervisor_journal.specs.{declared.roll.Enrolled.Enrolled, Roll.roll_of}
use Rattle.pm_board_acts.{specs.{Acts.{MayDo, NoneIs, gate_shown}, Laws.CallsMayBeDone}, proofs.MayBeDone.{none_of_them, exits_may, requested_may, ticked_may}}

-- what the machine's counts tell of the roll
record Counted (m : Machine) (roll : List Enrolled) : Type 0 where
  off_startup : is_not_running m.startup ≡ true → NoneIs kind.Startup roll
  off_checkpointer : m.checkpointer ≡ false → NoneIs kind.Checkpointer roll
  off_writer : m.writer ≡ false → NoneIs kind.Writer roll
  nobody : is_not_running m.startup ≡ true → m.children ≡ 0 → m.checkpointer ≡ false → m.writer ≡ false → m.dead_ends ≡ 0 → roll ≡ []

-- ---- the rules, from the last

children_may : (p : PmState) (m : Machine) (gate : Gate) (roll : List Enrolled) → (p ≡ state.NoChildren → roll ≡ []) → MayDo (children_gone_in p m).acts gate roll
children_may state.Init m gate roll none = tt
children_may state.Startup m gate roll none = tt
children_may state.Run m gate roll none = tt
children_may state.StopBackends m gate roll none = tt
children_may state.WaitBackends m gate roll none = tt
children_may state.Shutdown m gate roll none = tt
children_may state.WaitDeadEnd m gate roll none = tt
children_may state.NoChildren m gate roll none = by (is_some m.shutdown && m.fatal) (is_some m.shutdown) (not m.limits.restart_after_crash)
  where
    by : (a b c : Bool) → MayDo (if a
        then transition (action.Say line.Abnormal ∷ action.End ending.AfterCrash ∷ []) (record m { ended = true })
        else if b
        then transition (action.Say line.Down ∷ action.End ending.Clean ∷ []) (record m { ended = true })
        else if c
        then transition (action.Say line.RestartOff ∷ action.End ending.RestartOff ∷ []) (record m { ended = true })
        else transition
        (action.Say line.Reinitializing ∷ action.Reset ∷ action.Start kind.Startup ∷ [])
        (record (startup_starts m) { abort_at = None })).acts gate roll
    by true b c = tt
    by false true c = tt
    by false false true = tt
    by false false false = (none refl, (refl, subst (NoneIs kind.Startup) (sym (none refl)) tt, λ pid. tt))

-- no child is left
left_nobody : (m : Machine) (roll : List Enrolled) → Counted m roll → (are_backends_gone m && not m.checkpointer && (m.dead_ends == 0)) ≡ true → roll ≡ []
left_nobody m roll counted is =
    let one = and_parts (are_backends_gone m && not m.checkpointer) (m.dead_ends == 0) is in
    let two = and_parts (are_backends_gone m) (not m.checkpointer) one.0 in
    let three = and_parts ((m.children == 0) && is_not_running m.startup) (not m.writer) two.0 in
    let four = and_parts (m.children == 0) (is_not_running m.startup) three.0 in
    counted.nobody four.1 (eqb-true m.children 0 four.0) (not-true m.checkpointer two.1) (not-true m.writer three.1) (eqb-true m.dead_ends 0 one.1)

-- from here on the machine is in the state p
abbrev pub inside : PmState → Machine → Machine
inside p m = record m { state = p }

abbrev pub rest4 : Machine → List Action
rest4 m = (children_gone m).acts

abbrev pub rest3 : Machine → List Action
rest3 m = (dead_ends_gone m).acts ++ rest4 (dead_ends_gone m).after

abbrev pub rest2 : Machine → List Action
rest2 m = (backends_gone m).acts ++ rest3 (backends_gone m).after

abbrev pub rest1 : Machine → List Action
rest1 m = (stop_backends m).acts ++ rest2 (stop_backends m).after

abbrev pub rest0 : Machine → List Action
rest0 m = (end_smart m).acts ++ rest1 (end_smart m).after

abbrev pub rest_w : Machine → List Action
rest_w m = (restart_writer m).acts ++ rest0 (restart_writer m).after

abbrev pub rest_s : Machine → List Action
rest_s m = (start_recovery m).acts ++ rest_w (start_recovery m).after

dead_may : (p : PmState) (m : Machine) (gate : Gate) (roll : List Enrolled) → Counted m roll → (p ≡ state.NoChildren → roll ≡ []) → MayDo (rest3 (inside p m)) gate roll
unfolding dead_ends_gone children_gone
dead_may state.Init m gate roll counted none = tt
dead_may state.Startup m gate roll counted none = tt
dead_may state.Run m gate roll counted none = tt
dead_may state.StopBackends m gate roll counted none = tt
dead_may state.WaitBackends m gate roll counted none = tt
dead_may state.Shutdown m gate roll counted none = tt
dead_may state.NoChildren m gate roll counted none = children_may state.NoChildren (inside state.NoChildren m) gate roll none
dead_may state.WaitDeadEnd m gate roll counted none = by (are_backends_gone m && not m.checkpointer && (m.dead_ends == 0)) refl
  where
    by : (b : Bool) → (are_backends_gone m && not m.checkpointer && (m.dead_ends == 0)) ≡ b
        → (let t : Transition = (if b then transition [] (record (inside state.WaitDeadEnd m) { state = state.NoChildren }) else transition [] (inside state.WaitDeadEnd m)) in MayDo (t.acts ++ rest4 t.after) gate roll)
    by true is = children_may state.NoChildren (inside state.NoChildren m) gate roll (λ same. left_nobody m roll counted is)
    by false isnt = tt

backends_may : (p : PmState) (m : Machine) (gate : Gate) (roll : List Enrolled) → Counted m roll → (p ≡ state.NoChildren → roll ≡ []) → MayDo (rest2 (inside p m)) gate roll
unfolding backends_gone dead_ends_gone children_gone
backends_may state.Init m gate roll counted none = tt
backends_may state.Startup m gate roll counted none = tt
backends_may state.Run m gate roll counted none = tt
backends_may state.StopBackends m gate roll counted none = tt
backends_may state.Shutdown m gate roll counted none = tt
backends_may state.NoChildren m gate roll counted none = dead_may state.NoChildren m gate roll counted none
backends_may state.WaitDeadEnd m gate roll counted none = dead_may state.WaitDeadEnd m gate roll counted none
backends_may state.WaitBackends m gate roll counted none = by (not (are_backends_gone m)) (m.fatal || is_immediate m.shutdown) m.checkpointer refl
  where
    by : (a b c : Bool) → m.checkpointer ≡ c → (let t : Transition = (if a then transition [] (inside state.WaitBackends m)
        else if b
        then (if c then transition [] (inside state.WaitBackends m) else transition [] (record (inside state.WaitBackends m) { state = state.WaitDeadEnd }))
        else if c then transition (action.AskCheckpoint ∷ []) (record (inside state.WaitBackends m) { state = state.Shutdown })
        else transition
        (action.Start kind.Checkpointer ∷ action.AskCheckpoint ∷ [])
        (record (inside state.WaitBackends m) { checkpointer_due = true; state = state.Shutdown })) in MayDo (t.acts ++ rest3 t.after) gate roll)
    by true b c is = tt
    by false true true is = tt
    by false true false is = dead_may state.WaitDeadEnd m gate roll counted (λ same. absurd (let no_ : state.WaitDeadEnd ≡ state.NoChildren = same in cc))
    by false false true is = tt
    by false false false is = (refl, counted.off_checkpointer is, λ pid. tt)

stop_may : (p : PmState) (m : Machine) (gate : Gate) (roll : List Enrolled) → Counted m roll → (p ≡ state.NoChildren → roll ≡ []) → MayDo (rest1 (inside p m)) gate roll
unfolding stop_backends backends_gone dead_ends_gone children_gone
stop_may state.Init m gate roll counted none = tt
stop_may state.Startup m gate roll counted none = tt
stop_may state.Run m gate roll counted none = tt
stop_may state.StopBackends m gate roll counted none = backends_may state.WaitBackends m gate roll counted (λ same. absurd (let no_ : state.WaitBackends ≡ state.NoChildren = same in cc))
stop_may state.WaitBackends m gate roll counted none = backends_may state.WaitBackends m gate roll counted none
stop_may state.Shutdown m gate roll counted none = tt
stop_may state.WaitDeadEnd m gate roll counted none = backends_may state.WaitDeadEnd m gate roll counted none
stop_may state.NoChildren m gate roll counted none = backends_may state.NoChildren m gate roll counted none

smart_may : (p : PmState) (m : Machine) (gate : Gate) (roll : List Enrolled) → Counted m roll → (p ≡ state.NoChildren → roll ≡ []) → MayDo (rest0 (inside p m)) gate roll
unfolding end_smart stop_backends backends_gone dead_ends_gone children_gone
smart_may state.Init m gate roll counted none = tt
smart_may state.Startup m gate roll counted none = tt
smart_may state.StopBackends m gate roll counted none = stop_may state.StopBackends m gate roll counted none
smart_may state.WaitBackends m gate roll counted none = stop_may state.WaitBackends m gate roll counted none
smart_may state.Shutdown m gate roll counted none = tt
smart_may state.WaitDeadEnd m gate roll counted none = stop_may state.WaitDeadEnd m gate roll counted none
smart_may state.NoChildren m gate roll counted none = stop_may state.NoChildren m gate roll counted none
smart_may state.Run m gate roll counted none = by (not m.conns && (m.children == 0))
  where
    by : (b : Bool) → (let t : Transition = (if b then transition [] (record (inside state.Run m) { state = state.StopBackends }) else transition [] (inside state.Run m)) in MayDo (t.acts ++ rest1 t.after) gate roll)
    by true = stop_may state.StopBackends m gate roll counted (λ same. absurd (let no_ : state.StopBackends ≡ state.NoChildren = same in cc))
    by false = tt

writer_may : (p : PmState) (m : Machine) (gate : Gate) (roll : List Enrolled) → Counted m roll → (p ≡ state.NoChildren → roll ≡ []) → MayDo (rest_w (inside p m)) gate roll
unfolding restart_writer end_smart stop_backends backends_gone dead_ends_gone children_gone
writer_may state.Init m gate roll counted none = tt
writer_may state.Startup m gate roll counted none = tt
writer_may state.StopBackends m gate roll counted none = smart_may state.StopBackends m gate roll counted none
writer_may state.WaitBackends m gate roll counted none = smart_may state.WaitBackends m gate roll counted none
writer_may state.Shutdown m gate roll counted none = tt
writer_may state.WaitDeadEnd m gate roll counted none = smart_may state.WaitDeadEnd m gate roll counted none
writer_may state.NoChildren m gate roll counted none = smart_may state.NoChildren m gate roll counted none
writer_may state.Run m gate roll counted none = by m.conns m.writer refl refl
  where
    by : (c w : Bool) → m.conns ≡ c → m.writer ≡ w → (let t : Transition = (if c && not w then transition (action.Start kind.Writer ∷ []) (record (inside state.Run m) { writer_due = true }) else transition [] (inside state.Run m)) in MayDo (t.acts ++ rest0 t.after) gate roll)
    by true true conns writer = smart_may state.Run m gate roll counted none
    by false w conns writer = smart_may state.Run m gate roll counted none
    by true false conns writer = (refl, counted.off_writer writer, λ pid. quiet (record { pid = pid; kind = kind.Writer } ∷ roll) m.conns conns)
      where
        quiet : (rl : List Enrolled) (c : Bool) → c ≡ true → (let t : Transition = (if not c && (m.children == 0) then transition [] (record (record (inside state.Run m) { writer_due = true }) { state = state.StopBackends }) else transition [] (record (inside state.Run m) { writer_due = true })) in MayDo (t.acts ++ rest1 t.after) gate rl)
        quiet rl true is = tt
        quiet rl false is = absurd (let no_ : false ≡ true = is in cc)

start_may : (p : PmState) (m : Machine) (gate : Gate) (roll : List Enrolled) → Counted m roll → (p ≡ state.NoChildren → roll ≡ []) → (p ≡ state.Init → is_not_running m.startup ≡ true) → MayDo (rest_s (inside p m)) gate roll
unfolding start_recovery restart_writer end_smart stop_backends backends_gone dead_ends_gone children_gone
start_may state.Init m gate roll counted none first = (refl, counted.off_startup (first refl), λ pid. tt)
start_may state.Startup m gate roll counted none first = tt
start_may state.Run m gate roll counted none first = writer_may state.Run m gate roll counted none
start_may state.StopBackends m gate roll counted none first = writer_may state.StopBackends m gate roll counted none
start_may state.WaitBackends m gate roll counted none first = writer_may state.WaitBackends m gate roll counted none
start_may state.Shutdown m gate roll counted none first = tt
start_may state.WaitDeadEnd m gate roll counted none first = writer_may state.WaitDeadEnd m gate roll counted none
start_may state.NoChildren m gate roll counted none first = writer_may state.NoChildren m gate roll counted none

-- ---- a whole turn

flat : {A : Type 0} (a b c d e f g : List A) → ((((((a ++ b) ++ c) ++ d) ++ e) ++ f) ++ g) ≡ a ++ (b ++ (c ++ (d ++ (e ++ (f ++ g)))))
flat a b c d e f g =
    append_assoc ((((a ++ b) ++ c) ++ d) ++ e) f g
    ∙ (append_assoc (((a ++ b) ++ c) ++ d) e (f ++ g)
    ∙ (append_assoc ((a ++ b) ++ c) d (e ++ (f ++ g))
    ∙ (append_assoc (a ++ b) c (d ++ (e ++ (f ++ g)))
    ∙ append_assoc a b (c ++ (d ++ (e ++ (f ++ g)))))))

pub in_order : (m : Machine) → (turned_of m).acts ≡ rest_s m
unfolding turned_of
in_order m =
    let a : Transition = start_recovery m in
    let b : Transition = restart_writer a.after in
    let c : Transition = end_smart b.after in
    let d : Transition = stop_backends c.after in
    let e : Transition = backends_gone d.after in
    let f : Transition = dead_ends_gone e.after in
    flat a.acts b.acts c.acts d.acts e.acts f.acts (children_gone f.after).acts

-- ---- what the facts of the machine tell of the roll

each_zero : (cs : List Child) → count_of is_session cs ≡ 0 → count_of is_dead_end cs ≡ 0 → count_of is_startup_child cs ≡ 0 → count_of is_checkpointer cs ≡ 0 → count_of is_writer cs ≡ 0 → roll_of cs ≡ []
each_zero [] a b c d e = refl
each_zero (x ∷ cs) a b c d e = by x.kind refl
  where
    by : (k : Kind) → x.kind ≡ k → roll_of (x ∷ cs) ≡ []
    by kind.Backend is = absurd (let n : one_if (is_session x.kind) ≡ 1 = ap (λ (y : Kind). one_if (is_session y)) is in omega arith)
    by kind.Worker is = absurd (let n : one_if (is_session x.kind) ≡ 1 = ap (λ (y : Kind). one_if (is_session y)) is in omega arith)
    by kind.DeadEnd is = absurd (let n : one_if (is_dead_end x.kind) ≡ 1 = ap (λ (y : Kind). one_if (is_dead_end y)) is in omega arith)
    by kind.Startup is = absurd (let n : one_if (is_startup_child x.kind) ≡ 1 = ap (λ (y : Kind). one_if (is_startup_child y)) is in omega arith)
    by kind.Checkpointer is = absurd (let n : one_if (is_checkpointer x.kind) ≡ 1 = ap (λ (y : Kind). one_if (is_checkpointer y)) is in omega arith)
    by kind.Writer is = absurd (let n : one_if (is_writer x.kind) ≡ 1 = ap (λ (y : Kind). one_if (is_writer y)) is in omega arith)

counted_of : (limits : Limits) (m : Machine) (s : Supervisor) → Facts limits m s → Counted m (roll_of s.shared.children)
counted_of limits m s facts =
    let cs : List Child = s.shared.children in
    let off : is_not_running m.startup ≡ true → count_of is_startup_child cs ≡ 0 = (λ runs. facts.shows.startup ∙ ap (λ (b : Bool). one_if (not b && not m.startup_due)) runs) in
    let checkpointer : m.checkpointer ≡ false → count_of is_checkpointer cs ≡ 0 = none_counted (count_of is_checkpointer cs) m.checkpointer facts.shows.checkpointer in
    let writer : m.writer ≡ false → count_of is_writer cs ≡ 0 = none_counted (count_of is_writer cs) m.writer facts.shows.writer in
    record {
      off_startup = λ runs. none_of_them kind.Startup is_startup_child refl cs (off runs);
      off_checkpointer = λ none. none_of_them kind.Checkpointer is_checkpointer refl cs (checkpointer none);
      off_writer = λ none. none_of_them kind.Writer is_writer refl cs (writer none);
      nobody = λ runs children none_c none_w dead. each_zero cs (facts.shows.sessions ∙ children) (facts.shows.dead_ends ∙ dead) (off runs) (checkpointer none_c) (writer none_w);
    }

turn_may : (limits : Limits) (m : Machine) (s : Supervisor) → Facts limits m s → MayDo (turned_of m).acts (gate_shown s.shared) (roll_of s.shared.children)
turn_may limits m s facts =
    let counted = counted_of limits m s facts in
    subst (λ (acts : List Action). MayDo acts (gate_shown s.shared) (roll_of s.shared.children)) (sym (in_order m))
    (start_may m.state m (gate_shown s.shared) (roll_of s.shared.children) counted
    (λ is. let holds = subst (λ (p : PmState). HoldsIn p m s.shared.noticed s.shared.is_open) is facts.in_state in
    counted.nobody (ap is_not_running holds.2.startup) holds.2.children holds.2.checkpointer holds.2.writer holds.2.dead_ends)
    (λ is. let holds = subst (λ (p : PmState). HoldsIn p m s.shared.noticed s.shared.is_open) is facts.in_state in ap is_not_running holds.0.startup))

pub calls_may : CallsMayBeDone
calls_may limits p (Accepts pid) step fit = tt
calls_may limits p (Starts pid kind) step fit = tt
calls_may limits p (Exits pid kind status was_active now) step fit = exits_may limits p.machine p.trace.now pid kind _ was_active step.holds.facts fit.1
calls_may limits p (Asks mode now) step fit = requested_may (strengthen_of p.machine.shutdown mode) p.machine now _ _
calls_may limits p (Ticks now) step fit = ticked_may p.machine.abort_at p.machine now _ _
calls_may limits p TakesTurn step fit = turn_may limits p.machine p.trace.now step.holds.facts
calls_may limits p (Attaches pid reserve) step fit = tt
calls_may limits p (Touches pid) step fit = tt
calls_may limits p (Detaches pid) step fit = tt
