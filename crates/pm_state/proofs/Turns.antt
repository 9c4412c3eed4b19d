-- A turn is a run of the supervisor.
use Rattle.std.proofs.Common.{◌≡◌, true, false, List, [], ◌∷◌, ◌++◌, refl, arith, nat_eq, cond, sym, ◌∙◌, subst}
use Rattle.pm_supervisor.{specs.{declared.Limits.Limits, Phase.Phase, Supervisor.Supervisor, Steps.{SupervisorEvent, Trace, IsRun, all_happened}}, proofs.RunLaws.{IsRun-append, all_happened-append}}
use Rattle.pm_supervisor.specs.Phase as phase
use Rattle.pm_state.{specs.{declared.machine.Machine.Machine, TurnRules.{start_recovery, restart_writer, end_smart, stop_backends, backends_gone, dead_ends_gone, children_gone, turned_of}, Shows.{phase_of, move_of, order_of, events_of, events_of_turn}, Facts.Facts}, proofs.{Rules.{start_recovery-ended, start_recovery-run, start_recovery-facts, restart_writer-ended, restart_writer-facts, end_smart-ended, end_smart-run, end_smart-facts, stop_backends-ended, stop_backends-facts, backends_gone-ended, backends_gone-run, backends_gone-facts, dead_ends_gone-ended, dead_ends_gone-run, dead_ends_gone-facts}, ChildLaws.nobody}}

-- these events are a run, after which the machine is this one
pub record Leads (limits : Limits) (h : Trace) (events : List SupervisorEvent) (m : Machine) : Type 0 where
  pub run : IsRun limits h events
  pub facts : Facts limits m (all_happened h events).now

pub Leads-append : (limits : Limits) (h : Trace) (xs ys : List SupervisorEvent) (m n : Machine) → Leads limits h xs m
    → ((g : Trace) → Facts limits m g.now → Leads limits g ys n) → Leads limits h (xs ++ ys) n
Leads-append limits h xs ys m n first then_ =
    let second : Leads limits (all_happened h xs) ys n = then_ (all_happened h xs) first.facts in
    record {
      run = IsRun-append limits h xs ys first.run second.run;
      facts = rw (all_happened-append h xs ys) second.facts;
    }

same_phase : (p q : Phase) → nat_eq (order_of p) (order_of q) ≡ true → p ≡ q
same_phase phase.Init q e = grind arith
same_phase phase.Starting q e = grind arith
same_phase phase.Running q e = grind arith
same_phase phase.Draining q e = grind arith
same_phase phase.Stopping q e = grind arith
same_phase phase.Checkpointing q e = grind arith
same_phase phase.Clearing q e = grind arith
same_phase phase.Clear q e = grind arith
same_phase phase.Ended q e = grind arith

moved : (h : Trace) (p q : Phase) → h.now.phase ≡ p → (all_happened h (move_of p q)).now ≡ record h.now { phase = q }
moved h p q is =
    elim (nat_eq (order_of p) (order_of q)) as
    (λ v. (nat_eq (order_of p) (order_of q) ≡ v) → (all_happened h (cond v [] (Rattle.pm_supervisor.specs.Steps.Move q ∷ []))).now ≡ record h.now { phase = q }) [
      | true ↦ λ e. (let s : p ≡ q = same_phase p q e in let t : h.now.phase ≡ q = is ∙ s in rw (← t))
      | false ↦ λ e. refl
    ]
    refl

-- a rule that moves the phase alone
ruled : (limits : Limits) (h : Trace) (m n : Machine) → Facts limits m h.now
    → IsRun limits h (move_of (phase_of m) (phase_of n)) → Facts limits n (record h.now { phase = phase_of n })
    → Leads limits h (move_of (phase_of m) (phase_of n)) n
ruled limits h m n before run facts =
    record { run = run; facts = rw (moved h (phase_of m) (phase_of n) before.shows.phase) facts }

children_gone-run : (limits : Limits) (m : Machine) (h : Trace) → m.ended ≡ false → Facts limits m h.now
    → IsRun limits h (events_of (children_gone m).acts)
unfolding children_gone
children_gone-run limits m h goes_on facts = grind (arith, nobody h.now.shared.children)

children_gone-facts : (limits : Limits) (m : Machine) (h : Trace) → m.ended ≡ false → Facts limits m h.now
    → Facts limits (children_gone m).after (all_happened h (events_of (children_gone m).acts)).now
unfolding children_gone
children_gone-facts limits m h goes_on facts =
    record {
      same_limits = grind arith;
      shows = record {
        phase = grind arith;
        crash = grind arith;
        request = grind arith;
        sessions = grind arith;
        dead_ends = grind arith;
        startup = grind arith;
        checkpointer = grind arith;
        writer = grind arith;
      };
      in_state = grind arith;
      alone = grind arith;
      told = grind arith;
      stop = grind arith;
      crash = grind arith;
      starts = grind arith;
      there = grind arith;
      aborts = grind arith;
      opened = grind arith;
      closed = grind arith;
      noticed = grind arith;
      recovers = grind arith;
      checkpoints = grind arith;
    }

restart_writer-phase : (m : Machine) → phase_of (restart_writer m).after ≡ phase_of m
unfolding restart_writer
restart_writer-phase m = grind arith

stop_backends-phase : (m : Machine) → phase_of (stop_backends m).after ≡ phase_of m
unfolding stop_backends
stop_backends-phase m = grind arith

-- a rule after which the phase is as before leaves the supervisor as it was
unmoved : (limits : Limits) (s : Supervisor) (m n : Machine) → s.phase ≡ phase_of m → phase_of n ≡ phase_of m
    → Facts limits n (record s { phase = phase_of n }) → Facts limits n s
unmoved limits s m n is same facts =
    let e : phase_of n ≡ s.phase = same ∙ sym is in
    let P : Phase → Type 0 = λ p. Facts limits n (record s { phase = p }) in
    subst P e facts

first_rule : (limits : Limits) (h : Trace) (m : Machine) → m.ended ≡ false → Facts limits m h.now
    → Leads limits h (move_of (phase_of m) (phase_of (start_recovery m).after)) (start_recovery m).after
first_rule limits h m goes_on facts =
    ruled limits h m (start_recovery m).after facts (start_recovery-run limits m h goes_on facts) (start_recovery-facts limits m h.now facts)

running_rules : (limits : Limits) (h : Trace) (m : Machine) → m.ended ≡ false → Facts limits m h.now
    → Leads limits h (move_of (phase_of m) (phase_of (end_smart (restart_writer m).after).after)) (end_smart (restart_writer m).after).after
running_rules limits h m goes_on facts =
    let n : Machine = (restart_writer m).after in
    let same : phase_of n ≡ phase_of m = restart_writer-phase m in
    let known : Facts limits n h.now = unmoved limits h.now m n facts.shows.phase same (restart_writer-facts limits m h.now facts) in
    let still : n.ended ≡ false = restart_writer-ended m ∙ goes_on in
    subst (λ p. Leads limits h (move_of p (phase_of (end_smart n).after)) (end_smart n).after) same
    (ruled limits h n (end_smart n).after known (end_smart-run limits n h still known) (end_smart-facts limits n h.now known))

stopping_rules : (limits : Limits) (h : Trace) (m : Machine) → m.ended ≡ false → Facts limits m h.now
    → Leads limits h (move_of (phase_of m) (phase_of (backends_gone (stop_backends m).after).after)) (backends_gone (stop_backends m).after).after
stopping_rules limits h m goes_on facts =
    let n : Machine = (stop_backends m).after in
    let same : phase_of n ≡ phase_of m = stop_backends-phase m in
    let known : Facts limits n h.now = unmoved limits h.now m n facts.shows.phase same (stop_backends-facts limits m h.now facts) in
    let still : n.ended ≡ false = stop_backends-ended m ∙ goes_on in
    subst (λ p. Leads limits h (move_of p (phase_of (backends_gone n).after)) (backends_gone n).after) same
    (ruled limits h n (backends_gone n).after known (backends_gone-run limits n h still known) (backends_gone-facts limits n h.now known))

clearing_rule : (limits : Limits) (h : Trace) (m : Machine) → m.ended ≡ false → Facts limits m h.now
    → Leads limits h (move_of (phase_of m) (phase_of (dead_ends_gone m).after)) (dead_ends_gone m).after
clearing_rule limits h m goes_on facts =
    ruled limits h m (dead_ends_gone m).after facts (dead_ends_gone-run limits m h goes_on facts) (dead_ends_gone-facts limits m h.now facts)

last_rule : (limits : Limits) (h : Trace) (m : Machine) → m.ended ≡ false → Facts limits m h.now
    → Leads limits h (events_of (children_gone m).acts) (children_gone m).after
last_rule limits h m goes_on facts =
    record { run = children_gone-run limits m h goes_on facts; facts = children_gone-facts limits m h goes_on facts }

pub turned : (limits : Limits) (h : Trace) (m : Machine) → m.ended ≡ false → Facts limits m h.now
    → Leads limits h (events_of_turn m) (turned_of m).after
unfolding turned_of
turned limits h m goes_on facts =
    let a : Machine = (start_recovery m).after in
    let b : Machine = (end_smart (restart_writer a).after).after in
    let c : Machine = (backends_gone (stop_backends b).after).after in
    let d : Machine = (dead_ends_gone c).after in
    let on_a : a.ended ≡ false = start_recovery-ended m ∙ goes_on in
    let on_b : b.ended ≡ false = end_smart-ended (restart_writer a).after ∙ (restart_writer-ended a ∙ on_a) in
    let on_c : c.ended ≡ false = backends_gone-ended (stop_backends b).after ∙ (stop_backends-ended b ∙ on_b) in
    let on_d : d.ended ≡ false = dead_ends_gone-ended c ∙ on_c in
    Leads-append limits h _ _ a (children_gone d).after (first_rule limits h m goes_on facts)
    (λ h1 f1. Leads-append limits h1 _ _ b (children_gone d).after (running_rules limits h1 a on_a f1)
    (λ h2 f2. Leads-append limits h2 _ _ c (children_gone d).after (stopping_rules limits h2 b on_b f2)
    (λ h3 f3. Leads-append limits h3 _ _ d (children_gone d).after (clearing_rule limits h3 c on_c f3)
    (λ h4 f4. last_rule limits h4 d on_d f4))))
