-- What a turn does, by the state that it meets: each rule alone, and the last three together.
use Rattle.std.{proofs.Common.{◌≡◌, Bool, true, false, ◌&&◌, ◌||◌, cond, [], ◌∷◌, refl, arith, ap, sym, ◌∙◌, subst}, specs.Prelude.◌==◌}
use Rattle.pm_modes.specs.Strength.{is_immediate}
use Rattle.pm_admit.specs.declared.PmState.{PmState}
use Rattle.pm_admit.specs.declared.PmState.TheVariants as state
use Rattle.pm_state.specs.declared.action.Action.TheVariants as act
use Rattle.pm_state.{specs.{declared.machine.Machine.Machine, Transition.{Transition, transition}, TurnRules.{start_recovery, restart_writer, end_smart, stop_backends, backends_gone, dead_ends_gone, children_gone, turned_of, and_then, are_backends_gone}, Journal.settled}, proofs.{Settling.settled-settled, TurnLaws.{turn-startup, turn-serving}}}

-- the last rules of a turn: 5, 6 and 7

unfoldable pub late_of : Machine → Transition
late_of m = and_then (and_then (backends_gone m) dead_ends_gone) children_gone

pub backends-silent : (m : Machine) → m.fatal || is_immediate m.shutdown ≡ true → (backends_gone m).acts ≡ []
unfolding backends_gone
backends-silent m cause = grind arith

pub dead_ends-silent : (m : Machine) → (dead_ends_gone m).acts ≡ []
unfolding dead_ends_gone
dead_ends-silent m = grind arith

abbrev pub is_no_children : PmState → Bool
is_no_children state.NoChildren = true
is_no_children _ = false

pub children-quiet : (m : Machine) → is_no_children m.state ≡ false → children_gone m ≡ transition [] m
unfolding children_gone
children-quiet m other = grind arith

-- the sessions are gone, and the last checkpoint is asked for
abbrev pub is_wait_backends : PmState → Bool
is_wait_backends state.WaitBackends = true
is_wait_backends _ = false

abbrev pub is_asking : Machine → Bool
is_asking m = is_wait_backends m.state && are_backends_gone m

pub settled-cause : (m : Machine) → m.fatal || is_immediate m.shutdown ≡ true → settled m ≡ (dead_ends_gone (backends_gone m).after).after
unfolding settled
settled-cause m cause = ap (λ b. (dead_ends_gone (cond b (backends_gone m).after m)).after) cause

pub settled-calm : (m : Machine) → m.fatal || is_immediate m.shutdown ≡ false → settled m ≡ (dead_ends_gone m).after
unfolding settled
settled-calm m calm = ap (λ b. (dead_ends_gone (cond b (backends_gone m).after m)).after) calm

pub late-silent : (m : Machine) → (backends_gone m).acts ≡ [] → late_of m ≡ children_gone (dead_ends_gone (backends_gone m).after).after
unfolding late_of
late-silent m silent = rw (silent, dead_ends-silent (backends_gone m).after) refl

pub late-cause : (m : Machine) → m.fatal || is_immediate m.shutdown ≡ true → late_of m ≡ children_gone (settled m)
late-cause m cause = late-silent m (backends-silent m cause) ∙ ap children_gone (sym (settled-cause m cause))

pub backends-quiet : (m : Machine) → is_asking m ≡ false → backends_gone m ≡ transition [] m
unfolding backends_gone
backends-quiet m other = grind arith

pub late-calm : (m : Machine) → m.fatal || is_immediate m.shutdown ≡ false → is_asking m ≡ false → late_of m ≡ children_gone (settled m)
late-calm m calm other =
    late-silent m (ap (λ o. o.acts) (backends-quiet m other))
    ∙ (ap (λ o. children_gone (dead_ends_gone o.after).after) (backends-quiet m other) ∙ ap children_gone (sym (settled-calm m calm)))

pub late-asks : (m : Machine) → m.fatal || is_immediate m.shutdown ≡ false → is_asking m ≡ true → late_of m ≡ backends_gone m
unfolding late_of backends_gone dead_ends_gone children_gone
late-asks m calm asking = grind arith

pub asking-settled : (m : Machine) → m.fatal || is_immediate m.shutdown ≡ false → is_asking m ≡ true → settled m ≡ m
unfolding settled backends_gone dead_ends_gone
asking-settled m calm asking = grind arith

-- a turn, by the state that it meets

unfoldable pub with_terminate : Transition → Transition
with_terminate o = transition (act.Terminate ∷ o.acts) o.after

pub turn-init : (m : Machine) → turned_of (record m { state = state.Init }) ≡ start_recovery (record m { state = state.Init })
unfolding turned_of start_recovery restart_writer end_smart stop_backends backends_gone dead_ends_gone children_gone
turn-init m = refl

pub turn-shutdown : (m : Machine) → turned_of (record m { state = state.Shutdown }) ≡ transition [] (record m { state = state.Shutdown })
unfolding turned_of start_recovery restart_writer end_smart stop_backends backends_gone dead_ends_gone children_gone
turn-shutdown m = refl

pub turn-no_writer : (m : Machine) → turned_of (record m { state = state.Run; conns = true; writer = false }) ≡ restart_writer (record m { state = state.Run; conns = true; writer = false })
unfolding turned_of start_recovery restart_writer end_smart stop_backends backends_gone dead_ends_gone children_gone
turn-no_writer m = refl

pub turn-drained : (m : Machine) → (m.children == 0) ≡ true
    → turned_of (record m { state = state.Run; conns = false }) ≡ with_terminate (late_of (record m { state = state.WaitBackends; conns = false }))
unfolding turned_of late_of with_terminate start_recovery restart_writer end_smart stop_backends
turn-drained m none = rw none refl

pub turn-draining : (m : Machine) → (m.children == 0) ≡ false
    → turned_of (record m { state = state.Run; conns = false }) ≡ transition [] (record m { state = state.Run; conns = false })
unfolding turned_of start_recovery restart_writer end_smart stop_backends backends_gone dead_ends_gone children_gone
turn-draining m some = rw some refl

pub turn-stopping : (m : Machine) → turned_of (record m { state = state.StopBackends }) ≡ with_terminate (late_of (record m { state = state.WaitBackends }))
unfolding turned_of late_of with_terminate start_recovery restart_writer end_smart stop_backends
turn-stopping m = refl

pub turn-waiting : (m : Machine) → turned_of (record m { state = state.WaitBackends }) ≡ late_of (record m { state = state.WaitBackends })
unfolding turned_of late_of start_recovery restart_writer end_smart stop_backends
turn-waiting m = refl

pub turn-clearing : (m : Machine) → turned_of (record m { state = state.WaitDeadEnd }) ≡ late_of (record m { state = state.WaitDeadEnd })
unfolding turned_of late_of start_recovery restart_writer end_smart stop_backends
turn-clearing m = refl

pub turn-clear : (m : Machine) → turned_of (record m { state = state.NoChildren }) ≡ late_of (record m { state = state.NoChildren })
unfolding turned_of late_of start_recovery restart_writer end_smart stop_backends
turn-clear m = refl

-- whatever holds of each of these holds of a turn

abbrev pub is_late : PmState → Bool
is_late state.WaitBackends = true
is_late state.WaitDeadEnd = true
is_late state.NoChildren = true
is_late _ = false

-- no rule of a turn is for this state, or its condition doesn't hold
abbrev pub may_idle : PmState → Bool
may_idle state.Startup = true
may_idle state.Shutdown = true
may_idle state.Run = true
may_idle _ = false

pub record TurnCases (P : Machine → Transition → Type 0) : Type 0 where
  pub begins : (m : Machine) → P (record m { state = state.Init }) (start_recovery (record m { state = state.Init }))
  pub lacks_writer :
      (m : Machine)
      → P (record m { state = state.Run; conns = true; writer = false }) (restart_writer (record m { state = state.Run; conns = true; writer = false }))
  pub idle : (m : Machine) → may_idle m.state ≡ true → P m (transition [] m)
  pub drained :
      (m : Machine) → (m.children == 0) ≡ true
      → P (record m { state = state.Run; conns = false }) (with_terminate (late_of (record m { state = state.WaitBackends; conns = false })))
  pub stopping : (m : Machine) → P (record m { state = state.StopBackends }) (with_terminate (late_of (record m { state = state.WaitBackends })))
  pub late : (m : Machine) → is_late m.state ≡ true → P m (late_of m)

run-by : (P : Machine → Transition → Type 0) → TurnCases P → (conns writer : Bool) (m : Machine)
    → P (record m { state = state.Run; conns = conns; writer = writer }) (turned_of (record m { state = state.Run; conns = conns; writer = writer }))
run-by P cases true true m =
    let n : Machine = record m { state = state.Run; conns = true; writer = true } in
    subst (P n) (sym (turn-serving m)) (cases.idle n refl)
run-by P cases true false m =
    subst (P (record m { state = state.Run; conns = true; writer = false })) (sym (turn-no_writer m)) (cases.lacks_writer m)
run-by P cases false writer m =
    let n : Machine = record m { state = state.Run; conns = false; writer = writer } in
    elim (m.children == 0) as (λ v. (m.children == 0) ≡ v → P n (turned_of n)) [
      | true ↦ λ empty. subst (P n) (sym (turn-drained (record m { writer = writer }) empty)) (cases.drained (record m { writer = writer }) empty)
      | false ↦ λ some. subst (P n) (sym (turn-draining (record m { writer = writer }) some)) (cases.idle n refl)
    ]
    refl

state-by : (P : Machine → Transition → Type 0) → TurnCases P → (p : PmState) (m : Machine)
    → P (record m { state = p }) (turned_of (record m { state = p }))
state-by P cases state.Init m = subst (P (record m { state = state.Init })) (sym (turn-init m)) (cases.begins m)
state-by P cases state.Startup m =
    subst (P (record m { state = state.Startup })) (sym (turn-startup m)) (cases.idle (record m { state = state.Startup }) refl)
state-by P cases state.Run m = run-by P cases m.conns m.writer m
state-by P cases state.StopBackends m = subst (P (record m { state = state.StopBackends })) (sym (turn-stopping m)) (cases.stopping m)
state-by P cases state.WaitBackends m =
    subst (P (record m { state = state.WaitBackends })) (sym (turn-waiting m)) (cases.late (record m { state = state.WaitBackends }) refl)
state-by P cases state.Shutdown m =
    subst (P (record m { state = state.Shutdown })) (sym (turn-shutdown m)) (cases.idle (record m { state = state.Shutdown }) refl)
state-by P cases state.WaitDeadEnd m =
    subst (P (record m { state = state.WaitDeadEnd })) (sym (turn-clearing m)) (cases.late (record m { state = state.WaitDeadEnd }) refl)
state-by P cases state.NoChildren m =
    subst (P (record m { state = state.NoChildren })) (sym (turn-clear m)) (cases.late (record m { state = state.NoChildren }) refl)

pub by-turn : (P : Machine → Transition → Type 0) → TurnCases P → (m : Machine) → P m (turned_of m)
by-turn P cases m = state-by P cases m.state m

-- the last rules ask for the checkpoint, or do what is done with no child left
pub by-late : (P : Transition → Type 0) → ((m : Machine) → m.fatal || is_immediate m.shutdown ≡ false → is_asking m ≡ true → P (backends_gone m))
    → ((m : Machine) → settled m ≡ m → P (children_gone m)) → (m : Machine) → P (late_of m)
by-late P asks last m =
    elim (m.fatal || is_immediate m.shutdown) as (λ v. m.fatal || is_immediate m.shutdown ≡ v → P (late_of m)) [
      | true ↦ λ cause. subst P (sym (late-cause m cause)) (last (settled m) (settled-settled m))
      | false ↦ λ calm. elim (is_asking m) as (λ v. is_asking m ≡ v → P (late_of m)) [
        | true ↦ λ asking. subst P (sym (late-asks m calm asking)) (asks m calm asking)
        | false ↦ λ other. subst P (sym (late-calm m calm other)) (last (settled m) (settled-settled m))
      ]
          refl
    ]
    refl
