-- What a turn promises.
use Rattle.std.{proofs.Common.{◌≡◌, Bool, true, false, not, ◌||◌, [], refl, arith}, specs.Prelude.is_some}
use Rattle.pm_admit.specs.{declared.PmState.PmState, Admission.is_run}
use Rattle.pm_admit.specs.declared.PmState.TheVariants as state
use Rattle.pm_state.{specs.{declared.machine.Machine.Machine, Transition.{Transition, transition}, TurnRules.{start_recovery, restart_writer, backends_gone, dead_ends_gone, children_gone, turned_of}, Exits.is_shutdown, Promises.{Promises, has_act, is_ask_checkpoint, is_quit, is_stop_backends, is_release, starts_before_ready}}, proofs.TurnCases.{late_of, with_terminate, TurnCases, by-turn, is_late, may_idle}}

late-checkpoint : (m : Machine) → is_shutdown m.state ≡ false
    → is_shutdown m.state || (not (is_shutdown (late_of m).after.state) || has_act is_ask_checkpoint (late_of m).acts) ≡ true
unfolding late_of backends_gone dead_ends_gone children_gone
late-checkpoint m a = grind arith

late-serves : (m : Machine) → is_run m.state ≡ false → is_run m.state || not (is_run (late_of m).after.state) ≡ true
unfolding late_of backends_gone dead_ends_gone children_gone
late-serves m c = grind arith

late-moment : (m : Machine) → not (is_some m.abort_at) || (is_some (late_of m).after.abort_at || has_act is_release (late_of m).acts) ≡ true
unfolding late_of backends_gone dead_ends_gone children_gone
late-moment m = grind arith

told-any : (b : Bool) → not b || true ≡ true
told-any true = refl
told-any false = refl

drained-any : (a b : Bool) → not a || (b || true) ≡ true
drained-any true true = refl
drained-any true false = refl
drained-any false b = refl

or-right : (a b : Bool) → b ≡ true → a || b ≡ true
or-right true b is = refl
or-right false b is = is

either-way : (b : Bool) → b || (not b || false) ≡ true
either-way true = refl
either-way false = refl

neither-way : (b : Bool) → not b || (b || false) ≡ true
neither-way true = refl
neither-way false = refl

same-way : (b : Bool) → b || not b ≡ true
same-way true = refl
same-way false = refl

late-promises : (m : Machine) → is_shutdown m.state ≡ false → is_stop_backends m.state ≡ false → is_run m.state ≡ false → Promises m (late_of m)
late-promises m a b c =
    record {
      checkpoint = late-checkpoint m a;
      told = rw b refl;
      drained = rw c refl;
      serves = late-serves m c;
      moment = late-moment m;
    }

terminate-promises : (p : PmState) (m : Machine) → is_shutdown p ≡ false → Promises (record m { state = state.WaitBackends }) (late_of (record m { state = state.WaitBackends }))
    → Promises (record m { state = p }) (with_terminate (late_of (record m { state = state.WaitBackends })))
unfolding with_terminate
terminate-promises p m other late =
    let o : Transition = late_of (record m { state = state.WaitBackends }) in
    record {
      checkpoint = rw other late.checkpoint;
      told = told-any (is_stop_backends p);
      drained = drained-any (is_run p) (is_run o.after.state);
      serves = or-right (is_run p) (not (is_run o.after.state)) late.serves;
      moment = late.moment;
    }

idle-stays : (p : PmState) → may_idle p ≡ true → is_stop_backends p ≡ false
idle-stays p quiet = grind arith

quiet-promises : (m : Machine) → may_idle m.state ≡ true → Promises m (transition [] m)
quiet-promises m quiet =
    record {
      checkpoint = either-way (is_shutdown m.state);
      told = rw (idle-stays m.state quiet) refl;
      drained = neither-way (is_run m.state);
      serves = same-way (is_run m.state);
      moment = neither-way (is_some m.abort_at);
    }

late-apart : (p : PmState) → is_late p ≡ true → (is_shutdown p ≡ false) × (is_stop_backends p ≡ false) × (is_run p ≡ false)
late-apart p is = grind arith

init-promises : (m : Machine) → Promises (record m { state = state.Init }) (start_recovery (record m { state = state.Init }))
unfolding start_recovery
init-promises m = record { checkpoint = refl; told = refl; drained = refl; serves = refl; moment = neither-way (is_some m.abort_at) }

writer-promises : (m : Machine) → Promises (record m { state = state.Run; conns = true; writer = false }) (restart_writer (record m { state = state.Run; conns = true; writer = false }))
unfolding restart_writer
writer-promises m = record { checkpoint = refl; told = refl; drained = refl; serves = refl; moment = neither-way (is_some m.abort_at) }

turn-promises : TurnCases Promises
turn-promises =
    record {
      begins = init-promises;
      lacks_writer = writer-promises;
      idle = quiet-promises;
      drained = λ m empty.
          terminate-promises state.Run (record m { conns = false }) refl (late-promises (record m { state = state.WaitBackends; conns = false }) refl refl refl);
      stopping = λ m. terminate-promises state.StopBackends m refl (late-promises (record m { state = state.WaitBackends }) refl refl refl);
      late = λ m is. (let apart = late-apart m.state is in late-promises m apart.0 apart.1 apart.2);
    }

pub turned-promises : (m : Machine) → Promises m (turned_of m)
turned-promises m = by-turn Promises turn-promises m

-- a turn tells nobody to quit, and begins to serve nobody

abbrev pub IsOrderly : Transition → Type 0
IsOrderly o = (has_act is_quit o.acts ≡ false) × (starts_before_ready o.acts ≡ false)

late-orders : (m : Machine) → IsOrderly (late_of m)
unfolding late_of backends_gone dead_ends_gone children_gone
late-orders m = grind arith

terminate-orders : (m : Machine) → IsOrderly (with_terminate (late_of m))
unfolding with_terminate
terminate-orders m = late-orders m

init-orders : (m : Machine) → IsOrderly (start_recovery (record m { state = state.Init }))
unfolding start_recovery
init-orders m = (refl, refl)

writer-orders : (m : Machine) → IsOrderly (restart_writer (record m { state = state.Run; conns = true; writer = false }))
unfolding restart_writer
writer-orders m = (refl, refl)

turn-orders : TurnCases (λ m o. IsOrderly o)
turn-orders =
    record {
      begins = init-orders;
      lacks_writer = writer-orders;
      idle = λ m quiet. (refl, refl);
      drained = λ m empty. terminate-orders (record m { state = state.WaitBackends; conns = false });
      stopping = λ m. terminate-orders (record m { state = state.WaitBackends });
      late = λ m is. late-orders m;
    }

pub turned-orders : (m : Machine) → IsOrderly (turned_of m)
turned-orders m = by-turn (λ n o. IsOrderly o) turn-orders m
