-- What a turn does in two of the states that it meets: nothing.
use Rattle.std.proofs.Common.{◌≡◌, true, [], refl}
use Rattle.pm_admit.specs.declared.PmState.TheVariants as state
use Rattle.pm_state.specs.{declared.machine.Machine.Machine, Transition.transition, TurnRules.{start_recovery, restart_writer, end_smart, stop_backends, backends_gone, dead_ends_gone, children_gone, turned_of}}

pub turn-startup : (m : Machine) → turned_of (record m { state = state.Startup }) ≡ transition [] (record m { state = state.Startup })
unfolding turned_of start_recovery restart_writer end_smart stop_backends backends_gone dead_ends_gone children_gone
turn-startup m = refl

pub turn-serving : (m : Machine) → turned_of (record m { state = state.Run; conns = true; writer = true }) ≡ transition [] (record m { state = state.Run; conns = true; writer = true })
unfolding turned_of start_recovery restart_writer end_smart stop_backends backends_gone dead_ends_gone children_gone
turn-serving m = refl
