-- Where no child is counted, none is there; and the states in which none is.
use Rattle.std.proofs.Common.{◌≡◌, ◌+◌, List, [], ◌∷◌, refl, arith, Bool, true, false}
use Rattle.pm_supervisor.specs.{pm_exit.declared.child.Kind.Kind, pm_admit.declared.{PmState.PmState, Cac.Cac}, Children.{Child, is_session, is_startup_child, is_checkpointer, is_writer, is_dead_end, one_if, count_of}}
use Rattle.pm_supervisor.specs.pm_admit.declared.Cac.TheVariants as decisions
use Rattle.pm_supervisor.specs.pm_admit.declared.PmState.TheVariants as state
use Rattle.pm_state.specs.{declared.machine.Machine.Machine, Machine.accepted_as}

one_kind : (k : Kind) →
    one_if (is_session k) + one_if (is_dead_end k) + one_if (is_startup_child k) + one_if (is_checkpointer k) + one_if (is_writer k) ≡ 1
one_kind k = grind arith

-- where no child of any kind is there, none is
pub nobody : (cs : List Child) → count_of is_session cs ≡ 0 → count_of is_dead_end cs ≡ 0 → count_of is_startup_child cs ≡ 0
    → count_of is_checkpointer cs ≡ 0 → count_of is_writer cs ≡ 0 → cs ≡ []
nobody [] p q r s t = refl
nobody (c ∷ cs) p q r s t = absurd (omega (arith, one_kind c.kind))

-- before the first child, and after the last one
abbrev pub is_deserted : PmState → Bool
is_deserted state.Init = true
is_deserted state.NoChildren = true
is_deserted _ = false

-- a connection that is accepted asks for no shutdown
pub accepted_shutdown : (decision : Cac) (m : Machine) → (accepted_as decision m).shutdown ≡ m.shutdown
accepted_shutdown decisions.Ok m = refl
accepted_shutdown decisions.Startup m = refl
accepted_shutdown decisions.Recovery m = refl
accepted_shutdown decisions.Shutdown m = refl
accepted_shutdown decisions.TooMany m = refl
