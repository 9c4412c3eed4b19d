-- Four journals' parts, of which the definitions of restarts let two pass.
use Rattle.std.specs.Prelude.{List, [], ◌∷◌, true, false}
use Rattle.pm_exit.specs.declared.child.{Kind.TheVariants.Backend, Status.TheVariants.Signal}
use Rattle.pm_admit.specs.declared.Cac.TheVariants.{Ok as Admitted}
use Rattle.pm_state.specs.{declared.event.PmEvent.PmEvent, Restarts.{AdmitsFrom, BeginsFrom}}
use Rattle.pm_state.specs.declared.event.PmEvent.TheVariants as entry

-- a session is accepted after a crash, before redo has ended
abbrev pub early : List PmEvent
early = entry.Exited 4 Backend (Signal 6) true 9 ∷ entry.Accepted 5 Admitted ∷ []

-- and after the end of redo
abbrev pub in_time : List PmEvent
in_time = entry.Exited 4 Backend (Signal 6) true 9 ∷ entry.RedoEnded 2 7 ∷ entry.Accepted 5 Admitted ∷ []

-- a generation begins beside a child that is still there
abbrev pub beside : List PmEvent
beside = entry.Accepted 5 Admitted ∷ entry.Reset 2 ∷ []

-- and after its end
abbrev pub behind : List PmEvent
behind = entry.Accepted 5 Admitted ∷ entry.Exited 5 Backend (Signal 6) true 9 ∷ entry.Reset 2 ∷ []

pub record WorkedRestarts : Type 0 where
  pub refuses_early : ¬ (AdmitsFrom false early)
  pub takes_in_time : AdmitsFrom false in_time
  pub refuses_beside : ¬ (BeginsFrom [] beside)
  pub takes_behind : BeginsFrom [] behind
