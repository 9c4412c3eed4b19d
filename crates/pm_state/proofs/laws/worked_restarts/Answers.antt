use Rattle.std.proofs.Common.{refl}
use Rattle.pm_state.proofs.laws.worked_restarts.Goals as goal

pub returns : goal.returns
returns c =
    record {
      refuses_early = λ admits. admits.1.0 refl refl;
      takes_in_time = (tt, (tt, (λ again. absurd cc, tt)));
      refuses_beside = λ begins. (let none = begins.1.0 in cc);
      takes_behind = (tt, (tt, (refl, tt)));
    }
