use Rattle.pm_supervisor.proofs.{Keeping.{keeps, kept-first}, Same.{allows-same, after-same, child-taken}, Soundness.shared-after}
use Rattle.pm_supervisor.proofs.laws.keeps_what_is_shared.Goals as goal

pub returns : goal.returns
returns c =
    record {
      begins = kept-first;
      step = keeps;
      same_allows = allows-same;
      same_after = after-same;
      taken = child-taken;
      made_of = shared-after;
      allowed = λ limits h event may. may.shared.of_shared;
    }
