use Rattle.pm_state.proofs.{Admitting.admits-none-until-redo, Restarts.{begins-alone, counts-children, restarts-as-set}}
use Rattle.pm_state.proofs.laws.restarts_safely.Goals as goal

pub returns : goal.returns
returns c =
    record {
      in_order = λ limits gives journal legal. record {
        admits = admits-none-until-redo limits gives journal legal;
        begins = begins-alone limits gives journal legal;
        as_set = restarts-as-set limits gives journal legal;
      };
      counts = counts-children;
    }
