use Rattle.std.proofs.Common.{ap, ◌∙◌}
use Rattle.pm_gate.proofs.reset.Goals as goal

pub returns-clause-number : goal.returns-clause-number
returns-clause-number g c = c.generation.ensures ∙ ap (λ d. d.generation) c.reset.ensures.knows
