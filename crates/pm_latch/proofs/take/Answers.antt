use Rattle.std.proofs.Common.{ap, ◌∙◌}
use Rattle.pm_board.specs.Told.{child_in}
use Rattle.pm_latch.proofs.take.Goals as goal

pub take_signals-requires-clause-runs : goal.take_signals-requires-clause-runs
take_signals-requires-clause-runs g c =
    let heeded = c.heed-cancel.ensures.met c.requires.0 c.requires.1 in
    (c.requires.0, ap (λ w. child_in w.work) heeded.2 ∙ c.requires.1)
