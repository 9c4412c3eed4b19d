use Rattle.std.proofs.Common.{sym, ap, ◌∙◌}
use Rattle.pm_board_tests.proofs.gate.scene.try_once.Goals as goal

pub returns : goal.returns
returns c =
    let met = c.in_ok-attached.ensures.met c.requires.0 c.requires.1 in
    ap (λ w. w.work) (c.detach.ensures.knows c.requires.0 (ap (λ w. w.work) met.2)) ∙ sym c.requires.1
