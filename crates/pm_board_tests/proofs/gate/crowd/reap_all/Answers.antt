use Rattle.std.proofs.Common.{◌∙◌, arith}
use Rattle.pm_board_tests.proofs.GateBoards as boards
use Rattle.pm_board_tests.proofs.gate.crowd.reap_all.Goals as goal

pub loop-place-preserved : goal.loop-place-preserved
loop-place-preserved g c =
    let inv = c.loop-place.invariant in
    (boards.gone _ _ c.loop-place.place _ inv.0 (omega arith) c.reap_ended-released.ensures, c.reap_ended-released.ensures.0.gate ∙ inv.1)
