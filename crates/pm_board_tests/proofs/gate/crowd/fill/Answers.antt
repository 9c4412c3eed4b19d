use Rattle.std.proofs.Common.{◌≡◌, ◌+◌, ◌*◌, ◌∙◌, arith}
use Rattle.pm_board_tests.proofs.GateBoards as boards
use Rattle.pm_board_tests.proofs.gate.crowd.fill.Goals as goal

pub loop-place-preserved : goal.loop-place-preserved
loop-place-preserved c =
    let inv = c.loop-place.invariant in
    let pid : c.child_of.result.pid ≡ c.args.round * 8 + c.loop-place.place + 1 = c.child_of.ensures.pid in
    (boards.offered _ _ c.loop-place.place _ (c.args.round * 8 + (c.loop-place.place + 1)) _ _ inv.0 c.child_of.ensures.slot (omega arith) c.offer.ensures, c.offer.ensures.0.gate ∙ inv.1)
