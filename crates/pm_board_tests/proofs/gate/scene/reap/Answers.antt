use Rattle.std.proofs.Common.{refl, ap}
use Rattle.pm_board_tests.proofs.GateBoards as boards
use Rattle.pm_board_tests.proofs.gate.scene.reap.Goals as goal

pub returns-in-Exited : goal.returns-in-Exited
returns-in-Exited c =
    let ended = (c.in-Exited.ensures.met c.requires.1.0 c.requires.1.1).1.1 in
    boards.reaped _ _ _ _ _ _ _ _ ended (c.release.ensures.slot _ _ _ (ap (λ x. x.sight) ended.here)).4 refl refl refl
