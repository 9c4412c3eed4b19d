use Rattle.std.proofs.Common.{refl, ap}
use Rattle.pm_board_tests.proofs.LatchBoards as boards
use Rattle.pm_board_tests.proofs.latch.children.reap.Goals as goal

pub returns-in-Running-clause-busy : goal.returns-in-Running-clause-busy
returns-in-Running-clause-busy c _ =
    let running = (c.in-Running.ensures.met c.requires.child.0 c.requires.child.1).1.1 in
    boards.stayed c.args.slot _ _ _ _ c.requires.child.0 c.requires running refl refl

pub returns-in-Exited-clause-finished : goal.returns-in-Exited-clause-finished
returns-in-Exited-clause-finished c _ =
    let ended = (c.in-Exited.ensures.met c.requires.child.0 c.requires.child.1).1.1 in
    let released = (c.release.ensures.slot _ _ _ (ap (λ x. x.sight) ended.here)).4 in
    boards.finished c.args.slot _ _ _ _ _ _ _ ended released refl refl refl
