use Rattle.std.proofs.Common.{sym, subst}
use Rattle.pm_board_tests.specs.LatchChildren.{IsBusy}
use Rattle.pm_board_tests.proofs.LatchBoards as boards
use Rattle.pm_board_tests.proofs.latch.given.give.Goals as goal

pub send-requires : goal.send-requires
send-requires c = boards.is_assigned _ _ c.loop-signal.invariant

pub loop-signal-preserved : goal.loop-signal-preserved
loop-signal-preserved c =
    let busy = c.loop-signal.invariant in
    subst (λ d. IsBusy d 3) (sym (c.send.ensures.knows busy.child.0 busy.child.1)) (boards.busy_still _ _ 3 busy)
