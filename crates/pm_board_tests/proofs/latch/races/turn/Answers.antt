use Rattle.std.proofs.Common.{sym, subst}
use Rattle.pm_board_tests.specs.LatchChildren.{Waits}
use Rattle.pm_board_tests.proofs.LatchBoards as boards
use Rattle.pm_board_tests.proofs.latch.races.turn.Goals as goal

pub assign-requires : goal.assign-requires
assign-requires g c = boards.may_turn _ _ _ _ c.requires.turns c.requires.fits

pub send-requires : goal.send-requires
send-requires g c = boards.is_assigned _ _ c.assign.ensures.busy

pub send-requires-2 : goal.send-requires-2
send-requires-2 g c =
    let begun = boards.waits_first _ _ _ _ _ c.requires.turns c.assign.ensures in
    let sent = subst (λ d. Waits d c.args.free c.args.busy c.args.pid) (sym (c.send.ensures.knows begun.given.child.0 begun.given.child.1)) (boards.waits_sent _ _ _ _ _ begun) in
    boards.is_assigned _ _ sent.looked_at

pub loop-init : goal.loop-init
loop-init g c =
    let begun = boards.waits_first _ _ _ _ _ c.requires.turns c.assign.ensures in
    let sent = subst (λ d. Waits d c.args.free c.args.busy c.args.pid) (sym (c.send.ensures.knows begun.given.child.0 begun.given.child.1)) (boards.waits_sent _ _ _ _ _ begun) in
    (tt, tt, subst (λ d. Waits d c.args.free c.args.busy c.args.pid) (sym (c.send-2.ensures.knows sent.looked_at.child.0 sent.looked_at.child.1)) (boards.waits_sent _ _ _ _ _ sent))
