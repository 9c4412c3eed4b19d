use Rattle.std.proofs.Common.{◌<◌, refl, sym, ap, subst}
use Rattle.pm_board_tests.proofs.GateBoards as boards
use Rattle.pm_board_tests.proofs.gate.crowd.reap_ended.Goals as goal

pub loop-preserved : goal.loop-preserved
loop-preserved g c =
    let at = c.loop.invariant.2 in
    let busy = c.loop.invariant.3 in
    let met = (c.in-Running.ensures.met busy.1.0 busy.1.1).1.1 in
    (tt, tt, boards.looked _ _ _ _ _ _ _ at met refl, (subst (λ n. c.args.slot < n) (sym met.count) busy.0, (busy.1.0, ap (λ x. x.sight) met.here)))

pub returns-in-Exited : goal.returns-in-Exited
returns-in-Exited g c =
    let at = c.loop.invariant.2 in
    let busy = c.loop.invariant.3 in
    let ended = (c.in-Exited.ensures.met busy.1.0 busy.1.1).1.1 in
    boards.visited _ _ _ _ _ at (boards.reaped _ _ _ _ _ _ _ _ ended (c.release.ensures.slot _ _ _ (ap (λ x. x.sight) ended.here)).4 refl refl refl)
