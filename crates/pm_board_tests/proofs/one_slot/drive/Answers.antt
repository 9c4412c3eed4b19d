use Rattle.pm_board_tests.proofs.Drives as drives
use Rattle.pm_board_tests.proofs.one_slot.drive.Goals as goal

pub returns-in-Exited : goal.returns-in-Exited
returns-in-Exited g c =
    let busy = c.loop.invariant.2 in
    let met = c.in-Exited.ensures.met busy.0 busy.1.driven in
    let seen = drives.moved _ _ _ _ _ _ _ busy.1 met.1.1 busy.1.last_pid in
    drives.moved _ _ _ _ _ _ _ seen (c.release.ensures.slot _ _ _ seen.driven).4 seen.last_pid
