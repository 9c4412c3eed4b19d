use Rattle.std.proofs.Common.{◌+◌, refl}
use Rattle.pm_redo.proofs.Redos.{found_only, is_read}
use Rattle.pm_redo.proofs.redo.examine.Goals as goal

pub returns-clause-found : goal.returns-clause-found
returns-clause-found g c =
    let before = g.D.Disk.seen c.args.disk.now in
    let from = g.D.Disk.ticks c.args.disk.now + 2 in
    let to = g.D.Disk.ticks c.read_pair.new.disk in
    let j = g.D.Disk.images c.read_pair.new.disk in
    found_only before c.in_ok-found.found _ from to j
    (is_read before c.in_ok-found.found _ _ from to j refl c.in_ok-found.ensures.found c.in_ok-found.ensures.barrier) c.in_ok-found.ensures.synced
