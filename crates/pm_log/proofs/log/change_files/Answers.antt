use Rattle.std.proofs.Common.{subst, [], ◌∷◌, refl}
use Rattle.pm_record.specs.{pm_disk.{declared.disk.Which.Which, Disk.Torn}, OnDisk.FollowsWithin}
use Rattle.pm_log.proofs.{Changes.{told_changed, told_close, told_open}, Wrote.at_next}
use Rattle.pm_log.proofs.log.change_files.Goals as goal

pub returns-in_err-write_durably-clause-stops : goal.returns-in_err-write_durably-clause-stops
returns-in_err-write_durably-clause-stops g c =
    let i = g.D.Disk.images c.args.disk.now in
    let j = g.D.Disk.images c.write_durably.new.disk in
    told_open (g.D.Disk.seen c.args.disk.now) c.args.file _ _ i j
    (subst (λ (w : Which). FollowsWithin (Torn w 0 1) (g.D.Disk.ticks c.args.disk.now) (g.D.Disk.ticks c.write_durably.new.disk) i j) c.other-next.ensures c.in_err-write_durably.ensures.stops)

pub returns-in_err-write_durably-2-clause-stops : goal.returns-in_err-write_durably-2-clause-stops
returns-in_err-write_durably-2-clause-stops g c =
    let before = g.D.Disk.seen c.args.disk.now in
    let mid = g.D.Disk.seen c.write_durably.new.disk in
    let i = g.D.Disk.images c.args.disk.now in
    let j = g.D.Disk.images c.write_durably.new.disk in
    let k = g.D.Disk.images c.write_durably-2.new.disk in
    let wrote = at_next c.other-next.result c.args.file 0 (1 ∷ []) (1 ∷ []) _ _ i j before mid c.other-next.ensures refl
    (record { stops = c.in_ok-write_durably.ensures.stops; time = c.in_ok-write_durably.ensures.time; written = c.in_ok-write_durably.ensures.written; durable = c.in_ok-write_durably.ensures.durable }) in
    told_close before mid c.args.file _ _ _ i j k wrote.stops wrote.time wrote.written wrote.durable c.in_err-write_durably-2.ensures.stops c.in_err-write_durably-2.ensures.time

pub returns-clause-stops : goal.returns-clause-stops
returns-clause-stops g c =
    let before = g.D.Disk.seen c.args.disk.now in
    let mid = g.D.Disk.seen c.write_durably.new.disk in
    let i = g.D.Disk.images c.args.disk.now in
    let j = g.D.Disk.images c.write_durably.new.disk in
    let k = g.D.Disk.images c.write_durably-2.new.disk in
    let wrote = at_next c.other-next.result c.args.file 0 (1 ∷ []) (1 ∷ []) _ _ i j before mid c.other-next.ensures refl
    (record { stops = c.in_ok-write_durably.ensures.stops; time = c.in_ok-write_durably.ensures.time; written = c.in_ok-write_durably.ensures.written; durable = c.in_ok-write_durably.ensures.durable }) in
    told_close before mid c.args.file _ _ _ i j k wrote.stops wrote.time wrote.written wrote.durable c.in_ok-write_durably-2.ensures.stops c.in_ok-write_durably-2.ensures.time

pub returns-clause-changed : goal.returns-clause-changed
returns-clause-changed g c =
    let before = g.D.Disk.seen c.args.disk.now in
    let mid = g.D.Disk.seen c.write_durably.new.disk in
    let i = g.D.Disk.images c.args.disk.now in
    let j = g.D.Disk.images c.write_durably.new.disk in
    let k = g.D.Disk.images c.write_durably-2.new.disk in
    let wrote = at_next c.other-next.result c.args.file 0 (1 ∷ []) (1 ∷ []) _ _ i j before mid c.other-next.ensures refl
    (record { stops = c.in_ok-write_durably.ensures.stops; time = c.in_ok-write_durably.ensures.time; written = c.in_ok-write_durably.ensures.written; durable = c.in_ok-write_durably.ensures.durable }) in
    told_changed before mid (g.D.Disk.seen c.write_durably-2.new.disk) c.args.file _ _ _ i j k wrote.stops wrote.time wrote.written wrote.durable
    c.in_ok-write_durably-2.ensures.stops c.in_ok-write_durably-2.ensures.time c.in_ok-write_durably-2.ensures.written c.in_ok-write_durably-2.ensures.durable
