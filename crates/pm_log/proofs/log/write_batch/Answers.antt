use Rattle.std.{proofs.Common.{◌+◌, ap, ◌∙◌, List, ℕ}, specs.Prelude.option_map}
use Rattle.pm_record.proofs.GateLaws.{written_at}
use Rattle.pm_log.proofs.{Halves.told_grows, Told.{gate_behind, has_appended, keeps_both, keeps_first}}
use Rattle.pm_log.proofs.log.write_batch.Goals as goal

pub returns-in_err-write_durably-clause-stops : goal.returns-in_err-write_durably-clause-stops
returns-in_err-write_durably-clause-stops g c =
    keeps_first (g.D.Disk.seen c.args.disk.now) c.args.file c.args.end _ _ _ c.args.bytes.now (g.D.Disk.images c.args.disk.now) (g.D.Disk.images c.write_durably.new.disk)
    c.in_err-write_durably.ensures.stops

pub write_durably-requires-2 : goal.write_durably-requires-2
write_durably-requires-2 g c =
    gate_behind (g.D.Disk.seen c.args.disk.now) (g.D.Disk.seen c.write_durably.new.disk) c.args.file c.args.end c.split_at.result.1.now c.requires.gate c.in_ok-write_durably.ensures.written

pub returns-in_err-write_durably-2-clause-stops : goal.returns-in_err-write_durably-2-clause-stops
returns-in_err-write_durably-2-clause-stops g c =
    let before = g.D.Disk.seen c.args.disk.now in
    let file = c.args.file in
    let end = c.args.end in
    keeps_both before (g.D.Disk.seen c.write_durably.new.disk) file end _ _ _ _ _ c.args.bytes.now
    (g.D.Disk.images c.args.disk.now) (g.D.Disk.images c.write_durably.new.disk) (g.D.Disk.images c.write_durably-2.new.disk)
    c.in_ok-write_durably.ensures.stops c.in_ok-write_durably.ensures.time
    (c.in_ok-write_durably.ensures.written ∙ ap (λ (l : List ℕ). option_map (written_at file (end + 1) l) before) c.split_at.ensures.back)
    c.in_ok-write_durably.ensures.durable c.split_at.ensures.front_len c.in_err-write_durably-2.ensures.stops c.in_err-write_durably-2.ensures.time

pub returns-clause-stops : goal.returns-clause-stops
returns-clause-stops g c =
    let before = g.D.Disk.seen c.args.disk.now in
    let file = c.args.file in
    let end = c.args.end in
    keeps_both before (g.D.Disk.seen c.write_durably.new.disk) file end _ _ _ _ _ c.args.bytes.now
    (g.D.Disk.images c.args.disk.now) (g.D.Disk.images c.write_durably.new.disk) (g.D.Disk.images c.write_durably-2.new.disk)
    c.in_ok-write_durably.ensures.stops c.in_ok-write_durably.ensures.time
    (c.in_ok-write_durably.ensures.written ∙ ap (λ (l : List ℕ). option_map (written_at file (end + 1) l) before) c.split_at.ensures.back)
    c.in_ok-write_durably.ensures.durable c.split_at.ensures.front_len c.in_ok-write_durably-2.ensures.stops c.in_ok-write_durably-2.ensures.time

pub returns-clause-rests : goal.returns-clause-rests
returns-clause-rests g c =
    let before = g.D.Disk.seen c.args.disk.now in
    let mid = g.D.Disk.seen c.write_durably.new.disk in
    let file = c.args.file in
    let end = c.args.end in
    has_appended before mid (g.D.Disk.seen c.write_durably-2.new.disk) file end _ _ _ _ _ c.args.bytes.now
    (g.D.Disk.images c.args.disk.now) (g.D.Disk.images c.write_durably.new.disk) (g.D.Disk.images c.write_durably-2.new.disk)
    c.in_ok-write_durably.ensures.stops c.in_ok-write_durably.ensures.time
    (c.in_ok-write_durably.ensures.written ∙ ap (λ (l : List ℕ). option_map (written_at file (end + 1) l) before) c.split_at.ensures.back)
    c.split_at.ensures.front_len c.in_ok-write_durably-2.ensures.stops c.in_ok-write_durably-2.ensures.time
    (c.in_ok-write_durably-2.ensures.written ∙ ap (λ (l : List ℕ). option_map (written_at file end l) mid) c.split_at.ensures.front)
    c.in_ok-write_durably-2.ensures.durable

pub returns-clause-grows : goal.returns-clause-grows
returns-clause-grows g c =
    let before = g.D.Disk.seen c.args.disk.now in
    let mid = g.D.Disk.seen c.write_durably.new.disk in
    let file = c.args.file in
    let end = c.args.end in
    told_grows before mid (g.D.Disk.seen c.write_durably-2.new.disk) file end c.args.bytes.now c.requires.some c.requires.gate
    (c.in_ok-write_durably.ensures.written ∙ ap (λ (l : List ℕ). option_map (written_at file (end + 1) l) before) c.split_at.ensures.back)
    (c.in_ok-write_durably-2.ensures.written ∙ ap (λ (l : List ℕ). option_map (written_at file end l) mid) c.split_at.ensures.front)
