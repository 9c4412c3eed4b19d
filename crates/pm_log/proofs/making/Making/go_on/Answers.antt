use Rattle.std.{proofs.Common.{◌≡◌, ℕ, ◌+◌, ◌<◌, false, length, drop, arith, ap, refl, subst, sym}, specs.Prelude.{Option, Some, None}}
use Rattle.pm_record.specs.pm_disk.{Disk.TellsStill, Files.other}
use Rattle.pm_log.{specs.{Base.{unspelled, whole_base}, Half.{Half, half_at, left_in, left_of}, Making.{HasCopied, HasPiece, IsPieceOf, TornBehind}}, proofs.{Halves.{told_base, told_more, told_of, told_whole}, Makings.within_then_still, Spelled.{spelled_is, spelled_left, spelled_long, spelled_piece}}}
use Rattle.pm_log.proofs.making.Making.go_on.Goals as goal

pub overflow_add-self : goal.overflow_add-self
overflow_add-self g c =
    let its = c.self.inside in
    let before : its.done < length (whole_base its.base) = omega (arith, c.if-self.true, c.self.invariant.end_is) in
    let long = spelled_long its.base its.next c.in_ok-next.next its.done c.write_rows.new.buffer.items before (c.self.invariant.left before) c.in_ok-next.ensures.spelled in
    record { fits = omega (arith, long, c.self.invariant.end_is, c.len.ensures, c.self.ranges) }

pub invariant_of-self-then-self : goal.invariant_of-self-then-self
invariant_of-self-then-self g c =
    let its = c.self.inside in
    let inv = c.self.invariant in
    let s = c.in_ok-next.ensures.spelled in
    let bytes = c.write_rows.new.buffer.items in
    let count : length bytes ≡ c.len.result = omega (arith, c.len.ensures) in
    let before : its.done < length (whole_base its.base) = omega (arith, c.if-self.true, inv.end_is) in
    record {
      may = record { rows = inv.may.rows; few = inv.may.few; within = s.within };
      end_is = inv.end_is;
      some = omega (arith, inv.some);
      left = subst (λ (n : ℕ). its.done + n < length (whole_base its.base) → drop (its.done + n) (whole_base its.base) ≡ unspelled its.base c.in_ok-next.next) count
          (spelled_left its.base its.next c.in_ok-next.next its.done bytes before (inv.left before) s);
      synced = omega (arith, c.in_ok-self-inside.ensures.unsynced);
      room = c.write_rows.ensures.room;
    }

pub returns-then-self-clause-step : goal.returns-then-self-clause-step
returns-then-self-clause-step g c =
    let its = c.self.inside in
    let inv = c.self.invariant in
    let before : its.done < length (whole_base its.base) = omega (arith, c.if-self.true, inv.end_is) in
    let bytes = c.write_rows.new.buffer.items in
    let count : length bytes ≡ c.len.result = omega (arith, c.len.ensures) in
    let piece = spelled_piece its.base its.next c.in_ok-next.next its.done bytes before (inv.left before) c.in_ok-next.ensures.spelled its.from c.args.end in (
      c.len.result,
      subst (λ (h : Half). IsPieceOf (left_of h c.args.end) c.len.result) c.self.view_is (subst (λ (n : ℕ). IsPieceOf (left_in (whole_base its.base) its.from its.done c.args.end) n) count piece),
      ap (λ (h : Half). half_at h.epoch h.base h.from (h.done + c.len.result) false) c.self.view_is,
    )

pub returns-then-self-clause-made : goal.returns-then-self-clause-made
returns-then-self-clause-made g c =
    let its = c.self.inside in
    let inv = c.self.invariant in
    let start = g.D.Disk.seen c.args.disk.now in
    let between = g.D.Disk.seen c.write_rows.new.disk in
    let behind = g.D.Disk.seen c.sync_each_fourth.new.disk in
    let i = g.D.Disk.images c.write_rows.new.disk (g.D.Disk.ticks c.write_rows.new.disk) in
    let k = g.D.Disk.images c.sync_each_fourth.new.disk (g.D.Disk.ticks c.sync_each_fourth.new.disk) in
    let before : its.done < length (whole_base its.base) = omega (arith, c.if-self.true, inv.end_is) in
    let bytes = c.write_rows.new.buffer.items in
    let count : length bytes ≡ c.len.result = omega (arith, c.len.ensures) in
    let is = spelled_is its.base its.next c.in_ok-next.next its.done bytes before (inv.left before) c.in_ok-next.ensures.spelled in
    told_more start between behind c.args.self.now c.args.file c.args.end its.base.epoch its.from its.done c.len.result (whole_base its.base) its.ready i k
    c.self.view_is c.sync_each_fourth.ensures.untouched.seen
    (subst (λ (n : ℕ). TellsStill (λ files now. HasPiece (whole_base its.base) its.from its.done c.args.file c.args.end files now i (Some n)) start between) count
    (told_base start between c.args.file c.other-into.result c.args.end its.from its.done (length bytes) (whole_base its.base) bytes i c.other-into.ensures (omega (arith, before)) is refl c.in_ok-next.ensures.written))

pub returns-then-self-clause-stops : goal.returns-then-self-clause-stops
returns-then-self-clause-stops g c =
    within_then_still (TornBehind (other c.args.file)) _ _ _ (g.D.Disk.images c.args.disk.now) (g.D.Disk.images c.write_rows.new.disk) (g.D.Disk.images c.sync_each_fourth.new.disk)
    (rw (sym c.other-into.ensures) c.write_rows.ensures.stops) c.write_rows.ensures.time.later c.sync_each_fourth.ensures.untouched.stops c.sync_each_fourth.ensures.time

pub returns-in_ok-self-inside-in-Some-clause-made : goal.returns-in_ok-self-inside-in-Some-clause-made
returns-in_ok-self-inside-in-Some-clause-made g c =
    let its = c.self.inside in
    let start = g.D.Disk.seen c.args.disk.now in
    let between = g.D.Disk.seen c.copy_next.new.disk in
    let behind = g.D.Disk.seen c.sync_each_fourth-in-Some.new.disk in
    let i = g.D.Disk.images c.copy_next.new.disk (g.D.Disk.ticks c.copy_next.new.disk) in
    let k = g.D.Disk.images c.sync_each_fourth-in-Some.new.disk (g.D.Disk.ticks c.sync_each_fourth-in-Some.new.disk) in
    told_more start between behind c.args.self.now c.args.file c.args.end its.base.epoch its.from its.done c.in-Some.count (whole_base its.base) its.ready i k
    c.self.view_is c.sync_each_fourth-in-Some.ensures.untouched.seen
    (told_of start between c.args.file c.args.end its.from its.done its.base_end (whole_base its.base) i (Some c.in-Some.count) (sym c.self.invariant.end_is)
    (subst (λ (o : Option ℕ). TellsStill (λ files now. HasCopied its.base_end its.from its.done c.args.file c.args.end files now i o) start between) c.in-Some.is c.in_ok-count.ensures.made))

pub returns-in_ok-self-inside-in-Some-clause-stops : goal.returns-in_ok-self-inside-in-Some-clause-stops
returns-in_ok-self-inside-in-Some-clause-stops g c =
    within_then_still (TornBehind (other c.args.file)) _ _ _ (g.D.Disk.images c.args.disk.now) (g.D.Disk.images c.copy_next.new.disk) (g.D.Disk.images c.sync_each_fourth-in-Some.new.disk)
    c.copy_next.ensures.stops c.copy_next.ensures.time.later c.sync_each_fourth-in-Some.ensures.untouched.stops c.sync_each_fourth-in-Some.ensures.time

pub returns-in-None-clause-made : goal.returns-in-None-clause-made
returns-in-None-clause-made g c =
    let its = c.self.inside in
    let start = g.D.Disk.seen c.args.disk.now in
    let behind = g.D.Disk.seen c.copy_next.new.disk in
    let images = g.D.Disk.images c.copy_next.new.disk (g.D.Disk.ticks c.copy_next.new.disk) in
    told_whole start behind c.args.self.now c.args.file c.args.end its.base.epoch its.from its.done (whole_base its.base) its.ready images c.self.view_is
    (told_of start behind c.args.file c.args.end its.from its.done its.base_end (whole_base its.base) images None (sym c.self.invariant.end_is)
    (subst (λ (o : Option ℕ). TellsStill (λ files now. HasCopied its.base_end its.from its.done c.args.file c.args.end files now images o) start behind) c.in-None.is c.in_ok-count.ensures.made))
