use Rattle.std.{proofs.Common.{arith, length, subst, ap, ◌∙◌, List, ℕ, [], ◌∷◌, refl}, specs.Prelude.option_map}
use Rattle.pm_record.{specs.{pm_disk.declared.disk.Which.TheVariants.{A, B}, Calls.goes_two}, proofs.GateLaws.written_at}
use Rattle.pm_log.proofs.{Inits.{closed, closed_long, left_first, left_made, left_second, left_third, made, told_first, told_last, told_new, told_second, told_third}, Wrote.Wrote}
use Rattle.pm_log.proofs.cluster.write_new_log.Goals as goal

pub returns-in_err-write_durably-clause-left : goal.returns-in_err-write_durably-clause-left
returns-in_err-write_durably-clause-left g c = left_first (g.D.Disk.seen c.args.disk.now) (g.D.Disk.seen c.write_durably.new.disk) c.in_err-write_durably.ensures.torn

pub returns-in_err-write_durably-clause-stops : goal.returns-in_err-write_durably-clause-stops
returns-in_err-write_durably-clause-stops g c =
    told_first (g.D.Disk.seen c.args.disk.now) _ _ (g.D.Disk.images c.args.disk.now) (g.D.Disk.images c.write_durably.new.disk) c.in_err-write_durably.ensures.stops

pub returns-in_err-write_durably-2-clause-left : goal.returns-in_err-write_durably-2-clause-left
returns-in_err-write_durably-2-clause-left g c =
    left_second (g.D.Disk.seen c.args.disk.now) (g.D.Disk.seen c.write_durably.new.disk) (g.D.Disk.seen c.write_durably-2.new.disk) (length c.closed_new_log.result)
    (ap (λ (l : List ℕ). length l) c.closed_new_log.ensures ∙ closed_long) c.in_ok-write_durably.ensures.written c.in_err-write_durably-2.ensures.torn

pub returns-in_err-write_durably-2-clause-stops : goal.returns-in_err-write_durably-2-clause-stops
returns-in_err-write_durably-2-clause-stops g c =
    let t0 = g.D.Disk.ticks c.args.disk.now in
    let t1 = g.D.Disk.ticks c.write_durably.new.disk in
    let i = g.D.Disk.images c.args.disk.now in
    let j = g.D.Disk.images c.write_durably.new.disk in
    let s0 = g.D.Disk.seen c.args.disk.now in
    let s1 = g.D.Disk.seen c.write_durably.new.disk in
    let first : Wrote B 0 (0 ∷ []) t0 t1 i j s0 s1 = record { stops = c.in_ok-write_durably.ensures.stops; time = c.in_ok-write_durably.ensures.time; written = c.in_ok-write_durably.ensures.written; durable = c.in_ok-write_durably.ensures.durable } in
    told_second s0 s1 (g.D.Disk.seen c.write_durably-2.new.disk) t0 t1 _ (length c.closed_new_log.result) i j (g.D.Disk.images c.write_durably-2.new.disk) first
    (ap (λ (l : List ℕ). length l) c.closed_new_log.ensures ∙ closed_long) c.in_err-write_durably-2.ensures.stops c.in_err-write_durably-2.ensures.time

pub returns-in_err-write_durably-3-clause-left : goal.returns-in_err-write_durably-3-clause-left
returns-in_err-write_durably-3-clause-left g c =
    let s0 = g.D.Disk.seen c.args.disk.now in
    let s1 = g.D.Disk.seen c.write_durably.new.disk in
    let s2 = g.D.Disk.seen c.write_durably-2.new.disk in
    let s3 = g.D.Disk.seen c.write_durably-3.new.disk in
    left_third s0 s1 s2 s3 1 refl c.in_ok-write_durably.ensures.written (c.in_ok-write_durably-2.ensures.written ∙ ap (λ (b : List ℕ). option_map (written_at A 0 b) s1) c.closed_new_log.ensures) c.in_err-write_durably-3.ensures.torn

pub returns-in_err-write_durably-3-clause-stops : goal.returns-in_err-write_durably-3-clause-stops
returns-in_err-write_durably-3-clause-stops g c =
    let s0 = g.D.Disk.seen c.args.disk.now in
    let s1 = g.D.Disk.seen c.write_durably.new.disk in
    let s2 = g.D.Disk.seen c.write_durably-2.new.disk in
    let s3 = g.D.Disk.seen c.write_durably-3.new.disk in
    let i = g.D.Disk.images c.args.disk.now in
    let j = g.D.Disk.images c.write_durably.new.disk in
    let k = g.D.Disk.images c.write_durably-2.new.disk in
    let l = g.D.Disk.images c.write_durably-3.new.disk in
    let t0 = g.D.Disk.ticks c.args.disk.now in
    let t1 = g.D.Disk.ticks c.write_durably.new.disk in
    let t2 = g.D.Disk.ticks c.write_durably-2.new.disk in
    let t3 = g.D.Disk.ticks c.write_durably-3.new.disk in
    let first : Wrote B 0 (0 ∷ []) t0 t1 i j s0 s1 = record { stops = c.in_ok-write_durably.ensures.stops; time = c.in_ok-write_durably.ensures.time; written = c.in_ok-write_durably.ensures.written; durable = c.in_ok-write_durably.ensures.durable } in
    let second : Wrote A 0 closed t1 t2 j k s1 s2 = subst (λ (b : List ℕ). Wrote A 0 b t1 t2 j k s1 s2) c.closed_new_log.ensures
    (record { stops = c.in_ok-write_durably-2.ensures.stops; time = c.in_ok-write_durably-2.ensures.time; written = c.in_ok-write_durably-2.ensures.written; durable = c.in_ok-write_durably-2.ensures.durable }) in
    told_third s0 s1 s2 t0 t1 t2 t3 1 i j k l first second refl c.in_err-write_durably-3.ensures.stops c.in_err-write_durably-3.ensures.time

pub returns : goal.returns
returns g c =
    let s0 = g.D.Disk.seen c.args.disk.now in
    let s1 = g.D.Disk.seen c.write_durably.new.disk in
    let s2 = g.D.Disk.seen c.write_durably-2.new.disk in
    let s3 = g.D.Disk.seen c.write_durably-3.new.disk in
    let i = g.D.Disk.images c.args.disk.now in
    let j = g.D.Disk.images c.write_durably.new.disk in
    let k = g.D.Disk.images c.write_durably-2.new.disk in
    let l = g.D.Disk.images c.write_durably-3.new.disk in
    let t0 = g.D.Disk.ticks c.args.disk.now in
    let t1 = g.D.Disk.ticks c.write_durably.new.disk in
    let t2 = g.D.Disk.ticks c.write_durably-2.new.disk in
    let t3 = g.D.Disk.ticks c.write_durably-3.new.disk in
    let w1 = c.in_ok-write_durably.ensures in
    let w2 = c.in_ok-write_durably-2.ensures in
    let w3 = c.in_ok-write_durably-3.ensures in
    let first : Wrote B 0 (0 ∷ []) t0 t1 i j s0 s1 = record { stops = w1.stops; time = w1.time; written = w1.written; durable = w1.durable } in
    let second : Wrote A 0 closed t1 t2 j k s1 s2 = subst (λ (b : List ℕ). Wrote A 0 b t1 t2 j k s1 s2) c.closed_new_log.ensures
    (record { stops = w2.stops; time = w2.time; written = w2.written; durable = w2.durable }) in
    let third : Wrote A 0 (1 ∷ []) t2 t3 k l s2 s3 = record { stops = w3.stops; time = w3.time; written = w3.written; durable = w3.durable } in
    let all = made s0 s1 s2 s3 first.written second.written third.written in record {
      made = all;
      cluster = told_new s0 s1 s2 s3 t0 t1 t2 t3 i j k l first second third;
      left = left_made s0 s3 all;
      stops = told_third s0 s1 s2 t0 t1 t2 t3 1 i j k l first second refl third.stops third.time;
      last = told_last s0 s1 s2 t0 t1 t2 t3 1 i j k l first second refl third.stops third.time;
      time = goes_two t0 t2 t3 i k l (goes_two t0 t1 t2 i j k first.time second.time) third.time;
      cause = record { later = omega (arith, w1.cause.later, w2.cause.later, w3.cause.later); rose = λ failed. absurd (cc) };
    }
