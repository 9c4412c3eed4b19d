use Rattle.std.proofs.Common.{◌≡◌, ℕ, ◌*◌, ◌+◌, ◌<◌, List, take, arith, ap, ap₂, ◌∙◌, sym, subst}
use Rattle.pm_record.{specs.Reading.IsWithin, proofs.{Readers.ok, Numbers.{horner, horner_step, horner_whole, number_front, front_byte, bytes_from_places, fits_64}}}
use Rattle.pm_record.proofs.number.number_in_front.Goals as goal

pub overflow_mul-value : goal.overflow_mul-value
overflow_mul-value c =
    let inside : c.loop-byte.byte-index < c.args.size = omega (arith, c.loop-byte-test.true, c.split_at.ensures.front_len) in
    omega (arith, fits_64 c.loop-byte.value c.loop-byte.byte-index c.args.size 0 c.loop-byte.invariant.1 inside c.requires (omega arith))

pub loop-byte-preserved : goal.loop-byte-preserved
loop-byte-preserved c =
    let inside : c.loop-byte.byte-index < c.args.size = omega (arith, c.loop-byte-test.true, c.split_at.ensures.front_len) in
    let step = horner_step c.split_at.result.0.now c.loop-byte.byte-index c.loop-byte-test.true in
    let fits = bytes_from_places c.args.bytes.now (λ i. omega (arith, c.type_inv.bytes i)) in
    let byte = front_byte c.args.size c.args.bytes.now c.split_at.result.0.now fits c.split_at.ensures.front c.loop-byte.byte-index in
    (ap₂ (λ (x y : ℕ). x * 256 + y) c.loop-byte.invariant.0 c.from.ensures ∙ sym step, omega (arith, c.from.ensures, fits_64 c.loop-byte.value c.loop-byte.byte-index c.args.size _ c.loop-byte.invariant.1 inside c.requires byte))

pub returns-then-is_within-clause-read : goal.returns-then-is_within-clause-read
returns-then-is_within-clause-read c =
    let whole = horner_whole c.split_at.result.0.now c.loop-byte.byte-index (omega (arith, c.loop-byte-test.false, c.loop-byte.auto.byte-index-end)) in
    let is : c.loop-byte.value ≡ horner 0 (take c.args.size c.args.bytes.now) = c.loop-byte.invariant.0 ∙ whole ∙ ap (horner 0) c.split_at.ensures.front in
    let within = subst (IsWithin c.args.ranges.now) is (c.is_within.ensures c.if-is_within.true) in
    number_front c.args.ranges.now c.args.size c.args.bytes.now (omega (arith, c.if-bytes-size.false)) (bytes_from_places c.args.bytes.now (λ i. omega (arith, c.type_inv.bytes i))) within
    ∙ ap₂ (λ (x : ℕ) (y : List ℕ). ok (x, y)) (sym is) (sym c.split_at.ensures.back)
