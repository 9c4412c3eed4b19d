use Rattle.std.proofs.Common.{◌≡◌, ◌+◌, ◌-◌, ◌*◌, ◌^◌, ◌≤◌, ◌∙◌, arith, sym, subst, ap, ℕ, List, Ok, drop}
use Rattle.pm_wire_back.{specs.Parts.number_at, proofs.Decimals.{number_partial, number_departs, number_more, number_done, not_zero}}
use Rattle.pm_wire_back.proofs.parts.number.Goals as goal

pub returns-then-at-bytes-clause-gives : goal.returns-then-at-bytes-clause-gives
returns-then-at-bytes-clause-gives c =
    number_partial c.args.zeros c.args.limit c.loop-i.value c.args.count c.args.bytes.now c.loop-i.i (number_at c.args.zeros c.args.limit 0 c.args.count c.args.bytes.now) c.loop-i.invariant.0 c.loop-i-test.true c.if-at-bytes.true

pub returns-in-None-clause-gives : goal.returns-in-None-clause-gives
returns-in-None-clause-gives c =
    number_departs c.args.zeros c.args.limit c.loop-i.value c.args.count c.args.bytes.now c.loop-i.i (number_at c.args.zeros c.args.limit 0 c.args.count c.args.bytes.now) c.loop-i.invariant.0 c.loop-i-test.true (omega arith) c.in-None.ensures.none

pub loop-i-preserved : goal.loop-i-preserved
loop-i-preserved c =
    let k : c.args.count - c.loop-i.i - 1 ≡ c.args.count - (c.loop-i.i + 1) = omega arith in (
      number_more c.args.zeros c.args.limit c.loop-i.value c.args.count c.args.bytes.now c.loop-i.i (number_at c.args.zeros c.args.limit 0 c.args.count c.args.bytes.now) c.loop-i.invariant.0 c.loop-i-test.true (omega arith) c.in-Some.next
          c.in-Some.ensures.digit.0 c.in-Some.ensures.next.0 c.in-Some.ensures.next.1 c.in-Some.ensures.digit.1,
      omega arith,
      subst (λ (n : ℕ). c.in-Some.next * 10 ^ n ≤ c.args.limit) k c.in-Some.ensures.next.1,
      λ none _. not_zero c.args.zeros c.in-Some.next (c.args.count - c.loop-i.i - 1) none c.in-Some.ensures.digit.1,
    )

pub returns-clause-gives : goal.returns-clause-gives
returns-clause-gives c =
    let same : c.args.count ≡ c.loop-i.i = omega arith in
    number_done c.args.zeros c.args.limit c.loop-i.value c.args.count c.args.bytes.now c.loop-i.i (number_at c.args.zeros c.args.limit 0 c.args.count c.args.bytes.now) c.loop-i.invariant.0 same
    ∙ ap (λ (n : ℕ). Ok (c.loop-i.value, drop n c.args.bytes.now)) (sym same) ∙ ap (λ (bs : List ℕ). Ok (c.loop-i.value, bs)) (sym c.split_at.ensures.back)
