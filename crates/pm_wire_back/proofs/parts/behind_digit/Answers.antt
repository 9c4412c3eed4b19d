use Rattle.std.proofs.{Common.{◌≡◌, ◌+◌, ◌*◌, ◌/◌, ◌^◌, ◌≤◌, arith, sym, subst, ℕ}, Math.Nat.div-le_self}
use Rattle.pm_wire_back.proofs.Decimals.{ten_pos, tens_le, under_div}
use Rattle.pm_wire_back.proofs.parts.behind_digit.Goals as goal

pub nonzero_div-most : goal.nonzero_div-most
nonzero_div-most c = omega (arith, c.pow.ensures, ten_pos c.args.more)

tens : (value more limit power : ℕ) → power ≡ 10 ^ more → value * 10 ^ (more + 1) ≤ limit → 10 * value ≤ limit / power
tens value more limit power e h = subst (λ (p : ℕ). 10 * value ≤ limit / p) (sym e) (tens_le value more limit h)

pub overflow_mul-tens : goal.overflow_mul-tens
overflow_mul-tens c = omega (arith, tens c.args.value c.args.more c.args.limit c.pow.result c.pow.ensures c.requires.small, div-le_self c.args.limit c.pow.result, c.ranges.limit)

pub overflow_sub-most : goal.overflow_sub-most
overflow_sub-most c = tens c.args.value c.args.more c.args.limit c.pow.result c.pow.ensures c.requires.small

pub overflow_add-next : goal.overflow_add-next
overflow_add-next c =
    omega (arith, tens c.args.value c.args.more c.args.limit c.pow.result c.pow.ensures c.requires.small, div-le_self c.args.limit c.pow.result, c.ranges.limit, c.if-digit-most.false)

pub returns-clause-next : goal.returns-clause-next
returns-clause-next c =
    let within : 10 * c.args.value + c.from-digit.result ≤ c.args.limit / c.pow.result =
    omega (arith, tens c.args.value c.args.more c.args.limit c.pow.result c.pow.ensures c.requires.small, c.if-digit-most.false) in (
      omega (arith, c.from-digit.ensures),
      under_div (10 * c.args.value + c.from-digit.result) c.args.more c.args.limit
          (subst (λ (p : ℕ). 10 * c.args.value + c.from-digit.result ≤ c.args.limit / p) c.pow.ensures within),
    )
