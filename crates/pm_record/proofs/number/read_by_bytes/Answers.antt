use Rattle.std.proofs.Common.{◌+◌, ◌*◌, arith, ap, ◌∙◌, sym}
use Rattle.pm_record.proofs.Numbers.{is_done, is_short, is_wrong, goes_on, fits_64, number_in}
use Rattle.pm_record.proofs.number.read_by_bytes.Goals as goal

pub returns-in_default-clause-read : goal.returns-in_default-clause-read
returns-in_default-clause-read c = is_short _ _ _ _ _ _ c.loop-i.invariant.0 c.loop-i-test.true c.in_default.ensures.none

pub overflow_mul-value : goal.overflow_mul-value
overflow_mul-value c = omega (arith, fits_64 c.loop-i.value c.loop-i.i c.args.size 0 c.loop-i.invariant.1 c.loop-i-test.true c.requires (omega arith))

pub overflow_add-value : goal.overflow_add-value
overflow_add-value c = omega (arith, c.from.ensures, fits_64 c.loop-i.value c.loop-i.i c.args.size c.in-Some.byte c.loop-i.invariant.1 c.loop-i-test.true c.requires c.in-Some.ensures.small)

pub returns-then-not-may_be-clause-read : goal.returns-then-not-may_be-clause-read
returns-then-not-may_be-clause-read c = is_wrong _ _ _ _ _ _ c.loop-i.invariant.0 c.loop-i-test.true c.in-Some.byte _ _ c.in-Some.ensures.some (ap (λ x. c.loop-i.value * 256 + x) c.from.ensures) (sym c.may_be.ensures ∙ c.if-not-may_be.true)

pub loop-i-preserved : goal.loop-i-preserved
loop-i-preserved c = (goes_on _ _ _ _ _ _ c.loop-i.invariant.0 c.loop-i-test.true c.in-Some.byte _ _ c.in-Some.ensures.some (ap (λ x. c.loop-i.value * 256 + x) c.from.ensures) (sym c.may_be.ensures ∙ c.if-not-may_be.false), omega (arith, c.from.ensures, fits_64 c.loop-i.value c.loop-i.i c.args.size c.in-Some.byte c.loop-i.invariant.1 c.loop-i-test.true c.requires c.in-Some.ensures.small))

pub returns-clause-read : goal.returns-clause-read
returns-clause-read c = is_done _ _ _ _ _ _ c.loop-i.invariant.0 c.loop-i-test.false

pub returns-clause-within : goal.returns-clause-within
returns-clause-within c = λ some. number_in c.args.ranges.now c.args.size 0 c.args.bytes.now c.loop-i.value c.loop-i.rest.now some (is_done _ _ _ _ _ _ c.loop-i.invariant.0 c.loop-i-test.false)
