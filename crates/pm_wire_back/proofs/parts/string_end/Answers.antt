use Rattle.std.proofs.{Common.{arith, ◌-◌, sym, take}, lemmas.Bool.{and_parts, eqb-true}}
use Rattle.pm_utf8.specs.Utf8.{boundary}
use Rattle.pm_wire_back.{specs.Parts.string_at, proofs.Walks.{string_partial, string_departs, string_more, string_ends, string_ends_early, run_more, text_is}}
use Rattle.pm_wire_back.proofs.parts.string_end.Goals as goal

pub returns-then-may_end-clause-gives : goal.returns-then-may_end-clause-gives
returns-then-may_end-clause-gives c =
    string_ends c.args.ending c.loop-i.state c.args.room c.args.bytes.now c.loop-i.i (string_at c.args.ending boundary c.args.room c.args.bytes.now) c.loop-i.invariant.0 c.loop-i-test.true (sym c.if-ends_string.ensures) (sym c.if-may_end.ensures)

pub returns-then-may_end-clause-text : goal.returns-then-may_end-clause-text
returns-then-may_end-clause-text c =
    text_is (take c.loop-i.i c.args.bytes.now) c.loop-i.state c.loop-i.invariant.1 (eqb-true _ _ (and_parts _ _ (sym c.if-ends_string.ensures)).0)

pub returns-then-ends_string-clause-gives : goal.returns-then-ends_string-clause-gives
returns-then-ends_string-clause-gives c =
    string_ends_early c.args.ending c.loop-i.state c.args.room c.args.bytes.now c.loop-i.i (string_at c.args.ending boundary c.args.room c.args.bytes.now) c.loop-i.invariant.0 c.loop-i-test.true (sym c.if-ends_string.ensures) (sym c.if-may_end.ensures)

pub returns-in-None-clause-gives : goal.returns-in-None-clause-gives
returns-in-None-clause-gives c =
    string_departs c.args.ending c.loop-i.state c.args.room c.args.bytes.now c.loop-i.i (string_at c.args.ending boundary c.args.room c.args.bytes.now) c.loop-i.invariant.0 c.loop-i-test.true (sym c.if-ends_string.ensures) (sym c.in-None.ensures)

pub loop-i-preserved : goal.loop-i-preserved
loop-i-preserved c =
    let run = run_more c.loop-i.state c.in-Some.next c.args.bytes.now c.loop-i.i (c.args.room - c.loop-i.i) c.loop-i-test.true c.loop-i.invariant.1 (sym c.in-Some.ensures) in
    (string_more c.args.ending c.loop-i.state c.args.room c.args.bytes.now c.loop-i.i (string_at c.args.ending boundary c.args.room c.args.bytes.now) c.loop-i.invariant.0 c.in-Some.next c.loop-i-test.true (sym c.if-ends_string.ensures) (sym c.in-Some.ensures), run.0, omega (arith, run.1))

pub returns-clause-gives : goal.returns-clause-gives
returns-clause-gives c =
    string_partial c.args.ending c.loop-i.state c.args.room c.args.bytes.now c.loop-i.i (string_at c.args.ending boundary c.args.room c.args.bytes.now) c.loop-i.invariant.0 c.loop-i-test.false
