use Rattle.std.{proofs.Common.{arith, ap, ◌∙◌, ◌≡◌, ◌-◌, sym, subst, Ok, ℕ, take, drop}, specs.Str.IsUtf8}
use Rattle.pm_utf8.specs.Utf8.{boundary}
use Rattle.pm_wire_back.{specs.Parts.text_at, proofs.Walks.{text_partial, text_departs, text_more, text_done, run_more, text_is}}
use Rattle.pm_wire_back.proofs.parts.text_end.Goals as goal

pub returns-then-i-bytes-clause-gives : goal.returns-then-i-bytes-clause-gives
returns-then-i-bytes-clause-gives c = text_partial c.loop-i.state c.args.count c.args.bytes.now c.loop-i.i (text_at boundary c.args.count c.args.bytes.now) c.loop-i.invariant.0 c.loop-i-test.true c.if-i-bytes.true

pub returns-in-None-clause-gives : goal.returns-in-None-clause-gives
returns-in-None-clause-gives c =
    text_departs c.loop-i.state c.args.count c.args.bytes.now c.loop-i.i (text_at boundary c.args.count c.args.bytes.now) c.loop-i.invariant.0 c.loop-i-test.true (omega arith) (sym c.in-None.ensures)

pub loop-i-preserved : goal.loop-i-preserved
loop-i-preserved c =
    let run = run_more c.loop-i.state c.in-Some.next c.args.bytes.now c.loop-i.i (c.args.count - c.loop-i.i) (omega arith) c.loop-i.invariant.1 (sym c.in-Some.ensures) in
    (text_more c.loop-i.state c.args.count c.args.bytes.now c.loop-i.i (text_at boundary c.args.count c.args.bytes.now) c.loop-i.invariant.0 c.in-Some.next c.loop-i-test.true (omega arith) (sym c.in-Some.ensures), run.0, omega arith, omega (arith, run.1))

pub returns-clause-gives : goal.returns-clause-gives
returns-clause-gives c =
    let same : c.args.count ≡ c.loop-i.i = omega arith in
    text_done c.loop-i.state c.args.count c.args.bytes.now c.loop-i.i (text_at boundary c.args.count c.args.bytes.now) c.loop-i.invariant.0 same ∙ ap (λ (n : ℕ). Ok (take n c.args.bytes.now, drop n c.args.bytes.now)) (sym same)

pub returns-clause-text : goal.returns-clause-text
returns-clause-text c =
    let same : c.loop-i.i ≡ c.args.count = omega arith in
    subst (λ (n : ℕ). IsUtf8 (take n c.args.bytes.now)) same (text_is (take c.loop-i.i c.args.bytes.now) c.loop-i.state c.loop-i.invariant.1 (omega arith))
