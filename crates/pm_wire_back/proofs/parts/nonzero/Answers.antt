use Rattle.std.proofs.{Common.{arith, ap, ◌∙◌, ◌≡◌, sym, Ok, ℕ, take, drop}, lemmas.Bool.{eq-eqb, ne_eqb}}
use Rattle.pm_wire_back.{specs.Parts.code_at, proofs.Walks.{code_partial, code_departs, code_more, code_done}}
use Rattle.pm_wire_back.proofs.parts.nonzero.Goals as goal

pub returns-then-i-bytes-clause-gives : goal.returns-then-i-bytes-clause-gives
returns-then-i-bytes-clause-gives c = code_partial c.args.count c.args.bytes.now c.loop-i.i (code_at c.args.count c.args.bytes.now) c.loop-i.invariant.0 c.loop-i-test.true c.if-i-bytes.true

pub returns-then-bytes-i-eq0-clause-gives : goal.returns-then-bytes-i-eq0-clause-gives
returns-then-bytes-i-eq0-clause-gives c =
    code_departs c.args.count c.args.bytes.now c.loop-i.i (code_at c.args.count c.args.bytes.now) c.loop-i.invariant.0 c.loop-i-test.true (omega arith) (eq-eqb _ _ c.if-bytes-i-eq0.true)

pub loop-i-preserved : goal.loop-i-preserved
loop-i-preserved c =
    (code_more c.args.count c.args.bytes.now c.loop-i.i (code_at c.args.count c.args.bytes.now) c.loop-i.invariant.0 c.loop-i-test.true (omega arith) (ne_eqb _ _ c.if-bytes-i-eq0.false), omega arith)

pub returns-clause-gives : goal.returns-clause-gives
returns-clause-gives c =
    let same : c.args.count ≡ c.loop-i.i = omega arith in
    code_done c.args.count c.args.bytes.now c.loop-i.i (code_at c.args.count c.args.bytes.now) c.loop-i.invariant.0 same ∙ ap (λ (n : ℕ). Ok (take n c.args.bytes.now, drop n c.args.bytes.now)) (sym same)
