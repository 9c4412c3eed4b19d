use Rattle.std.proofs.{Common.{◌≡◌, length, drop, arith, ap, ◌∙◌, sym, Ok, List, ℕ}, lemmas.Bool.{eq-eqb, ne_eqb}}
use Rattle.pm_wire_back.{specs.Parts.literal_at, proofs.Walks.{literal_partial, literal_departs, literal_more, literal_done}}
use Rattle.pm_wire_back.proofs.parts.literal.Goals as goal

pub returns-then-i-bytes : goal.returns-then-i-bytes
returns-then-i-bytes c = literal_partial c.args.word.now c.args.bytes.now c.loop-i.i (literal_at c.args.word.now c.args.bytes.now) c.loop-i.invariant.0 c.loop-i-test.true c.if-i-bytes.true

pub returns-then-bytes-i : goal.returns-then-bytes-i
returns-then-bytes-i c =
    literal_departs c.args.word.now c.args.bytes.now c.loop-i.i (literal_at c.args.word.now c.args.bytes.now) c.loop-i.invariant.0 c.loop-i-test.true (omega arith) (ne_eqb _ _ c.if-bytes-i.true)

pub loop-i-preserved : goal.loop-i-preserved
loop-i-preserved c =
    (literal_more c.args.word.now c.args.bytes.now c.loop-i.i (literal_at c.args.word.now c.args.bytes.now) c.loop-i.invariant.0 c.loop-i-test.true (omega arith) (eq-eqb _ _ c.if-bytes-i.false), omega arith)

pub returns : goal.returns
returns c =
    let same : c.loop-i.i ≡ length c.args.word.now = omega arith in
    literal_done c.args.word.now c.args.bytes.now c.loop-i.i (literal_at c.args.word.now c.args.bytes.now) c.loop-i.invariant.0 c.loop-i-test.false
    ∙ ap (λ (n : ℕ). Ok (tt, drop n c.args.bytes.now)) same ∙ ap (λ (bs : List ℕ). Ok (tt, bs)) (sym c.split_at.ensures.back)
