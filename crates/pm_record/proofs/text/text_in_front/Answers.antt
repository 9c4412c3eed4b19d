use Rattle.std.{proofs.Common.{ℕ, List, arith, ap₂, ◌∙◌, sym, subst}, specs.Str.IsUtf8}
use Rattle.pm_record.proofs.{Readers.ok, Numbers.bytes_from_places, Texts.{text_stops, text_there}}
use Rattle.pm_record.proofs.text.text_in_front.Goals as goal

pub returns-then-bytes-count-clause-none : goal.returns-then-bytes-count-clause-none
returns-then-bytes-count-clause-none c =
    text_stops c.args.count c.args.bytes.now (bytes_from_places c.args.bytes.now (λ i. omega (arith, c.type_inv.bytes i))) (λ le is. omega (arith, le, c.if-bytes-count.true))

pub returns-in-Ok-clause-some : goal.returns-in-Ok-clause-some
returns-in-Ok-clause-some c =
    let d = c.split_at.ensures in
    let a = c.in-Ok.ensures.cases in
    text_there c.args.count c.args.bytes.now (omega (arith, c.if-bytes-count.false)) (subst IsUtf8 d.front a.1)
    ∙ ap₂ (λ (x y : List ℕ). ok (x, y)) (sym d.front ∙ sym a.0) (sym d.back)

pub returns-in-Err-clause-none : goal.returns-in-Err-clause-none
returns-in-Err-clause-none c =
    text_stops c.args.count c.args.bytes.now (bytes_from_places c.args.bytes.now (λ i. omega (arith, c.type_inv.bytes i))) (λ le is. c.in-Err.ensures.cases.0 (subst IsUtf8 (sym c.split_at.ensures.front) is))
