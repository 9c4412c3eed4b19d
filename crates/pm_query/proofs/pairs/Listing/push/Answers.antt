use Rattle.std.{proofs.{Common.{rules, FitsSigned, w64, All, sym, subst}, lemmas.{Int.to_z-of_z, List.Elements.All-push}}, specs.Str.IsUtf8}
use Rattle.pm_rows.specs.Typed.{IsTypedRow}
use Rattle.pm_query.proofs.pairs.Listing.push.Goals as goal

pub invariant_of-self : goal.invariant_of-self
invariant_of-self c = subst (All IsTypedRow) (sym c.in_err-push.ensures.items) c.self.invariant

pub invariant_of-self-2 : goal.invariant_of-self-2
invariant_of-self-2 c =
    let fits : FitsSigned w64 c.args.row.0 = search rules in
    let key = subst (FitsSigned w64) (sym (to_z-of_z w64 c.args.row.0 fits)) fits in
    let text = subst IsUtf8 (sym c.in_ok-text.ensures) c.as_str-utf8.ensures.utf8 in
    subst (All IsTypedRow) (sym c.in_ok-push.ensures.items) (All-push IsTypedRow c.self.inside.pairs.items _ c.self.invariant (key, text))
