use Rattle.std.proofs.Common.{◌<◌, ◌^◌, None, refl, sym, ap, subst, ◌∙◌}
use Rattle.std.specs.FinMap as map
use Rattle.pm_tables.{proofs.{Names.{get-in, in-updated}, Databases.{counts_some, counts_none, may, after_is}}}
use Rattle.pm_tables.proofs.tables.Tables.remove.Goals as goal

pub returns-in_err-old-clause-was : goal.returns-in_err-old-clause-was
returns-in_err-old-clause-was c =
    c.from_residual.ensures
    ∙ c.in_err-old.ensures.value
    ∙ sym (get-in c.self.inside.tables c.args.name.now c.self.invariant.ordered)
    ∙ ap (λ m. map.get m c.args.name.now) c.self.view_is

pub returns-in_err-old-clause-out : goal.returns-in_err-old-clause-out
returns-in_err-old-clause-out c =
    in-updated c.self.inside.tables c.remove.new.self c.args.name.now None c.self.invariant.ordered c.remove.ensures.ordered c.remove.ensures.updates
    ∙ ap (λ m. map.remove m c.args.name.now) c.self.view_is

pub exchange-self-inside-requires : goal.exchange-self-inside-requires
exchange-self-inside-requires c =
    let was = get-in c.self.inside.tables c.args.name.now c.self.invariant.ordered ∙ sym c.in_ok-old.ensures.value in
    may c.self.inside.tables c.self.inside.totals c.of.result _ c.args.name.now None c.self.invariant (subst (λ n. n < 2 ^ 63) c.len-tables.ensures.len c.len-tables.ensures.small)
    (counts_some c.args.name.now c.in_ok-old.old _ c.of.result was c.of.ensures) (counts_none c.args.name.now None refl)

pub invariant_of-self-2 : goal.invariant_of-self-2
invariant_of-self-2 c =
    let was = get-in c.self.inside.tables c.args.name.now c.self.invariant.ordered ∙ sym c.in_ok-old.ensures.value in
    after_is c.self.inside.tables c.self.inside.totals c.of.result _ c.args.name.now None c.self.invariant (subst (λ n. n < 2 ^ 63) c.len-tables.ensures.len c.len-tables.ensures.small)
    (counts_some c.args.name.now c.in_ok-old.old _ c.of.result was c.of.ensures) (counts_none c.args.name.now None refl)
    c.remove.new.self c.exchange-self-inside.result c.remove.ensures.ordered c.remove.ensures.updates c.exchange-self-inside.ensures

pub returns-clause-was : goal.returns-clause-was
returns-clause-was c =
    c.in_ok-old.ensures.value
    ∙ sym (get-in c.self.inside.tables c.args.name.now c.self.invariant.ordered)
    ∙ ap (λ m. map.get m c.args.name.now) c.self.view_is

pub returns-clause-out : goal.returns-clause-out
returns-clause-out c =
    in-updated c.self.inside.tables c.remove.new.self c.args.name.now None c.self.invariant.ordered c.remove.ensures.ordered c.remove.ensures.updates
    ∙ ap (λ m. map.remove m c.args.name.now) c.self.view_is
