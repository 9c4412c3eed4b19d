use Rattle.std.{proofs.Common.{◌<◌, ◌^◌, Some, is_some, refl, sym, ap, subst, ◌∙◌}, specs.{BTreeMap.UpdatesBy, String.{string_cmp, string_bytes}, Ordering.nat_cmp, Cmp.Lexicographic.slice_cmp}}
use Rattle.std.specs.FinMap as map
use Rattle.pm_tables.proofs.{HeldLaws.{there, missing}, Names.{get-in, in-updated}, Databases.{counts_some, counts_none, may, after_is}}
use Rattle.pm_tables.proofs.tables.Tables.put.Goals as goal

pub returns-then-contains_key-clause-ok : goal.returns-then-contains_key-clause-ok
returns-then-contains_key-clause-ok c =
    there c.swap.result
    (ap is_some (c.swap.ensures.was ∙ ap (λ m. map.get m c.args.name.now) (sym c.self.view_is) ∙ get-in c.self.inside.tables c.args.name.now c.self.invariant.ordered)
    ∙ sym c.contains_key.ensures ∙ c.if-contains_key.true)
    c.swap.ensures.some

pub exchange-self-inside-requires : goal.exchange-self-inside-requires
exchange-self-inside-requires c =
    let none = get-in c.self.inside.tables c.args.name.now c.self.invariant.ordered ∙ missing _ (sym c.contains_key.ensures ∙ c.if-contains_key.false) in
    may c.self.inside.tables c.self.inside.totals _ c.of-given.result c.args.name.now (Some c.args.rows) c.self.invariant (subst (λ n. n < 2 ^ 63) c.len-tables.ensures.len c.len-tables.ensures.small)
    (counts_none c.args.name.now _ none) (counts_some c.args.name.now c.args.rows _ c.of-given.result refl c.of-given.ensures)

pub invariant_of-self-2 : goal.invariant_of-self-2
invariant_of-self-2 c =
    let none = get-in c.self.inside.tables c.args.name.now c.self.invariant.ordered ∙ missing _ (sym c.contains_key.ensures ∙ c.if-contains_key.false) in
    after_is c.self.inside.tables c.self.inside.totals _ c.of-given.result c.args.name.now (Some c.args.rows) c.self.invariant (subst (λ n. n < 2 ^ 63) c.len-tables.ensures.len c.len-tables.ensures.small)
    (counts_none c.args.name.now _ none) (counts_some c.args.name.now c.args.rows _ c.of-given.result refl c.of-given.ensures)
    c.insert.new.self c.exchange-self-inside.result c.in_ok-insert.ensures.ordered
    (subst (λ n. UpdatesBy string_cmp (λ k. slice_cmp nat_cmp n (string_bytes k)) c.self.inside.tables c.insert.new.self (Some c.args.rows)) c.in_ok-from_str.ensures.ok c.in_ok-insert.ensures.updates)
    c.exchange-self-inside.ensures

pub returns-clause-ok : goal.returns-clause-ok
returns-clause-ok c =
    in-updated c.self.inside.tables c.insert.new.self c.args.name.now (Some c.args.rows) c.self.invariant.ordered c.in_ok-insert.ensures.ordered
    (subst (λ n. UpdatesBy string_cmp (λ k. slice_cmp nat_cmp n (string_bytes k)) c.self.inside.tables c.insert.new.self (Some c.args.rows)) c.in_ok-from_str.ensures.ok c.in_ok-insert.ensures.updates)
    ∙ ap (λ m. map.insert m c.args.name.now c.args.rows) c.self.view_is
