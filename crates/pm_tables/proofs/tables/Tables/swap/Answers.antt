use Rattle.std.{proofs.Common.{◌<◌, ◌^◌, Some, is_some, refl, sym, ap, subst, ◌∙◌}, specs.{BTreeMap.UpdatesBy, String.{string_cmp, string_bytes}, Ordering.nat_cmp, Cmp.Lexicographic.slice_cmp}}
use Rattle.std.specs.FinMap as map
use Rattle.pm_tables.{specs.{Inside.tables_in}, proofs.{Names.{get-in, in-updated}, Databases.{counts_some, may, after_is}}}
use Rattle.pm_tables.proofs.tables.Tables.swap.Goals as goal

pub returns-in_err-table-clause-was : goal.returns-in_err-table-clause-was
returns-in_err-table-clause-was c =
    c.from_residual.ensures
    ∙ c.in_err-table.ensures.value
    ∙ sym (get-in c.self.inside.tables c.args.name.now c.self.invariant.ordered)
    ∙ ap (λ m. map.get m c.args.name.now) c.self.view_is

pub exchange-self-inside-requires : goal.exchange-self-inside-requires
exchange-self-inside-requires c =
    let was = get-in c.self.inside.tables c.args.name.now c.self.invariant.ordered ∙ sym c.in_ok-table.ensures.value ∙ ap Some (sym c.replace-old.ensures.value) in
    may c.self.inside.tables c.self.inside.totals c.of.result c.of-given.result c.args.name.now (Some c.args.rows) c.self.invariant (subst (λ n. n < 2 ^ 63) c.len-tables.ensures.len c.len-tables.ensures.small)
    (counts_some c.args.name.now c.replace-old.result _ c.of.result was c.of.ensures) (counts_some c.args.name.now c.args.rows _ c.of-given.result refl c.of-given.ensures)

pub invariant_of-self-2 : goal.invariant_of-self-2
invariant_of-self-2 c =
    let found = sym c.in_ok-table.ensures.value in
    let was = get-in c.self.inside.tables c.args.name.now c.self.invariant.ordered ∙ found ∙ ap Some (sym c.replace-old.ensures.value) in
    let written = c.get_mut.follows.holds c.replace-old.new.dest in
    after_is c.self.inside.tables c.self.inside.totals c.of.result c.of-given.result c.args.name.now (Some c.args.rows) c.self.invariant (subst (λ n. n < 2 ^ 63) c.len-tables.ensures.len c.len-tables.ensures.small)
    (counts_some c.args.name.now c.replace-old.result _ c.of.result was c.of.ensures) (counts_some c.args.name.now c.args.rows _ c.of-given.result refl c.of-given.ensures)
    (c.get_mut.follows.lender c.replace-old.new.dest) c.exchange-self-inside.result written.4
    (subst (λ w. UpdatesBy string_cmp (λ k. slice_cmp nat_cmp c.args.name.now (string_bytes k)) c.self.inside.tables (c.get_mut.follows.lender c.replace-old.new.dest) (Some w)) c.replace-old.ensures.after (written.3 (ap is_some found)))
    c.exchange-self-inside.ensures

pub returns-clause-was : goal.returns-clause-was
returns-clause-was c =
    ap Some c.replace-old.ensures.value
    ∙ c.in_ok-table.ensures.value
    ∙ sym (get-in c.self.inside.tables c.args.name.now c.self.invariant.ordered)
    ∙ ap (λ m. map.get m c.args.name.now) c.self.view_is

pub returns-clause-some : goal.returns-clause-some
returns-clause-some c =
    let found = sym c.in_ok-table.ensures.value in
    let written = c.get_mut.follows.holds c.replace-old.new.dest in
    in-updated c.self.inside.tables (c.get_mut.follows.lender c.replace-old.new.dest) c.args.name.now (Some c.replace-old.new.dest) c.self.invariant.ordered written.4 (written.3 (ap is_some found))
    ∙ ap (λ rows. map.insert (tables_in c.self.inside.tables) c.args.name.now rows) c.replace-old.ensures.after
    ∙ ap (λ m. map.insert m c.args.name.now c.args.rows) c.self.view_is
