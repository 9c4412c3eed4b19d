use Rattle.std.{proofs.{Common.{◌≡◌, ℤ, Option, Some, w64, FitsSigned, rules, sym, ap, ◌∙◌}, lemmas.Int.to_z-of_z}, specs.Prelude.not}
use Rattle.pm_query.specs.pm_sql.declared.stmt.Stmt.TheVariants as stmts
use Rattle.pm_stage.specs.Naming.{is_named}
use Rattle.pm_store_apart.specs.ReadsApart.{reads_apart}
use Rattle.pm_store_apart.proofs.front.is_apart.Goals as goal

pub returns-in-Select-Some : goal.returns-in-Select-Some
returns-in-Select-Some c =
    let staged = c.args.stage.now.commits in
    let key = c.in-Select-Some.key in
    let fits : FitsSigned w64 key = search rules in
    let some : c.in-Select-Some.key' ≡ Some key = search rules in
    ap not (c.names.ensures ∙ ap (λ (k : ℤ). is_named k staged) (to_z-of_z w64 key fits))
    ∙ sym (ap (reads_apart staged) (c.in-Select-Some.is ∙ ap (λ (o : Option ℤ). stmts.Select o) some))
