use Rattle.std.proofs.Common.{fold, ap, ◌∙◌}
use Rattle.pm_tables.{specs.Held.{befores, afters, given}, proofs.Holds.{held_all, same_pending}}
use Rattle.pm_tables.proofs.tables.Tables.prepare.Goals as goal

pub returns-in-Ok-clause-ok : goal.returns-in-Ok-clause-ok
returns-in-Ok-clause-ok c =
    same_pending
    (ap (λ tables. fold given tables (befores c.hold_all.new.touched.items)) c.replace.ensures.value ∙ c.hold_all.ensures.held.back)
    (ap (λ tables. fold given tables (afters c.hold_all.new.touched.items)) c.replace.ensures.value
    ∙ held_all _ _ _ _ _ c.in_ok-fates.ensures c.hold_all.ensures.held c.in-Ok.ensures.all)
