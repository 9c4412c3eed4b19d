use Rattle.std.proofs.Common.{fold, sym, ap, subst, ◌∙◌}
use Rattle.std.specs.FinMap as map
use Rattle.pm_rows.{specs.NetChanges.{IsReady, settled}, proofs.Settle.{ready, settled_changes, same_pending}}
use Rattle.pm_rows.proofs.rows.Rows.prepare.Goals as goal

pub invariant_of-result : goal.invariant_of-result
invariant_of-result c = subst (λ rows. IsReady rows c.in_ok-net.net.entries) (sym c.replace.ensures.value) (ready _ _ c.in_ok-net.ensures.ordered c.in_ok-missing.ensures.room.room)

pub returns-clause-ok : goal.returns-clause-ok
returns-clause-ok c =
    let room = c.in_ok-missing.ensures.room in
    same_pending
    (ap (λ rows. fold map.remove rows c.in_ok-missing.missing.items) c.replace.ensures.value ∙ c.in_ok-missing.ensures.undone)
    (ap (λ rows. fold settled rows c.in_ok-net.net.entries) c.replace.ensures.value ∙ settled_changes _ _ _ _ c.in_ok-net.ensures room)
