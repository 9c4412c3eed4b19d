use Rattle.std.proofs.{Common.{w64, sym, ap, ◌∙◌, arith}, lemmas.Int.to_z-of_z}
use Rattle.pm_rows.proofs.NetChangesLaws.{net_more}
use Rattle.pm_rows.proofs.apply.net_changes_of.Goals as goal

pub loop-change-preserved : goal.loop-change-preserved
loop-change-preserved c =
    net_more _ _ c.change-item.result c.loop-change.net c.insert.new.self c.loop-change.invariant (omega arith) (sym c.change-item.is) c.insert.ensures.ordered
    _ _ (to_z-of_z w64 c.in_ok-key.key c.in_ok-key.ensures.range ∙ ap (λ p. p.0) c.in_ok-key.ensures.value) (ap (λ p. p.1) c.in_ok-key.ensures.value) c.in_ok-insert.ensures.updates
