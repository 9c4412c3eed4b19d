use Rattle.std.proofs.{Common.{sym, ap, subst, ◌∙◌, arith}, lemmas.List.Sums.fold_more}
use Rattle.pm_tables.{specs.{Tables.{changed}, Fates.AreFates}}
use Rattle.pm_tables.proofs.tables.Tables.fates.Goals as goal

pub loop-change-preserved : goal.loop-change-preserved
loop-change-preserved c =
    subst (λ tables. AreFates c.args.self.now tables c.note.new.fates)
    (ap (changed _) c.change-item.is ∙ sym (fold_more changed c.args.self.now _ c.loop-change.change-index c.change-item.result (omega arith)))
    (c.in_ok-note.ensures _ c.loop-change.invariant)
