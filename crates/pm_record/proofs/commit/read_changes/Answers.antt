use Rattle.std.{proofs.{Common.{◌-◌, ◌+◌, ap, ap₂, ◌∙◌, sym, ℕ, List, refl}, lemmas.Result.err_from_is_err_and}, specs.Prelude.fold}
use Rattle.pm_rows.specs.declared.commit.Change.{Change}
use Rattle.pm_record.{specs.{Bodies.change_left, Changes.change_at, Repeated.items_at}, proofs.Loops.{with_front, items_go_on, items_end, fold_more}}
use Rattle.pm_record.proofs.commit.read_changes.Goals as goal

pub loop-i-preserved : goal.loop-i-preserved
loop-i-preserved c =
    let left = c.less-left.ensures in (
      left ∙ ap (λ (s : ℕ). change_left s c.in_ok-change.change) c.loop-i.invariant.0 ∙ sym (fold_more change_left c.args.start c.loop-i.commit c.in_ok-change.change) ∙ ap (fold change_left c.args.start) (sym c.in_ok-push.ensures.ok),
      ap₂ (λ (s : ℕ) (front : List Change). with_front front (items_at (λ n. change_at n c.args.c) change_left (c.args.count - (c.loop-i.i + 1)) s c.in_ok-change.after.now)) left c.in_ok-push.ensures.ok
          ∙ items_go_on (λ n. change_at n c.args.c) change_left c.loop-i.commit c.args.count c.loop-i.i c.loop-i.left c.loop-i.rest.now _ c.loop-i.invariant.1 c.loop-i-test.true c.in_ok-change.change c.in_ok-change.after.now _ refl c.in_ok-change.ensures,
    )

pub returns-in_err-change-clause-read : goal.returns-in_err-change-clause-read
returns-in_err-change-clause-read c =
    let p = err_from_is_err_and c.from_residual.result c.from_residual.ensures.1 in
    rw (p.1, p.2) (items_end (λ n. change_at n c.args.c) change_left c.loop-i.commit c.args.count c.loop-i.i c.loop-i.left c.loop-i.rest.now (items_at (λ n. change_at n c.args.c) change_left c.args.count c.args.start c.args.bytes.now) c.loop-i.invariant.1 c.loop-i-test.true c.in_err-change.field-0.0 c.in_err-change.ensures)
