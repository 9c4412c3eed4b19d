use Rattle.std.proofs.{Common.{◌≡◌, ◌-◌, All, drop, take, sym, ap, subst, ◌∙◌, arith, length}, lemmas.List.{length-drop, length-take, length-take-le, Elements.All-drop}}
use Rattle.pm_rows.specs.{Batch.IsCommit, Limits.max_commits}
use Rattle.pm_stage.{specs.Naming.{counted, times_named}, proofs.Counting.{at_of, times_left}}
use Rattle.pm_stage.proofs.Stage.flushed.Goals as goal

pub slice_bounds-discount_commits-end : goal.slice_bounds-discount_commits-end
slice_bounds-discount_commits-end c =
    sym (length-take-le (c.args.upto - c.self.inside.flushed) c.deref.result.now
    (omega (arith, c.requires.within, c.requires.later, ap (λ w. w.flushed) c.self.view_is, ap (λ w. length w.commits) c.self.view_is, length-take max_commits c.args.self.now.commits, ap length c.deref.ensures.value)))

pub drain-requires-clause-in_bounds : goal.drain-requires-clause-in_bounds
drain-requires-clause-in_bounds c = omega (arith, c.requires.within, c.requires.later, ap (λ w. w.flushed) c.self.view_is, ap (λ w. length w.commits) c.self.view_is, length-take max_commits c.args.self.now.commits)

pub invariant_of-self : goal.invariant_of-self
invariant_of-self c =
    let gone = c.args.upto - c.self.inside.flushed in
    let names = c.self.inside.names in
    let commits = c.self.inside.commits.items in
    let left : c.drop-drain.new.self.0.items ≡ drop gone commits = c.drop-drain.ensures.items ∙ c.drain.ensures.kept in (
      omega (arith, c.requires.later, c.self.invariant.0, ap length left, length-drop gone commits, c.requires.within, ap (λ w. w.flushed) c.self.view_is, ap (λ w. length w.commits) c.self.view_is, length-take max_commits c.args.self.now.commits),
      subst (All IsCommit) (sym left) (All-drop IsCommit gone commits c.self.invariant.1),
      λ key.
          c.discount_commits.ensures key
          ∙ ap (λ n. counted (n - times_named key (take gone c.deref.result.now))) (at_of names (λ k. times_named k commits) c.self.invariant.2 key)
          ∙ ap (λ cs. counted (times_named key commits - times_named key (take gone cs))) c.deref.ensures.value
          ∙ ap counted (times_left commits gone key)
          ∙ ap (λ cs. counted (times_named key cs)) (sym left),
    )
