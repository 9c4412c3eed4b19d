use Rattle.std.proofs.Common.{[], ◌∷◌, ◌++◌, ap, ◌∙◌, List, ℕ}
use Rattle.pm_startup.{specs.Parameters.{Parameter, pairs}, proofs.Bodies.{Tells-push, pairs-push, each-push}}
use Rattle.pm_startup.proofs.parameters.settings_of.Goals as goal

pub pairs-preserved : goal.pairs-preserved
pairs-preserved c =
    let so_far = c.pairs.invariant in
    let p : Parameter = record { name = c.in-Pair.name.now; value = c.in-Pair.value.now } in (
      so_far.0 ++ p ∷ [],
      each-push so_far.0 p so_far.1 c.in-Pair.ensures.item.0,
      so_far.2 ∙ ap (λ (rest : List ℕ). pairs so_far.0 ++ rest) c.in-Pair.ensures.item.1 ∙ pairs-push so_far.0 p c.in-Pair.after.now,
      Tells-push c.pairs.settings c.with-settings.result so_far.0 p c.with-settings.ensures.user c.with-settings.ensures.option c.with-settings.ensures.replication so_far.3,
    )
