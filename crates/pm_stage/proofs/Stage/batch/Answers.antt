use Rattle.std.proofs.{Common.{◌∙◌, sym, ap, take, min}, lemmas.List.take_min}
use Rattle.pm_stage.proofs.Stage.batch.Goals as goal

pub returns-clause-value : goal.returns-clause-value
returns-clause-value c =
    ap (λ n. take n c.deref.result.now) (c.min-few.ensures ∙ ap (min 256) (c.len.ensures ∙ sym c.deref.ensures.len))
    ∙ take_min 256 c.deref.result.now ∙ ap (take 256) (c.deref.ensures.value ∙ ap (λ w. w.commits) c.self.view_is)
