use Rattle.std.proofs.Common.{ap, sym, ◌∙◌, Some, subst}
use Rattle.pm_child_life.specs.Life.{asked_again}
use Rattle.pm_board_life.{specs.Lives.{LivesAs, told_by}, proofs.Living.{runs, told_more, goes, takes}}
use Rattle.pm_board_life.proofs.post_life.PostLifeLife.signals.Goals as goal

pub take-requires : goal.take-requires
take-requires g c = runs c.self.inside.pid c.self.inside.attached c.self.inside.post.knows.work c.self.invariant.0

pub invariant_of-self : goal.invariant_of-self
invariant_of-self g c =
    let child = runs c.self.inside.pid c.self.inside.attached c.self.inside.post.knows.work c.self.invariant.0 in (
      subst (LivesAs c.self.inside.pid c.self.inside.attached) (sym c.take.ensures.work) c.self.invariant.0,
      goes _ _ (takes c.take.result c.self.inside.seed c.self.inside.cancel c.self.inside.post c.take.new.post child c.take.ensures.table c.take.ensures.slot c.take.ensures.work c.take.ensures.met) g.K.Begun.begun
          c.self.invariant.1,
    )

pub returns-clause-told : goal.returns-clause-told
returns-clause-told g c =
    let child = runs c.self.inside.pid c.self.inside.attached c.self.inside.post.knows.work c.self.invariant.0 in
    ap Some
    (told_more c.take.result c.self.inside.post.knows c.take.new.post.knows c.self.inside.cancel child c.take.ensures.met
    ∙ ap (λ l. asked_again c.take.result (told_by l.post.knows.notes.now l.cancel)) c.self.view_is)
