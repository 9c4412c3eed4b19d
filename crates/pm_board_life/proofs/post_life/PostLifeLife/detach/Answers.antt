use Rattle.std.proofs.Common.{ap, sym, ◌∙◌, Some, subst}
use Rattle.pm_child_life.specs.Life.{let_go}
use Rattle.pm_board_life.{specs.Lives.{LivesAs, child_by, told_by}, proofs.Living.{is_attached, goes, lets, Lets}}
use Rattle.pm_board_life.proofs.post_life.PostLifeLife.detach.Given as given
use Rattle.pm_board_life.proofs.post_life.PostLifeLife.detach.Goals as goal

pub detach-requires-clause-attached : goal.detach-requires-clause-attached
detach-requires-clause-attached g c =
    is_attached c.self.inside.pid c.in-Some.token c.self.inside.post.knows.work
    (subst (λ a. LivesAs c.self.inside.pid a c.self.inside.post.knows.work) (sym c.take.ensures.value ∙ c.in-Some.is) c.self.invariant.0)

it : (g : given.Over) (c : goal.After-detach g) → Lets c.self.inside.pid c.self.inside.seed c.self.inside.cancel c.self.inside.post c.detach.new.post
it g c =
    lets c.self.inside.pid c.in-Some.token c.self.inside.seed c.self.inside.cancel c.self.inside.post c.detach.new.post
    (subst (λ a. LivesAs c.self.inside.pid a c.self.inside.post.knows.work) (sym c.take.ensures.value ∙ c.in-Some.is) c.self.invariant.0)
    c.detach.ensures.table c.detach.ensures.slot c.detach.ensures.knows

pub invariant_of-self : goal.invariant_of-self
invariant_of-self g c =
    (subst (λ a. LivesAs c.self.inside.pid a c.detach.new.post.knows.work) (sym c.take.ensures.after) (it g c).lives, goes _ _ (it g c).follows g.K.Begun.begun c.self.invariant.1)

pub returns-clause-child : goal.returns-clause-child
returns-clause-child g c = (it g c).child ∙ ap (λ l. let_go (child_by l.post.knows.work)) c.self.view_is

pub returns-clause-told : goal.returns-clause-told
returns-clause-told g c = ap Some (ap (λ now. told_by now c.self.inside.cancel) (it g c).now ∙ ap (λ l. told_by l.post.knows.notes.now l.cancel) c.self.view_is)
