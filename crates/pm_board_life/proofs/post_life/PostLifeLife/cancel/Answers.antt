use Rattle.std.{proofs.Common.{◌∙◌, ap, sym, subst}, specs.Option.option_to_list}
use Rattle.pm_board_life.{specs.Lives.LivesAs, proofs.Living.{asks, goes}}
use Rattle.pm_board_life.proofs.post_life.PostLifeLife.cancel.Goals as goal

pub invariant_of-self : goal.invariant_of-self
invariant_of-self g c =
    let first = ap (λ l. option_to_list l.cancel) c.self.view_is ∙ c.requires in
    let asked = asks c.self.inside.cancel first c.self.inside.seed c.args.pid c.args.key c.cancel.result c.self.inside.post c.cancel.new.post c.cancel.ensures.table c.cancel.ensures.slot c.cancel.ensures.met in
    (subst (LivesAs c.self.inside.pid c.self.inside.attached) (sym c.cancel.ensures.work) c.self.invariant.0, goes _ _ asked.0 g.K.Begun.begun c.self.invariant.1)
