use Rattle.std.proofs.Common.{sym, subst, rules}
use Rattle.pm_board.specs.Models.{MayAttach}
use Rattle.pm_board_life.{specs.Lives.LivesAs, proofs.Living.{may_attach, goes, attaches, let_in}}
use Rattle.pm_board_life.proofs.post_life.PostLifeLife.attach.Goals as goal

pub attach-requires : goal.attach-requires
attach-requires g c = may_attach c.self.inside.pid c.self.inside.attached c.self.inside.post.knows.work c.self.invariant.0 (search rules) (search rules)

pub invariant_of-self : goal.invariant_of-self
invariant_of-self g c =
    let may : MayAttach c.self.inside.post.knows.work = may_attach c.self.inside.pid c.self.inside.attached c.self.inside.post.knows.work c.self.invariant.0 (search rules) (search rules) in (
      subst (LivesAs c.self.inside.pid c.self.inside.attached) (sym c.in_err-token.ensures.refused.0) c.self.invariant.0,
      goes _ _ (attaches c.self.inside.seed c.self.inside.cancel c.self.inside.post c.attach.new.post c.args.is_ordinary c.attach.result may c.attach.ensures.table c.attach.ensures.slot c.attach.ensures.met) g.K.Begun.begun
          c.self.invariant.1,
    )

pub invariant_of-self-2 : goal.invariant_of-self-2
invariant_of-self-2 g c =
    let may : MayAttach c.self.inside.post.knows.work = may_attach c.self.inside.pid c.self.inside.attached c.self.inside.post.knows.work c.self.invariant.0 (search rules) (search rules) in
    let follows = attaches c.self.inside.seed c.self.inside.cancel c.self.inside.post c.attach.new.post c.args.is_ordinary c.attach.result may c.attach.ensures.table c.attach.ensures.slot c.attach.ensures.met in (
      let_in c.self.inside.pid c.self.inside.attached c.in_ok-token.token c.self.inside.post.knows.work c.attach.new.post.knows.work c.self.invariant.0 may follows.child
          c.in_ok-token.ensures.attached,
      goes _ _ follows g.K.Begun.begun c.self.invariant.1,
    )
