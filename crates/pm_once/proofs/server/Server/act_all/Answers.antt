use Rattle.pm_once.{specs.View.view_of, proofs.Alls.acts_through}
use Rattle.pm_once.proofs.server.Server.act_all.Goals as goal

pub returns-clause-does : goal.returns-clause-does
returns-clause-does g c =
    let all = acts_through view_of (λ server. server.store) c.act_all.result c.act_all.ensures.passed c.args.self.now c.act_all.new.server c.act_all.ensures.each in
    (all.0, all.1)

pub returns-clause-said : goal.returns-clause-said
returns-clause-said g c = (acts_through view_of (λ server. server.store) c.act_all.result c.act_all.ensures.passed c.args.self.now c.act_all.new.server c.act_all.ensures.each).2
