use Rattle.std.proofs.Common.{◌∷◌, ◌++◌, [], sym, subst}
use Rattle.pm_state.specs.{pm_modes.declared.Mode.TheVariants.Smart, declared.event.PmEvent.TheVariants.Asked}
use Rattle.pm_supervisor_chain.specs.Steps.{Notes}
use Rattle.pm_supervisor_journal.{specs.{Standing.{Standing, later}, Supervision.at_work, Due.AreSays}, proofs.RulesLaws.ask_says}
use Rattle.pm_once.{specs.View.{View, view_of}, proofs.{Alls.running_on, Calling.{asked, deaf}, Finishing.{asks_err, asks_ok}, Past.past_of}}
use Rattle.pm_once.proofs.server.Server.ask_smart.Goals as goal

pub ask-requires-clause-stands : goal.ask-requires-clause-stands
ask-requires-clause-stands g c = past_of (view_of c.args.self.now) c.requires.running

pub act_all-requires : goal.act_all-requires
act_all-requires g c =
    let v : View = view_of c.args.self.now in
    let w = at_work c.ask.new.self in
    let one = asked c.laws.ensures.steps c.laws.ensures.work (g.C.Clock.gives c.args.clock.now) c.now.result v w c.now.ensures c.requires.rests c.requires.due c.in-Ok.ensures.standing c.in-Ok.ensures.told in
    running_on (g.C.Clock.gives c.args.clock.now) (Notes (Asked Smart (later c.now.result v.work.standing)) ∷ []) v (deaf v w) c.requires.running one.goes one.stays

pub returns-in-Ok-clause-asks : goal.returns-in-Ok-clause-asks
returns-in-Ok-clause-asks g c =
    let v : View = view_of c.args.self.now in
    let w = at_work c.ask.new.self in
    let acts = c.act_all.ensures.does in (
      (Notes (Asked Smart (later c.now.result v.work.standing)) ∷ []) ++ acts.0,
      asks_ok c.laws.ensures.steps c.laws.ensures.work (g.C.Clock.gives c.args.clock.now) c.now.result v w c.act_all.result acts.0 _ c.now.ensures c.requires.rests c.requires.due c.in-Ok.ensures.standing c.in-Ok.ensures.told acts.1
          (λ says. (c.act_all.ensures.said says).0),
    )

pub returns-in-Ok-clause-store : goal.returns-in-Ok-clause-store
returns-in-Ok-clause-store g c =
    let v : View = view_of c.args.self.now in
    (c.act_all.ensures.said (subst (λ (t : Standing). AreSays t.due) (sym c.in-Ok.ensures.standing) (ask_says v.work.standing.machine (later c.now.result v.work.standing)))).1

pub returns-in-Err-clause-asks : goal.returns-in-Err-clause-asks
returns-in-Err-clause-asks g c =
    let v : View = view_of c.args.self.now in
    ([], asks_err (g.C.Clock.gives c.args.clock.now) v (at_work c.ask.new.self) c.requires.rests c.in-Err.ensures.refused.0 c.in-Err.ensures.refused.1)
