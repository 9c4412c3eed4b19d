use Rattle.std.proofs.Common.{◌++◌, ◌∷◌, [], sym, ◌∙◌}
use Rattle.pm_supervisor_journal.specs.Supervision.{at_work}
use Rattle.pm_once.{specs.View.{View, view_of}, proofs.{Admitting.{HasTaken, accepted_step, admits_asking, admits_plainly}, Alls.running_on, Ending.taken, Past.past_of}}
use Rattle.pm_once.proofs.server.Server.admit.Goals as goal

pub take-pid-requires-clause-stands : goal.take-pid-requires-clause-stands
take-pid-requires-clause-stands g c = past_of (view_of c.args.self.now) c.requires.running

pub ask_smart-settled-requires-clause-running : goal.ask_smart-settled-requires-clause-running
ask_smart-settled-requires-clause-running g c =
    let v : View = view_of c.args.self.now in
    let w = at_work c.take-pid.new.self in
    let gives = g.C.Clock.gives c.args.clock.now in
    let one = taken c.laws.ensures.steps c.laws.ensures.work gives v w c.requires.idle.rests c.requires.settled c.requires.may c.take-pid.ensures.standing c.take-pid.ensures.told in
    running_on gives (accepted_step v ∷ []) v (record v { work = w }) c.requires.running one.goes one.stays

pub returns-then-owes_smart-clause-admits : goal.returns-then-owes_smart-clause-admits
returns-then-owes_smart-clause-admits g c =
    let v : View = view_of c.args.self.now in
    let w = at_work c.take-pid.new.self in
    let gives = g.C.Clock.gives c.args.clock.now in
    let one = taken c.laws.ensures.steps c.laws.ensures.work gives v w c.requires.idle.rests c.requires.settled c.requires.may c.take-pid.ensures.standing c.take-pid.ensures.told in
    let running = running_on gives (accepted_step v ∷ []) v (record v { work = w }) c.requires.running one.goes one.stays in
    let took : HasTaken v w = record { rests = c.requires.idle.rests; settled = c.requires.settled; may = c.requires.may; ok = c.requires.served; standing = c.take-pid.ensures.standing; told = c.take-pid.ensures.told } in
    let asks = c.ask_smart-settled.ensures.asks in (
      (accepted_step v ∷ []) ++ asks.0,
      admits_asking c.laws.ensures.steps c.laws.ensures.work gives v w c.take-pid.result.pid c.ask_smart-settled.result asks.0 _ took c.take-pid.ensures.pid (sym c.owes_smart.ensures ∙ c.if-owes_smart.true) running asks.1,
    )

pub returns-clause-admits : goal.returns-clause-admits
returns-clause-admits g c =
    let v : View = view_of c.args.self.now in
    let w = at_work c.take-pid.new.self in
    let gives = g.C.Clock.gives c.args.clock.now in
    let took : HasTaken v w = record { rests = c.requires.idle.rests; settled = c.requires.settled; may = c.requires.may; ok = c.requires.served; standing = c.take-pid.ensures.standing; told = c.take-pid.ensures.told } in
    (accepted_step v ∷ [], admits_plainly c.laws.ensures.steps c.laws.ensures.work gives v w c.take-pid.result.pid took c.take-pid.ensures.pid (sym c.owes_smart.ensures ∙ c.if-owes_smart.false))
