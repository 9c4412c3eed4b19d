use Rattle.std.proofs.Common.{[]}
use Rattle.pm_supervisor_journal.specs.Supervision.{at_work}
use Rattle.pm_once.{specs.View.{View, view_of}, proofs.{Past.past_of, Turns.{turn_running, turns_err, turns_ok}}}
use Rattle.pm_once.proofs.server.Server.turn.Goals as goal

pub turn-requires-clause-stands : goal.turn-requires-clause-stands
turn-requires-clause-stands g c = past_of (view_of c.args.self.now) c.requires.running

pub act_all-requires : goal.act_all-requires
act_all-requires g c =
    let v : View = view_of c.args.self.now in
    turn_running c.laws.ensures.work v (at_work c.turn.new.self) c.requires.running c.requires.idle c.in-Ok.ensures.standing c.turn.ensures.told

pub returns-in-Ok : goal.returns-in-Ok
returns-in-Ok g c =
    let v : View = view_of c.args.self.now in
    let acts = c.act_all.ensures.does in
    (acts.0, turns_ok c.laws.ensures.work v (at_work c.turn.new.self) c.act_all.result acts.0 _ c.requires.idle c.in-Ok.ensures.standing c.turn.ensures.told c.in-Ok.ensures.settled acts.1)

pub returns-in-Err : goal.returns-in-Err
returns-in-Err g c =
    let v : View = view_of c.args.self.now in
    ([], turns_err v (at_work c.turn.new.self) c.in-Err.ensures.refused c.turn.ensures.told)
