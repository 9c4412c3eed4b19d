use Rattle.std.proofs.Common.{◌≡◌, false, []}
use Rattle.pm_session_exchange.specs.{pm_query.Calls.user_of, Exchange.IsSound}
use Rattle.pm_session.specs.Turns.{Conversing, at_desk}
use Rattle.pm_session.proofs.desk.Desk.converse.Given as goal

abbrev pub invariant-loop : goal.invariant-loop
invariant-loop g l = record {
  talks : Conversing g.W.Store.notes (g.C.Clock.gives l.initial.means.clock.now) (user_of (g.W.Store.stamp l.initial.self.work) (g.W.Store.view l.initial.pass)) (at_desk l.initial.self l.initial.inbox) (at_desk l.self l.inbox);
  admits : g.W.Store.admits l.self.work l.pass;
  user : user_of (g.W.Store.stamp l.self.work) (g.W.Store.view l.pass) ≡ user_of (g.W.Store.stamp l.initial.self.work) (g.W.Store.view l.initial.pass);
  holds : IsSound false l.initial.self.link.traffic → IsSound false l.self.link.traffic;
  empty : l.self.outbox.bytes ≡ [];
}
