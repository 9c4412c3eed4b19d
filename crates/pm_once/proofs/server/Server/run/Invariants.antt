use Rattle.std.{proofs.Common.{List, Ok}, specs.Prelude.Bool}
use Rattle.pm_supervisor_chain.specs.Steps.{Step}
use Rattle.pm_once.specs.{Serves.{HasServed, Serves}, Service.Connection, View.view_of}
use Rattle.pm_once.proofs.server.Server.run.Given as goal

abbrev pub invariant-rounds : goal.invariant-rounds
invariant-rounds g l = record {
  steps : List Step;
  connections : List Connection;
  ended : Bool;
  serves : Serves (g.C.Clock.gives l.clock) (Ok tt) connections ended steps (view_of l.fn.self) (view_of l.server);
  served : HasServed l.seed l.conf.authentication_ms (g.C.Clock.gives l.clock) connections ended steps (g.P.Port.visits l.initial.port) (g.P.Port.visits l.port);
}
