use Rattle.std.specs.Prelude.{Result}
use Rattle.pm_once_acts.specs.Loop.{AreDone}
use Rattle.pm_server.specs.declared.end.ServerEnd.{ServerEnd}
use Rattle.pm_once_acts.proofs.acts.act_all.Given as goal

-- what is done from here on is done from the start on
abbrev pub invariant-acts : goal.invariant-acts
invariant-acts g l = record {
  may : g.A.Acting.may l.server;
  so_far : (result : Result (Unit {0}) ServerEnd) (now : _) → AreDone g.A.Acting.does result l.server now → AreDone g.A.Acting.does result l.initial.server now;
}

abbrev pub decreases-acts : goal.decreases-acts
decreases-acts g l = g.A.Acting.due l.server
