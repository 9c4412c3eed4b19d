use Rattle.std.proofs.Common.{◌≤◌, length}
use Rattle.pm_server_lines.proofs.PrintLaws.{IsUpTo}
use Rattle.pm_server_lines.proofs.printing.print.Given as goal

abbrev pub invariant-loop-rest : goal.invariant-loop-rest
invariant-loop-rest g l = record {
  said : IsUpTo l.text l.rest (g.O.Sink.written l.initial.sink) (g.O.Sink.written l.sink);
  counted : g.O.Sink.faults l.initial.sink ≤ g.O.Sink.faults l.sink;
}

abbrev pub decreases-loop-rest : goal.decreases-loop-rest
decreases-loop-rest g l = length l.rest
