use Rattle.pm_session.{specs.Entry.{Asked}, proofs.Entries.{WasRead}}
use Rattle.pm_session_exchange.specs.Moments.{outside}
use Rattle.pm_session.proofs.startup.startup.Given as goal

abbrev pub invariant-loop : goal.invariant-loop
invariant-loop g l = record {
  asked : Asked l.phase (outside l.fn.line.link l.fn.inbox l.fn.line.child) (outside l.line.link l.inbox l.line.child);
  read : WasRead l.line.link;
  rests : g.W.Seat.rests l.fn.line.work l.line.work;
}
