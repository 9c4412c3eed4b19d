use Rattle.std.{proofs.Common.◌≡◌, specs.Prelude.false}
use Rattle.pm_board_acts.specs.Final.{AreFree}
use Rattle.pm_postmaster.specs.Clearing.{Clears}
use Rattle.pm_postmaster.proofs.clearing.clear_once.Given as goal

abbrev pub invariant-loop-slot : goal.invariant-loop-slot
invariant-loop-slot g l = record {
  clears : Clears l.fn.roster.table l.fn.roster.knows (g.P.Port.visits l.fn.port) l.roster.table l.roster.knows (g.P.Port.visits l.port);
  free : l.running ≡ false → AreFree l.slot l.roster.knows;
}
