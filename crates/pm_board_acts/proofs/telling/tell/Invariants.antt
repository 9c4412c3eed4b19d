use Rattle.std.proofs.Common.{◌≡◌, take}
use Rattle.pm_board_acts.specs.{Seating.sends, Board.{after_steps, seats_of}}
use Rattle.pm_board_acts.proofs.telling.tell.Given as goal

abbrev pub invariant-loop-slot : goal.invariant-loop-slot
invariant-loop-slot g l = record {
  table : l.roster.table ≡ l.fn.roster.table;
  knows : l.roster.knows ≡ after_steps l.fn.roster.knows
      (sends l.who l.signal l.fn.roster.knows.generation (take l.slot (seats_of l.fn.roster.knows)));
}
