use Rattle.std.proofs.Common.{◌≡◌}
use Rattle.pm_halves.specs.Places.{turned_by}
use Rattle.pm_halves.proofs.places.turn_by.Given as goal

abbrev pub invariant-loop : goal.invariant-loop
invariant-loop g l = (l.seat.table_id ≡ l.fn.seat.table_id) × (l.seat.id ≡ l.fn.seat.id) × (l.seat.me ≡ (l.fn.seat.me.0, turned_by l.counter l.fn.seat.me.1))
