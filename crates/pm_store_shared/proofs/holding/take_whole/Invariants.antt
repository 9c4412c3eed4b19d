use Rattle.std.proofs.Common.{◌≡◌, []}
use Rattle.pm_store_shared.{specs.Stands.{Knows, Stands}, proofs.Unchanged.IsAsFound}
use Rattle.pm_store_shared.proofs.holding.take_whole.Given as goal

abbrev pub invariant-loop : goal.invariant-loop
invariant-loop g l = (goal.iterator-loop g).can_next l.iterator' × (goal.iterator-loop g).is_finite l.iterator' × (l.seat.table_id ≡ l.fn.seat.table_id) × (l.seat.me.1 ≡ [])
    × IsAsFound Stands Knows l.fn.seat.me.0 l.seat.me.0
