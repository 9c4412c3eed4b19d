use Rattle.std.proofs.Common.{length}
use Rattle.pm_store_tests.specs.Seats.{AreParted}
use Rattle.pm_store_tests.proofs.shared.crowd.put_back.Given as goal

abbrev pub invariant-loop-token : goal.invariant-loop-token
invariant-loop-token l = AreParted l.fn.shared.table l.fn.shared.tokens l.tokens l.seats.items

abbrev pub decreases-loop-token : goal.decreases-loop-token
decreases-loop-token l = length l.seats.items
