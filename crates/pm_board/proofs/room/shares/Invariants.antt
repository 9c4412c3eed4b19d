use Rattle.std.{proofs.Common.{◌≡◌, ◌≤◌, vec_len}, specs.Prelude.vec_capacity}
use Rattle.pm_board.specs.Rooms.{AreShares}
use Rattle.pm_board.proofs.room.shares.Given as goal

abbrev pub invariant-loop : goal.invariant-loop
invariant-loop g l = (l.counter ≤ l.count) × (vec_len l.all ≡ l.counter) × (vec_capacity l.all ≡ l.count) × AreShares l.words l.counter l.all.items
