use Rattle.std.proofs.Common.{◌≡◌, ℕ, ◌≤◌, ◌<◌}
use Rattle.pm_record.specs.{File.{told, room_for, room_in, batch_step, batches_at}, Gated.through_gates}
use Rattle.pm_record.proofs.batch.batches_into.Given as goal

abbrev pub invariant-gates : goal.invariant-gates
invariant-gates l =
    (l.progress.batches ≤ l.progress.count)
    × ((most : ℕ) × (room_for l.progress.count < most) × (through_gates batch_step room_in most (told l.progress) l.rest ≡ batches_at (told l.fn.start) l.bytes))

abbrev pub decreases-gates : goal.decreases-gates
decreases-gates l = room_for l.progress.count
