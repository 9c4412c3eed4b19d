use Rattle.std.proofs.Common.{◌≡◌, ℕ, List, length}
use Rattle.pm_board.specs.{Slots.child_slots, Told.with_notes}
use Rattle.pm_latch.specs.Cancelling.{request, HasKey, noted_looks, NoneFor}
use Rattle.pm_latch.proofs.cancel.Given as goal

abbrev pub invariant-loop-slot : goal.invariant-loop-slot
invariant-loop-slot g l = (l.post.table ≡ l.fn.post.table) × (l.post.slot ≡ l.fn.post.slot) × (l.post.home ≡ l.fn.post.home) × (l.slot-end ≡ child_slots l.fn.post.table.slots) × HasKey (request l.fn.seed l.fn.pid l.fn.key)
    × ((words : List ℕ) × (length words ≡ l.slot) × NoneFor l.fn.pid words × (l.post.knows ≡ with_notes l.fn.post.knows (noted_looks l.fn.post.knows.notes words)))
