use Rattle.std.proofs.Common.{ℕ, ◌≡◌, ◌+◌, length}
use Rattle.pm_serve_pool.specs.Works.{EachFrom, HasTakenBack, IsUnusedWork}
use Rattle.pm_serve_pool.proofs.refusing.take_all_back.Given as goal

-- so many are back
abbrev pub invariant-loop-work : goal.invariant-loop-work
invariant-loop-work g l =
    (n : ℕ) × (n + length l.works.items ≡ length l.fn.works.items) × HasTakenBack n l.fn.shared l.shared
    × EachFrom (IsUnusedWork l.fn.shared.table) (length l.fn.shared.joined + n) l.works.items

abbrev pub decreases-loop-work : goal.decreases-loop-work
decreases-loop-work g l = length l.works.items
