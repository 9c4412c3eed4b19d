use Rattle.std.proofs.Common.{◌≡◌, ℕ, ◌≤◌, length}
use Rattle.pm_xact.specs.Reading.{tokens_of, access_within, access_after}
use Rattle.pm_xact.proofs.control.access_after.Given as goal

-- the access after the rest is that after the whole
abbrev pub invariant-loop-rest : goal.invariant-loop-rest
invariant-loop-rest l = (steps : ℕ) × (length (tokens_of l.rest) ≤ steps) × (access_within steps l.access (tokens_of l.rest) ≡ access_after l.fn.before (tokens_of l.fn.input))

abbrev pub decreases-loop-rest : goal.decreases-loop-rest
decreases-loop-rest l = length (tokens_of l.rest)
