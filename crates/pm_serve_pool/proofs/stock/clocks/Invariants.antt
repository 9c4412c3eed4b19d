use Rattle.std.{proofs.Common.{ℕ, ◌≡◌, ◌≤◌, All, vec_len}, specs.Prelude.vec_capacity}
use Rattle.pm_serve_pool.proofs.stock.clocks.Given as goal

abbrev pub invariant-loop-slot : goal.invariant-loop-slot
invariant-loop-slot g l =
    record {
      few : l.slot ≤ l.count;
      count : vec_len l.clocks ≡ l.slot;
      room : vec_capacity l.clocks ≡ l.count;
      gives : All (λ clock'. (moment : ℕ) → g.C.Clock.gives clock' moment → g.C.Clock.gives l.clock moment) l.clocks.items;
    }
