use Rattle.std.proofs.Common.{ℕ, ◌≡◌, ◌≤◌, ◌+◌, All, length, vec_len}
use Rattle.pm_serve_pool.{specs.{Plan.{sessions_of, slots_of}, Works.{EachFrom, IsWorkOf}}, proofs.Filling.{IsNewToken, IsPostOf}}
use Rattle.pm_serve_pool.proofs.making.fill.Given as goal

abbrev pub invariant-loop-token : goal.invariant-loop-token
invariant-loop-token g l =
    record {
      tokens : EachFrom (IsNewToken l.shared.table l.shared.first) 0 l.tokens;
      posts : EachFrom (IsPostOf l.fn.stock.roster.table (sessions_of l.terms.plan.limits)) 0 l.posts.items;
      count_posts : vec_len l.posts ≡ length l.tokens;
      count_clocks : vec_len l.clocks ≡ length l.tokens;
      count_callers : vec_len l.callers ≡ length l.tokens;
      gives : All (λ clock. (moment : ℕ) → g.C.Clock.gives clock moment → g.C.Clock.gives l.terms.clock.value moment) l.clocks.items;
      count : length l.works.items + length l.tokens ≡ slots_of l.terms.plan;
      room : slots_of l.terms.plan ≤ l.works.cap;
      works : EachFrom (IsWorkOf g.C.Clock.gives l.terms l.fn.stock.roster.table l.shared.table l.shared.first) (length l.tokens) l.works.items;
    }

abbrev pub decreases-loop-token : goal.decreases-loop-token
decreases-loop-token g l = length l.tokens
