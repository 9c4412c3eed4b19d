use Rattle.std.proofs.Common.{◌≡◌, ◌++◌, length}
use Rattle.pm_serve_pool.proofs.stock.listed.Given as goal

abbrev pub invariant-loop-post : goal.invariant-loop-post
invariant-loop-post g l = l.list.items ++ l.posts.left.items ≡ l.fn.posts.left.items

abbrev pub decreases-loop-post : goal.decreases-loop-post
decreases-loop-post g l = length l.posts.left.items
