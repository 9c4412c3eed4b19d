-- What a server remembers of its store, and what holds of the store then.
use Rattle.std.specs.Prelude.{ℕ}
use Rattle.pm_once_children.specs.{pm_segment.Moves.IsCountedFrom, Outcomes.HasComeTo}
use Rattle.pm_once.specs.View.{View}

-- so it is, where the disk's count of faults was this one at first
pub record Knows (from : ℕ) (v : View) : Type 0 where
  pub counted : IsCountedFrom from v.store.faults v.store.live
  pub come : HasComeTo v.outcome from v.store
