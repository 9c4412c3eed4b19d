-- A store that begins its next generation.
use Rattle.std.specs.Prelude.{ℕ, ◌≤◌, List, ◌++◌}
use Rattle.pm_segment.specs.{pm_record.OnDisk.GoesOn, Children.AreOthers, Moment.Moment, Moves.Renews, Renewal.renewal}

-- The children that ended inside are gone, and whoever else is inside.
pub record HasRenewed (generation : ℕ) (lost others : List ℕ) (before now : Moment) : Type 0 where
  pub others_are : AreOthers before.inside lost others
  pub renews : Renews (renewal (lost ++ others) generation) before now
  pub time : GoesOn before.ticks now.ticks before.images now.images
  pub later : before.faults ≤ now.faults
