pub mod Moment
pub mod PartLaws
pub use Rattle.pm_store_apart.specs.Answers
pub use Rattle.pm_store_apart.specs.Apart
pub use Rattle.pm_store_apart.specs.ApartLaws
pub use Rattle.pm_store_apart.specs.Begun
pub use Rattle.pm_store_apart.specs.Causes
pub use Rattle.pm_store_apart.specs.Children
pub use Rattle.pm_store_apart.specs.Epochs
pub use Rattle.pm_store_apart.specs.Flushes
pub use Rattle.pm_store_apart.specs.Fronts
pub use Rattle.pm_store_apart.specs.Lending
pub use Rattle.pm_store_apart.specs.Moves
pub use Rattle.pm_store_apart.specs.MovesLaws
pub use Rattle.pm_store_apart.specs.Passes
pub use Rattle.pm_store_apart.specs.Pieces
pub use Rattle.pm_store_apart.specs.ReadsApart
pub use Rattle.pm_store_apart.specs.Redos
pub use Rattle.pm_store_apart.specs.Renewal
pub use Rattle.pm_store_apart.specs.Rests
pub use Rattle.pm_store_apart.specs.Runs
pub use Rattle.pm_store_apart.specs.Stands
pub use Rattle.pm_store_apart.specs.Unread
pub use Rattle.pm_store_apart.specs.UnreadLaws
pub use Rattle.pm_store_apart.specs.Waits
pub use Rattle.pm_disk.specs as pm_disk
pub use Rattle.pm_outside.specs as pm_outside
pub use Rattle.pm_record.specs as pm_record
pub use Rattle.pm_query.specs as pm_query
pub use Rattle.pm_redo.specs as pm_redo
pub use Rattle.pm_store_apart.specs as pm_store_apart
