pub mod Answers
pub mod Apart
pub mod ApartLaws
pub mod Begun
pub mod Causes
pub mod Children
pub mod Epochs
pub mod Flushes
pub mod Fronts
pub mod Lending
pub mod Moment
pub mod Moves
pub mod MovesLaws
pub mod Passes
pub mod Pieces
pub mod ReadsApart
pub mod Redos
pub mod Renewal
pub mod Rests
pub mod Runs
pub mod Stands
pub mod Unread
pub mod UnreadLaws
pub mod Waits
pub use Rattle.pm_disk.specs as pm_disk
pub use Rattle.pm_outside.specs as pm_outside
pub use Rattle.pm_record.specs as pm_record
pub use Rattle.pm_query.specs as pm_query
pub use Rattle.pm_redo.specs as pm_redo
pub use Rattle.pm_log.specs as pm_log
