pub mod Answer
pub mod AtTick
pub mod Book
pub mod BookLaws
pub mod Calls
pub mod Changes
pub mod Draft
pub mod Durable
pub mod History
pub mod Laws
pub mod Limits
pub mod Merge
pub mod Run
pub mod TickLaws
pub mod WorkedBooks
pub use Rattle.pm_rows.specs.pm_facts as pm_facts
pub use Rattle.pm_rows.specs as pm_rows
pub use Rattle.pm_disk.specs as pm_disk
pub use Rattle.pm_sql.specs as pm_sql
pub use Rattle.pm_record.specs as pm_record
pub use Rattle.pm_child_life.specs as pm_child_life
