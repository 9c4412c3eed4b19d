pub mod Print
pub mod Log
pub use Rattle.pm_disk.specs as pm_disk
pub use Rattle.pm_record.specs as pm_record
