pub mod Worked
pub use Rattle.pm_disk.specs as pm_disk
pub use Rattle.pm_redo.specs as pm_redo
