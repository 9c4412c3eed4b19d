pub mod Base
pub mod Bodies
pub mod Calls
pub mod Changes
pub mod Damage
pub mod File
pub mod Found
pub mod Gated
pub mod OnDisk
pub mod Pair
pub mod Reading
pub mod Repeated
pub mod Spelling
pub mod StandsFor
pub use Rattle.pm_rows.specs.pm_facts as pm_facts
pub use Rattle.pm_rows.specs as pm_rows
pub use Rattle.pm_disk.specs as pm_disk
