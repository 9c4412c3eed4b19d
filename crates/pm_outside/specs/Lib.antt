pub mod Added
pub mod Calls
pub mod Held
pub mod Holds
pub mod Kept
pub mod Lines
pub mod MemClock
pub mod MemConsole
pub mod MemLink
pub mod MemPort
pub mod MemSink
pub mod Traffic
pub mod Visits
pub use Rattle.pm_disk.specs as pm_disk
