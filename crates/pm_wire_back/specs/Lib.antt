pub mod Letters
pub mod Parts
pub mod BackReading
pub mod Received
pub mod Failing
pub mod Plain
pub use Rattle.pm_wire.specs as pm_wire
