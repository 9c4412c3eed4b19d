pub mod Requests
pub use Rattle.pm_wire.specs as pm_wire
