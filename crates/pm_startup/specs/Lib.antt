pub mod Parameters
pub mod Reading
pub mod Grammar
pub mod Phases
pub use Rattle.pm_wire.specs as pm_wire
