pub mod Attaching
pub use Rattle.pm_supervisor.specs as pm_supervisor
