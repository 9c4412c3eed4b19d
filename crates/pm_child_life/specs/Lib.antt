pub mod Attention
pub mod Life
pub mod Scripted
pub use Rattle.pm_supervisor.specs as pm_supervisor
