pub mod Asked
pub mod Quiet
pub use Rattle.pm_child_life.specs as pm_child_life
