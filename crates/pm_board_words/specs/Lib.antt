pub mod Words
pub mod GateWords
pub mod Latch
pub use Rattle.pm_exit.specs as pm_exit
pub use Rattle.pm_supervisor.specs as pm_supervisor
pub use Rattle.pm_child_life.specs as pm_child_life
