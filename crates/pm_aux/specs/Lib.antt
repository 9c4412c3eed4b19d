pub mod Ends
pub mod Runs
pub mod Signals
pub mod Work
pub use Rattle.pm_exit.specs as pm_exit
pub use Rattle.pm_query.specs as pm_query
