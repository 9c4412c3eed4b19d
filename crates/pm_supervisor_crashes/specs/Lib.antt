pub mod Crashes
pub mod Ends
pub mod Laws
pub mod WorkedEnds
pub use Rattle.pm_state.specs as pm_state
pub use Rattle.pm_supervisor_journal.specs as pm_supervisor_journal
