pub mod Stops
pub mod Ends
pub mod Runs
pub mod Promises
pub mod Laws
pub use Rattle.pm_session_answers.specs as pm_session_answers
