pub mod Chain
pub mod Steps
pub mod WorkedChains
pub mod WorkedSteps
pub mod Laws
pub use Rattle.pm_state.specs as pm_state
