pub mod Loop
pub mod Acts
pub mod Steps
pub mod Laws
pub use Rattle.pm_supervisor_chain.specs as pm_supervisor_chain
