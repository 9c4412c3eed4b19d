pub mod Transition
pub mod Exits
pub mod Requests
pub mod Restarts
pub mod WorkedRestarts
pub mod TurnRules
pub mod Machine
pub mod Shows
pub mod Facts
pub mod Known
pub mod Promises
pub mod Journal
pub mod Text
pub mod Starts
pub mod InStep
pub mod Laws
pub use Rattle.pm_exit.specs as pm_exit
pub use Rattle.pm_modes.specs as pm_modes
pub use Rattle.pm_admit.specs as pm_admit
pub use Rattle.pm_supervisor.specs as pm_supervisor
