pub mod Doing
pub mod Due
pub mod Laws
pub mod Moments
pub mod Roll
pub mod Standing
pub mod Stands
pub mod Supervision
pub use Rattle.pm_outside.specs as pm_outside
pub use Rattle.pm_exit.specs as pm_exit
pub use Rattle.pm_supervisor.specs as pm_supervisor
pub use Rattle.pm_state.specs as pm_state
