pub mod Between
pub mod Children
pub mod Invariant
pub mod Laws
pub mod Limits
pub mod Phase
pub mod Shared
pub mod Steps
pub mod Supervisor
pub use Rattle.pm_exit.specs as pm_exit
pub use Rattle.pm_modes.specs as pm_modes
pub use Rattle.pm_admit.specs as pm_admit
