pub mod Alone
pub mod AloneLaws
pub mod AuxiliaryRuns
pub mod Auxiliaries
pub mod Outcomes
pub mod Calm
pub use Rattle.pm_exit.specs as pm_exit
pub use Rattle.pm_segment.specs as pm_segment
pub use Rattle.pm_once_acts.specs as pm_once_acts
