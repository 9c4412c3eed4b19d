pub mod Answers
pub mod Attention
pub mod Ends
pub mod Exchange
pub mod Last
pub mod Line
pub mod Moments
pub mod Queries
pub mod Room
pub mod Sent
pub use Rattle.pm_outside.specs as pm_outside
pub use Rattle.pm_startup.specs as pm_startup
pub use Rattle.pm_exit.specs as pm_exit
pub use Rattle.pm_child_life.specs as pm_child_life
pub use Rattle.pm_query.specs as pm_query
