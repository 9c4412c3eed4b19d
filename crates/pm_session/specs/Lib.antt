pub mod Complete
pub mod Conversation
pub mod Entry
pub mod Heeding
pub mod Session
pub mod Turns
pub use Rattle.pm_rows.specs as pm_rows
pub use Rattle.pm_outside.specs as pm_outside
pub use Rattle.pm_startup.specs as pm_startup
pub use Rattle.pm_admit.specs as pm_admit
pub use Rattle.pm_child_life.specs as pm_child_life
pub use Rattle.pm_sql.specs as pm_sql
pub use Rattle.pm_query.specs as pm_query
pub use Rattle.pm_session_exchange.specs as pm_session_exchange
