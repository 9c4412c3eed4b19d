pub mod Replies
pub mod Own
pub mod Laws
pub use Rattle.pm_query.specs.pm_facts as pm_facts
pub use Rattle.pm_session.specs.pm_child_life as pm_child_life
pub use Rattle.pm_query.specs as pm_query
pub use Rattle.pm_session.specs.pm_session_exchange as pm_session_exchange
pub use Rattle.pm_session.specs as pm_session
