pub mod Remaining
pub use Rattle.pm_server.proofs.pm_state as pm_state
pub use Rattle.pm_query.proofs as pm_query
pub use Rattle.pm_server.proofs as pm_server
