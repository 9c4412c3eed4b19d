pub mod PromisedOnce
pub use Rattle.pm_server.specs as pm_server
