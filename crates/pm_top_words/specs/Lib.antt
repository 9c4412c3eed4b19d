pub mod Words
pub mod Options
pub mod Begins
pub use Rattle.pm_server.specs as pm_server
