pub mod Fates
pub mod Held
pub mod Holding
pub mod Inside
pub mod Laws
pub mod Limits
pub mod Pending
pub mod Sizes
pub mod Tables
pub mod TablesIter
pub mod Typed
pub use Rattle.pm_rows.specs as pm_rows
