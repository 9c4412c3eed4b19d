pub mod Append
pub mod Base
pub mod Change
pub mod Half
pub mod Init
pub mod Log
pub mod Making
pub mod Move
pub use Rattle.pm_rows.specs as pm_rows
