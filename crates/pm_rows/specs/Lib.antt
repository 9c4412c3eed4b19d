pub mod Batch
pub mod Fold
pub mod Limits
pub mod LogSize
pub mod Longest
pub mod NetChanges
pub mod Pending
pub mod RowsIter
pub mod Size
pub mod Standing
pub mod Table
pub mod Typed
pub use Rattle.pm_facts.specs as pm_facts
