pub mod Letters
pub mod Pieces
pub mod Numbers
pub mod Nonzero
pub mod Messages
pub mod Conditions
pub mod Backend
pub mod Sizes
pub mod Outgoing
pub mod Longest
pub mod Frontend
pub mod Reading
pub mod Taking
pub mod Stream
pub mod Failing
pub mod Short
pub use Rattle.pm_facts.specs as pm_facts
