pub mod Grammar
pub mod Laws
pub mod Limits
pub mod Message
pub mod Query
pub mod Reading
pub mod Faults
pub mod Split
pub mod Statements
pub mod Token
pub mod Tokens
pub use Rattle.pm_rows.specs as pm_rows
