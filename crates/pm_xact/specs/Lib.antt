pub mod Block
pub mod Control
pub mod Laws
pub mod Reading
pub use Rattle.pm_sql.specs as pm_sql
