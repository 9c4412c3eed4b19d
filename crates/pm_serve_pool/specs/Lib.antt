pub mod Closing
pub mod Given
pub mod Plan
pub mod Pools
pub mod Works
pub use Rattle.pm_store_shared.specs as pm_store_shared
pub use Rattle.pm_serve_crew.specs as pm_serve_crew
