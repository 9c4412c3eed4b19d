pub mod Lives
pub use Rattle.pm_latch.specs as pm_latch
