pub mod WorkedFirsts
pub mod Causes
pub use Rattle.pm_supervisor_crashes.specs as pm_supervisor_crashes
pub use Rattle.pm_serve_crew.specs as pm_serve_crew
