pub mod Behind
pub mod Ending
pub mod Grows
pub mod GrowsLaws
pub mod Laid
pub mod Learned
pub mod LearnedLaws
pub mod Log
pub mod Passes
pub mod Piecewise
pub mod Places
pub mod Quiet
pub mod Renewed
pub mod Rule
pub mod Stands
pub mod Told
pub use Rattle.pm_disk.specs as pm_disk
pub use Rattle.pm_segment.specs.pm_record as pm_record
pub use Rattle.pm_query.specs as pm_query
pub use Rattle.pm_segment.specs as pm_segment
