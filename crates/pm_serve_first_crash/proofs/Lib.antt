pub mod WorkedProofs
pub mod BlameLaws
pub mod CalmLaws
pub mod ChildrenLaws
pub mod EndingLaws
pub mod FindLaws
pub mod GivenLaws
pub mod JournalLaws
pub mod RunsLaws
pub mod SendsLaws
pub use Rattle.pm_serve_crew.proofs as pm_serve_crew
