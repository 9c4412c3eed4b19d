pub mod ActsLaws
pub mod NextsLaws
pub mod RunsLaws
pub mod StepsLaws
pub use Rattle.pm_supervisor_chain.proofs as pm_supervisor_chain
