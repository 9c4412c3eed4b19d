pub mod Own
pub mod Generations
pub mod Prefixes
pub mod Replying
pub mod HistoryLaws
pub use Rattle.pm_session.proofs as pm_session
