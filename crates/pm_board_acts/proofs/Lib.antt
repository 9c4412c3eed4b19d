pub mod Seen
pub mod Sends
pub mod Rolls
pub mod Rightly
pub mod Sitting
pub mod MayBeDone
pub mod Turning
pub mod Starting
pub mod Afresh
pub mod Keeping
pub mod Gating
pub mod Calling
pub mod Runs
pub mod Acting
pub mod Resting
pub mod Asking
pub mod Beginning
pub mod Reaping
pub mod Ending
pub mod EndedLaws
pub mod FoldingLaws
pub use Rattle.pm_board.proofs as pm_board
pub use Rattle.pm_supervisor_chain.proofs as pm_supervisor_chain
