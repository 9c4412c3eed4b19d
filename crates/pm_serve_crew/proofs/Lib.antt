pub mod BookLaws
pub mod BorneLaws
pub mod CancelsLaws
pub mod EntriesLaws
pub mod OpenedLaws
pub mod PidsLaws
pub mod RenewalsLaws
pub mod TalksLaws
pub mod UsesLaws
pub use Rattle.pm_board_acts.proofs.pm_board as pm_board
pub use Rattle.pm_board_acts.proofs.pm_supervisor_chain as pm_supervisor_chain
pub use Rattle.pm_board_acts.proofs as pm_board_acts
