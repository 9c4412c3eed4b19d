pub mod Requests
pub use Rattle.pm_board_acts.specs as pm_board_acts
