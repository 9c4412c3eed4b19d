pub mod Mails
pub mod Runs
pub use Rattle.pm_outside.specs as pm_outside
pub use Rattle.pm_spawn.specs as pm_spawn
pub use Rattle.pm_keys.specs as pm_keys
pub use Rattle.pm_board.specs as pm_board
pub use Rattle.pm_board_life.specs as pm_board_life
pub use Rattle.pm_query.specs as pm_query
pub use Rattle.pm_aux.specs as pm_aux
