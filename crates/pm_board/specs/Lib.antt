pub mod Slots
pub mod Places
pub mod Children
pub mod Gate
pub mod Rule
pub mod Latches
pub mod Seats
pub mod Heard
pub mod History
pub mod Told
pub mod Ties
pub mod Models
pub mod Posts
pub mod Rooms
pub mod Laws
pub use Rattle.pm_facts.specs as pm_facts
pub use Rattle.pm_board_home.specs as pm_board_home
pub use Rattle.pm_keys.specs as pm_keys
pub use Rattle.pm_exit.specs as pm_exit
pub use Rattle.pm_supervisor.specs as pm_supervisor
pub use Rattle.pm_child_life.specs as pm_child_life
pub use Rattle.pm_board_words.specs as pm_board_words
