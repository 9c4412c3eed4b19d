pub mod View
pub mod Links
pub mod Requests
pub mod Serving
pub mod Acting
pub mod Asking
pub mod Looking
pub mod Accepting
pub mod Clearing
pub mod Outside
pub mod Served
pub use Rattle.pm_outside.specs as pm_outside
pub use Rattle.pm_board.specs as pm_board
pub use Rattle.pm_worker.specs as pm_worker
pub use Rattle.pm_store_shared.specs as pm_store_shared
pub use Rattle.pm_board_acts.specs as pm_board_acts
pub use Rattle.pm_server.specs as pm_server
pub use Rattle.pm_store_remains.specs as pm_store_remains
