pub mod Remains
pub use Rattle.pm_disk.specs as pm_disk
pub use Rattle.pm_server.specs.pm_startup as pm_startup
pub use Rattle.pm_store_shared.specs.pm_record as pm_record
pub use Rattle.pm_store_shared.specs as pm_store_shared
pub use Rattle.pm_server.specs as pm_server
