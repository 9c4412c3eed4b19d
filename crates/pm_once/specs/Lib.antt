pub mod Calls
pub mod Goes
pub mod Knows
pub mod Once
pub mod Serves
pub mod Service
pub mod Undisturbed
pub mod View
pub use Rattle.pm_server.specs.pm_facts as pm_facts
pub use Rattle.pm_disk.specs as pm_disk
pub use Rattle.pm_keys.specs as pm_keys
pub use Rattle.pm_state.specs as pm_state
pub use Rattle.pm_supervisor_journal.specs as pm_supervisor_journal
pub use Rattle.pm_supervisor_chain.specs as pm_supervisor_chain
pub use Rattle.pm_server.specs as pm_server
pub use Rattle.pm_once_acts.specs as pm_once_acts
pub use Rattle.pm_once_children.specs as pm_once_children
