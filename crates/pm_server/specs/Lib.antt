pub mod Views
pub mod Outside
pub mod Acted
pub mod Journal
pub mod Story
pub mod Ends
pub mod Renewed
pub use Rattle.pm_query.specs.pm_facts as pm_facts
pub use Rattle.pm_session.specs.pm_rows as pm_rows
pub use Rattle.pm_disk.specs as pm_disk
pub use Rattle.pm_outside.specs as pm_outside
pub use Rattle.pm_session.specs.pm_startup as pm_startup
pub use Rattle.pm_state.specs.pm_exit as pm_exit
pub use Rattle.pm_state.specs.pm_modes as pm_modes
pub use Rattle.pm_session.specs.pm_admit as pm_admit
pub use Rattle.pm_supervisor.specs as pm_supervisor
pub use Rattle.pm_state.specs as pm_state
pub use Rattle.pm_supervisor_journal.specs as pm_supervisor_journal
pub use Rattle.pm_record.specs as pm_record
pub use Rattle.pm_query.specs as pm_query
pub use Rattle.pm_session.specs as pm_session
pub use Rattle.pm_segment.specs as pm_segment
pub use Rattle.pm_server_lines.specs as pm_server_lines
