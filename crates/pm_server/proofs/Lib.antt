pub mod ActedLaws
pub mod CalmLaws
pub mod JournalLaws
pub mod RenewedLaws
pub mod StoryLaws
pub mod UnredoneLaws
pub use Rattle.pm_supervisor.proofs as pm_supervisor
pub use Rattle.pm_state.proofs as pm_state
pub use Rattle.pm_supervisor_journal.proofs as pm_supervisor_journal
pub use Rattle.pm_query.proofs as pm_query
