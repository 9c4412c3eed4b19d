pub mod Left
pub mod Redos
pub mod Renewals
pub mod Pids
pub mod Uses
pub mod Talks
pub mod Cancels
pub use Rattle.pm_session_answers.specs.pm_facts as pm_facts
pub use Rattle.pm_board_acts.specs.pm_exit as pm_exit
pub use Rattle.pm_board_acts.specs.pm_modes as pm_modes
pub use Rattle.pm_board_acts.specs.pm_admit as pm_admit
pub use Rattle.pm_board_acts.specs.pm_supervisor as pm_supervisor
pub use Rattle.pm_board_acts.specs.pm_state as pm_state
pub use Rattle.pm_session_answers.specs.pm_child_life as pm_child_life
pub use Rattle.pm_board_acts.specs.pm_board as pm_board
pub use Rattle.pm_board_acts.specs.pm_board_life as pm_board_life
pub use Rattle.pm_board_acts.specs.pm_supervisor_journal as pm_supervisor_journal
pub use Rattle.pm_session_answers.specs.pm_query as pm_query
pub use Rattle.pm_board_acts.specs.pm_supervisor_chain as pm_supervisor_chain
pub use Rattle.pm_board_acts.specs.pm_aux as pm_aux
pub use Rattle.pm_session_answers.specs.pm_session_exchange as pm_session_exchange
pub use Rattle.pm_session_answers.specs.pm_session as pm_session
pub use Rattle.pm_board_acts.specs.pm_worker as pm_worker
pub use Rattle.pm_store_shared.specs.pm_segment as pm_segment
pub use Rattle.pm_store_shared.specs as pm_store_shared
pub use Rattle.pm_board_acts.specs as pm_board_acts
pub use Rattle.pm_session_answers.specs as pm_session_answers
