-- What a run of `once` leaves: its journal and its book, step after step, its log, and the links that it served.
use Rattle.std.specs.Prelude.{◌≡◌, ◌⊎◌, ◌+◌, ◌≤◌, Bool, true, List, [], ◌++◌, All, Some, IfSome, length}
use Rattle.pm_server.specs.{pm_disk.Cause.Rose, pm_modes.declared.Mode.TheVariants.Smart, pm_supervisor.{declared.Limits.Limits, Children.one_if}, pm_segment.Moves.IsShown, declared.{conf.Conf.Conf, end.{ServerEnd.{ServerEnd, TheVariants.{Abnormal, NoMemory}}, Why.TheVariants.StartupFailed}}, pm_supervisor_journal.Due.is_last_drawn, Journal.{IsJournal, asked_in}, pm_server_lines.Log.{HasLogged, log_of}, Outside.{OutsideView, store_view}, Ends.{EndsWell, IsBook, IsCausedBy, IsEndBy, end_line}, Story.IsStory}
use Rattle.pm_server.specs.pm_supervisor.declared.Ending.TheVariants as endings
use Rattle.pm_server.specs.pm_state.declared.event.PmEvent.TheVariants as entry
use Rattle.pm_once_acts.specs.{pm_supervisor_chain.{Chain.IsChained, Steps.{AreSteps, Step, book_of, journal_of, replay_of, whole_book}}, Steps.EndsWith}
use Rattle.pm_once_children.specs.{AuxiliaryRuns.{AreToldBehind, IsRefusedLast, nothing_heard}, Calm.EndThemselves}
use Rattle.pm_once.specs.{Serves.HasServed, Service.Connection}

-- ---- its requests

-- the last pid was drawn
abbrev pub is_spent_of_pids : Limits → List Step → Bool
is_spent_of_pids limits steps = is_last_drawn (replay_of limits steps).shown.last_pid

-- Smart shutdowns alone were asked for: none but where the port's end had come, or the last pid was drawn, and one for each at
-- most. After the port's end one was asked for, unless memory was short.
pub record IsAsked (limits : Limits) (end : ServerEnd) (ended : Bool) (steps : List Step) : Type 0 where
  pub smart : All (λ mode. mode ≡ Smart) (asked_in (journal_of steps))
  pub few : length (asked_in (journal_of steps)) ≤ 1 + one_if (is_spent_of_pids limits steps)
  pub cause : (length (asked_in (journal_of steps)) ≡ 0) ⊎ ((ended ≡ true) ⊎ (is_spent_of_pids limits steps ≡ true))
  pub heeded : ended ≡ true → (1 ≤ length (asked_in (journal_of steps))) ⊎ (end ≡ NoMemory)

-- ---- its end

-- How it ended, by the last step, by what the last startup child came to, or since the next entry would be the reset of a
-- generation that has no number.
abbrev pub IsOnceEnd : Limits → ServerEnd → List Step → Type 0
IsOnceEnd limits (Abnormal (StartupFailed why)) steps =
    EndsWith (entry.Ended endings.StartupFailed) steps × IsRefusedLast why steps
IsOnceEnd limits end steps = IsEndBy (λ how. EndsWith (entry.Ended how) steps) limits end (journal_of steps)

-- ---- the whole

-- A run of the server, which ended so. The steps are those of its journal and its book, and the connections those that it
-- served; `ended` says that the port gave its end.
pub record IsOnceRun (conf : Conf) (end : ServerEnd) (before now : OutsideView) : Type 0 where
  pub steps : List Step
  pub connections : List Connection
  pub ended : Bool
  pub journal : IsJournal conf.limits before.gives (journal_of steps) before.journal now.journal
  pub are_steps : AreSteps conf.limits steps
  pub book : IsBook (steps ≡ []) end (whole_book steps) before.book now.book
  pub chained : IsChained (journal_of steps) (whole_book steps)
  pub asked : IsAsked conf.limits end ended steps
  pub ends : IsOnceEnd conf.limits end steps
  pub runs : AreToldBehind nothing_heard steps
  pub served : HasServed before.seed conf.session.authentication_ms before.gives connections ended steps before.visits now.visits
  pub logged : HasLogged (log_of (journal_of steps) ++ end_line end) before.written now.written before.sink_faults now.sink_faults
  -- each fault of the disk that was noted has risen its count
  pub faults : All (IsShown before.disk.faults now.disk.faults) (book_of steps)
  pub story : before.book ≡ Some [] → IfSome now.book (IsStory end before.disk now.disk)
  pub cause : IsCausedBy end (whole_book steps) (store_view before) (store_view now)
  pub well : EndsWell end before.disk now.disk
  -- where the disk hasn't failed, no child is lost inside the store, and none was killed
  pub unharmed : ¬ (Rose before.disk.faults now.disk.faults) → EndThemselves nothing_heard steps
