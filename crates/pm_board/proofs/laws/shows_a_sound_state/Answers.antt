use Rattle.std.proofs.Common.{ℕ, List}
use Rattle.pm_supervisor.specs.{Supervisor.Shared, Shared.IsKept, Laws.KeepsWhatIsShared}
use Rattle.pm_board_words.specs.declared.views.SessionLimit.{SessionLimit}
use Rattle.pm_board.specs.History.{Entry, Run, begins, goes_on}
use Rattle.pm_board.proofs.laws.shows_a_sound_state.Goals as goal

runs_soundly : KeepsWhatIsShared → (limit : SessionLimit) (log : List Entry) (s : Shared) → Run limit log s → IsKept limit.most s
runs_soundly law limit _ _ begins = law.begins limit.most
runs_soundly law limit _ _ (goes_on log s e run may keeps) = law.step limit.most s e.event may (runs_soundly law limit log s run)

pub returns : goal.returns
returns g c limit s kept = runs_soundly c.keeps_what_is_shared.ensures limit kept.5.0 kept.5.1 kept.5.2
