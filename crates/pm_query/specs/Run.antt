-- How far a run has come.
use Rattle.std.specs.Prelude.{◌≡◌, ◌++◌, Option, option_to_list}
use Rattle.pm_rows.specs.declared.commit.Change.{Change}
use Rattle.pm_query.specs.{declared.run.Run.Run, Answer.{Progress, has_failed, with_change}}

-- the progress that the fields of a run tell
abbrev pub progress_of : Run → Progress
progress_of run = record { rows = run.draft; items = run.reply; changes = run.commit }

-- the same once this change, if there is one, is made
abbrev pub left_with : Run → Option Change → Progress
left_with run change = record { rows = with_change run.draft change; items = run.reply; changes = run.commit ++ option_to_list change }

-- whether an error was answered is known
abbrev pub KnowsFailure : Run → Type 0
KnowsFailure run = run.failed ≡ has_failed (progress_of run)
