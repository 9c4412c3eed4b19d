-- What an act that is done leaves of the log of lines.
use Rattle.std.specs.Prelude.{◌≡◌}
use Rattle.pm_supervisor_journal.specs.declared.act.Act.{Act}
use Rattle.pm_supervisor_journal.specs.declared.act.Act.TheVariants as given
use Rattle.pm_server_lines.specs.Log.{LogView, Says, log_line}

-- what an act leaves of the log of lines
abbrev pub LogBehind : Act → LogView → LogView → Type 0
LogBehind (given.Say line) before now = Says (log_line line) before now
LogBehind _ before now = now ≡ before
