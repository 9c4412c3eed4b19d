use Rattle.std.proofs.Common.{string_bytes}
use Rattle.pm_load_run.proofs.Working.{tells}
use Rattle.pm_load_run.proofs.running.worked.Goals as goal

pub returns : goal.returns
returns g c = tells string_bytes c.summary_text.result c.args.number _ _ c.in_ok-summary.summary c.in_ok-summary.ensures c.summary_text.ensures
