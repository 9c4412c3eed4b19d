use Rattle.pm_serve_first_crash.proofs.WorkedProofs.{clean, crash, failed, gives_up, leaves}
use Rattle.pm_serve_first_crash.proofs.laws.worked_firsts.Goals as goal

pub returns : goal.returns
returns c = record { clean = clean; given_up = gives_up; left = leaves; crash = crash; failed = failed }
