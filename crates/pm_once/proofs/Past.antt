-- The past of a supervisor at work.
use Rattle.pm_supervisor_chain.specs.Steps.{journal_of}
use Rattle.pm_supervisor_journal.{specs.Stands.HasPast, proofs.ToldLaws.stands_told}
use Rattle.pm_once.specs.{Goes.IsRunning, View.View}

pub past_of : (v : View) → IsRunning v → HasPast v.work
past_of v running = (running.0.limits, running.2.past, stands_told running.0.limits v.work.told (journal_of running.1) v.work.standing running.2.past running.2.told running.2.stands)
