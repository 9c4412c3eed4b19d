use Rattle.std.proofs.Common.{refl}
use Rattle.pm_supervisor_journal.proofs.memory.Memory.entry_for.Goals as goal

pub returns-in-Start : goal.returns-in-Start
returns-in-Start c = rw c.in-Start.is refl

pub returns-in-Quit : goal.returns-in-Quit
returns-in-Quit c = rw c.in-Quit.is refl

pub returns-in-KillAll : goal.returns-in-KillAll
returns-in-KillAll c = rw c.in-KillAll.is refl

pub returns-in-Ready : goal.returns-in-Ready
returns-in-Ready c = rw c.in-Ready.is refl

pub returns-in-Reset : goal.returns-in-Reset
returns-in-Reset c = rw c.in-Reset.is refl

pub returns-in-Say : goal.returns-in-Say
returns-in-Say c = rw c.in-Say.is refl

pub returns-in-End : goal.returns-in-End
returns-in-End c = rw c.in-End.is refl
