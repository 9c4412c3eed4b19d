use Rattle.pm_disk.proofs.Again.{Replaying}
use Rattle.pm_disk.proofs.mem_file.MemFile.replay.Given as goal

abbrev pub invariant-loop-entry : goal.invariant-loop-entry
invariant-loop-entry l = Replaying l.self.past.items l.tick l.entry-index l.replayed
