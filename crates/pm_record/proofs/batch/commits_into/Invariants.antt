use Rattle.std.proofs.Common.{◌≡◌, ◌-◌, ◌<◌, ◌^◌}
use Rattle.pm_record.specs.{File.commit_step, Repeated.through_at}
use Rattle.pm_record.proofs.batch.commits_into.Given as goal

abbrev pub invariant-loop-i : goal.invariant-loop-i
invariant-loop-i l = (l.left < 2 ^ 32) × (through_at commit_step (l.count - l.i) (l.left, l.rows) l.rest ≡ through_at commit_step l.count (l.start, l.fn.rows) l.bytes)
