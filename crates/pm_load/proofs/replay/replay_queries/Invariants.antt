use Rattle.pm_load.specs.Replay.{IsReplay}
use Rattle.pm_load.proofs.replay.replay_queries.Given as goal

abbrev pub invariant-loop-i : goal.invariant-loop-i
invariant-loop-i l = IsReplay l.i l.pid l.key l.replay
