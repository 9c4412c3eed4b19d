use Rattle.std.proofs.Common.{◌≡◌, ◌-◌, ◌^◌, take, min}
use Rattle.pm_sql.specs.Limits.{sleep_seconds}
use Rattle.pm_sql.proofs.script.Script.sleep_seconds.Given as goal

abbrev pub invariant-loop-stmt : goal.invariant-loop-stmt
invariant-loop-stmt l = l.seconds ≡ min (sleep_seconds (take l.stmt-index l.stmt-items)) (2 ^ 64 - 1)
