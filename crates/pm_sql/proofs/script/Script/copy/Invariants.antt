use Rattle.std.proofs.Common.{◌≡◌, take}
use Rattle.pm_sql.proofs.script.Script.copy.Given as goal

-- the stmts so far are copied
abbrev pub invariant-loop-stmt : goal.invariant-loop-stmt
invariant-loop-stmt l = l.copied.items ≡ take l.stmt-index l.stmt-items
