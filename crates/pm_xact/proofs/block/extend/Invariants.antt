use Rattle.std.proofs.Common.{◌≡◌, ◌++◌, take}
use Rattle.pm_xact.proofs.block.extend.Given as goal

-- the statements so far stand after those that were there
abbrev pub invariant-loop-stmt : goal.invariant-loop-stmt
invariant-loop-stmt l = l.script ≡ l.fn.script ++ take l.stmt-index l.stmts
