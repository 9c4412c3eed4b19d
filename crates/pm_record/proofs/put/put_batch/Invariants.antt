use Rattle.std.{proofs.Common.{◌≡◌, ◌++◌, ◌∷◌, length, take}, specs.{Int.{w32, to_be_bytes}, List.flat_map}}
use Rattle.pm_rows.specs.LogSize.{body_length}
use Rattle.pm_record.specs.Spelling.{commit_bytes}
use Rattle.pm_record.proofs.put.put_batch.Given as goal

abbrev pub invariant-loop-commit : goal.invariant-loop-commit
invariant-loop-commit l =
    l.out ≡ l.fn.out ++ (1 ∷ (to_be_bytes w32 (body_length l.batch) ++ to_be_bytes w32 (length l.batch)) ++ flat_map commit_bytes (take l.commit-index l.batch))
