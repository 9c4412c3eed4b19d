use Rattle.std.{proofs.{Common.{ℕ, List, ◌∷◌, ◌++◌, length, ap, sym, ◌∙◌, arith}, lemmas.List.take_all}, specs.{Int.{w32, to_be_bytes}, List.flat_map}}
use Rattle.pm_rows.specs.{declared.commit.Change.Change, LogSize.body_length}
use Rattle.pm_record.{specs.Spelling.{commit_bytes, body_bytes}, proofs.Lengths.body_long}
use Rattle.pm_record.proofs.put.put_batch.Goals as goal

pub returns : goal.returns
returns c =
    let out = c.args.out.now in
    let batch = c.args.batch.now in
    c.loop-commit.invariant
    ∙ ap (λ (t : List (List Change)). out ++ (1 ∷ (to_be_bytes w32 (body_length batch) ++ to_be_bytes w32 (length batch)) ++ flat_map commit_bytes t)) (take_all c.loop-commit.commit-index batch (omega arith))
    ∙ ap (λ (n : ℕ). out ++ (1 ∷ to_be_bytes w32 n ++ body_bytes batch)) (sym (body_long batch))
