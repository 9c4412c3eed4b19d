use Rattle.std.{proofs.Common.{◌≡◌, ◌-◌}, specs.Prelude.fold}
use Rattle.pm_record.{specs.{Bodies.change_left, Changes.change_at, Repeated.items_at}, proofs.Loops.with_front}
use Rattle.pm_record.proofs.commit.read_changes.Given as goal

abbrev pub invariant-loop-i : goal.invariant-loop-i
invariant-loop-i l = (l.left ≡ fold change_left l.start l.commit) × (with_front l.commit (items_at (λ n. change_at n l.c) change_left (l.count - l.i) l.left l.rest) ≡ items_at (λ n. change_at n l.c) change_left l.count l.start l.bytes)
