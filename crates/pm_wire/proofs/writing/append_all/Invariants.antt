use Rattle.std.proofs.Common.{◌≡◌, ◌≤◌, ◌++◌, take, flat_map}
use Rattle.pm_wire.proofs.writing.append_all.Given as goal

abbrev pub invariant-loop-piece : goal.invariant-loop-piece
invariant-loop-piece l = (l.out.bytes ≡ l.fn.out.bytes ++ flat_map (λ piece. piece.now) (take l.piece-index l.pieces)) × (l.fn.out.capacity ≤ l.out.capacity)
