use Rattle.std.proofs.Common.{◌≡◌, length, take, flat_map}
use Rattle.pm_wire.proofs.writing.total.Given as goal

abbrev pub invariant-loop-piece : goal.invariant-loop-piece
invariant-loop-piece l = l.total ≡ length (flat_map (λ piece. piece.now) (take l.piece-index l.pieces))
