use Rattle.std.proofs.{Common.{[], length, flat_map, take, ap, arith}, lemmas.List.{length-append, Folds.length-flat_map-take}}
use Rattle.pm_wire.proofs.writing.append_all.Goals as goal

pub append-requires : goal.append-requires
append-requires c =
    omega (
      arith,
      length-flat_map-take (λ piece. piece.now) c.args.pieces.now c.loop-piece.piece-index (record { ref_ptr = (0, 0); now = [] }) c.loop-piece-test.true,
      ap length c.loop-piece.invariant.0,
      length-append c.args.out.now.bytes (flat_map (λ piece. piece.now) (take c.loop-piece.piece-index c.args.pieces.now)),
      c.loop-piece.invariant.1,
    )
