use Rattle.std.proofs.{Common.{arith, []}, lemmas.List.Folds.length-flat_map-take}
use Rattle.pm_wire.proofs.writing.total.Goals as goal

pub overflow_add-total : goal.overflow_add-total
overflow_add-total c =
    omega (arith, length-flat_map-take (λ piece. piece.now) c.args.pieces.now c.loop-piece.piece-index (record { ref_ptr = (0, 0); now = [] }) c.loop-piece-test.true)
