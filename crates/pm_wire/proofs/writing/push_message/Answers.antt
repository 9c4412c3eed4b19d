use Rattle.std.proofs.Common.{◌<◌, [], ◌∷◌, length, flat_map, refl, OnErr, Ok, Err, arith}
use Rattle.pm_wire.{specs.{Pieces.message, Outgoing.room}, proofs.Apart.length_message}
use Rattle.pm_wire.proofs.writing.push_message.Goals as goal

pub returns-in_err-reserve-clause-full : goal.returns-in_err-reserve-clause-full
returns-in_err-reserve-clause-full c =
    let body = flat_map (λ piece. piece.now) c.args.pieces.now in
    let short : room c.args.out.now < length (message (c.args.kind ∷ []) body) =
    omega (arith, length_message (c.args.kind ∷ []) body refl, c.in_err-reserve.ensures.full, c.total-length.ensures) in
    elim c.from_residual.result as (λ r. OnErr r (room c.args.out.now < length (message (c.args.kind ∷ []) body))) [ Ok x ↦ tt | Err e ↦ short ]
