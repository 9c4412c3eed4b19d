use Rattle.std.proofs.{Common.{◌≡◌, ◌∙◌, ◌++◌, ℕ, drop, refl, sym, ap, inl, arith}, lemmas.List.take_rest}
use Rattle.byteorder.specs.Endian.{big_number}
use Rattle.pm_startup.proofs.Packets.{int32-pair}
use Rattle.pm_startup.proofs.reading.cancel_of.Goals as goal
use Rattle.pm_wire.specs.Pieces.{int32}

pub returns : goal.returns
returns c =
    let body = c.args.body.now in
    let pid : c.read_u32-pid.result ≡ big_number 4 body = c.read_u32-pid.ensures in
    let key : c.read_u32-key.result ≡ big_number 4 (drop 4 body) = c.read_u32-key.ensures ∙ ap (big_number 4) (take_rest body 4) in
    let spelled = int32-pair body (λ i. omega (arith, c.type_inv.body i)) (omega arith) in
    inl (
      c.read_u32-pid.result,
      c.read_u32-key.result,
      omega arith,
      omega arith,
      spelled ∙ ap (λ (n : ℕ). int32 n ++ int32 (big_number 4 (drop 4 body))) (sym pid) ∙ ap (λ (n : ℕ). int32 c.read_u32-pid.result ++ int32 n) (sym key),
      refl,
    )
