use Rattle.std.{proofs.Common.{◌≡◌, ◌++◌, ℕ, ℤ, List, length, get_or, rules, ap, sym, ◌∙◌, arith, subst, length-append}, specs.{Int.{w64, cast_signed, cast_unsigned}, Prelude.FitsSigned}}
use Rattle.pm_record.{specs.{Spelling.row_bytes, StandsFor.IsRow}, proofs.SizeLaws.row_long}
use Rattle.pm_log.proofs.Spelled.{one_put}
use Rattle.pm_log.proofs.base.put_rows.Goals as goal

pub loop-at-preserved : goal.loop-at-preserved
loop-at-preserved c =
    let inv = c.loop-at.invariant in
    let row : ℤ × List ℕ = c.index-rows-at.result in
    let is : row ≡ get_or c.args.rows.now c.loop-at.at row = c.index-rows-at.is in
    let kept : IsRow row = subst IsRow (sym is) (c.requires.rows c.loop-at.at row (omega (arith, c.loop-at-test.true))) in
    let fits : FitsSigned w64 row.0 = kept.0 in
    let same : cast_signed w64 (cast_unsigned w64 row.0) ≡ row.0 = search (rules, fits) in
    let put : c.put_row.new.out.items ≡ c.loop-at.buffer.items ++ row_bytes row =
    c.put_row.ensures.bytes ∙ ap (λ (k : ℤ). c.loop-at.buffer.items ++ row_bytes (k, row.1)) same in record {
      further = omega (arith, inv.further);
      within = omega (arith, c.loop-at-test.true);
      bytes = one_put c.args.rows.now c.loop-at.at row c.loop-at.buffer.items c.put_row.new.out.items _ (omega (arith, c.loop-at-test.true)) is put inv.bytes;
      few = omega (arith, ap length put, length-append c.loop-at.buffer.items (row_bytes row), row_long row, kept.2, c.if-len-lt-PIECE_BYTES.true, c.len.ensures);
      room = omega (arith, inv.room, c.put_row.ensures.capacity);
    }
