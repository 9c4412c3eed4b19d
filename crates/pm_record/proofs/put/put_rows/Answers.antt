use Rattle.std.{proofs.Common.{◌≡◌, ◌++◌, ◌∷◌, [], suc, arith, rules, List, ℕ, ap, subst, sym, ◌∙◌}, specs.{Prelude.{All, ℤ}, List.flat_map, Int.{w64, cast_signed, cast_unsigned, RustNames.FitsSigned}}}
use Rattle.std.specs.FinMap as map
use Rattle.pm_record.{specs.{Spelling.row_bytes, StandsFor.IsRow}, proofs.Writing.row_written}
use Rattle.pm_record.proofs.put.put_rows.Goals as goal

pub loop-key-init : goal.loop-key-init
loop-key-init c =
    let it : c.into_iter-key-iterator.result ≡ map.entries c.args.rows.now = cc in record {
      bytes = ap (λ (l : List (ℤ × List ℕ)). c.args.out.now ++ flat_map row_bytes l) it;
      rows = subst (All IsRow) (sym it) c.requires;
    }

pub loop-key-preserved : goal.loop-key-preserved
loop-key-preserved c =
    let row : ℤ × List ℕ = (c.in-Some.key, c.in-Some.value.now) in
    let rest : List (ℤ × List ℕ) = c.next.new.self in
    let steps : c.loop-key.key-iterator ≡ row ∷ rest = c.in-Some.ensures.steps in
    let rows : All IsRow (row ∷ rest) = subst (All IsRow) steps c.loop-key.invariant.rows in
    let fits : FitsSigned w64 c.in-Some.key = (rows 0 row (omega arith)).0 in
    let same : cast_signed w64 (cast_unsigned w64 c.in-Some.key) ≡ c.in-Some.key = search (rules, fits) in record {
      bytes = row_written c.args.out.now [] (flat_map row_bytes rest) c.loop-key.out c.add_row.new.self (row_bytes row) (flat_map row_bytes (map.entries c.args.rows.now))
          (ap (λ (l : List (ℤ × List ℕ)). c.loop-key.out ++ flat_map row_bytes l) (sym steps) ∙ c.loop-key.invariant.bytes) (c.in_ok-add_row.ensures ∙ ap (λ (k : ℤ). c.loop-key.out ++ row_bytes (k, c.in-Some.value.now)) same);
      rows = λ k d lt. rows (suc k) d (omega arith);
    }
