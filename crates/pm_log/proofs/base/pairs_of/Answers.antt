use Rattle.std.{proofs.Common.{◌≡◌, ◌++◌, ◌∷◌, ℕ, ℤ, List, suc, rules, ap, sym, ◌∙◌, arith, subst, All}, specs.{Int.{w64, cast_signed, cast_unsigned}, Prelude.FitsSigned, FinMap.entries}}
use Rattle.pm_record.specs.pm_rows.Typed.{IsTypedRow}
use Rattle.pm_log.proofs.Spelled.{one_listed}
use Rattle.pm_log.proofs.base.pairs_of.Goals as goal

pub loop-key-init : goal.loop-key-init
loop-key-init c =
    let it : c.into_iter-key-iterator.result ≡ entries c.args.rows.now = cc in record {
      pairs = ap (λ (l : List (ℤ × List ℕ)). l ++ c.into_iter-key-iterator.result) c.in_ok-pairs.ensures.items ∙ it;
      typed = subst (All IsTypedRow) (sym it) c.iter-key-items.ensures.typed;
    }

pub loop-key-preserved : goal.loop-key-preserved
loop-key-preserved c =
    let row : ℤ × List ℕ = (c.in-Some.key, c.in-Some.value.now) in
    let rest : List (ℤ × List ℕ) = c.next.new.self in
    let steps : c.loop-key.key-iterator ≡ row ∷ rest = c.in-Some.ensures.steps in
    let typed : All IsTypedRow (row ∷ rest) = subst (All IsTypedRow) steps c.loop-key.invariant.typed in
    let fits : FitsSigned w64 c.in-Some.key = (typed 0 row (omega arith)).0 in
    let same : cast_signed w64 (cast_unsigned w64 c.in-Some.key) ≡ c.in-Some.key = search (rules, fits) in record {
      pairs = one_listed c.loop-key.pairs.items c.push.new.self.items rest c.loop-key.key-iterator (entries c.args.rows.now) row _ steps
          (ap (λ (k : ℤ). (k, c.in_ok-copy.field-0)) same ∙ ap (λ (v : List ℕ). (c.in-Some.key, v)) c.in_ok-copy.ensures) c.in_ok-push.ensures.items c.loop-key.invariant.pairs;
      typed = λ k d lt. typed (suc k) d (omega arith);
    }
