-- A string ends at its first zero.
use Rattle.std.{proofs.{Common.{◌≡◌, ℕ, zero, suc, ◌+◌, ◌<◌, ◌≤◌, ◌++◌, ◌∷◌, [], List, length, get_or, take, drop, true, false, not, eqb, ltb, Some, None, refl, sym, ap, subst, ◌∙◌, arith}, lemmas.{Bool.{eqb-true, eqb-false, lt-ltb, eq-eqb}, Option.cond_some, List.{length-append, take_at, take-append-drop, drop_more, drop_all, Quantifiers.position-Some}}}, specs.List.{prefix_len, position}}
use Rattle.pm_facts.specs.Zeros.{HasNoZero}
use Rattle.pm_wire.specs.{Pieces.string, Nonzero.{AllNonzero, suc_nonzero, all_nonzero, has_no_zero}, Frontend.IsString, Reading.{text_of, text_before}}

zero_place : (text : List ℕ) → AllNonzero text → prefix_len (λ x. not (eqb x 0)) (text ++ 0 ∷ []) ≡ length text
zero_place [] h = refl
zero_place (zero ∷ bs) h = absurd (omega (arith, h.0))
zero_place (suc b ∷ bs) h =
    rw (suc_nonzero b) (omega (arith, zero_place bs h.1))

pub zero_at_end : (text : List ℕ) → HasNoZero text → position (λ b. eqb b 0) (string text) ≡ Some (length text)
zero_at_end text h =
    let place = zero_place text (all_nonzero text h) in
    let within : ltb (length text) (length (text ++ 0 ∷ [])) ≡ true = lt-ltb _ _ (omega (arith, length-append text (0 ∷ []))) in
    rw (place, within) refl

pub text_again : (text : List ℕ) → HasNoZero text → text_of (string text) ≡ Some text
unfolding text_of
text_again text h =
    let place = zero_at_end text h in
    let last : eqb (length text + 1) (length (text ++ 0 ∷ [])) ≡ true = eq-eqb _ _ (omega (arith, length-append text (0 ∷ []))) in
    let front : take (length text) (text ++ 0 ∷ []) ≡ text = take_at text (0 ∷ []) (length text) refl in
    rw place (rw (last, front) refl)

pub no_zero_below : (n : ℕ) (bytes : List ℕ) → n ≤ length bytes → ((k : ℕ) → k < n → eqb (get_or bytes k 0) 0 ≡ false) → AllNonzero (take n bytes)
no_zero_below zero bytes le h = tt
no_zero_below (suc n) [] le h = tt
no_zero_below (suc n) (zero ∷ bs) le h = absurd (eqb-false 0 0 (h 0 (omega arith)) refl)
no_zero_below (suc n) (suc b ∷ bs) le h = (omega arith, no_zero_below n bs (omega (arith, le)) (λ k lt. h (suc k) (omega arith)))

pub text_takes : (body text : List ℕ) → text_of body ≡ Some text → HasNoZero text × (body ≡ string text)
unfolding text_of
text_takes body text e =
    elim (position (λ b. eqb b 0) body) as (λ p. position (λ b. eqb b 0) body ≡ p → text_before p body ≡ Some text → HasNoZero text × (body ≡ string text)) [
      | None ↦ λ found ends. absurd cc
      | Some end ↦ λ found ends.
          let place = position-Some (λ b. eqb b 0) body end 0 found in
          let last = cond_some (eqb (end + 1) (length body)) (take end body) text ends in
          let rest : drop end body ≡ 0 ∷ [] =
          drop_more body end 0 place.0 ∙ (rw (eqb-true _ _ place.1, drop_all (end + 1) body (omega (arith, eqb-true _ _ last.0))) refl) in
          let parts : body ≡ take end body ++ 0 ∷ [] = sym (take-append-drop end body) ∙ ap (λ (r : List ℕ). take end body ++ r) rest in
          subst (λ (t : List ℕ). HasNoZero t × (body ≡ string t)) last.1 (has_no_zero (take end body) (no_zero_below end body (omega arith) place.2), parts)
    ] refl e

pub text_none : (body : List ℕ) → text_of body ≡ None → ¬ (IsString body)
text_none body e h = let again = ap text_of h.2 ∙ text_again h.0 h.1 in cc
