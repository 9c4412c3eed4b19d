-- A walk over bytes, one step on and at its end.
use Rattle.std.{proofs.{Common.{◌≡◌, ℕ, suc, ◌+◌, ◌-◌, ◌<◌, ◌≤◌, true, false, ◌==◌, ◌&&◌, cond, eqb, ltb, List, [], ◌∷◌, ◌++◌, length, get_or, take, drop, Option, Some, None, Result, Ok, Err, refl, sym, ap, subst, ◌∙◌, append_assoc, arith}, lemmas.{List.{length-drop, drop_more, drop_all, take_more, append-nil}, Bool.ltb-true}}, specs.Str.IsUtf8}
use Rattle.pm_wire_back.specs.{declared.parts.{Stop.{Stop, TheVariants.{Partial, Departs}}, Ending.Ending}, Parts.{◌>>=◌, with_first, fitting, may_end, literal_at, code_at, text_at, string_at}}
use Rattle.pm_utf8.specs.{declared.Awaited.Awaited, Utf8.{boundary, after, run}, Steps.{run_append, run_step}, States.{run_sound, boundary_sound}, Characters.is_utf8}

-- what was read before, and what is still read
abbrev pub with_front : List ℕ → Result (List ℕ × List ℕ) Stop → Result (List ℕ × List ℕ) Stop
with_front front read = read >>= λ x. Ok (front ++ x.0, x.1)

pub with_front_first : (front : List ℕ) (b : ℕ) (read : Result (List ℕ × List ℕ) Stop) → with_front front (with_first b read) ≡ with_front (front ++ b ∷ []) read
with_front_first front b (Ok x) = ap (λ (bs : List ℕ). Ok (bs, x.1)) (sym (append_assoc front (b ∷ []) x.0))
with_front_first front b (Err e) = refl

pub with_front_nil : (read : Result (List ℕ × List ℕ) Stop) → with_front [] read ≡ read
with_front_nil (Ok x) = refl
with_front_nil (Err e) = refl

pub drop_length : (bytes : List ℕ) (i : ℕ) → length (drop i bytes) ≡ length bytes - i
drop_length bytes i = length-drop i bytes

module _ (word bytes : List ℕ) (i : ℕ) (total : Result (Unit {0} × List ℕ) Stop) (so_far : literal_at (drop i word) (drop i bytes) ≡ total) where
  pub literal_partial : i < length word → length bytes ≤ i → total ≡ Err Partial
  unfolding literal_at
  literal_partial lt le =
      let here : literal_at (drop i word) (drop i bytes) ≡ Err Partial = rw (drop_more word i 0 lt, drop_all i bytes le) refl in
      sym so_far ∙ here

  pub literal_departs : i < length word → i < length bytes → eqb (get_or bytes i 0) (get_or word i 0) ≡ false → total ≡ Err (Departs (length bytes - i))
  unfolding literal_at
  literal_departs lt here_is differ =
      let here : literal_at (drop i word) (drop i bytes) ≡ Err (Departs (suc (length (drop (i + 1) bytes)))) = rw (drop_more word i 0 lt, drop_more bytes i 0 here_is, differ) refl in
      let size : suc (length (drop (i + 1) bytes)) ≡ length bytes - i = omega (arith, drop_length bytes (i + 1)) in
      sym so_far ∙ here ∙ ap (λ (n : ℕ). Err (Departs n)) size

  pub literal_more : i < length word → i < length bytes → eqb (get_or bytes i 0) (get_or word i 0) ≡ true → literal_at (drop (i + 1) word) (drop (i + 1) bytes) ≡ total
  unfolding literal_at
  literal_more lt here_is same =
      let here : literal_at (drop i word) (drop i bytes) ≡ literal_at (drop (i + 1) word) (drop (i + 1) bytes) = rw (drop_more word i 0 lt, drop_more bytes i 0 here_is, same) refl in
      sym here ∙ so_far

  pub literal_done : length word ≤ i → total ≡ Ok (tt, drop i bytes)
  unfolding literal_at
  literal_done le =
      let here : literal_at (drop i word) (drop i bytes) ≡ Ok (tt, drop i bytes) = rw (drop_all i word le) refl in
      sym so_far ∙ here

module _ (count : ℕ) (bytes : List ℕ) (i : ℕ) (total : Result (List ℕ × List ℕ) Stop) (so_far : with_front (take i bytes) (code_at (count - i) (drop i bytes)) ≡ total) where
  pub code_partial : i < count → length bytes ≤ i → total ≡ Err Partial
  unfolding code_at
  code_partial lt le =
      let k : count - i ≡ suc (count - (i + 1)) = omega arith in
      let here : with_front (take i bytes) (code_at (count - i) (drop i bytes)) ≡ Err Partial = rw (k, drop_all i bytes le) refl in
      sym so_far ∙ here

  pub code_departs : i < count → i < length bytes → eqb (get_or bytes i 0) 0 ≡ true → total ≡ Err (Departs (length bytes - i))
  unfolding code_at
  code_departs lt here_is zero_is =
      let k : count - i ≡ suc (count - (i + 1)) = omega arith in
      let here : with_front (take i bytes) (code_at (count - i) (drop i bytes)) ≡ Err (Departs (suc (length (drop (i + 1) bytes)))) = rw (k, drop_more bytes i 0 here_is, zero_is) refl in
      let size : suc (length (drop (i + 1) bytes)) ≡ length bytes - i = omega (arith, drop_length bytes (i + 1)) in
      sym so_far ∙ here ∙ ap (λ (n : ℕ). Err (Departs n)) size

  pub code_more : i < count → i < length bytes → eqb (get_or bytes i 0) 0 ≡ false → with_front (take (i + 1) bytes) (code_at (count - (i + 1)) (drop (i + 1) bytes)) ≡ total
  unfolding code_at
  code_more lt here_is other =
      let k : count - i ≡ suc (count - (i + 1)) = omega arith in
      let b = get_or bytes i 0 in
      let here : with_front (take i bytes) (code_at (count - i) (drop i bytes)) ≡ with_front (take i bytes) (with_first b (code_at (count - (i + 1)) (drop (i + 1) bytes))) =
      rw (k, drop_more bytes i 0 here_is, other) refl in
      rw (take_more bytes i 0 here_is) (sym (with_front_first (take i bytes) b (code_at (count - (i + 1)) (drop (i + 1) bytes))) ∙ sym here ∙ so_far)

  pub code_done : count ≡ i → total ≡ Ok (take i bytes, drop i bytes)
  unfolding code_at
  code_done same =
      let k : count - i ≡ 0 = omega arith in
      let here : with_front (take i bytes) (code_at (count - i) (drop i bytes)) ≡ Ok (take i bytes, drop i bytes) =
      rw k (ap (λ (x : List ℕ). Ok (x, drop i bytes)) (append-nil (take i bytes))) in
      sym so_far ∙ here

module _ (state : Awaited) (count : ℕ) (bytes : List ℕ) (i : ℕ) (total : Result (List ℕ × List ℕ) Stop) (so_far : with_front (take i bytes) (text_at state (count - i) (drop i bytes)) ≡ total) where
  pub text_partial : i < count → length bytes ≤ i → total ≡ Err Partial
  unfolding text_at
  text_partial lt le =
      let k : count - i ≡ suc (count - (i + 1)) = omega arith in
      let here : with_front (take i bytes) (text_at state (count - i) (drop i bytes)) ≡ Err Partial = rw (k, drop_all i bytes le) refl in
      sym so_far ∙ here

  pub text_departs : i < count → i < length bytes → fitting (count - i) (after state (get_or bytes i 0)) ≡ None → total ≡ Err (Departs (length bytes - i))
  unfolding text_at
  text_departs lt here_is none =
      let k : count - i ≡ suc (count - (i + 1)) = omega arith in
      let no_next : fitting (suc (count - (i + 1))) (after state (get_or bytes i 0)) ≡ None = ap (λ (n : ℕ). fitting n (after state (get_or bytes i 0))) (sym k) ∙ none in
      let here : with_front (take i bytes) (text_at state (count - i) (drop i bytes)) ≡ Err (Departs (suc (length (drop (i + 1) bytes)))) = rw (k, drop_more bytes i 0 here_is, no_next) refl in
      let size : suc (length (drop (i + 1) bytes)) ≡ length bytes - i = omega (arith, drop_length bytes (i + 1)) in
      sym so_far ∙ here ∙ ap (λ (n : ℕ). Err (Departs n)) size

  pub text_more : (next : Awaited) → i < count → i < length bytes → fitting (count - i) (after state (get_or bytes i 0)) ≡ Some next → with_front (take (i + 1) bytes) (text_at next (count - (i + 1)) (drop (i + 1) bytes)) ≡ total
  unfolding text_at
  text_more next lt here_is some =
      let k : count - i ≡ suc (count - (i + 1)) = omega arith in
      let b = get_or bytes i 0 in
      let is_next : fitting (suc (count - (i + 1))) (after state b) ≡ Some next = ap (λ (n : ℕ). fitting n (after state b)) (sym k) ∙ some in
      let here : with_front (take i bytes) (text_at state (count - i) (drop i bytes)) ≡ with_front (take i bytes) (with_first b (text_at next (count - (i + 1)) (drop (i + 1) bytes))) =
      rw (k, drop_more bytes i 0 here_is, is_next) refl in
      rw (take_more bytes i 0 here_is) (sym (with_front_first (take i bytes) b (text_at next (count - (i + 1)) (drop (i + 1) bytes))) ∙ sym here ∙ so_far)

  pub text_done : count ≡ i → total ≡ Ok (take i bytes, drop i bytes)
  unfolding text_at
  text_done same =
      let k : count - i ≡ 0 = omega arith in
      let here : with_front (take i bytes) (text_at state (count - i) (drop i bytes)) ≡ Ok (take i bytes, drop i bytes) =
      rw k (ap (λ (x : List ℕ). Ok (x, drop i bytes)) (append-nil (take i bytes))) in
      sym so_far ∙ here

module _ (ending : Ending) (state : Awaited) (room : ℕ) (bytes : List ℕ) (i : ℕ) (total : Result (List ℕ × List ℕ) Stop) (so_far : with_front (take i bytes) (string_at ending state (room - i) (drop i bytes)) ≡ total) where
  pub string_partial : length bytes ≤ i → total ≡ Err Partial
  unfolding string_at
  string_partial le =
      let here : with_front (take i bytes) (string_at ending state (room - i) (drop i bytes)) ≡ Err Partial = rw (drop_all i bytes le) refl in
      sym so_far ∙ here

  pub string_ends : i < length bytes → (state.more == 0 && get_or bytes i 0 == 0) ≡ true → may_end ending (room - i) ≡ true → total ≡ Ok (take i bytes, drop (i + 1) bytes)
  unfolding string_at
  string_ends here_is zero_is may =
      let here : with_front (take i bytes) (string_at ending state (room - i) (drop i bytes)) ≡ with_front (take i bytes) (Ok ([], drop (i + 1) bytes)) = rw (drop_more bytes i 0 here_is, zero_is, may) refl in
      sym so_far ∙ here ∙ ap (λ (x : List ℕ). Ok (x, drop (i + 1) bytes)) (append-nil (take i bytes))

  pub string_ends_early : i < length bytes → (state.more == 0 && get_or bytes i 0 == 0) ≡ true → may_end ending (room - i) ≡ false → total ≡ Err (Departs (length bytes - i))
  unfolding string_at
  string_ends_early here_is zero_is may =
      let here : with_front (take i bytes) (string_at ending state (room - i) (drop i bytes)) ≡ Err (Departs (suc (length (drop (i + 1) bytes)))) = rw (drop_more bytes i 0 here_is, zero_is, may) refl in
      let size : suc (length (drop (i + 1) bytes)) ≡ length bytes - i = omega (arith, drop_length bytes (i + 1)) in
      sym so_far ∙ here ∙ ap (λ (n : ℕ). Err (Departs n)) size

  pub string_departs : i < length bytes → (state.more == 0 && get_or bytes i 0 == 0) ≡ false → fitting (room - i) (after state (get_or bytes i 0)) ≡ None → total ≡ Err (Departs (length bytes - i))
  unfolding string_at
  string_departs here_is other none =
      let here : with_front (take i bytes) (string_at ending state (room - i) (drop i bytes)) ≡ Err (Departs (suc (length (drop (i + 1) bytes)))) = rw (drop_more bytes i 0 here_is, other, none) refl in
      let size : suc (length (drop (i + 1) bytes)) ≡ length bytes - i = omega (arith, drop_length bytes (i + 1)) in
      sym so_far ∙ here ∙ ap (λ (n : ℕ). Err (Departs n)) size

  pub string_more : (next : Awaited) → i < length bytes → (state.more == 0 && get_or bytes i 0 == 0) ≡ false → fitting (room - i) (after state (get_or bytes i 0)) ≡ Some next
      → with_front (take (i + 1) bytes) (string_at ending next (room - (i + 1)) (drop (i + 1) bytes)) ≡ total
  unfolding string_at
  string_more next here_is other some =
      let b = get_or bytes i 0 in
      let k : room - i - 1 ≡ room - (i + 1) = omega arith in
      let here : with_front (take i bytes) (string_at ending state (room - i) (drop i bytes)) ≡ with_front (take i bytes) (with_first b (string_at ending next (room - i - 1) (drop (i + 1) bytes))) =
      rw (drop_more bytes i 0 here_is, other, some) refl in
      rw (take_more bytes i 0 here_is, ← k) (sym (with_front_first (take i bytes) b (string_at ending next (room - i - 1) (drop (i + 1) bytes))) ∙ sym here ∙ so_far)

pub fitting_is : (left : ℕ) (o : Option Awaited) (next : Awaited) → fitting left o ≡ Some next → (o ≡ Some next) × (next.more < left)
fitting_is left None next e = absurd cc
fitting_is left (Some s) next e =
    elim (ltb s.more left) as (λ t. ltb s.more left ≡ t → cond t (Some s) None ≡ Some next → (Some s ≡ Some next) × (next.more < left)) [
      | true ↦ λ t f. let same : s ≡ next = cc in (f, subst (λ (x : Awaited). x.more < left) same (ltb-true _ _ t))
      | false ↦ λ t f. absurd cc
    ] refl e

pub run_more : (state next : Awaited) (bytes : List ℕ) (i left : ℕ) → i < length bytes → run boundary (take i bytes) ≡ Some state → fitting left (after state (get_or bytes i 0)) ≡ Some next
    → (run boundary (take (i + 1) bytes) ≡ Some next) × (next.more < left)
run_more state next bytes i left lt so_far fits =
    let is = fitting_is left (after state (get_or bytes i 0)) next fits in
    (rw (take_more bytes i 0 lt) (run_append (take i bytes) (get_or bytes i 0 ∷ []) boundary state so_far ∙ run_step state (get_or bytes i 0) [] next is.0), is.1)

pub text_is : (bytes : List ℕ) (state : Awaited) → run boundary bytes ≡ Some state → state.more ≡ 0 → IsUtf8 bytes
text_is bytes state e none =
    is_utf8 bytes (e ∙ ap Some ((run_sound bytes boundary state boundary_sound e).closes none))
