-- Strings and the zero bytes that end them.
use Rattle.std.{proofs.{Common.{◌≡◌, ◌≢◌, ℕ, suc, ◌+◌, ◌-◌, ◌<◌, ◌≤◌, Bool, true, false, cond, eqb, ltb, List, [], ◌∷◌, ◌++◌, length, get_or, take, drop, Some, None, refl, sym, ap, subst, ◌∙◌, append_assoc, add-one, arith}, Math.Seq.drop-cons, lemmas.{Bool.{eqb-true, eqb-false, ltb-false}, List.{take-append-drop, get_or-take, length-take, take_rest, get_or_default, Elements.recursion_from_All, Quantifiers.position-Some, Sums.fails_before_first}}}, specs.List.{position, position_or_len}}
use Rattle.pm_startup.specs.Parameters.{IsString, string}

-- a test that answered None was false
none_false : (b : Bool) (i : ℕ) → cond b (Some i) None ≡ None → b ≡ false
none_false true i e = absurd cc
none_false false i e = refl

-- where no byte is zero, all of them are a string
pub string-unended : (bytes : List ℕ) → position (λ b. eqb b 0) bytes ≡ None → IsString bytes
string-unended bytes e =
    let first : ℕ = position_or_len (λ b. eqb b 0) bytes in
    let late : length bytes ≤ first = ltb-false _ _ (none_false (ltb first (length bytes)) first e) in
    recursion_from_All (λ b. b ≢ 0) bytes
    (λ k d lt. eqb-false _ _ (fails_before_first (λ b. eqb b 0) bytes k d (omega arith)))

-- what stands before the first zero byte is a string
pub string-before : (bytes : List ℕ) (i : ℕ) → position (λ b. eqb b 0) bytes ≡ Some i → IsString (take i bytes)
string-before bytes i e =
    let p = position-Some (λ b. eqb b 0) bytes i 0 e in
    recursion_from_All (λ b. b ≢ 0) (take i bytes)
    (λ k d lt.
    let below : k < i = omega (arith, length-take i bytes) in
    let inside : k < length bytes = omega (arith, p.0) in
    subst (λ (b : ℕ). b ≢ 0) (sym (get_or-take i bytes k d below ∙ get_or_default bytes k d 0 inside)) (eqb-false _ _ (p.2 k below)))

-- the bytes are that string and what comes after its zero byte
pub string-ended : (bytes : List ℕ) (i : ℕ) → position (λ b. eqb b 0) bytes ≡ Some i → bytes ≡ string (take i bytes) ++ take (length bytes - (i + 1)) (drop (i + 1) bytes)
string-ended bytes i e =
    let p = position-Some (λ b. eqb b 0) bytes i 0 e in
    let zero_here : get_or bytes i 0 ≡ 0 = eqb-true _ _ p.1 in
    let behind : drop i bytes ≡ 0 ∷ drop (i + 1) bytes = drop-cons bytes i 0 p.0 ∙ ap (λ (b : ℕ). b ∷ drop (suc i) bytes) zero_here ∙ ap (λ (n : ℕ). 0 ∷ drop n bytes) (sym (add-one i)) in
    sym (take-append-drop i bytes) ∙ ap (λ (r : List ℕ). take i bytes ++ r) behind
    ∙ sym (append_assoc (take i bytes) (0 ∷ []) (drop (i + 1) bytes))
    ∙ ap (λ (r : List ℕ). string (take i bytes) ++ r) (sym (take_rest bytes (i + 1)))

-- a string holds no zero byte
pub string-no_zero : (s t x : List ℕ) → IsString s → s ≡ t ++ 0 ∷ x → ⊥
string-no_zero [] [] x h e = cc
string-no_zero [] (b ∷ t) x h e = cc
string-no_zero (a ∷ s) [] x h e = h.0 cc
string-no_zero (a ∷ s) (b ∷ t) x h e = string-no_zero s t x h.1 cc

-- a string and its zero byte are the front of a list in one way
pub string-same : (s t x y : List ℕ) → IsString s → IsString t → s ++ 0 ∷ x ≡ t ++ 0 ∷ y → (s ≡ t) × (x ≡ y)
string-same [] [] x y p q e = (refl, cc)
string-same [] (b ∷ t) x y p q e = absurd (q.0 cc)
string-same (a ∷ s) [] x y p q e = absurd (p.0 cc)
string-same (a ∷ s) (b ∷ t) x y p q e =
    let rest = string-same s t x y p.1 q.1 cc in
    let head : a ≡ b = cc in
    (cc, rest.1)
