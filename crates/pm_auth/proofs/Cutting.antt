-- Where a text is cut at the first such byte.
use Rattle.std.{proofs.{Common.{◌≡◌, ◌≢◌, ◌∙◌, ℕ, suc, ◌+◌, ◌-◌, ◌<◌, ◌≤◌, Bool, true, false, cond, eqb, ltb, List, [], ◌∷◌, ◌++◌, length, get_or, take, drop, Some, None, refl, sym, ap, subst, add-one, arith}, Math.Seq.drop-cons, lemmas.{Bool.{eqb-true, eqb-false, ltb-false}, List.{drop_at, take_at, take-append-drop, get_or-take, length-take, take_rest, get_or_default, Elements.{All-from_get_or, recursion_from_All}, Quantifiers.position-Some, Sums.fails_before_first}, Bool.Decides.Decides-eqb, Slice.Eq.strip_prefix_is, Str.Pattern.{IsSplitOnceResult, split_parts}}}, specs.{List.{position, position_or_len}, Prelude.{Option, MatchOption, IfSome, IfNone}, Cmp.Lexicographic.pointwise}}
use denote.Ref.{Bor}
use Rattle.pm_auth.specs.Cuts.{IsCut, IsCutAt, IsFreeOf}

-- ---- in one way

pub not_free : (byte : ℕ) (bytes front rest : List ℕ) → IsFreeOf byte bytes → bytes ≡ front ++ byte ∷ rest → ⊥
not_free byte [] [] rest free e = cc
not_free byte [] (b ∷ front) rest free e = cc
not_free byte (a ∷ bytes) [] rest free e = free.0 cc
not_free byte (a ∷ bytes) (b ∷ front) rest free e = not_free byte bytes front rest free.1 cc

same_parts : (byte : ℕ) (a b x y : List ℕ) → IsFreeOf byte a → IsFreeOf byte b → a ++ byte ∷ x ≡ b ++ byte ∷ y → (a ≡ b) × (x ≡ y)
same_parts byte [] [] x y p q e = (refl, cc)
same_parts byte [] (b ∷ t) x y p q e = absurd (q.0 cc)
same_parts byte (a ∷ s) [] x y p q e = absurd (p.0 cc)
same_parts byte (a ∷ s) (b ∷ t) x y p q e =
    let rest = same_parts byte s t x y p.1 q.1 cc in
    let head : a ≡ b = cc in
    (cc, rest.1)

pub no_cut : (byte : ℕ) (whole front rest : List ℕ) → IsFreeOf byte whole → IsCut byte whole front rest → ⊥
no_cut byte whole front rest free is = not_free byte whole front rest free is.whole_is

pub cut_once : (byte : ℕ) (whole front rest front' rest' : List ℕ) → IsCut byte whole front rest → IsCut byte whole front' rest'
    → (front ≡ front') × (rest ≡ rest')
cut_once byte whole front rest front' rest' one other =
    same_parts byte front front' rest rest' one.front_is other.front_is (sym one.whole_is ∙ other.whole_is)

-- ---- after so many

pub cut_at_once : (count byte : ℕ) (whole front rest front' rest' : List ℕ) → IsCutAt count byte whole front rest → IsCutAt count byte whole front' rest'
    → (front ≡ front') × (rest ≡ rest')
cut_at_once count byte whole front rest front' rest' one other =
    let same : front ++ byte ∷ rest ≡ front' ++ byte ∷ rest' = sym one.whole_is ∙ other.whole_is in
    let behind : byte ∷ rest ≡ byte ∷ rest' =
    sym (drop_at front (byte ∷ rest) count one.front_is) ∙ ap (λ w. drop count w) same ∙ drop_at front' (byte ∷ rest') count other.front_is in
    (sym (take_at front (byte ∷ rest) count one.front_is) ∙ ap (λ w. take count w) same ∙ take_at front' (byte ∷ rest') count other.front_is, cc)

-- ---- a text

free_by_place : (byte : ℕ) (bytes : List ℕ) → ((i : ℕ) → i < length bytes → get_or bytes i 0 ≢ byte) → IsFreeOf byte bytes
free_by_place byte bytes none =
    recursion_from_All (λ other. other ≢ byte) bytes (All-from_get_or (λ other. other ≢ byte) bytes 0 none)

parts_cut : (byte : ℕ) (text : List ℕ) (r : Option (Bor (List ℕ) × Bor (List ℕ)))
    → MatchOption r ((i : ℕ) → i < length text → get_or text i 0 ≢ byte)
    (λ x. (text ≡ x.0.now ++ (byte ∷ x.1.now)) × ((i : ℕ) → i < length x.0.now → get_or x.0.now i 0 ≢ byte))
    → IfSome r (λ x. IsCut byte text x.0.now x.1.now) × IfNone r (IsFreeOf byte text)
parts_cut byte text None none = (tt, free_by_place byte text none)
parts_cut byte text (Some x) parts = (record { front_is = free_by_place byte x.0.now parts.1; whole_is = parts.0 }, tt)

pub text_cut : (byte : ℕ) (text : List ℕ) (r : Option (Bor (List ℕ) × Bor (List ℕ))) → IsSplitOnceResult byte text r → byte < 128
    → IfSome r (λ x. IsCut byte text x.0.now x.1.now) × IfNone r (IsFreeOf byte text)
text_cut byte text r by ascii = parts_cut byte text r (split_parts byte text r by ascii)

-- ---- what stands after a front

behind : (bytes front : List ℕ) (r : Option (Bor (List ℕ)))
    → MatchOption r ((rest : List ℕ) → bytes ≢ front ++ rest) (λ x. bytes ≡ front ++ x.now)
    → IfSome r (λ rest. bytes ≡ front ++ rest.now) × IfNone r ((rest : List ℕ) → ¬ (bytes ≡ front ++ rest))
behind bytes front None none = (tt, none)
behind bytes front (Some x) is = (is, tt)

pub stripped : (bytes front : List ℕ) (r : Option (Bor (List ℕ)))
    → MatchOption r (pointwise eqb (take (length front) bytes) front ≡ false)
    (λ x. (pointwise eqb (take (length front) bytes) front ≡ true) × (x.now ≡ drop (length front) bytes) × (length x.now + length front ≡ length bytes))
    → IfSome r (λ rest. bytes ≡ front ++ rest.now) × IfNone r ((rest : List ℕ) → ¬ (bytes ≡ front ++ rest))
stripped bytes front r cases = behind bytes front r (strip_prefix_is Decides-eqb bytes front r cases)

-- ---- bytes

-- a test that answered None was false
none_false : (b : Bool) (i : ℕ) → cond b (Some i) None ≡ None → b ≡ false
none_false true i e = absurd cc
none_false false i e = refl

pub uncut : (byte : ℕ) (bytes : List ℕ) → position (λ b. eqb b byte) bytes ≡ None → IsFreeOf byte bytes
uncut byte bytes e =
    let first : ℕ = position_or_len (λ b. eqb b byte) bytes in
    let late : length bytes ≤ first = ltb-false _ _ (none_false (ltb first (length bytes)) first e) in
    recursion_from_All (λ b. b ≢ byte) bytes
    (λ k d lt. eqb-false _ _ (fails_before_first (λ b. eqb b byte) bytes k d (omega arith)))

free_before : (byte : ℕ) (bytes : List ℕ) (i : ℕ) → position (λ b. eqb b byte) bytes ≡ Some i → IsFreeOf byte (take i bytes)
free_before byte bytes i e =
    let p = position-Some (λ b. eqb b byte) bytes i 0 e in
    recursion_from_All (λ b. b ≢ byte) (take i bytes)
    (λ k d lt.
    let below : k < i = omega (arith, length-take i bytes) in
    let inside : k < length bytes = omega (arith, p.0) in
    subst (λ (b : ℕ). b ≢ byte) (sym (get_or-take i bytes k d below ∙ get_or_default bytes k d 0 inside)) (eqb-false _ _ (p.2 k below)))

pub bytes_cut : (byte : ℕ) (bytes : List ℕ) (i : ℕ) → position (λ b. eqb b byte) bytes ≡ Some i
    → IsCut byte bytes (take i bytes) (take (length bytes - (i + 1)) (drop (i + 1) bytes))
bytes_cut byte bytes i e =
    let p = position-Some (λ b. eqb b byte) bytes i 0 e in
    let here : get_or bytes i 0 ≡ byte = eqb-true _ _ p.1 in
    let behind : drop i bytes ≡ byte ∷ drop (i + 1) bytes = drop-cons bytes i 0 p.0 ∙ ap (λ (b : ℕ). b ∷ drop (suc i) bytes) here ∙ ap (λ (n : ℕ). byte ∷ drop n bytes) (sym (add-one i)) in
    record {
      front_is = free_before byte bytes i e;
      whole_is = sym (take-append-drop i bytes) ∙ ap (λ (r : List ℕ). take i bytes ++ r) behind
          ∙ ap (λ (r : List ℕ). take i bytes ++ byte ∷ r) (sym (take_rest bytes (i + 1)));
    }
