-- Decimal digits, one by one.
use Rattle.std.{proofs.{Common.{◌≡◌, ℕ, zero, suc, ◌+◌, ◌-◌, ◌*◌, ◌/◌, ◌^◌, ◌<◌, ◌≤◌, ◌⊎◌, Bool, true, false, not, ◌==◌, ◌&&◌, ltb, List, ◌∷◌, length, get_or, drop, Result, Ok, Err, refl, sym, ap, subst, ◌∙◌, inl, inr, arith, add-one}, Math.Nat.{pow-suc, mul-le-mul_right}, lemmas.{Nat.{le-div, div-add-mod'}, Bool.{cond_both, ltb-false, le-ltb}, List.{drop_more, drop_all}}}, specs.Char.is_ascii_digit}
use Rattle.pm_wire_back.{specs.{declared.parts.Stop.{Stop, TheVariants.{Partial, Departs}}, Parts.{departs, behind_digit, number_at}}, proofs.Walks.drop_length}

pub ten_pos : (k : ℕ) → 0 < 10 ^ k
ten_pos zero = omega arith
ten_pos (suc k) = rw (pow-suc 10 k) (omega (arith, ten_pos k))

pub ten_suc : (k : ℕ) → 10 ^ (k + 1) ≡ 10 ^ k * 10
ten_suc k = rw add-one (pow-suc 10 k)

pub tens_le : (value more limit : ℕ) → value * 10 ^ (more + 1) ≤ limit → 10 * value ≤ limit / 10 ^ more
tens_le value more limit h =
    let p = 10 ^ more in
    let e : 10 * value * p ≡ value * (p * 10) = omega arith in
    le-div (10 * value) limit p (ten_pos more) (omega (arith, e, ap (λ (n : ℕ). value * n) (ten_suc more), h))

pub under_div : (n more limit : ℕ) → n ≤ limit / 10 ^ more → n * 10 ^ more ≤ limit
under_div n more limit h =
    let p = 10 ^ more in
    omega (arith, mul-le-mul_right p h, div-add-mod' limit p)

-- ---- one digit

abbrev pub IsRefused : Bool → ℕ → ℕ → ℕ → ℕ → Type 0
IsRefused zeros limit value b k =
    (is_ascii_digit b ≡ false) ⊎ ((limit / 10 ^ k < behind_digit value b) ⊎ ((behind_digit value b == 0 && not (zeros && k == 0)) ≡ true))

pub digit_departs : (zeros : Bool) (limit value k b : ℕ) (bs : List ℕ) → IsRefused zeros limit value b k → number_at zeros limit value (suc k) (b ∷ bs) ≡ departs (b ∷ bs)
unfolding number_at
digit_departs zeros limit value k b bs h =
    let P : Result (ℕ × List ℕ) Stop → Type 0 = λ r. r ≡ departs (b ∷ bs) in
    cond_both (not (is_ascii_digit b)) _ _ P (λ _. refl)
    (λ digit. cond_both (ltb (limit / 10 ^ k) (behind_digit value b)) _ _ P (λ _. refl)
    (λ small. cond_both (behind_digit value b == 0 && not (zeros && k == 0)) _ _ P (λ _. refl)
    (λ leads. elim h [
      | inl no_digit ↦ let e : not (is_ascii_digit b) ≡ true = rw no_digit refl in absurd cc
      | inr g ↦ elim g [
        | inl large ↦ absurd (omega (arith, ltb-false _ _ small, large))
        | inr zero_is ↦ absurd cc
      ]
    ])))

pub digit_more : (zeros : Bool) (limit value k b : ℕ) (bs : List ℕ) → is_ascii_digit b ≡ true → behind_digit value b ≤ limit / 10 ^ k
    → (behind_digit value b == 0 && not (zeros && k == 0)) ≡ false → number_at zeros limit value (suc k) (b ∷ bs) ≡ number_at zeros limit (behind_digit value b) k bs
unfolding number_at
digit_more zeros limit value k b bs digit small leads = rw (digit, le-ltb (limit / 10 ^ k) (behind_digit value b) small, leads) refl

-- ---- the walk

module _ (zeros : Bool) (limit value count : ℕ) (bytes : List ℕ) (i : ℕ) (total : Result (ℕ × List ℕ) Stop) (so_far : number_at zeros limit value (count - i) (drop i bytes) ≡ total) where
  pub number_partial : i < count → length bytes ≤ i → total ≡ Err Partial
  unfolding number_at
  number_partial lt le =
      let k : count - i ≡ suc (count - i - 1) = omega arith in
      let here : number_at zeros limit value (count - i) (drop i bytes) ≡ Err Partial = rw (k, drop_all i bytes le) refl in
      sym so_far ∙ here

  pub number_departs : i < count → i < length bytes → IsRefused zeros limit value (get_or bytes i 0) (count - i - 1) → total ≡ Err (Departs (length bytes - i))
  number_departs lt here_is refused =
      let k : count - i ≡ suc (count - i - 1) = omega arith in
      let b = get_or bytes i 0 in
      let here : number_at zeros limit value (count - i) (drop i bytes) ≡ Err (Departs (suc (length (drop (i + 1) bytes)))) =
      rw (k, drop_more bytes i 0 here_is) (digit_departs zeros limit value (count - i - 1) b (drop (i + 1) bytes) refused) in
      let size : suc (length (drop (i + 1) bytes)) ≡ length bytes - i = omega (arith, drop_length bytes (i + 1)) in
      sym so_far ∙ here ∙ ap (λ (n : ℕ). Err (Departs n)) size

  pub number_more : i < count → i < length bytes → (next : ℕ) → is_ascii_digit (get_or bytes i 0) ≡ true → next ≡ behind_digit value (get_or bytes i 0) → next * 10 ^ (count - i - 1) ≤ limit
      → (next == 0 && not (zeros && count - i - 1 == 0)) ≡ false → number_at zeros limit next (count - (i + 1)) (drop (i + 1) bytes) ≡ total
  number_more lt here_is next digit is small leads =
      let k : count - i ≡ suc (count - i - 1) = omega arith in
      let same : count - i - 1 ≡ count - (i + 1) = omega arith in
      let b = get_or bytes i 0 in
      let below : behind_digit value b ≤ limit / 10 ^ (count - i - 1) =
      le-div (behind_digit value b) limit (10 ^ (count - i - 1)) (ten_pos (count - i - 1)) (subst (λ (n : ℕ). n * 10 ^ (count - i - 1) ≤ limit) is small) in
      let here : number_at zeros limit value (count - i) (drop i bytes) ≡ number_at zeros limit (behind_digit value b) (count - i - 1) (drop (i + 1) bytes) =
      ap (λ (n : ℕ). number_at zeros limit value n (drop i bytes)) k ∙ ap (number_at zeros limit value (suc (count - i - 1))) (drop_more bytes i 0 here_is)
      ∙ digit_more zeros limit value (count - i - 1) b (drop (i + 1) bytes) digit below (subst (λ (n : ℕ). (n == 0 && not (zeros && count - i - 1 == 0)) ≡ false) is leads) in
      let shown : number_at zeros limit (behind_digit value b) (count - i - 1) (drop (i + 1) bytes) ≡ number_at zeros limit next (count - (i + 1)) (drop (i + 1) bytes) =
      ap (λ (n : ℕ). number_at zeros limit n (count - i - 1) (drop (i + 1) bytes)) (sym is) ∙ ap (λ (n : ℕ). number_at zeros limit next n (drop (i + 1) bytes)) same in
      sym shown ∙ sym here ∙ so_far

  pub number_done : count ≡ i → total ≡ Ok (value, drop i bytes)
  unfolding number_at
  number_done same =
      let k : count - i ≡ 0 = omega arith in
      let here : number_at zeros limit value (count - i) (drop i bytes) ≡ Ok (value, drop i bytes) = rw k refl in
      sym so_far ∙ here

pub not_zero : (zeros : Bool) (n k : ℕ) → zeros ≡ false → (n == 0 && not (zeros && k == 0)) ≡ false → 0 < n
not_zero zeros (suc n) k none leads = omega arith
not_zero zeros zero k none leads = let e : (0 == 0 && not (zeros && k == 0)) ≡ true = rw none refl in absurd cc
