-- Numbers of a given count of digits, read exactly.
use Rattle.std.{proofs.{Common.{◌≡◌, ℕ, ℤ, pos, negsuc, zero, suc, ◌+◌, ◌-◌, ◌*◌, ◌/◌, ◌^◌, ◌<◌, ◌≤◌, ◌⊎◌, Bool, true, false, not, ◌==◌, ◌&&◌, cond, eqb, ltb, List, [], ◌∷◌, ◌++◌, length, get_or, replicate, decimal, Result, Ok, Err, refl, sym, ap, subst, ◌∙◌, inl, inr, arith, rules}, Math.Nat.{pow-suc, mul-le-mul_right, pow-le-pow_right}, lemmas.{Nat.le-div, Bool.{cond_both, cases_lt, eqb-true, eqb-false, ltb-true, ltb-false, and_parts}, List.length-replicate, Str.Parse.{IsNumeralModel, numerals_by_fold}, Fmt.{digits_decimal, digits_value-decimal, decimal-digits_value, decimal_nonempty, decimal_digit, first_decimal, length-decimal-le, signed_decimal_injective}}}, specs.{Char.is_ascii_digit, Str.all_ascii_digits, Fmt.signed_decimal}}
use lib.Signed.{mag}
use Rattle.pm_wire_back.{specs.{declared.parts.Stop.{Stop, TheVariants.{Partial, Departs}}, Parts.{◌>>=◌, departs, behind_digit, number_at, negative, key_at}}, proofs.{Decimals.{ten_pos, under_div, not_zero}, Exact.{Apart, GoesOn, HasWord, Exact}, Fields.{exact_first, departs_now, same_length, bind_same}}}
use Rattle.pm_wire.specs.{Backend.IsInt64, pm_facts.Numbers.above_zero}
use Rattle.std.proofs.lemmas.Bool.{ne_eqb}

abbrev pub read_on : ℕ → List ℕ → ℕ
read_on n [] = n
read_on n (c ∷ cs) = read_on (10 * n + (c - 48)) cs

own : IsNumeralModel (λ ds. all_ascii_digits ds ≡ true) (read_on 0)
own = numerals_by_fold _ (search rules) read_on (search rules)

-- no digit but the last, where that is allowed, is a leading zero
abbrev pub Leads : Bool → ℕ → List ℕ → Type 0
Leads zeros value [] = Unit {0}
Leads zeros value (b ∷ bs) = (behind_digit value b == 0 && not (zeros && length bs == 0)) ≡ false

pub record Num (zeros : Bool) (limit value k : ℕ) (word : List ℕ) (n : ℕ) : Type 0 where
  pub digits : all_ascii_digits word ≡ true
  pub size : length word ≡ k
  pub is : n ≡ read_on value word
  pub within : n ≤ limit
  pub leads : Leads zeros value word

pub num_apart : (zeros : Bool) (limit value k : ℕ) → Apart (Num zeros limit value k)
num_apart zeros limit value k a b x y m n at_m at_n e =
    let same : a ≡ b = same_length a b x y e (at_m.size ∙ sym at_n.size) in
    (same, at_m.is ∙ ap (read_on value) same ∙ sym at_n.is)

read_on_low : (word : List ℕ) (value : ℕ) → value * 10 ^ length word ≤ read_on value word
read_on_low [] value = omega arith
read_on_low (b ∷ bs) value =
    let p = 10 ^ length bs in
    let next = behind_digit value b in
    let more : 10 * value * p ≤ next * p = mul-le-mul_right p (omega arith) in
    let e : value * (p * 10) ≡ 10 * value * p = omega arith in
    rw (pow-suc 10 (length bs)) (omega (arith, read_on_low bs next, more, e))

read_on_zeros : (k value : ℕ) → read_on value (replicate k 48) ≡ value * 10 ^ k
read_on_zeros zero value = omega arith
read_on_zeros (suc k) value =
    let p = 10 ^ k in
    let e : 10 * value * p ≡ value * (p * 10) = omega arith in
    let next : 10 * value + (48 - 48) ≡ 10 * value = omega arith in
    ap (λ (n : ℕ). read_on n (replicate k 48)) next ∙ read_on_zeros k (10 * value) ∙ e ∙ ap (λ (n : ℕ). value * n) (sym (pow-suc 10 k))

zeros_are_digits : (k : ℕ) → all_ascii_digits (replicate k 48) ≡ true
zeros_are_digits zero = refl
zeros_are_digits (suc k) = zeros_are_digits k

-- after a number that isn't 0 no zero leads
leads_behind : (zeros : Bool) (value : ℕ) (word : List ℕ) → 0 < value → Leads zeros value word
leads_behind zeros value [] h = tt
leads_behind zeros value (b ∷ bs) h = rw (ne_eqb (behind_digit value b) 0 (λ e. omega (arith, h, e))) refl

never : (zeros : Bool) (k : ℕ) → (zeros && suc k == 0) ≡ false
never true k = ne_eqb (suc k) 0 (λ e. omega (arith, e))
never false k = refl

filled : (zeros : Bool) (limit next k : ℕ) → next * 10 ^ k ≤ limit → (next == 0 && not (zeros && k == 0)) ≡ false → HasWord (Num zeros limit next k)
filled zeros limit next zero small leads =
    ([], next, record { digits = refl; size = refl; is = refl; within = omega (arith, small); leads = tt })
filled zeros limit next (suc k) small leads =
    let positive : 0 < next = elim (eqb next 0) as (λ t. eqb next 0 ≡ t → 0 < next) [
      | true ↦ λ e. let no_more : (zeros && suc k == 0) ≡ false = never zeros k in let yes : (next == 0 && not (zeros && suc k == 0)) ≡ true = rw (e, no_more) refl in absurd cc
      | false ↦ λ e. above_zero next (eqb-false next 0 e)
    ] refl in (
      replicate (suc k) 48,
      next * 10 ^ suc k,
      record {
        digits = zeros_are_digits (suc k);
        size = length-replicate {A = ℕ} (suc k) 48;
        is = sym (read_on_zeros (suc k) next);
        within = small;
        leads = leads_behind zeros next (replicate (suc k) 48) positive;
      },
    )

-- a one and zeros
pub num_word : (zeros : Bool) (limit k : ℕ) → 10 ^ k ≤ limit → HasWord (Num zeros limit 0 (suc k))
num_word zeros limit k small =
    let rest = filled zeros limit 1 k (omega (arith, small)) refl in (
      49 ∷ rest.0,
      rest.1,
      record {
        digits = rest.2.digits;
        size = ap suc rest.2.size;
        is = rest.2.is;
        within = rest.2.within;
        leads = refl;
      },
    )

goes : (zeros : Bool) (limit value k : ℕ) → HasWord (Num zeros limit value (suc k)) → GoesOn (Num zeros limit value (suc k)) []
goes zeros limit value k h = (h.0, h.1, omega (arith, h.2.size), h.2)

pub number_exact : (k : ℕ) (bytes : List ℕ) (zeros : Bool) (limit value : ℕ) → HasWord (Num zeros limit value k) → Exact (Num zeros limit value k) bytes (number_at zeros limit value k bytes)
unfolding number_at
number_exact zero bytes zeros limit value h =
    let none : (word : List ℕ) (n : ℕ) → Num zeros limit value 0 word n → value ≤ limit = nothing in
    ([], refl, record { digits = refl; size = refl; is = refl; within = none h.0 h.1 h.2; leads = tt })
  where
    nothing : (word : List ℕ) (n : ℕ) → Num zeros limit value 0 word n → value ≤ limit
    nothing [] n h = omega (arith, h.is, h.within)
    nothing (b ∷ bs) n h = absurd (omega (arith, h.size))
number_exact (suc k) [] zeros limit value h = goes zeros limit value k h
number_exact (suc k) (b ∷ bs) zeros limit value h =
    let L = Num zeros limit value (suc k) in
    let next = behind_digit value b in
    cond_both (not (is_ascii_digit b)) _ _ (Exact L (b ∷ bs))
    (λ no_digit. departs_now L b bs (goes zeros limit value k h) (λ more n word. let d = and_parts (is_ascii_digit b) (all_ascii_digits more) word.digits in let e : not (is_ascii_digit b) ≡ false = rw d.0 refl in absurd cc))
    (λ digit. cond_both (ltb (limit / 10 ^ k) next) _ _ (Exact L (b ∷ bs))
    (λ large. departs_now L b bs (goes zeros limit value k h) (λ more n word.
    let size : length more ≡ k = omega (arith, word.size) in
    let low : next * 10 ^ k ≤ limit = omega (arith, subst (λ (j : ℕ). next * 10 ^ j ≤ read_on next more) size (read_on_low more next), word.is, word.within) in
    let below : next ≤ limit / 10 ^ k = le-div next limit (10 ^ k) (ten_pos k) low in
    omega (arith, below, ltb-true _ _ large)))
    (λ small. cond_both (next == 0 && not (zeros && k == 0)) _ _ (Exact L (b ∷ bs))
    (λ leading. departs_now L b bs (goes zeros limit value k h) (λ more n word.
    let size : length more ≡ k = omega (arith, word.size) in
    let no_lead : (next == 0 && not (zeros && k == 0)) ≡ false = subst (λ (j : ℕ). (next == 0 && not (zeros && j == 0)) ≡ false) size word.leads in
    absurd cc))
    (λ leads.
    subst (Exact L (b ∷ bs)) (bind_same (number_at zeros limit next k bs))
    (exact_first L (Num zeros limit next k) (λ n. n) b
    (λ w n word. record {
      digits = rw (digit_is b digit) word.digits;
      size = ap suc word.size;
      is = word.is;
      within = word.within;
      leads = subst (λ (j : ℕ). (next == 0 && not (zeros && j == 0)) ≡ false) (sym word.size) leads;
    })
    (λ w n word. (
      n,
      record {
        digits = (and_parts (is_ascii_digit b) (all_ascii_digits w) word.digits).1;
        size = omega (arith, word.size);
        is = word.is;
        within = word.within;
        leads = still zeros next w (subst (λ (j : ℕ). (next == 0 && not (zeros && j == 0)) ≡ false) (sym (omega (arith, word.size))) leads);
      },
    ))
    bs (number_at zeros limit next k bs)
    (number_exact k bs zeros limit next (filled zeros limit next k (under_div next k limit (ltb-false _ _ small)) leads))))))
  where
    digit_is : (b : ℕ) → not (is_ascii_digit b) ≡ false → is_ascii_digit b ≡ true
    digit_is b h = elim (is_ascii_digit b) as (λ t. not t ≡ false → t ≡ true) [ true ↦ λ _. refl | false ↦ λ e. absurd cc ] h

    still : (zeros : Bool) (next : ℕ) (w : List ℕ) → (next == 0 && not (zeros && length w == 0)) ≡ false → Leads zeros next w
    still zeros next [] h = tt
    still zeros zero (c ∷ w) h = let yes : (0 == 0 && not (zeros && suc (length w) == 0)) ≡ true = rw (never zeros (length w)) refl in absurd cc
    still zeros (suc n) (c ∷ w) h = leads_behind zeros (suc n) (c ∷ w) (omega arith)

-- ---- the digits of a number

-- the digits that are read are those that are written
pub num_decimal : (zeros : Bool) (limit k : ℕ) (word : List ℕ) (n : ℕ) → limit < 2 ^ 64 → Num zeros limit 0 (suc k) word n → word ≡ decimal n
num_decimal zeros limit k [] n fits h = absurd (omega (arith, h.size))
num_decimal zeros limit k (b ∷ bs) n fits h =
    let value : read_on 0 (b ∷ bs) < 2 ^ 64 = omega (arith, h.is, h.within, fits) in
    let lone : b ≡ 48 → length (b ∷ bs) ≡ 1 = λ e. one bs (subst (λ (c : ℕ). (behind_digit 0 c == 0 && not (zeros && length bs == 0)) ≡ false) e h.leads) in
    sym (decimal-digits_value own (b ∷ bs) h.digits (omega arith) lone value) ∙ ap decimal (sym h.is)
  where
    one : (bs : List ℕ) → (behind_digit 0 48 == 0 && not (zeros && length bs == 0)) ≡ false → length (48 ∷ bs) ≡ 1
    one [] h = refl
    one (c ∷ cs) h = let yes : (behind_digit 0 48 == 0 && not (zeros && suc (length cs) == 0)) ≡ true = rw (never zeros (length cs)) refl in absurd cc

decimal_leads : (zeros : Bool) (n : ℕ) (word : List ℕ) → n < 2 ^ 64 → word ≡ decimal n → (zeros ≡ true) ⊎ (0 < n) → Leads zeros 0 word
decimal_leads zeros n [] fits e h = tt
decimal_leads zeros zero (b ∷ bs) fits e (inl allowed) =
    let single : b ∷ bs ≡ 48 ∷ [] = e ∙ decimal_digit 0 (omega arith) in
    let none : length bs ≡ 0 = omega (arith, ap length single) in
    rw (allowed, none) (and_false (behind_digit 0 b == 0))
  where
    and_false : (t : Bool) → (t && not (true && 0 == 0)) ≡ false
    and_false true = refl
    and_false false = refl
decimal_leads zeros zero (b ∷ bs) fits e (inr h) = absurd (omega (arith, h))
decimal_leads zeros (suc n) (b ∷ bs) fits e h =
    let first : 48 < b = omega (arith, first_decimal (suc n) (omega arith) fits, ap (λ (w : List ℕ). get_or w 0 0) e) in
    rw (ne_eqb (behind_digit 0 b) 0 (λ z. omega (arith, first, z))) refl

pub decimal_num : (zeros : Bool) (limit n : ℕ) → n < 2 ^ 64 → n ≤ limit → (zeros ≡ true) ⊎ (0 < n) → Num zeros limit 0 (length (decimal n)) (decimal n) n
decimal_num zeros limit n fits le h = record {
  digits = digits_decimal own n fits;
  size = refl;
  is = sym (digits_value-decimal own n fits);
  within = le;
  leads = decimal_leads zeros n (decimal n) fits refl h;
}

-- ---- signed numbers

-- a reader for the words that begin with this byte
pub exact_starting : {X Y : Type 0} (L : List ℕ → Y → Type 0) (M : List ℕ → X → Type 0) (g : X → Y) (b : ℕ)
    → ((w : List ℕ) (x : X) → M w x → L w (g x)) → ((w : List ℕ) (y : Y) → L (b ∷ w) y → (x : X) × M (b ∷ w) x)
    → (bs : List ℕ) (read : Result (X × List ℕ) Stop) → Exact M (b ∷ bs) read → Exact L (b ∷ bs) (read >>= λ p. Ok (g p.0, p.1))
exact_starting L M g b into out bs (Ok p) h = (h.0, h.1, into h.0 p.0 h.2)
exact_starting L M g b into out bs (Err Partial) h = (h.0, g h.1, h.2, into (b ∷ bs ++ h.0) h.1 h.3)
exact_starting L M g b into out bs (Err (Departs left)) h = record {
  front = h.front;
  byte = h.byte;
  behind = h.behind;
  parts = h.parts;
  size = h.size;
  goes_on = (h.goes_on.0, g h.goes_on.1, h.goes_on.2, into (h.front ++ h.goes_on.0) h.goes_on.1 h.goes_on.3);
  stuck = stuck h.front h.parts h.stuck;
}
  where
    stuck : (front : List ℕ) → b ∷ bs ≡ front ++ h.byte ∷ h.behind → ((more : List ℕ) (x : _) → M (front ++ h.byte ∷ more) x → ⊥) → (more : List ℕ) (y : _) → L (front ++ h.byte ∷ more) y → ⊥
    stuck [] parts no_word more y word =
        let same : h.byte ≡ b = cc in
        let o = out more y (subst (λ c. L (c ∷ more) y) same word) in
        no_word more o.0 (subst (λ c. M (c ∷ more) o.0) (sym same) o.1)
    stuck (c ∷ front) parts no_word more y word =
        let same : c ≡ b = cc in
        let o = out (front ++ h.byte ∷ more) y (subst (λ c. L (c ∷ (front ++ h.byte ∷ more)) y) same word) in
        no_word more o.0 (subst (λ c. M (c ∷ (front ++ h.byte ∷ more)) o.0) (sym same) o.1)

abbrev pub KeyWord : ℕ → List ℕ → ℤ → Type 0
KeyWord count word z = (word ≡ signed_decimal z) × (length word ≡ count) × IsInt64 z

key_limit : 2 ^ 63 - 1 < 2 ^ 64
key_limit = omega arith

-- the word of a number that isn't negative, and of one that is
pos_key : (count : ℕ) (word : List ℕ) (n : ℕ) → Num true (2 ^ 63 - 1) 0 count word n → 1 ≤ count → KeyWord count word (pos n)
pos_key zero word n h low = absurd (omega (arith, low))
pos_key (suc k) word n h low = (num_decimal true (2 ^ 63 - 1) k word n (omega arith) h, h.size, omega (arith, h.within))

first_positive : (word : List ℕ) (n : ℕ) (limit k : ℕ) → Num false limit 0 (suc k) word n → 0 < n
first_positive [] n limit k h = absurd (omega (arith, h.size))
first_positive (b ∷ bs) n limit k h =
    let lead : 0 < behind_digit 0 b = not_zero false (behind_digit 0 b) (length bs) refl h.leads in
    let p = 10 ^ length bs in
    let low : behind_digit 0 b * p ≤ read_on (behind_digit 0 b) bs = read_on_low bs (behind_digit 0 b) in
    let some : 1 * p ≤ behind_digit 0 b * p = mul-le-mul_right p (omega arith) in
    omega (arith, low, some, ten_pos (length bs), h.is)

neg_key : (k : ℕ) (word : List ℕ) (n : ℕ) → Num false (2 ^ 63) 0 (suc k) word n → KeyWord (suc (suc k)) (45 ∷ word) (negative n)
neg_key k word n h =
    let some = first_positive word n (2 ^ 63) k h in
    let same : suc (n - 1) ≡ n = omega (arith, some) in
    let is : word ≡ decimal (suc (n - 1)) = num_decimal false (2 ^ 63) k word n (omega arith) h ∙ ap decimal (sym same) in
    (ap (λ (w : List ℕ). 45 ∷ w) is, ap suc h.size, omega (arith, h.within, some))

-- back from a word to its digits
key_num : (count : ℕ) (word : List ℕ) (n : ℕ) → KeyWord count word (pos n) → Num true (2 ^ 63 - 1) 0 count word n
key_num count word n h =
    let num = decimal_num true (2 ^ 63 - 1) n (omega (arith, h.2)) (omega (arith, h.2)) (inl refl) in
    let size : length (decimal n) ≡ count = ap length (sym h.0) ∙ h.1 in
    subst (λ (w : List ℕ). Num true (2 ^ 63 - 1) 0 count w n) (sym h.0) (subst (λ (k : ℕ). Num true (2 ^ 63 - 1) 0 k (decimal n) n) size num)

key_negative : (count : ℕ) (word : List ℕ) (n : ℕ) → KeyWord (suc count) (45 ∷ word) (negsuc n) → Num false (2 ^ 63) 0 count word (suc n)
key_negative count word n h =
    let num = decimal_num false (2 ^ 63) (suc n) (omega (arith, h.2)) (omega (arith, h.2)) (inr (omega arith)) in
    let is : word ≡ decimal (suc n) = (let e = h.0 in cc) in
    let size : length (decimal (suc n)) ≡ count = omega (arith, ap length is, h.1) in
    subst (λ (w : List ℕ). Num false (2 ^ 63) 0 count w (suc n)) (sym is) (subst (λ (k : ℕ). Num false (2 ^ 63) 0 k (decimal (suc n)) (suc n)) size num)

-- a digit is no minus
no_minus : (word : List ℕ) (n : ℕ) → n < 2 ^ 64 → (rest : List ℕ) → word ≡ decimal n → word ≡ 45 ∷ rest → ⊥
no_minus word n fits rest e f =
    let digits : all_ascii_digits (45 ∷ rest) ≡ true = ap all_ascii_digits (sym f ∙ e) ∙ digits_decimal own n fits in
    cc

key_starts : (count : ℕ) (word : List ℕ) (z : ℤ) (rest : List ℕ) → KeyWord count word z → word ≡ 45 ∷ rest → (n : ℕ) × (z ≡ negsuc n)
key_starts count word (pos n) rest h e = absurd (no_minus word n (omega (arith, h.2)) rest h.0 e)
key_starts count word (negsuc n) rest h e = (n, refl)

powers : (k : ℕ) → k < 19 → 10 ^ k ≤ 2 ^ 63 - 1
powers k lt = omega (arith, pow-le-pow_right {n = 10} (omega arith) {i = k} {j = 18} (omega (arith, lt)))

pub key_word : (count : ℕ) → 1 ≤ count → count ≤ 20 → HasWord (KeyWord count)
key_word zero low high = absurd (omega (arith, low))
key_word (suc k) low high =
    elim (cases_lt k 19) [
      | inl lt ↦ let w = num_word true (2 ^ 63 - 1) k (powers k lt) in (w.0, pos w.1, pos_key (suc k) w.0 w.1 w.2 (omega arith))
      | inr le ↦
          let same : k ≡ suc 18 = omega (arith, high, le) in
          let w = num_word false (2 ^ 63) 18 (omega (arith, powers 18 (omega arith))) in
          subst (λ (j : ℕ). HasWord (KeyWord (suc j))) (sym same) (45 ∷ w.0, negative w.1, neg_key 18 w.0 w.1 w.2)
    ]

key_goes : (count : ℕ) → 1 ≤ count → count ≤ 20 → GoesOn (KeyWord count) []
key_goes count low high = let w = key_word count low high in (w.0, w.1, omega (arith, w.2.1, low), w.2)

key_negative_exact : (bs : List ℕ) (count : ℕ) → 1 ≤ count → count ≤ 20 → Exact (KeyWord count) (45 ∷ bs)
    (cond (count == 1) (departs (45 ∷ bs)) (number_at false (2 ^ 63) 0 (count - 1) bs >>= λ x. Ok (negative x.0, x.1)))
key_negative_exact bs zero low high = absurd (omega (arith, low))
key_negative_exact bs (suc zero) low high =
    departs_now (KeyWord 1) 45 bs (key_goes 1 low high) (λ more z word.
    let n = key_starts 1 (45 ∷ more) z more word refl in
    let w = subst (λ (y : ℤ). KeyWord 1 (45 ∷ more) y) n.1 word in
    let is : more ≡ decimal (suc n.0) = (let e = w.0 in cc) in
    omega (arith, w.1, ap length is, decimal_nonempty (suc n.0) (omega (arith, w.2))))
key_negative_exact bs (suc (suc k)) low high =
    let other : eqb (suc (suc k)) 1 ≡ false = ne_eqb (suc (suc k)) 1 (λ e. omega (arith, e)) in
    let less : suc (suc k) - 1 ≡ suc k = omega arith in
    let small : 10 ^ k ≤ 2 ^ 63 = omega (arith, powers k (omega (arith, high))) in
    rw (other, less)
    (exact_first (KeyWord (suc (suc k))) (Num false (2 ^ 63) 0 (suc k)) negative 45
    (λ w n word. neg_key k w n word)
    (λ w z word.
    let n = key_starts (suc (suc k)) (45 ∷ w) z w word refl in
    (suc n.0, key_negative (suc k) w n.0 (subst (λ (y : ℤ). KeyWord (suc (suc k)) (45 ∷ w) y) n.1 word)))
    bs (number_at false (2 ^ 63) 0 (suc k) bs) (number_exact (suc k) bs false (2 ^ 63) 0 (num_word false (2 ^ 63) k small)))

-- a word that doesn't begin with a minus
key_positive : (count b : ℕ) (w : List ℕ) (z : ℤ) → (b ≡ 45 → ⊥) → KeyWord count (b ∷ w) z → (n : ℕ) × Num true (2 ^ 63 - 1) 0 count (b ∷ w) n
key_positive count b w (pos n) no_sign h = (n, key_num count (b ∷ w) n h)
key_positive count b w (negsuc n) no_sign h = let first : b ≡ 45 = (let e = h.0 in cc) in absurd (no_sign first)

key_positive_exact : (b : ℕ) (bs : List ℕ) (count : ℕ) → (b ≡ 45 → ⊥) → 1 ≤ count → count ≤ 20 → Exact (KeyWord count) (b ∷ bs)
    (cond (count == 20) (departs (b ∷ bs)) (number_at true (2 ^ 63 - 1) 0 count (b ∷ bs) >>= λ x. Ok (pos x.0, x.1)))
key_positive_exact b bs zero no_sign low high = absurd (omega (arith, low))
key_positive_exact b bs (suc k) no_sign low high =
    cond_both (suc k == 20) _ _ (Exact (KeyWord (suc k)) (b ∷ bs))
    (λ twenty. departs_now (KeyWord (suc k)) b bs (key_goes (suc k) low high) (λ more z word.
    let num = key_positive (suc k) b more z no_sign word in
    let is = num_decimal true (2 ^ 63 - 1) k (b ∷ more) num.0 (omega arith) num.1 in
    omega (arith, eqb-true _ _ twenty, num.1.size, ap length is, length-decimal-le 19 num.0 (omega arith) (omega (arith, num.1.within)) (omega (arith, num.1.within)))))
    (λ fewer.
    let few : k < 19 = (let e : k ≡ 19 → ⊥ = λ same. eqb-false (suc k) 20 fewer (ap suc same) in omega (arith, high, e)) in
    exact_starting (KeyWord (suc k)) (Num true (2 ^ 63 - 1) 0 (suc k)) pos b
    (λ w n word. pos_key (suc k) w n word (omega arith))
    (λ w z word. key_positive (suc k) b w z no_sign word)
    bs (number_at true (2 ^ 63 - 1) 0 (suc k) (b ∷ bs)) (number_exact (suc k) (b ∷ bs) true (2 ^ 63 - 1) 0 (num_word true (2 ^ 63 - 1) k (powers k few))))

pub key_exact : (bytes : List ℕ) (count : ℕ) → 1 ≤ count → count ≤ 20 → Exact (KeyWord count) bytes (key_at count bytes)
unfolding key_at
key_exact [] count low high = key_goes count low high
key_exact (b ∷ bs) count low high =
    cond_both (eqb b 45) _ _ (Exact (KeyWord count) (b ∷ bs))
    (λ minus.
    let is : 45 ≡ b = sym (eqb-true _ _ minus) in
    let P : ℕ → Type 0 = λ c. Exact (KeyWord count) (c ∷ bs) (cond (count == 1) (departs (c ∷ bs)) (number_at false (2 ^ 63) 0 (count - 1) bs >>= λ x. Ok (negative x.0, x.1))) in
    subst P is (key_negative_exact bs count low high))
    (λ other. key_positive_exact b bs count (eqb-false _ _ other) low high)

pub key_apart : (count : ℕ) → Apart (KeyWord count)
key_apart count a b x y m n at_m at_n e =
    let same : a ≡ b = same_length a b x y e (at_m.1 ∙ sym at_n.1) in
    (same, signed_decimal_injective m n (small m at_m.2) (small n at_n.2) (sym at_m.0 ∙ same ∙ at_n.0))
  where
    small : (z : ℤ) → IsInt64 z → mag z < 2 ^ 63
    small (pos n) h = h
    small (negsuc n) h = h

pub powers_of_64 : (k : ℕ) → k < 20 → 10 ^ k ≤ 2 ^ 64 - 1
powers_of_64 k lt = omega (arith, pow-le-pow_right {n = 10} (omega arith) {i = k} {j = 19} (omega (arith, lt)))
