-- Numbers of so many bytes, within ranges.
use Rattle.std.{proofs.{Common.{◌≡◌, ℕ, zero, suc, ◌+◌, ◌*◌, ◌/◌, ◌^◌, ◌%◌, ◌<◌, ◌≤◌, Bool, true, false, List, [], ◌∷◌, ◌++◌, length, take, drop, get_or, cond, Ok, Err, refl, sym, ap, mul-le-mul_right, ◌-◌, subst, ◌∙◌, arith, inl, inr, add-one}, lemmas.{List.{length-take-le, take-append-drop}, Nat.{be_bytes_2, be_bytes_4, be_bytes_8, from_be_bytes-to_be_bytes_2, from_be_bytes-to_be_bytes_4, from_be_bytes-to_be_bytes_8, le-div, div_below, mod_below, div-add-mod'}, Bool.{cases_lt, leb-true, le-leb, and_parts, or_cases}}, Math.{Bool.or-true, Seq.take-length, Nat.{pow-succ', pow-le-pow_right}}}, specs.Int.{w8, w16, w32, w64, to_be_bytes, bytes_high_first}}
use Rattle.pm_record.{specs.{Reading.{Read, ◌>>=◌, byte_at, number_at, in_part, may_be, IsWithin}, declared.number.Ranges.Ranges}, proofs.Readers.{ok, ok_is, err_not_ok, bind_ok, IsBytes, bytes_in_front, Reading, Spelled, Behind, same_words, field_then, done_reads, byte_reads}}

-- the number that bytes are, after what is read of it
abbrev pub horner : ℕ → List ℕ → ℕ
horner value [] = value
horner value (b ∷ bytes) = horner (value * 256 + b) bytes

pub power : (k : ℕ) → 256 ^ suc k ≡ 256 * 256 ^ k
power k = pow-succ' 256 k

pub positive : (k : ℕ) → 0 < 256 ^ k
positive zero = omega arith
positive (suc k) = rw (power k) (omega (arith, positive k))

pub horner_range : (k value : ℕ) (word : List ℕ) → length word ≡ k → IsBytes word → (value * 256 ^ k ≤ horner value word) × (horner value word < (value + 1) * 256 ^ k)
horner_range zero value [] e fits = (omega arith, omega arith)
horner_range zero value (b ∷ word) e fits = absurd (omega (arith, e))
horner_range (suc k) value [] e fits = absurd (omega (arith, e))
horner_range (suc k) value (b ∷ word) e fits =
    let h = horner_range k (value * 256 + b) word (omega (arith, e)) fits.1 in
    let p = power k in
    let below : b + 1 ≤ 256 = omega (arith, fits.0) in
    let m = mul-le-mul_right (256 ^ k) below in
    (rw p (omega (arith, h.0)), rw p (omega (arith, h.1, m)))

-- each number in the range has its bytes
pub spelled : (k value x : ℕ) → value * 256 ^ k ≤ x → x < (value + 1) * 256 ^ k → (word : List ℕ) × (length word ≡ k) × IsBytes word × (horner value word ≡ x)
spelled zero value x low high = ([], refl, tt, omega (arith, low, high))
spelled (suc k) value x low high =
    let p = power k in
    let pos = positive k in
    let least : value * 256 ≤ x / 256 ^ k = le-div (value * 256) x (256 ^ k) pos (omega (arith, low, ap (λ (t : ℕ). value * t) p)) in
    let most : x / 256 ^ k < (value + 1) * 256 = div_below x (256 ^ k) ((value + 1) * 256) pos (omega (arith, high, ap (λ (t : ℕ). (value + 1) * t) p)) in
    let parts = div-add-mod' x (256 ^ k) in
    let part = mod_below x (256 ^ k) pos in
    let b = x / 256 ^ k - value * 256 in
    let is : value * 256 + b ≡ x / 256 ^ k = omega (arith, least) in
    let rest = spelled k (value * 256 + b) x (rw is (omega (arith, parts))) (rw is (omega (arith, parts, part))) in
    (b ∷ rest.0, omega (arith, rest.1), (omega (arith, most, least), rest.2), rest.3)

module _ (May : ℕ → Type 0) (may : ℕ → ℕ → Bool)
    (to : (value k : ℕ) → may value k ≡ true → (x : ℕ) × May x × (value * 256 ^ k ≤ x) × (x < (value + 1) * 256 ^ k))
    (from : (value k x : ℕ) → May x → value * 256 ^ k ≤ x → x < (value + 1) * 256 ^ k → may value k ≡ true) where
  abbrev pub IsNumber : ℕ → ℕ → ℕ → List ℕ → Type 0
  IsNumber k value x word = (length word ≡ k) × IsBytes word × (horner value word ≡ x) × May x

  abbrev MayByte : ℕ → ℕ → ℕ → Type 0
  MayByte k value b = (may (value * 256 + b) k ≡ true) × (b < 256)

  pub first_byte : (k value x : ℕ) (word : List ℕ) → IsNumber (suc k) value x word → (b : ℕ) × (behind : List ℕ) × MayByte k value b × (word ≡ b ∷ behind)
  first_byte k value x [] is = absurd (omega (arith, is.0))
  first_byte k value x (b ∷ word) is =
      let r = horner_range k (value * 256 + b) word (omega (arith, is.0)) is.1.1 in
      (b, word, (from (value * 256 + b) k x is.3 (omega (arith, r.0, is.2)) (omega (arith, r.1, is.2)), is.1.0), refl)

  nothing : (value x : ℕ) (word : List ℕ) → IsNumber zero value x word → (x ≡ value) × (word ≡ [])
  nothing value x [] is = (sym is.2, refl)
  nothing value x (b ∷ word) is = absurd (omega (arith, is.0))

  pub number_reads : (k value : ℕ) → may value k ≡ true → Reading (IsNumber k value) (number_at may k value)
  unfolding number_at
  number_reads zero value some = done_reads value (IsNumber zero value)
      (let t = to value zero some in (refl, tt, refl, subst May (let e : t.0 ≡ value = omega (arith, t.2, t.3) in e) t.1))
      (nothing value)
  number_reads (suc k) value some = field_then (MayByte k value) (λ b. b ∷ []) (byte_at (λ b. may (value * 256 + b) k)) (IsNumber (suc k) value) (λ b. number_at may k (value * 256 + b))
      (byte_reads (MayByte k value) (λ b. may (value * 256 + b) k) (λ b e lt. (e, lt)) (λ b h. h)
      (let t = to value (suc k) some in let s = spelled (suc k) value t.0 t.2 t.3 in let f = first_byte k value t.0 s.0 (s.1, s.2, s.3, t.1) in (f.0, f.2)))
      (λ b h. same_words (IsNumber k (value * 256 + b)) (Behind (IsNumber (suc k) value) (b ∷ [])) (number_at may k (value * 256 + b)) (number_reads k (value * 256 + b) h.0)
      (λ x word is. (ap suc is.0, (h.1, is.1), is.2, is.3)) (λ x word is. (omega (arith, is.0), is.1.1, is.2, is.3)))
      (first_byte k value)
      (λ a h. let t = to (value * 256 + a) k h.0 in let s = spelled k (value * 256 + a) t.0 t.2 t.3 in (t.0, s.0, (ap suc s.1, (h.1, s.2), s.3, t.1)))

-- ---- ranges

pub IsWithin-below : (low high value p : ℕ) → 0 < p → low ≤ high → low / p ≤ value → value ≤ high / p → (x : ℕ) × (low ≤ x) × (x ≤ high) × (value * p ≤ x) × (x < (value + 1) * p)
IsWithin-below low high value p pos order least most =
    let a = div-add-mod' low p in
    let b = div-add-mod' high p in
    let c = mod_below low p pos in
    let d = mul-le-mul_right p least in
    let e = mul-le-mul_right p most in
    elim (cases_lt low (value * p)) [
      | inl lt ↦ (value * p, omega (arith, lt), omega (arith, b, e), omega arith, omega (arith, pos))
      | inr ge ↦ (low, omega arith, order, ge, omega (arith, a, c, d))
    ]

part_to : (low high value p : ℕ) → 0 < p → in_part low high value p ≡ true → (x : ℕ) × (low ≤ x) × (x ≤ high) × (value * p ≤ x) × (x < (value + 1) * p)
part_to low high value p pos e =
    let a = and_parts _ _ e in
    let b = and_parts _ _ a.1 in
    IsWithin-below low high value p pos (leb-true low high a.0) (leb-true _ _ b.0) (leb-true _ _ b.1)

part_from : (low high value p x : ℕ) → 0 < p → low ≤ x → x ≤ high → value * p ≤ x → x < (value + 1) * p → in_part low high value p ≡ true
part_from low high value p x pos least most from below =
    let a : low ≤ high = omega (arith, least, most) in
    let b : low / p < value + 1 = div_below low p (value + 1) pos (omega (arith, least, below)) in
    let c : value ≤ high / p = le-div value high p pos (omega (arith, most, from)) in
    rw (le-leb low high a, le-leb (low / p) value (omega (arith, b)), le-leb value (high / p) c) refl

pub ranges_to : (ranges : Ranges) (value k : ℕ) → may_be ranges value k ≡ true → (x : ℕ) × IsWithin ranges x × (value * 256 ^ k ≤ x) × (x < (value + 1) * 256 ^ k)
ranges_to ranges value k e = elim (or_cases (in_part ranges.low ranges.high value (256 ^ k)) (in_part ranges.low2 ranges.high2 value (256 ^ k)) e) [
  | inl a ↦ let p = part_to ranges.low ranges.high value (256 ^ k) (positive k) a in (p.0, inl (p.1, p.2), p.3, p.4)
  | inr a ↦ let p = part_to ranges.low2 ranges.high2 value (256 ^ k) (positive k) a in (p.0, inr (p.1, p.2), p.3, p.4)
]

pub ranges_from : (ranges : Ranges) (value k x : ℕ) → IsWithin ranges x → value * 256 ^ k ≤ x → x < (value + 1) * 256 ^ k → may_be ranges value k ≡ true
ranges_from ranges value k x is least below = elim is [
  | inl a ↦ rw (part_from ranges.low ranges.high value (256 ^ k) x (positive k) a.0 a.1 least below) refl
  | inr a ↦ rw (part_from ranges.low2 ranges.high2 value (256 ^ k) x (positive k) a.0 a.1 least below) (or-true (in_part ranges.low ranges.high value (256 ^ k)))
]

passed : (test : ℕ → Bool) (bytes : List ℕ) (p : ℕ × List ℕ) → byte_at test bytes ≡ Ok p → test p.0 ≡ true
passed test [] p e = absurd (err_not_ok 0 p e)
passed test (b ∷ bytes) p e = elim (test b) as (λ t. test b ≡ t → cond t (Ok (b, bytes)) (Err (suc (length bytes))) ≡ ok p → test p.0 ≡ true) [
  | true ↦ λ t f. subst (λ (n : ℕ). test n ≡ true) (ap (λ (q : ℕ × List ℕ). q.0) (ok_is (b, bytes) p f)) t
  | false ↦ λ t f. absurd (err_not_ok (suc (length bytes)) p f)
] refl e

number_last : (may : ℕ → ℕ → Bool) (k value : ℕ) (bytes : List ℕ) (x : ℕ) (rest : List ℕ) → number_at may (suc k) value bytes ≡ Ok (x, rest) → may x 0 ≡ true
unfolding number_at
number_last may zero value bytes x rest e =
    let p = bind_ok (byte_at (λ b. may (value * 256 + b) 0) bytes) (λ p. number_at may 0 (value * 256 + p.0) p.1) (x, rest) e in
    subst (λ (n : ℕ). may n 0 ≡ true) (ap (λ (t : ℕ × List ℕ). t.0) (ok_is (value * 256 + p.0.0, p.0.1) (x, rest) p.2)) (passed (λ b. may (value * 256 + b) 0) bytes p.0 p.1)
number_last may (suc k) value bytes x rest e =
    let p = bind_ok (byte_at (λ b. may (value * 256 + b) (suc k)) bytes) (λ p. number_at may (suc k) (value * 256 + p.0) p.1) (x, rest) e in
    number_last may k (value * 256 + p.0.0) p.0.1 x rest p.2

pub number_in : (ranges : Ranges) (size value : ℕ) (bytes : List ℕ) (x : ℕ) (rest : List ℕ) → 0 < size → number_at (may_be ranges) size value bytes ≡ Ok (x, rest) → IsWithin ranges x
number_in ranges zero value bytes x rest some e = absurd (omega (arith, some))
number_in ranges (suc k) value bytes x rest some e =
    let t = ranges_to ranges x 0 (number_last (may_be ranges) k value bytes x rest e) in
    subst (IsWithin ranges) (let same : t.0 ≡ x = omega (arith, t.2, t.3) in same) t.1

-- ---- each width

-- so many bytes for each number, and each of so many bytes is a number's
pub record IsWide (k : ℕ) (limit : ℕ) (spell : ℕ → List ℕ) : Type 0 where
  pub all : 256 ^ k ≡ limit
  pub long : (x : ℕ) → (length (spell x) ≡ k) × IsBytes (spell x)
  pub again : (x : ℕ) → x < limit → horner 0 (spell x) ≡ x
  pub back : (word : List ℕ) → length word ≡ k → IsBytes word → spell (horner 0 word) ≡ word

module _ (k limit : ℕ) (spell : ℕ → List ℕ) (wide : IsWide k limit spell) (ranges : Ranges) where
  abbrev pub MayBe : ℕ → Type 0
  MayBe x = IsWithin ranges x × (x < limit)

  -- a number of this width within the ranges, where some is
  pub limited_reads : (x : ℕ) × MayBe x → Reading (Spelled MayBe spell) (number_at (may_be ranges) k 0)
  limited_reads some =
      let may = ranges_from ranges 0 k some.0 some.1.0 (omega arith) (omega (arith, some.1.1, wide.all)) in
      same_words (IsNumber (IsWithin ranges) (may_be ranges) (ranges_to ranges) (ranges_from ranges) k 0) (Spelled MayBe spell) (number_at (may_be ranges) k 0)
      (number_reads (IsWithin ranges) (may_be ranges) (ranges_to ranges) (ranges_from ranges) k 0 may)
      (λ x word is. let r = horner_range k 0 word is.0 is.1 in ((is.3, omega (arith, r.1, is.2, wide.all)), sym (wide.back word is.0 is.1) ∙ ap spell is.2))
      (λ x word is. let l = wide.long x in (ap length is.1 ∙ l.0, subst IsBytes (sym is.1) l.1, ap (horner 0) is.1 ∙ wide.again x is.0.1, is.0.0))

-- ---- bytes by their places

pub bytes_by_place : (bytes : List ℕ) → IsBytes bytes → (i : ℕ) → get_or bytes i 0 < 256
bytes_by_place [] h i = omega arith
bytes_by_place (b ∷ bytes) h zero = h.0
bytes_by_place (b ∷ bytes) h (suc i) = bytes_by_place bytes h.1 i

pub bytes_from_places : (bytes : List ℕ) → ((i : ℕ) → get_or bytes i 0 < 256) → IsBytes bytes
bytes_from_places [] h = tt
bytes_from_places (b ∷ bytes) h = (h 0, bytes_from_places bytes (λ i. h (suc i)))

high_first : (k x : ℕ) → IsBytes (bytes_high_first k x)
high_first zero x = tt
high_first (suc zero) x = (omega arith, tt)
high_first (suc (suc k)) x = (mod_below (x / 256 ^ suc k) 256 (omega arith), high_first (suc k) x)

back1 : (word : List ℕ) → length word ≡ 1 → IsBytes word → to_be_bytes w8 (horner 0 word) ≡ word
back1 [] e fits = absurd (omega (arith, e))
back1 (a ∷ []) e fits = let p : (0 * 256 + a) % 256 ≡ a = omega (arith, fits.0) in ap (λ (x : ℕ). x ∷ []) p
back1 (a ∷ b ∷ w) e fits = absurd (omega (arith, e))

pub wide1 : IsWide 1 256 (to_be_bytes w8)
wide1 = record { all = refl; long = λ x. (refl, high_first 1 x); again = λ x lt. omega (arith, lt); back = back1 }

back2 : (word : List ℕ) → length word ≡ 2 → IsBytes word → to_be_bytes w16 (horner 0 word) ≡ word
back2 [] e fits = absurd (omega (arith, e))
back2 (a ∷ []) e fits = absurd (omega (arith, e))
back2 (a ∷ b ∷ []) e fits = be_bytes_2 (a ∷ b ∷ []) _ refl (bytes_by_place (a ∷ b ∷ []) fits) (omega arith)
back2 (a ∷ b ∷ c ∷ w) e fits = absurd (omega (arith, e))

pub wide2 : IsWide 2 (2 ^ 16) (to_be_bytes w16)
wide2 = record { all = refl; long = λ x. (refl, high_first 2 x); again = λ x lt. omega (arith, from_be_bytes-to_be_bytes_2 x lt); back = back2 }

back4 : (word : List ℕ) → length word ≡ 4 → IsBytes word → to_be_bytes w32 (horner 0 word) ≡ word
back4 [] e fits = absurd (omega (arith, e))
back4 (a ∷ []) e fits = absurd (omega (arith, e))
back4 (a ∷ b ∷ []) e fits = absurd (omega (arith, e))
back4 (a ∷ b ∷ c ∷ []) e fits = absurd (omega (arith, e))
back4 (a ∷ b ∷ c ∷ d ∷ []) e fits = be_bytes_4 (a ∷ b ∷ c ∷ d ∷ []) _ refl (bytes_by_place (a ∷ b ∷ c ∷ d ∷ []) fits) (omega arith)
back4 (a ∷ b ∷ c ∷ d ∷ f ∷ w) e fits = absurd (omega (arith, e))

pub wide4 : IsWide 4 (2 ^ 32) (to_be_bytes w32)
wide4 = record { all = refl; long = λ x. (refl, high_first 4 x); again = λ x lt. omega (arith, from_be_bytes-to_be_bytes_4 x lt); back = back4 }

back8 : (word : List ℕ) → length word ≡ 8 → IsBytes word → to_be_bytes w64 (horner 0 word) ≡ word
back8 (a ∷ b ∷ c ∷ d ∷ e ∷ f ∷ g ∷ h ∷ []) is fits = be_bytes_8 (a ∷ b ∷ c ∷ d ∷ e ∷ f ∷ g ∷ h ∷ []) _ refl (bytes_by_place (a ∷ b ∷ c ∷ d ∷ e ∷ f ∷ g ∷ h ∷ []) fits) (omega arith)
back8 ([]) is fits = absurd (omega (arith, is))
back8 (a ∷ []) is fits = absurd (omega (arith, is))
back8 (a ∷ b ∷ []) is fits = absurd (omega (arith, is))
back8 (a ∷ b ∷ c ∷ []) is fits = absurd (omega (arith, is))
back8 (a ∷ b ∷ c ∷ d ∷ []) is fits = absurd (omega (arith, is))
back8 (a ∷ b ∷ c ∷ d ∷ e ∷ []) is fits = absurd (omega (arith, is))
back8 (a ∷ b ∷ c ∷ d ∷ e ∷ f ∷ []) is fits = absurd (omega (arith, is))
back8 (a ∷ b ∷ c ∷ d ∷ e ∷ f ∷ g ∷ []) is fits = absurd (omega (arith, is))
back8 (a ∷ b ∷ c ∷ d ∷ e ∷ f ∷ g ∷ h ∷ j ∷ w) is fits = absurd (omega (arith, is))

pub wide8 : IsWide 8 (2 ^ 64) (to_be_bytes w64)
wide8 = record { all = refl; long = λ x. (refl, high_first 8 x); again = λ x lt. omega (arith, from_be_bytes-to_be_bytes_8 x lt); back = back8 }

-- ---- the loop over a number's bytes

pub fits_64 : (value i size b : ℕ) → value < 256 ^ i → i < size → size ≤ 8 → b < 256 → (value * 256 + b < 256 ^ (i + 1)) × (value * 256 + b < 2 ^ 64)
fits_64 value i size b lt inside short byte =
    let p : 256 ^ (i + 1) ≡ 256 * 256 ^ i = rw add-one (power i) in
    let m : 256 ^ (i + 1) ≤ 256 ^ 8 = (let le : i + 1 ≤ 8 = omega (arith, inside, short) in let some : 0 < 256 = omega arith in pow-le-pow_right some le) in
    (omega (arith, p, lt, byte), omega (arith, p, lt, byte, m))

module _ (may : ℕ → ℕ → Bool) (size i value : ℕ) (rest : List ℕ) (total : Read ℕ) (so_far : number_at may (size - i) value rest ≡ total) where
  pub is_done : size ≤ i → total ≡ Ok (value, rest)
  unfolding number_at
  is_done le = let k : size - i ≡ 0 = omega (arith, le) in sym so_far ∙ ap (λ (n : ℕ). number_at may n value rest) k

  module _ (lt : i < size) where
    next : size - i ≡ suc (size - 1 - i)
    next = omega (arith, lt)

    pub is_short : rest ≡ [] → total ≡ Err 0
    unfolding number_at
    is_short none = sym so_far ∙ ap (λ (n : ℕ). number_at may n value rest) next ∙ ap (number_at may (suc (size - 1 - i)) value) none

    module _ (b n : ℕ) (behind : List ℕ) (is : rest ≡ b ∷ behind) (sum : n ≡ value * 256 + b) where
      abbrev step : ℕ × List ℕ → Read ℕ
      step p = number_at may (size - 1 - i) (value * 256 + p.0) p.1

      one : (t : Bool) → may n (size - 1 - i) ≡ t → total ≡ (cond t (Ok (b, behind)) (Err (suc (length behind))) >>= step)
      unfolding number_at
      one t e =
          sym so_far ∙ ap (λ (n : ℕ). number_at may n value rest) next ∙ ap (number_at may (suc (size - 1 - i)) value) is
          ∙ ap (λ (u : Bool). cond u (Ok (b, behind)) (Err (suc (length behind))) >>= step) (ap (λ (x : ℕ). may x (size - 1 - i)) (sym sum) ∙ e)

      pub is_wrong : may n (size - 1 - i) ≡ false → total ≡ Err (length rest)
      is_wrong e = one false e ∙ ap Err (sym (ap length is))

      pub goes_on : may n (size - 1 - i) ≡ true → number_at may (size - (i + 1)) n behind ≡ total
      goes_on e =
          let k : size - (i + 1) ≡ size - 1 - i = omega (arith, lt) in
          ap (λ (m : ℕ). number_at may m n behind) k ∙ ap (λ (x : ℕ). number_at may (size - 1 - i) x behind) sum ∙ sym (one true e)

-- ---- a number in front that is within the ranges

pub horner_more : (value : ℕ) (bytes : List ℕ) (i : ℕ) → i < length bytes → horner value (take (suc i) bytes) ≡ horner value (take i bytes) * 256 + get_or bytes i 0
horner_more value [] i lt = absurd (omega (arith, lt))
horner_more value (b ∷ bytes) zero lt = refl
horner_more value (b ∷ bytes) (suc i) lt = horner_more (value * 256 + b) bytes i (omega (arith, lt))

pub horner_step : (bytes : List ℕ) (i : ℕ) → i < length bytes → horner 0 (take (i + 1) bytes) ≡ horner 0 (take i bytes) * 256 + get_or bytes i 0
horner_step bytes i lt = rw add-one (horner_more 0 bytes i lt)

pub horner_whole : (bytes : List ℕ) (i : ℕ) → i ≡ length bytes → horner 0 (take i bytes) ≡ horner 0 bytes
horner_whole bytes i is = ap (horner 0) (ap (λ (n : ℕ). take n bytes) is ∙ take-length bytes)

pub front_byte : (size : ℕ) (bytes front : List ℕ) → IsBytes bytes → front ≡ take size bytes → (i : ℕ) → get_or front i 0 < 256
front_byte size bytes front fits is i =
    let parts = subst IsBytes (sym (take-append-drop size bytes)) fits in
    bytes_by_place front (subst IsBytes (sym is) (bytes_in_front (take size bytes) (drop size bytes) parts)) i

pub number_front : (ranges : Ranges) (size : ℕ) (bytes : List ℕ) → size ≤ length bytes → IsBytes bytes → IsWithin ranges (horner 0 (take size bytes)) → number_at (may_be ranges) size 0 bytes ≡ Ok (horner 0 (take size bytes), drop size bytes)
number_front ranges size bytes le fits is =
    let front = take size bytes in
    let whole : front ++ drop size bytes ≡ bytes = take-append-drop size bytes in
    let few : length front ≡ size = length-take-le size bytes le in
    let small = bytes_in_front front (drop size bytes) (subst IsBytes (sym whole) fits) in
    let r = horner_range size 0 front few small in
    let may = ranges_from ranges 0 size (horner 0 front) is (omega arith) (omega (arith, r.1)) in
    ap (number_at (may_be ranges) size 0) (sym whole)
    ∙ (number_reads (IsWithin ranges) (may_be ranges) (ranges_to ranges) (ranges_from ranges) size 0 may).again (horner 0 front) front (drop size bytes) (few, small, refl, is)
