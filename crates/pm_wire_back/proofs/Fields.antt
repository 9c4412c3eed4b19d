-- The parts of a message, each with its language and an exact reader.
use Rattle.std.proofs.{Common.{◌≡◌, ℕ, zero, suc, ◌-◌, ◌^◌, ◌<◌, ◌≤◌, true, false, cond, eqb, ltb, ◌==◌, ◌&&◌, List, [], ◌∷◌, ◌++◌, length, replicate, Some, None, Result, Ok, Err, refl, sym, ap, subst, ◌∙◌, inl, inr, ◌⊎◌, arith}, lemmas.{Bool.{cond_both, cases_lt, eqb-true, eqb-false, ltb-true, ltb-false, lt-ltb, and_parts, eq-eqb}, List.{length-append, length-replicate, take_all, get_or_append_left, get_or-append_right, get_or-replicate, get_or_past}}}
use Rattle.byteorder.specs.Endian.{big_number}
use Rattle.pm_wire_back.{specs.{declared.parts.{Stop.{Stop, TheVariants.{Partial, Departs}}, Ending.{Ending, TheVariants.{Anywhere, NotOneShort, Exactly}}}, Parts.{◌>>=◌, departs, fitting, may_end, literal_at, int32_at, code_at, text_at, string_at}}, proofs.{Walks.fitting_is, Exact.{Apart, GoesOn, HasWord, Exact}}}
use Rattle.pm_utf8.specs.{declared.Awaited.Awaited, Utf8.{boundary, after, run, IsSound}, Steps.{after_is, run_step, run_first}, States.{boundary_sound, after_sound, fill, needs}}
use Rattle.pm_wire.specs.{Pieces.int32, Numbers.{IsBytes, number_again, number_below, number_split, int32_number}, Nonzero.AllNonzero}

-- a reader that goes on after the first byte
pub exact_first : {X Y : Type 0} (L : List ℕ → Y → Type 0) (M : List ℕ → X → Type 0) (g : X → Y) (b : ℕ)
    → ((w : List ℕ) (x : X) → M w x → L (b ∷ w) (g x)) → ((w : List ℕ) (y : Y) → L (b ∷ w) y → (x : X) × M w x)
    → (bs : List ℕ) (read : Result (X × List ℕ) Stop) → Exact M bs read → Exact L (b ∷ bs) (read >>= λ p. Ok (g p.0, p.1))
exact_first L M g b into out bs (Ok p) h = (b ∷ h.0, ap (λ (w : List ℕ). b ∷ w) h.1, into h.0 p.0 h.2)
exact_first L M g b into out bs (Err Partial) h = (h.0, g h.1, h.2, into (bs ++ h.0) h.1 h.3)
exact_first L M g b into out bs (Err (Departs left)) h = record {
  front = b ∷ h.front;
  byte = h.byte;
  behind = h.behind;
  parts = ap (λ (w : List ℕ). b ∷ w) h.parts;
  size = h.size;
  goes_on = (h.goes_on.0, g h.goes_on.1, h.goes_on.2, into (h.front ++ h.goes_on.0) h.goes_on.1 h.goes_on.3);
  stuck = λ more y word. let o = out (h.front ++ h.byte ∷ more) y word in h.stuck more o.0 o.1;
}

pub departs_now : {X : Type 0} (L : List ℕ → X → Type 0) (b : ℕ) (bs : List ℕ) → GoesOn L [] → ((more : List ℕ) (x : X) → L (b ∷ more) x → ⊥) → Exact L (b ∷ bs) (departs (b ∷ bs))
departs_now L b bs goes stuck = record { front = []; byte = b; behind = bs; parts = refl; size = refl; goes_on = goes; stuck = stuck }

-- ---- a word

abbrev pub Word : List ℕ → List ℕ → Unit {0} → Type 0
Word w word x = word ≡ w

pub word_apart : (w : List ℕ) → Apart (Word w)
word_apart w a b x y m n at_m at_n e = (at_m ∙ sym at_n, refl)

pub word_word : (w : List ℕ) → HasWord (Word w)
word_word w = (w, tt, refl)

pub bind_same : {X : Type 0} (read : Result (X × List ℕ) Stop) → (read >>= λ p. Ok (p.0, p.1)) ≡ read
bind_same (Ok p) = refl
bind_same (Err e) = refl

pub literal_exact : (w bytes : List ℕ) → Exact (Word w) bytes (literal_at w bytes)
unfolding literal_at
literal_exact [] bytes = ([], refl, refl)
literal_exact (letter ∷ w) [] = (letter ∷ w, tt, omega arith, refl)
literal_exact (letter ∷ w) (b ∷ bs) =
    cond_both (eqb b letter) _ _ (Exact (Word (letter ∷ w)) (b ∷ bs))
    (λ same.
    let is : b ≡ letter = eqb-true _ _ same in
    subst (Exact (Word (letter ∷ w)) (b ∷ bs)) (bind_same (literal_at w bs))
    (exact_first (Word (letter ∷ w)) (Word w) (λ x. x) b (λ v x h. (λ k. is k ∷ h k)) (λ v y h. (tt, cc)) bs (literal_at w bs) (literal_exact w bs)))
    (λ other. departs_now (Word (letter ∷ w)) b bs (letter ∷ w, tt, omega arith, refl) (λ more x h. eqb-false _ _ other cc))

-- ---- a number of four bytes

abbrev pub Number : List ℕ → ℕ → Type 0
Number word n = (word ≡ int32 n) × (n < 2 ^ 32)

pub number_apart : Apart Number
number_apart a b x y m n at_m at_n e =
    let same : m ≡ n = sym (number_again m x at_m.1) ∙ ap (big_number 4) (ap (λ (w : List ℕ). w ++ x) (sym at_m.0) ∙ e ∙ ap (λ (w : List ℕ). w ++ y) at_n.0) ∙ number_again n y at_n.1 in
    (at_m.0 ∙ ap int32 same ∙ sym at_n.0, same)

pub number_word : HasWord Number
number_word = (int32 0, 0, (refl, omega arith))

IsBytes-padded : (bytes : List ℕ) (k : ℕ) → IsBytes bytes → IsBytes (bytes ++ replicate k 0)
IsBytes-padded bytes k fits i =
    elim (cases_lt i (length bytes)) [
      | inl lt ↦ rw (get_or_append_left bytes (replicate k 0) 0 i lt) (fits i)
      | inr le ↦ rw (get_or-append_right bytes (replicate k 0) (length bytes) i 0 refl le)
          (elim (cases_lt (i - length bytes) k) [
            | inl lt ↦ rw (get_or-replicate {A = ℕ} k (i - length bytes) 0 0 lt) (omega arith)
            | inr past ↦ rw (get_or_past (replicate {A = ℕ} k 0) (i - length bytes) 0 (omega (arith, length-replicate {A = ℕ} k 0, past))) (omega arith)
          ])
    ]

pub int32_exact : (bytes : List ℕ) → IsBytes bytes → Exact Number bytes (int32_at bytes)
unfolding int32_at
int32_exact bytes fits =
    cond_both (ltb (length bytes) 4) _ _ (Exact Number bytes)
    (λ short.
    let more = replicate (4 - length bytes) 0 in
    let lt : length bytes < 4 = ltb-true _ _ short in
    let full = bytes ++ more in
    let size : length full ≡ 4 = omega (arith, length-append bytes more, length-replicate {A = ℕ} (4 - length bytes) 0, lt) in
    let is : full ≡ int32 (big_number 4 full) = sym (int32_number full (omega (arith, size)) (IsBytes-padded bytes (4 - length bytes) fits) ∙ take_all 4 full (omega (arith, size))) in
    (more, big_number 4 full, omega (arith, length-replicate {A = ℕ} (4 - length bytes) 0, lt), (is, number_below full (IsBytes-padded bytes (4 - length bytes) fits))))
    (λ long. (int32 (big_number 4 bytes), number_split bytes (ltb-false _ _ long) fits, (refl, number_below bytes fits)))

-- ---- bytes that aren't zero

abbrev pub Code : ℕ → List ℕ → List ℕ → Type 0
Code n word c = (word ≡ c) × (length c ≡ n) × AllNonzero c

ones_nonzero : (n : ℕ) → AllNonzero (replicate n 1)
ones_nonzero zero = tt
ones_nonzero (suc n) = (omega arith, ones_nonzero n)

pub same_length : (a b x y : List ℕ) → a ++ x ≡ b ++ y → length a ≡ length b → a ≡ b
same_length [] [] x y e same = refl
same_length [] (b ∷ bs) x y e same = absurd (omega (arith, same))
same_length (a ∷ xs) [] x y e same = absurd (omega (arith, same))
same_length (a ∷ xs) (b ∷ bs) x y e same =
    let rest : xs ≡ bs = same_length xs bs x y (cc) (omega (arith, same)) in
    let first : a ≡ b = cc in
    (λ k. first k ∷ rest k)

pub code_apart : (n : ℕ) → Apart (Code n)
code_apart n a b x y m o at_m at_o e =
    let same : a ≡ b = same_length a b x y e (ap length at_m.0 ∙ at_m.1 ∙ sym at_o.1 ∙ sym (ap length at_o.0)) in
    (same, sym at_m.0 ∙ same ∙ at_o.0)

pub code_word : (n : ℕ) → HasWord (Code n)
code_word n = (replicate n 1, replicate n 1, (refl, length-replicate {A = ℕ} n 1, ones_nonzero n))

pub code_exact : (n : ℕ) (bytes : List ℕ) → Exact (Code n) bytes (code_at n bytes)
unfolding code_at
code_exact zero bytes = ([], refl, (refl, refl, tt))
code_exact (suc n) [] = (replicate (suc n) 1, replicate (suc n) 1, omega (arith, length-replicate {A = ℕ} (suc n) 1), (refl, length-replicate {A = ℕ} (suc n) 1, ones_nonzero (suc n)))
code_exact (suc n) (b ∷ bs) =
    cond_both (eqb b 0) _ _ (Exact (Code (suc n)) (b ∷ bs))
    (λ is_zero.
    departs_now (Code (suc n)) b bs (replicate (suc n) 1, replicate (suc n) 1, omega (arith, length-replicate {A = ℕ} (suc n) 1), (refl, length-replicate {A = ℕ} (suc n) 1, ones_nonzero (suc n)))
    (λ more x h. let all : AllNonzero (b ∷ more) = subst AllNonzero (sym h.0) h.2 in omega (arith, all.0, eqb-true _ _ is_zero)))
    (λ other.
    exact_first (Code (suc n)) (Code n) (λ c. b ∷ c) b
    (λ w c h. (ap (λ (v : List ℕ). b ∷ v) h.0, ap suc h.1, (positive b other, h.2)))
    (λ w c h.
    let all : AllNonzero (b ∷ w) = subst AllNonzero (sym h.0) h.2 in
    let size : length (b ∷ w) ≡ suc n = ap length h.0 ∙ h.1 in
    (w, (refl, omega (arith, size), all.1)))
    bs (code_at n bs) (code_exact n bs))
  where
    positive : (b : ℕ) → eqb b 0 ≡ false → 0 < b
    positive zero h = absurd (eqb-false 0 0 h refl)
    positive (suc b) h = omega arith

-- ---- text

-- which way the state goes on
next_cases : (left : ℕ) (state : Awaited) (b : ℕ)
    → ((fitting left (after state b) ≡ None) × ((bs : List ℕ) → length bs < left → run state (b ∷ bs) ≡ Some boundary → ⊥))
    ⊎ ((next : Awaited) × (fitting left (after state b) ≡ Some next) × (after state b ≡ Some next) × (next.more < left))
next_cases left state b =
    elim (fitting left (after state b)) as (λ o. fitting left (after state b) ≡ o
    → ((fitting left (after state b) ≡ None) × ((bs : List ℕ) → length bs < left → run state (b ∷ bs) ≡ Some boundary → ⊥))
    ⊎ ((next : Awaited) × (fitting left (after state b) ≡ Some next) × (after state b ≡ Some next) × (next.more < left))) [
      | None ↦ λ e. inl (
        e,
        λ bs short h.
            let f = run_first state b bs boundary h in
            let fits : f.0.more < left = omega (arith, needs bs f.0 f.2, short) in
            let some : fitting left (after state b) ≡ Some f.0 = ap (fitting left) f.1 ∙ rw (lt-ltb f.0.more left fits) refl in
            cc,
      )
      | Some next ↦ λ e. let is = fitting_is left (after state b) next e in inr (next, e, is.0, is.1)
    ] refl

same_next : (state next : Awaited) (b : ℕ) (bs : List ℕ) → after state b ≡ Some next → run state (b ∷ bs) ≡ Some boundary → run next bs ≡ Some boundary
same_next state next b bs e h = sym (run_step state b bs next e) ∙ h

abbrev pub Text : Awaited → ℕ → List ℕ → List ℕ → Type 0
Text state n word t = (word ≡ t) × (length t ≡ n) × (run state t ≡ Some boundary)

pub text_apart : (state : Awaited) (n : ℕ) → Apart (Text state n)
text_apart state n a b x y m o at_m at_o e =
    let same : a ≡ b = same_length a b x y e (ap length at_m.0 ∙ at_m.1 ∙ sym at_o.1 ∙ sym (ap length at_o.0)) in
    (same, sym at_m.0 ∙ same ∙ at_o.0)

pub text_word : (n : ℕ) → HasWord (Text boundary n)
text_word n = let t = fill n boundary boundary_sound (omega arith) in (t.0, t.0, (refl, t.1, t.2))

text_goes : (state : Awaited) (n : ℕ) → IsSound state → state.more ≤ suc n → GoesOn (Text state (suc n)) []
text_goes state n sound le = let t = fill (suc n) state sound le in (t.0, t.0, omega (arith, t.1), (refl, t.1, t.2))

pub text_exact : (n : ℕ) (bytes : List ℕ) (state : Awaited) → IsSound state → state.more ≤ n → Exact (Text state n) bytes (text_at state n bytes)
unfolding text_at
text_exact zero bytes state sound le = ([], refl, (refl, refl, ap Some (sound.closes (omega (arith, le)))))
text_exact (suc n) [] state sound le = text_goes state n sound le
text_exact (suc n) (b ∷ bs) state sound le =
    elim (next_cases (suc n) state b) [
      | inl h ↦
          let now = departs_now (Text state (suc n)) b bs (text_goes state n sound le)
          (λ more t is.
          let size : length (b ∷ more) ≡ suc n = ap length is.0 ∙ is.1 in
          h.1 more (omega (arith, size)) (subst (λ (w : List ℕ). run state w ≡ Some boundary) (sym is.0) is.2)) in
          rw h.0 now
      | inr h ↦
          let rest = exact_first (Text state (suc n)) (Text h.0 n) (λ t. b ∷ t) b
          (λ w t is. (ap (λ (v : List ℕ). b ∷ v) is.0, ap suc is.1, run_step state b t h.0 h.2 ∙ is.2))
          (λ w t is.
          let size : length (b ∷ w) ≡ suc n = ap length is.0 ∙ is.1 in
          (w, (refl, omega (arith, size), same_next state h.0 b w h.2 (subst (λ (v : List ℕ). run state v ≡ Some boundary) (sym is.0) is.2))))
          bs (text_at h.0 n bs) (text_exact n bs h.0 (after_sound state b h.0 h.2) (omega (arith, h.3))) in
          rw h.1 rest
    ]

-- ---- strings

pub record String (ending : Ending) (state : Awaited) (left : ℕ) (word t : List ℕ) : Type 0 where
  pub spelled : word ≡ t ++ 0 ∷ []
  pub nonzero : AllNonzero t
  pub short : length t ≤ left
  pub may : may_end ending (left - length t) ≡ true
  pub text : run state t ≡ Some boundary

may_at_last : (ending : Ending) → may_end ending 0 ≡ true
may_at_last Anywhere = refl
may_at_last NotOneShort = refl
may_at_last Exactly = refl

filled_string : (ending : Ending) (state : Awaited) (left : ℕ) → IsSound state → state.more ≤ left → (t : List ℕ) × String ending state left (t ++ 0 ∷ []) t
filled_string ending state left sound le =
    let t = fill left state sound le in
    let none : left - length t.0 ≡ 0 = omega (arith, t.1) in
    (t.0, record { spelled = refl; nonzero = t.3; short = omega (arith, t.1); may = ap (may_end ending) none ∙ may_at_last ending; text = t.2 })

pub string_word : (ending : Ending) (left : ℕ) → HasWord (String ending boundary left)
string_word ending left = let t = filled_string ending boundary left boundary_sound (omega arith) in (t.0 ++ 0 ∷ [], t.0, t.1)

string_goes : (ending : Ending) (state : Awaited) (left : ℕ) → IsSound state → state.more ≤ left → GoesOn (String ending state left) []
string_goes ending state left sound le =
    let t = filled_string ending state left sound le in (t.0 ++ 0 ∷ [], t.0, omega (arith, length-append t.0 (0 ∷ [])), t.1)

-- a zero ends the first of two strings where it ends the second
zero_apart : (s t x y : List ℕ) → AllNonzero s → AllNonzero t → (s ++ 0 ∷ []) ++ x ≡ (t ++ 0 ∷ []) ++ y → s ≡ t
zero_apart [] [] x y at_s at_t e = refl
zero_apart [] (b ∷ t) x y at_s at_t e = let same : 0 ≡ b = cc in absurd (omega (arith, at_t.0, same))
zero_apart (a ∷ s) [] x y at_s at_t e = let same : a ≡ 0 = cc in absurd (omega (arith, at_s.0, same))
zero_apart (a ∷ s) (b ∷ t) x y at_s at_t e =
    let rest = zero_apart s t x y at_s.1 at_t.1 (cc) in
    let same : a ≡ b = cc in
    (λ k. same k ∷ rest k)

pub string_apart : (ending : Ending) (state : Awaited) (left : ℕ) → Apart (String ending state left)
string_apart ending state left a b x y m n at_m at_n e =
    let same : m ≡ n = zero_apart m n x y at_m.nonzero at_n.nonzero (ap (λ (w : List ℕ). w ++ x) (sym at_m.spelled) ∙ e ∙ ap (λ (w : List ℕ). w ++ y) at_n.spelled) in
    (at_m.spelled ∙ ap (λ (w : List ℕ). w ++ 0 ∷ []) same ∙ sym at_n.spelled, same)

sub-zero : (n : ℕ) → n - 0 ≡ n
sub-zero n = omega arith

positive_byte : (state next : Awaited) (b : ℕ) → IsSound state → (state.more == 0 && b == 0) ≡ false → after state b ≡ Some next → 0 < b
positive_byte state next (suc b) sound other step = omega arith
positive_byte state next zero sound other step =
    elim (eqb state.more 0) as (λ t. eqb state.more 0 ≡ t → 0 < 0) [
      | true ↦ λ e. let yes : (state.more == 0 && 0 == 0) ≡ true = rw e refl in absurd cc
      | false ↦ λ e. let is = after_is state 0 next e step in absurd (omega (arith, is.0, sound.low))
    ] refl

-- a string goes on after the byte
module _ (ending : Ending) (state : Awaited) (left b : ℕ) (sound : IsSound state) (le : state.more ≤ left) where
  -- a zero where no character is open is the end
  ends : (bs : List ℕ) → (state.more == 0 && b == 0) ≡ true
      → Exact (String ending state left) (b ∷ bs) (cond (may_end ending left) (Ok ([], bs)) (departs (b ∷ bs)))
  ends bs e =
      let both = and_parts (eqb state.more 0) (eqb b 0) e in
      let is_closed : state ≡ boundary = sound.closes (eqb-true _ _ both.0) in
      let is_zero : b ≡ 0 = eqb-true _ _ both.1 in
      cond_both (may_end ending left) _ _ (Exact (String ending state left) (b ∷ bs))
      (λ may. (b ∷ [], refl, record { spelled = (λ k. is_zero k ∷ []); nonzero = tt; short = omega arith; may = ap (may_end ending) (sub-zero left) ∙ may; text = ap Some is_closed }))
      (λ not_yet. departs_now (String ending state left) b bs (string_goes ending state left sound le) (λ more t word. no_word t more word not_yet is_zero))
    where
      no_word : (t more : List ℕ) → String ending state left (b ∷ more) t → may_end ending left ≡ false → b ≡ 0 → ⊥
      no_word [] more word not_yet is_zero = let may : may_end ending left ≡ true = ap (may_end ending) (sym (sub-zero left)) ∙ word.may in cc
      no_word (x ∷ t) more word not_yet is_zero = let first : b ≡ x = (let e = word.spelled in cc) in absurd (omega (arith, word.nonzero.0, first, is_zero))

  -- any other byte is in the text
  inside : (more t : List ℕ) → (state.more == 0 && b == 0) ≡ false → String ending state left (b ∷ more) t → (rest : List ℕ) × (t ≡ b ∷ rest) × (more ≡ rest ++ 0 ∷ [])
  inside more [] other word =
      let first : b ≡ 0 = (let e = word.spelled in cc) in
      let is_closed : state ≡ boundary = (let e = word.text in cc) in
      let none : state.more ≡ 0 = ap (λ (s : Awaited). s.more) is_closed in
      let yes : (state.more == 0 && b == 0) ≡ true = rw (eq-eqb state.more 0 none, eq-eqb b 0 first) refl in
      absurd cc
  inside more (x ∷ t) other word =
      let first : b ≡ x = (let e = word.spelled in cc) in
      let rest : more ≡ t ++ 0 ∷ [] = (let e = word.spelled in cc) in
      (t, (λ k. sym first k ∷ t), rest)

pub string_exact : (bytes : List ℕ) (ending : Ending) (state : Awaited) (left : ℕ) → IsSound state → state.more ≤ left → Exact (String ending state left) bytes (string_at ending state left bytes)
unfolding string_at
string_exact [] ending state left sound le = string_goes ending state left sound le
string_exact (b ∷ bs) ending state left sound le =
    cond_both (state.more == 0 && b == 0) _ _ (Exact (String ending state left) (b ∷ bs))
    (λ e. ends ending state left b sound le bs e)
    (λ other.
    elim (next_cases left state b) [
      | inl h ↦
          let now = departs_now (String ending state left) b bs (string_goes ending state left sound le)
          (λ more t word.
          let in_text = inside ending state left b sound le more t other word in
          let size : suc (length in_text.0) ≤ left = omega (arith, word.short, ap length in_text.1) in
          h.1 in_text.0 (omega (arith, size)) (subst (λ (w : List ℕ). run state w ≡ Some boundary) in_text.1 word.text)) in
          rw h.0 now
      | inr h ↦
          let rest = exact_first (String ending state left) (String ending h.0 (left - 1)) (λ t. b ∷ t) b
          (λ w t word. record {
            spelled = ap (λ (v : List ℕ). b ∷ v) word.spelled;
            nonzero = (positive_byte state h.0 b sound other h.2, word.nonzero);
            short = omega (arith, word.short, h.3);
            may = ap (may_end ending) (omega arith) ∙ word.may;
            text = run_step state b t h.0 h.2 ∙ word.text;
          })
          (λ w t word.
          let in_text = inside ending state left b sound le w t other word in
          let size : length t ≡ suc (length in_text.0) = ap length in_text.1 in
          let nonzero : AllNonzero (b ∷ in_text.0) = subst AllNonzero in_text.1 word.nonzero in (
            in_text.0,
            record {
              spelled = in_text.2;
              nonzero = nonzero.1;
              short = omega (arith, word.short, size);
              may = ap (may_end ending) (omega (arith, size)) ∙ word.may;
              text = same_next state h.0 b in_text.0 h.2 (subst (λ (v : List ℕ). run state v ≡ Some boundary) in_text.1 word.text);
            },
          ))
          bs (string_at ending h.0 (left - 1) bs) (string_exact bs ending h.0 (left - 1) (after_sound state b h.0 h.2) (omega (arith, h.3))) in
          rw h.1 rest
    ])
