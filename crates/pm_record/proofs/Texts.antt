-- Texts of so many bytes.
use Rattle.std.{proofs.{Common.{◌≡◌, ℕ, zero, suc, ◌+◌, ◌-◌, ◌<◌, ◌≤◌, Bool, true, false, List, [], ◌∷◌, ◌++◌, length, length-append, take, drop, take_at, drop_at, Option, Some, None, Result, Ok, Err, cond, ap₂, refl, sym, ap, subst, ◌∙◌, arith}, lemmas.{Bool.{leb-true, le-leb}, List.{length-take-le, take-append-drop}}}, specs.{Str.IsUtf8, Option.{IsSome, unwrap_or}}}
use Rattle.pm_utf8.specs.{declared.Awaited.Awaited, Utf8.{boundary, after, run, IsSound}, States.{boundary_sound, after_sound, byte_below, fill, needs}, Steps.{run_first, run_step}, Characters.{accepts, is_utf8}}
use Rattle.pm_record.{specs.Reading.{Read, ◌>>=◌, byte_at, text_at, may_follow, has_room, next_of, left_of}, proofs.Readers.{IsBytes, ok, Reading, Behind, same_words, field_then, done_reads, made_reads, byte_reads}}

-- ---- one byte

abbrev MayFollow : Awaited → ℕ → ℕ → Type 0
MayFollow state n b = (may_follow state n b ≡ true) × (b < 256)

follow_to : (state : Awaited) (n b : ℕ) → may_follow state n b ≡ true → (next : Awaited) × (after state b ≡ Some next) × (next.more ≤ n)
follow_to state n b e =
    elim (after state b) as (λ o. after state b ≡ o → has_room o n ≡ true → (next : Awaited) × (after state b ≡ Some next) × (next.more ≤ n)) [
      | None ↦ λ is f. absurd cc
      | Some next ↦ λ is f. (next, is, leb-true next.more n f)
    ] refl e

follow_from : (state : Awaited) (n b : ℕ) (next : Awaited) → after state b ≡ Some next → next.more ≤ n → may_follow state n b ≡ true
follow_from state n b next is le = ap (λ (o : Option Awaited). has_room o n) is ∙ le-leb next.more n le

-- ---- so many bytes

abbrev pub IsTextBehind : ℕ → Awaited → List ℕ → List ℕ → Type 0
IsTextBehind n state text word = (length word ≡ n) × (run state word ≡ Some boundary) × (text ≡ word)

nothing : (state : Awaited) (text word : List ℕ) → IsTextBehind zero state text word → (text ≡ []) × (word ≡ [])
nothing state text [] is = (is.2, refl)
nothing state text (b ∷ word) is = absurd (omega (arith, is.0))

first_byte : (n : ℕ) (state : Awaited) → IsSound state → (text word : List ℕ) → IsTextBehind (suc n) state text word → (b : ℕ) × (behind : List ℕ) × MayFollow state n b × (word ≡ b ∷ behind)
first_byte n state sound text [] is = absurd (omega (arith, is.0))
first_byte n state sound text (b ∷ word) is =
    let f = run_first state b word boundary is.1 in
    (b, word, (follow_from state n b f.0 f.1 (omega (arith, needs word f.0 f.2, is.0)), omega (arith, byte_below state b f.0 sound f.1)), refl)

pub text_reads : (n : ℕ) (state : Awaited) → IsSound state → state.more ≤ n → Reading (IsTextBehind n state) (text_at n state)
unfolding text_at
text_reads zero state sound le = done_reads [] (IsTextBehind zero state) (refl, ap Some (sound.closes (omega (arith, le))), refl) (nothing state)
text_reads (suc n) state sound le =
    field_then (MayFollow state n) (λ b. b ∷ []) (byte_at (may_follow state n)) (IsTextBehind (suc n) state) (λ b bytes. text_at n (next_of state b) bytes >>= λ p. Ok (b ∷ p.0, p.1))
    (byte_reads (MayFollow state n) (may_follow state n) (λ b e lt. (e, lt)) (λ b h. h)
    (let t = fill (suc n) state sound le in let f = first_byte n state sound t.0 t.0 (t.1, t.2, refl) in (f.0, f.2)))
    (λ b h.
    let f = follow_to state n b h.0 in
    let is : next_of state b ≡ f.0 = ap (λ (o : Option Awaited). unwrap_or o boundary) f.1 in
    let step : (word : List ℕ) → run state (b ∷ word) ≡ run (next_of state b) word = λ word. run_step state b word f.0 f.1 ∙ ap (λ (s : Awaited). run s word) (sym is) in
    made_reads (IsTextBehind n (next_of state b)) (Behind (IsTextBehind (suc n) state) (b ∷ [])) (text_at n (next_of state b)) (λ text. b ∷ text)
    (text_reads n (next_of state b) (subst IsSound (sym is) (after_sound state b f.0 f.1)) (omega (arith, f.2, ap (λ (o : Awaited). o.more) is)))
    (λ text word w. (ap suc w.0, step word ∙ w.1, ap (λ (t : List ℕ). b ∷ t) w.2))
    (λ text word w. (word, (omega (arith, w.0), sym (step word) ∙ w.1, refl), w.2)))
    (first_byte n state sound)
    (λ b h.
    let f = follow_to state n b h.0 in
    let t = fill n f.0 (after_sound state b f.0 f.1) f.2 in
    (b ∷ t.0, t.0, (ap suc t.1, run_step state b t.0 f.0 f.1 ∙ t.2, refl)))

-- a text of so many bytes
abbrev pub IsText : ℕ → List ℕ → List ℕ → Type 0
IsText n text word = (length text ≡ n) × IsUtf8 text × (word ≡ text)

pub utf8_reads : (n : ℕ) → Reading (IsText n) (text_at n boundary)
utf8_reads n = same_words (IsTextBehind n boundary) (IsText n) (text_at n boundary) (text_reads n boundary boundary_sound (omega arith))
    (λ text word is. (ap length is.2 ∙ is.0, subst IsUtf8 (sym is.2) (is_utf8 word is.1), sym is.2))
    (λ text word is. (ap length is.2 ∙ is.0, accepts word (subst IsUtf8 (sym is.2) is.1), sym is.2))

-- ---- the loop over a text's bytes

left_made : {X Y : Type 0} (r : Result X ℕ) (f : X → Y) → left_of (r >>= λ x. Ok (f x)) ≡ left_of r
left_made (Ok x) f = refl
left_made (Err left) f = refl

module _ (size i : ℕ) (state : Awaited) (rest : List ℕ) (total : Option ℕ) (so_far : left_of (text_at (size - i) state rest) ≡ total) where
  pub text_done : size ≤ i → None ≡ total
  unfolding text_at
  text_done le = let k : size - i ≡ 0 = omega (arith, le) in sym (ap (λ (n : ℕ). left_of (text_at n state rest)) k) ∙ so_far

  module _ (lt : i < size) where
    next_n : size - i ≡ suc (size - 1 - i)
    next_n = omega (arith, lt)

    pub text_short : rest ≡ [] → Some 0 ≡ total
    unfolding text_at
    text_short none = sym (ap (λ (n : ℕ). left_of (text_at n state rest)) next_n ∙ ap (λ (r : List ℕ). left_of (text_at (suc (size - 1 - i)) state r)) none) ∙ so_far

    module _ (b : ℕ) (behind : List ℕ) (is : rest ≡ b ∷ behind) where
      abbrev step : ℕ × List ℕ → Read (List ℕ)
      step p = text_at (size - 1 - i) (next_of state p.0) p.1 >>= λ q. Ok (p.0 ∷ q.0, q.1)

      one : (t : Bool) → may_follow state (size - 1 - i) b ≡ t → left_of (cond t (Ok (b, behind)) (Err (suc (length behind))) >>= step) ≡ total
      unfolding text_at
      one t e =
          sym (ap (λ (n : ℕ). left_of (text_at n state rest)) next_n ∙ ap (λ (r : List ℕ). left_of (text_at (suc (size - 1 - i)) state r)) is
          ∙ ap (λ (u : Bool). left_of (cond u (Ok (b, behind)) (Err (suc (length behind))) >>= step)) e) ∙ so_far

      pub text_wrong : may_follow state (size - 1 - i) b ≡ false → Some (length rest) ≡ total
      text_wrong e = ap (λ (r : List ℕ). Some (length r)) is ∙ one false e

      pub text_goes_on : (next : Awaited) → may_follow state (size - 1 - i) b ≡ true → next ≡ next_of state b → left_of (text_at (size - (i + 1)) next behind) ≡ total
      text_goes_on next e n =
          let k : size - (i + 1) ≡ size - 1 - i = omega (arith, lt) in
          ap (λ (m : ℕ). left_of (text_at m next behind)) k ∙ ap (λ (s : Awaited). left_of (text_at (size - 1 - i) s behind)) n
          ∙ sym (left_made (text_at (size - 1 - i) (next_of state b) behind) (λ q. (b ∷ q.0, q.1))) ∙ one true e

-- what was read is the front
pub text_front : (n : ℕ) (bytes : List ℕ) → IsBytes bytes → None ≡ left_of (text_at n boundary bytes) → (text_at n boundary bytes ≡ Ok (take n bytes, drop n bytes)) × IsUtf8 (take n bytes) × (n ≤ length bytes)
text_front n bytes fits none =
    elim (text_at n boundary bytes) as (λ r. text_at n boundary bytes ≡ r → None ≡ left_of r → (r ≡ Ok (take n bytes, drop n bytes)) × IsUtf8 (take n bytes) × (n ≤ length bytes)) [
      | Ok p ↦ λ e f.
          let w = (utf8_reads n).found bytes p.0 p.1 fits e in
          let parts : bytes ≡ p.0 ++ p.1 = w.2 ∙ ap (λ (t : List ℕ). t ++ p.1) w.1.2 in
          let front : take n bytes ≡ p.0 = ap (take n) parts ∙ take_at p.0 p.1 n w.1.0 in
          let behind : drop n bytes ≡ p.1 = ap (drop n) parts ∙ drop_at p.0 p.1 n w.1.0 in
          (ap₂ (λ (x y : List ℕ). ok (x, y)) (sym front) (sym behind), subst IsUtf8 (sym front) w.1.1, omega (arith, ap length parts, length-append p.0 p.1, w.1.0))
      | Err left ↦ λ e f. absurd cc
    ] refl none

-- a text in front
pub text_there : (n : ℕ) (bytes : List ℕ) → n ≤ length bytes → IsUtf8 (take n bytes) → text_at n boundary bytes ≡ Ok (take n bytes, drop n bytes)
text_there n bytes le is = ap (text_at n boundary) (sym (take-append-drop n bytes)) ∙ (utf8_reads n).again (take n bytes) (take n bytes) (drop n bytes) (length-take-le n bytes le, is, refl)

-- reading stops where no text is in front
pub text_stops : (n : ℕ) (bytes : List ℕ) → IsBytes bytes → (n ≤ length bytes → IsUtf8 (take n bytes) → ⊥) → IsSome (left_of (text_at n boundary bytes))
text_stops n bytes fits refuse =
    elim (left_of (text_at n boundary bytes)) as (λ o. o ≡ left_of (text_at n boundary bytes) → IsSome o) [
      | None ↦ λ e. let there = text_front n bytes fits e in absurd (refuse there.2 there.1)
      | Some left ↦ λ e. refl
    ] refl

pub stopped : (left : Option ℕ) → IsSome left → None ≡ left → ⊥
stopped None some e = absurd cc
stopped (Some x) some e = absurd cc
