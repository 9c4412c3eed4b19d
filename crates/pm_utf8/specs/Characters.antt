-- The rule on bytes holds along a text just where the text is UTF-8.
use Rattle.std.{proofs.{Common.{◌≡◌, ℕ, zero, suc, ◌+◌, ◌-◌, ◌*◌, ◌/◌, ◌<◌, ◌≤◌, true, false, eqb, List, [], ◌∷◌, ◌++◌, length, Some, refl, sym, ap, subst, ◌∙◌, inl, inr, arith}, lemmas.{Bool.{and_parts, le-leb, cases_lt, lt-ltb, le-ltb, eqb-false}, Str.{encode_ascii, IsUtf8-nil}}}, specs.Str.{IsUtf8, Lossy.{second_byte_min, second_byte_max}}}
use lib.Utf8.{scalar, scalars, encode, encodes, next, low_scalar, scalar_cases}
use Rattle.pm_utf8.specs.{declared.Awaited.Awaited, Utf8.{continued, boundary, begun, lead, run}, Steps.{least_is, most_is, lead_one, lead_two, lead_three, lead_four, lead_none, lead_past, after_in, after_is, run_step, run_first}}

-- ---- from characters to bytes

two : (c : ℕ) → 128 ≤ c → c < 2048 → encode c ≡ (192 + c / 64) ∷ next c ∷ []
unfolding encode
two c l h = rw (le-ltb c 128 l, lt-ltb c 2048 h) refl

three : (c : ℕ) → 2048 ≤ c → c < 65536 → encode c ≡ (224 + c / 4096) ∷ next (c / 64) ∷ next c ∷ []
unfolding encode
three c l h = rw (le-ltb c 128 (omega arith), le-ltb c 2048 l, lt-ltb c 65536 h) refl

four : (c : ℕ) → 65536 ≤ c → encode c ≡ (240 + c / 262144) ∷ next (c / 4096) ∷ next (c / 64) ∷ next c ∷ []
unfolding encode
four c l = rw (le-ltb c 128 (omega arith), le-ltb c 2048 (omega arith), le-ltb c 65536 l) refl

one_char : (c : ℕ) (bs : List ℕ) → scalar c ≡ true → run boundary (encode c ++ bs) ≡ run boundary bs
one_char c bs ok =
    let range = scalar_cases c ok in
    elim (cases_lt c 128) [
      | inl a ↦ rw (encode_ascii c a) (run_step boundary c bs boundary (lead_one c a))
      | inr a ↦ elim (cases_lt c 2048) [
        | inl b ↦
            let x = 192 + c / 64 in
            let l = least_is x in
            let m = most_is x in
            rw (two c a b)
            (run_step boundary x (next c ∷ bs) (begun 1 x) (lead_two x (omega arith) (omega arith))
            ∙ run_step (begun 1 x) (next c) bs boundary (after_in (begun 1 x) (next c) refl (omega arith) (omega arith)))
        | inr b ↦ elim (cases_lt c 65536) [
          | inl d ↦
              let x = 224 + c / 4096 in
              let l = least_is x in
              let m = most_is x in
              rw (three c b d)
              (run_step boundary x (next (c / 64) ∷ next c ∷ bs) (begun 2 x) (lead_three x (omega arith) (omega arith))
              ∙ run_step (begun 2 x) (next (c / 64)) (next c ∷ bs) (continued 1) (after_in (begun 2 x) (next (c / 64)) refl (omega arith) (omega arith))
              ∙ run_step (continued 1) (next c) bs boundary (after_in (continued 1) (next c) refl (omega arith) (omega arith)))
          | inr d ↦
              let x = 240 + c / 262144 in
              let l = least_is x in
              let m = most_is x in
              rw (four c d)
              (run_step boundary x (next (c / 4096) ∷ next (c / 64) ∷ next c ∷ bs) (begun 3 x) (lead_four x (omega arith) (omega arith))
              ∙ run_step (begun 3 x) (next (c / 4096)) (next (c / 64) ∷ next c ∷ bs) (continued 2) (after_in (begun 3 x) (next (c / 4096)) refl (omega arith) (omega arith))
              ∙ run_step (continued 2) (next (c / 64)) (next c ∷ bs) (continued 1) (after_in (continued 2) (next (c / 64)) refl (omega arith) (omega arith))
              ∙ run_step (continued 1) (next c) bs boundary (after_in (continued 1) (next c) refl (omega arith) (omega arith)))
        ]
      ]
    ]

pub of_chars : (cs : List ℕ) → scalars cs ≡ true → run boundary (encodes cs) ≡ Some boundary
of_chars [] ok = refl
of_chars (c ∷ cs) ok = let p = and_parts (scalar c) (scalars cs) ok in one_char c (encodes cs) p.0 ∙ of_chars cs p.1

pub accepts : (bs : List ℕ) → IsUtf8 bs → run boundary bs ≡ Some boundary
accepts bs u = subst (λ (x : List ℕ). run boundary x ≡ Some boundary) u.1.1 (of_chars u.0 u.1.0)

-- ---- from bytes to characters

high_scalar : (c : ℕ) → 57344 ≤ c → c < 1114112 → scalar c ≡ true
high_scalar c l h = rw (le-ltb c 55296 (omega arith), le-leb 57344 c l, lt-ltb c 1114112 h) refl

cons : (c : ℕ) (front bs : List ℕ) → scalar c ≡ true → encode c ≡ front → IsUtf8 bs → IsUtf8 (front ++ bs)
cons c front bs ok e u = (c ∷ u.0, (rw ok u.1.0, λ i. e i ++ u.1.1 i))

cons_two : (x y : ℕ) (bs : List ℕ) → (194 ≤ x) × (x < 224) → (128 ≤ y) × (y < 192) → IsUtf8 bs → IsUtf8 (x ∷ y ∷ bs)
cons_two x y bs h f =
    let c = (x - 192) * 64 + (y - 128) in
    let p : 192 + c / 64 ≡ x = omega arith in
    let q : next c ≡ y = omega arith in
    cons c (x ∷ y ∷ []) bs (low_scalar c (omega arith)) (two c (omega arith) (omega arith) ∙ (λ k. p k ∷ q k ∷ []))

second_continues : (x y : ℕ) → (second_byte_min x ≤ y) × (y ≤ second_byte_max x) → (128 ≤ y) × (y < 192)
second_continues x y f = omega (arith, least_is x, most_is x)

three_bytes : (x y z : ℕ) → 224 ≤ x → (128 ≤ y) × (y < 192) → (128 ≤ z) × (z < 192)
    → let c = (x - 224) * 4096 + (y - 128) * 64 + (z - 128) in (224 + c / 4096 ≡ x) × (next (c / 64) ≡ y) × (next c ≡ z)
three_bytes x y z h f g = (omega arith, omega arith, omega arith)

four_bytes : (x y z w : ℕ) → 240 ≤ x → (128 ≤ y) × (y < 192) → (128 ≤ z) × (z < 192) → (128 ≤ w) × (w < 192)
    → let c = (x - 240) * 262144 + (y - 128) * 4096 + (z - 128) * 64 + (w - 128) in (240 + c / 262144 ≡ x) × (next (c / 4096) ≡ y) × (next (c / 64) ≡ z) × (next c ≡ w)
four_bytes x y z w h f g j =
    let e : ((x - 240) * 262144 + (y - 128) * 4096 + (z - 128) * 64 + (w - 128)) / 64 ≡ (x - 240) * 4096 + (y - 128) * 64 + (z - 128) = omega arith in
    (omega arith, omega arith, rw e (omega arith), omega arith)

cons_three : (x y z : ℕ) (bs : List ℕ) → (224 ≤ x) × (x < 240) → (second_byte_min x ≤ y) × (y ≤ second_byte_max x) → (128 ≤ z) × (z < 192) → IsUtf8 bs → IsUtf8 (x ∷ y ∷ z ∷ bs)
cons_three x y z bs h f g =
    let c = (x - 224) * 4096 + (y - 128) * 64 + (z - 128) in
    let bytes = three_bytes x y z h.0 (second_continues x y f) g in
    let p = bytes.0 in
    let q = bytes.1 in
    let r = bytes.2 in
    let l = least_is x in
    let m = most_is x in
    let ok : scalar c ≡ true = elim (cases_lt c 55296) [ inl a ↦ low_scalar c a | inr a ↦ high_scalar c (omega arith) (omega arith) ] in
    cons c (x ∷ y ∷ z ∷ []) bs ok (three c (omega arith) (omega arith) ∙ (λ k. p k ∷ q k ∷ r k ∷ []))

cons_four : (x y z w : ℕ) (bs : List ℕ) → (240 ≤ x) × (x ≤ 244) → (second_byte_min x ≤ y) × (y ≤ second_byte_max x) → (128 ≤ z) × (z < 192) → (128 ≤ w) × (w < 192) → IsUtf8 bs → IsUtf8 (x ∷ y ∷ z ∷ w ∷ bs)
cons_four x y z w bs h f g j =
    let c = (x - 240) * 262144 + (y - 128) * 4096 + (z - 128) * 64 + (w - 128) in
    let bytes = four_bytes x y z w h.0 (second_continues x y f) g j in
    let p = bytes.0 in
    let q = bytes.1 in
    let r = bytes.2 in
    let t = bytes.3 in
    let l = least_is x in
    let m = most_is x in
    cons c (x ∷ y ∷ z ∷ w ∷ []) bs (high_scalar c (omega arith) (omega arith)) (four c (omega arith) ∙ (λ k. p k ∷ q k ∷ r k ∷ t k ∷ []))

-- a character that has begun and doesn't end
unended : (state : Awaited) → eqb state.more 0 ≡ false → run state [] ≡ Some boundary → ⊥
unended state more e = let same : state.more ≡ 0 = cc in eqb-false state.more 0 more same

module _ (n : ℕ) (rest : (bs : List ℕ) → length bs ≤ n → run boundary bs ≡ Some boundary → IsUtf8 bs) where
  fourth : (a b c : ℕ) (bs : List ℕ) → length bs ≤ n → (240 ≤ a) × (a ≤ 244) → (second_byte_min a ≤ b) × (b ≤ second_byte_max a) → (128 ≤ c) × (c < 192) → run (continued 1) bs ≡ Some boundary → IsUtf8 (a ∷ b ∷ c ∷ bs)
  fourth a b c [] l h f g v = absurd (unended (continued 1) refl v)
  fourth a b c (d ∷ ds) l h f g v =
      let s = run_first (continued 1) d ds boundary v in
      let t = after_is (continued 1) d s.0 refl s.1 in
      cons_four a b c d ds h f g (t.0, omega (arith, t.1)) (rest ds (omega arith) (subst (λ (x : Awaited). run x ds ≡ Some boundary) t.2 s.2))

  third : (a b : ℕ) (bs : List ℕ) → length bs ≤ n → (224 ≤ a) × (a < 240) → (second_byte_min a ≤ b) × (b ≤ second_byte_max a) → run (continued 1) bs ≡ Some boundary → IsUtf8 (a ∷ b ∷ bs)
  third a b [] l h f v = absurd (unended (continued 1) refl v)
  third a b (c ∷ cs) l h f v =
      let s = run_first (continued 1) c cs boundary v in
      let t = after_is (continued 1) c s.0 refl s.1 in
      cons_three a b c cs h f (t.0, omega (arith, t.1)) (rest cs (omega arith) (subst (λ (x : Awaited). run x cs ≡ Some boundary) t.2 s.2))

  third_of_four : (a b : ℕ) (bs : List ℕ) → length bs ≤ n → (240 ≤ a) × (a ≤ 244) → (second_byte_min a ≤ b) × (b ≤ second_byte_max a) → run (continued 2) bs ≡ Some boundary → IsUtf8 (a ∷ b ∷ bs)
  third_of_four a b [] l h f v = absurd (unended (continued 2) refl v)
  third_of_four a b (c ∷ cs) l h f v =
      let s = run_first (continued 2) c cs boundary v in
      let t = after_is (continued 2) c s.0 refl s.1 in
      fourth a b c cs (omega arith) h f (t.0, omega (arith, t.1)) (subst (λ (x : Awaited). run x cs ≡ Some boundary) t.2 s.2)

  second_of : (k a : ℕ) (b : ℕ) (bs : List ℕ) → eqb k 0 ≡ false → run (begun k a) (b ∷ bs) ≡ Some boundary → (second_byte_min a ≤ b) × (b ≤ second_byte_max a) × (run (continued (k - 1)) bs ≡ Some boundary)
  second_of k a b bs more v =
      let s = run_first (begun k a) b bs boundary v in
      let t = after_is (begun k a) b s.0 more s.1 in
      (t.0, t.1, subst (λ (x : Awaited). run x bs ≡ Some boundary) t.2 s.2)

  after_lead : (a : ℕ) (bs : List ℕ) → length bs ≤ n → 194 ≤ a → a < 245 → (s : Awaited) → lead a ≡ Some s → run s bs ≡ Some boundary → IsUtf8 (a ∷ bs)
  after_lead a [] l low high s is v =
      let same : s ≡ boundary = cc in
      let one : lead a ≡ Some boundary = is ∙ ap Some same in
      elim (cases_lt a 224) [
        | inl h ↦ let o : begun 1 a ≡ boundary = (let e = sym (lead_two a low h) ∙ one in cc) in absurd (unended (begun 1 a) refl (ap Some o))
        | inr h ↦ elim (cases_lt a 240) [
          | inl i ↦ let o : begun 2 a ≡ boundary = (let e = sym (lead_three a h i) ∙ one in cc) in absurd (unended (begun 2 a) refl (ap Some o))
          | inr i ↦ let o : begun 3 a ≡ boundary = (let e = sym (lead_four a i high) ∙ one in cc) in absurd (unended (begun 3 a) refl (ap Some o))
        ]
      ]
  after_lead a (b ∷ bs) l low high s is v =
      elim (cases_lt a 224) [
        | inl h ↦
            let o : begun 1 a ≡ s = (let e = sym (lead_two a low h) ∙ is in cc) in
            let t = second_of 1 a b bs refl (subst (λ (x : Awaited). run x (b ∷ bs) ≡ Some boundary) (sym o) v) in
            cons_two a b bs (low, h) (second_continues a b (t.0, t.1)) (rest bs (omega arith) t.2)
        | inr h ↦ elim (cases_lt a 240) [
          | inl i ↦
              let o : begun 2 a ≡ s = (let e = sym (lead_three a h i) ∙ is in cc) in
              let t = second_of 2 a b bs refl (subst (λ (x : Awaited). run x (b ∷ bs) ≡ Some boundary) (sym o) v) in
              third a b bs (omega arith) (h, i) (t.0, t.1) t.2
          | inr i ↦
              let o : begun 3 a ≡ s = (let e = sym (lead_four a i high) ∙ is in cc) in
              let t = second_of 3 a b bs refl (subst (λ (x : Awaited). run x (b ∷ bs) ≡ Some boundary) (sym o) v) in
              third_of_four a b bs (omega arith) (i, omega arith) (t.0, t.1) t.2
        ]
      ]

  begins : (bs : List ℕ) → length bs ≤ suc n → run boundary bs ≡ Some boundary → IsUtf8 bs
  begins [] l v = IsUtf8-nil
  begins (a ∷ bs) l v =
      let s = run_first boundary a bs boundary v in
      let is : lead a ≡ Some s.0 = s.1 in
      elim (cases_lt a 128) [
        | inl h ↦
            let o : boundary ≡ s.0 = (let e = sym (lead_one a h) ∙ is in cc) in
            cons a (a ∷ []) bs (low_scalar a (omega arith)) (encode_ascii a h) (rest bs (omega arith) (subst (λ (x : Awaited). run x bs ≡ Some boundary) (sym o) s.2))
        | inr h ↦ elim (cases_lt a 194) [
          | inl i ↦ let e = sym (lead_none a h i) ∙ is in absurd cc
          | inr i ↦ elim (cases_lt a 245) [
            | inl j ↦ after_lead a bs (omega arith) i j s.0 is s.2
            | inr j ↦ let e = sym (lead_past a j) ∙ is in absurd cc
          ]
        ]
      ]

all_lengths : (n : ℕ) (bs : List ℕ) → length bs ≤ n → run boundary bs ≡ Some boundary → IsUtf8 bs
all_lengths zero [] l v = IsUtf8-nil
all_lengths zero (b ∷ bs) l v = absurd (omega arith)
all_lengths (suc n) bs l v = begins n (all_lengths n) bs l v

pub is_utf8 : (bs : List ℕ) → run boundary bs ≡ Some boundary → IsUtf8 bs
is_utf8 bs v = all_lengths (length bs) bs (omega arith) v
