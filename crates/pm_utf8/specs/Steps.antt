-- What one byte makes of a state.
use Rattle.std.{proofs.{Common.{◌≡◌, ℕ, ◌-◌, ◌<◌, ◌≤◌, ◌⊎◌, true, false, cond, eqb, ltb, List, [], ◌∷◌, ◌++◌, Some, None, refl, ap, ◌∙◌, inl, inr, arith}, lemmas.Bool.{cases_eq, lt-ltb, le-ltb, ltb-false, eq-eqb, ne_eqb}}, specs.{Option.option_and_then, Str.Lossy.{second_byte_min, second_byte_max}}}
use Rattle.pm_utf8.specs.{declared.Awaited.Awaited, Utf8.{continued, boundary, begun, lead, after, run}}

-- the two bounds as numbers, by the first byte
pub least_is : (z : ℕ) → ((z ≡ 224) × (second_byte_min z ≡ 160)) ⊎ (((z ≡ 240) × (second_byte_min z ≡ 144)) ⊎ ((z ≡ 224 → ⊥) × (z ≡ 240 → ⊥) × (second_byte_min z ≡ 128)))
least_is z =
    elim (cases_eq z 224) [
      | inl e ↦ inl (e, rw (eq-eqb z 224 e))
      | inr n ↦ elim (cases_eq z 240) [ inl e ↦ inr (inl (e, rw (ne_eqb z 224 n, eq-eqb z 240 e))) | inr m ↦ inr (inr (n, m, rw (ne_eqb z 224 n, ne_eqb z 240 m))) ]
    ]

pub most_is : (z : ℕ) → ((z ≡ 237) × (second_byte_max z ≡ 159)) ⊎ (((z ≡ 244) × (second_byte_max z ≡ 143)) ⊎ ((z ≡ 237 → ⊥) × (z ≡ 244 → ⊥) × (second_byte_max z ≡ 191)))
most_is z =
    elim (cases_eq z 237) [
      | inl e ↦ inl (e, rw (eq-eqb z 237 e))
      | inr n ↦ elim (cases_eq z 244) [ inl e ↦ inr (inl (e, rw (ne_eqb z 237 n, eq-eqb z 244 e))) | inr m ↦ inr (inr (n, m, rw (ne_eqb z 237 n, ne_eqb z 244 m))) ]
    ]

-- ---- one byte

pub lead_one : (b : ℕ) → b < 128 → lead b ≡ Some boundary
lead_one b h = rw (lt-ltb b 128 h) refl

pub lead_two : (b : ℕ) → 194 ≤ b → b < 224 → lead b ≡ Some (begun 1 b)
lead_two b l h = rw (le-ltb b 128 (omega arith), le-ltb b 194 l, lt-ltb b 224 h) refl

pub lead_three : (b : ℕ) → 224 ≤ b → b < 240 → lead b ≡ Some (begun 2 b)
lead_three b l h = rw (le-ltb b 128 (omega arith), le-ltb b 194 (omega arith), le-ltb b 224 l, lt-ltb b 240 h) refl

pub lead_four : (b : ℕ) → 240 ≤ b → b < 245 → lead b ≡ Some (begun 3 b)
lead_four b l h = rw (le-ltb b 128 (omega arith), le-ltb b 194 (omega arith), le-ltb b 224 (omega arith), le-ltb b 240 l, lt-ltb b 245 h) refl

pub lead_none : (b : ℕ) → 128 ≤ b → b < 194 → lead b ≡ None
lead_none b l h = rw (le-ltb b 128 l, lt-ltb b 194 h) refl

pub lead_past : (b : ℕ) → 245 ≤ b → lead b ≡ None
lead_past b l = rw (le-ltb b 128 (omega arith), le-ltb b 194 (omega arith), le-ltb b 224 (omega arith), le-ltb b 240 (omega arith), le-ltb b 245 l) refl

pub after_in : (state : Awaited) (b : ℕ) → eqb state.more 0 ≡ false → state.low ≤ b → b ≤ state.high → after state b ≡ Some (continued (state.more - 1))
after_in state b more l h = rw (more, le-ltb b state.low l, le-ltb state.high b h) refl

pub after_is : (state : Awaited) (b : ℕ) (s : Awaited) → eqb state.more 0 ≡ false → after state b ≡ Some s → (state.low ≤ b) × (b ≤ state.high) × (s ≡ continued (state.more - 1))
after_is state b s more e =
    let e1 : cond (ltb b state.low) None (cond (ltb state.high b) None (Some (continued (state.more - 1)))) ≡ Some s = rw more at e in
    elim (ltb b state.low) as (λ t. ltb b state.low ≡ t → cond t None (cond (ltb state.high b) None (Some (continued (state.more - 1)))) ≡ Some s → (state.low ≤ b) × (b ≤ state.high) × (s ≡ continued (state.more - 1))) [
      | true ↦ λ t f. absurd cc
      | false ↦ λ t f.
          elim (ltb state.high b) as (λ u. ltb state.high b ≡ u → cond u None (Some (continued (state.more - 1))) ≡ Some s → (state.low ≤ b) × (b ≤ state.high) × (s ≡ continued (state.more - 1))) [
            | true ↦ λ u g. absurd cc
            | false ↦ λ u g. (ltb-false _ _ t, ltb-false _ _ u, cc)
          ] refl f
    ] refl e1

pub run_step : (state : Awaited) (b : ℕ) (bs : List ℕ) (s : Awaited) → after state b ≡ Some s → run state (b ∷ bs) ≡ run s bs
run_step state b bs s e = ap (option_and_then (λ n. run n bs)) e

pub run_first : (state : Awaited) (b : ℕ) (bs : List ℕ) (t : Awaited) → run state (b ∷ bs) ≡ Some t → (s : Awaited) × (after state b ≡ Some s) × (run s bs ≡ Some t)
run_first state b bs t e =
    elim (after state b) as (λ o. after state b ≡ o → option_and_then (λ n. run n bs) o ≡ Some t → (s : Awaited) × (after state b ≡ Some s) × (run s bs ≡ Some t)) [
      | None ↦ λ f g. absurd cc
      | Some s ↦ λ f g. (s, f, g)
    ] refl e

pub run_append : (xs ys : List ℕ) (state s : Awaited) → run state xs ≡ Some s → run state (xs ++ ys) ≡ run s ys
run_append [] ys state s e = let same : state ≡ s = cc in ap (λ (t : Awaited). run t ys) same
run_append (x ∷ xs) ys state s e =
    let f = run_first state x xs s e in
    run_step state x (xs ++ ys) f.0 f.1 ∙ run_append xs ys f.0 s f.2

pub run_none : (xs ys : List ℕ) (state : Awaited) → run state xs ≡ None → run state (xs ++ ys) ≡ None
run_none [] ys state e = absurd cc
run_none (x ∷ xs) ys state e =
    elim (after state x) as (λ o. after state x ≡ o → option_and_then (λ n. run n xs) o ≡ None → option_and_then (λ n. run n (xs ++ ys)) o ≡ None) [
      | None ↦ λ f g. refl
      | Some s ↦ λ f g. run_none xs ys s g
    ] refl e
