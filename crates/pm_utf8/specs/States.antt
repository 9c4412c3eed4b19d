-- What holds of the states that bytes lead to, and of the bytes that can come after them.
use Rattle.std.{proofs.{Common.{◌≡◌, ℕ, zero, suc, ◌-◌, ◌<◌, ◌≤◌, true, false, eqb, List, [], ◌∷◌, length, Some, None, refl, sym, ap, subst, ◌∙◌, inl, inr, arith}, lemmas.Bool.{cases_lt, eqb-true}}, specs.List.{All, AllByRecursion}}
use Rattle.pm_utf8.specs.{declared.Awaited.Awaited, Utf8.{continued, boundary, begun, lead, after, run, IsSound}, Steps.{least_is, most_is, lead_one, lead_two, lead_three, lead_four, lead_none, lead_past, after_in, after_is, run_step, run_first}}

pub boundary_sound : IsSound boundary
boundary_sound = record { closes = λ _. refl; low = omega arith; order = omega arith; high = omega arith }

continued_sound : (k : ℕ) → IsSound (continued k)
continued_sound k = record { closes = λ e. ap continued e; low = omega arith; order = omega arith; high = omega arith }

begun_sound : (k b : ℕ) → 0 < k → IsSound (begun k b)
begun_sound k b h = record { closes = λ e. absurd (omega (arith, h, e)); low = omega (arith, least_is b); order = omega (arith, least_is b, most_is b); high = omega (arith, most_is b) }

lead_sound : (b : ℕ) (s : Awaited) → lead b ≡ Some s → IsSound s
lead_sound b s e =
    elim (cases_lt b 128) [
      | inl h ↦ let o : boundary ≡ s = (let f = sym (lead_one b h) ∙ e in cc) in subst IsSound o boundary_sound
      | inr h ↦ elim (cases_lt b 194) [
        | inl i ↦ let f = sym (lead_none b h i) ∙ e in absurd cc
        | inr i ↦ elim (cases_lt b 224) [
          | inl j ↦ let o : begun 1 b ≡ s = (let f = sym (lead_two b i j) ∙ e in cc) in subst IsSound o (begun_sound 1 b (omega arith))
          | inr j ↦ elim (cases_lt b 240) [
            | inl k ↦ let o : begun 2 b ≡ s = (let f = sym (lead_three b j k) ∙ e in cc) in subst IsSound o (begun_sound 2 b (omega arith))
            | inr k ↦ elim (cases_lt b 245) [
              | inl l ↦ let o : begun 3 b ≡ s = (let f = sym (lead_four b k l) ∙ e in cc) in subst IsSound o (begun_sound 3 b (omega arith))
              | inr l ↦ let f = sym (lead_past b l) ∙ e in absurd cc
            ]
          ]
        ]
      ]
    ]

pub after_sound : (state : Awaited) (b : ℕ) (s : Awaited) → after state b ≡ Some s → IsSound s
after_sound state b s e =
    elim (eqb state.more 0) as (λ t. eqb state.more 0 ≡ t → IsSound s) [
      | true ↦ λ t. lead_sound b s (sym (rw t refl) ∙ e)
      | false ↦ λ t. let is = after_is state b s t e in subst IsSound (sym is.2) (continued_sound (state.more - 1))
    ] refl

pub run_sound : (bs : List ℕ) (state s : Awaited) → IsSound state → run state bs ≡ Some s → IsSound s
run_sound [] state s sound e = let o : state ≡ s = cc in subst IsSound o sound
run_sound (b ∷ bs) state s sound e =
    let f = run_first state b bs s e in
    run_sound bs f.0 s (after_sound state b f.0 f.1) f.2

-- no byte above 244 can stand anywhere
lead_below : (b : ℕ) (next : Awaited) → lead b ≡ Some next → b < 245
lead_below b next e = elim (cases_lt b 245) [ inl lt ↦ lt | inr le ↦ (let none : None ≡ Some next = sym (lead_past b le) ∙ e in absurd cc) ]

pub byte_below : (state : Awaited) (b : ℕ) (next : Awaited) → IsSound state → after state b ≡ Some next → b < 245
byte_below state b next sound e =
    elim (eqb state.more 0) as (λ t. eqb state.more 0 ≡ t → b < 245) [
      | true ↦ λ t. lead_below b next (sym (rw t refl) ∙ e)
      | false ↦ λ t. omega (arith, after_is state b next t e, sound.high)
    ] refl

pub bytes_below : (bs : List ℕ) (state last : Awaited) → IsSound state → run state bs ≡ Some last → AllByRecursion (λ byte. byte < 245) bs
bytes_below [] state last sound e = tt
bytes_below (b ∷ bs) state last sound e =
    let f = run_first state b bs last e in
    (byte_below state b f.0 sound f.1, bytes_below bs f.0 last (after_sound state b f.0 f.1) f.2)

pub each_below : (bs : List ℕ) → AllByRecursion (λ byte. byte < 245) bs → All (λ byte. byte < 245) bs
each_below [] all k d lt = absurd (omega arith)
each_below (b ∷ bs) all zero d lt = all.0
each_below (b ∷ bs) all (suc k) d lt = each_below bs all.1 k d (omega (arith, lt))

-- bytes that complete what has begun, so many of them
pub fill : (n : ℕ) (state : Awaited) → IsSound state → state.more ≤ n → (t : List ℕ) × (length t ≡ n) × (run state t ≡ Some boundary) × AllByRecursion (λ b. 0 < b) t
fill zero state sound le = ([], refl, ap Some (sound.closes (omega (arith, le))), tt)
fill (suc n) state sound le =
    elim (eqb state.more 0) as (λ t. eqb state.more 0 ≡ t → (t : List ℕ) × (length t ≡ suc n) × (run state t ≡ Some boundary) × AllByRecursion (λ b. 0 < b) t) [
      | true ↦ λ e.
          let rest = fill n boundary boundary_sound (omega arith) in
          let is : state ≡ boundary = sound.closes (eqb-true _ _ e) in
          let step : after state 97 ≡ Some boundary = ap (λ (s : Awaited). after s 97) is ∙ lead_one 97 (omega arith) in
          (97 ∷ rest.0, ap suc rest.1, run_step state 97 rest.0 boundary step ∙ rest.2, (omega arith, rest.3))
      | false ↦ λ e.
          let step = after_in state state.low e (omega arith) sound.order in
          let next = continued (state.more - 1) in
          let rest = fill n next (after_sound state state.low next step) (omega (arith, le)) in
          (state.low ∷ rest.0, ap suc rest.1, run_step state state.low rest.0 next step ∙ rest.2, (omega (arith, sound.low), rest.3))
    ] refl

-- a character takes the bytes that it says
pub needs : (t : List ℕ) (state : Awaited) → run state t ≡ Some boundary → state.more ≤ length t
needs [] state e = let is : state ≡ boundary = cc in omega (arith, ap (λ (s : Awaited). s.more) is)
needs (b ∷ bs) state e =
    let f = run_first state b bs boundary e in
    let rest = needs bs f.0 f.2 in
    elim (eqb state.more 0) as (λ t. eqb state.more 0 ≡ t → state.more ≤ suc (length bs)) [
      | true ↦ λ none. omega (arith, eqb-true _ _ none)
      | false ↦ λ more. let is = after_is state b f.0 more f.1 in omega (arith, rest, ap (λ (s : Awaited). s.more) is.2)
    ] refl
