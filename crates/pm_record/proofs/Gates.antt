-- Items behind open gates, up to a closed gate.
use Rattle.std.proofs.{Common.{◌≡◌, ◌≢◌, ℕ, zero, suc, ◌<◌, ◌≤◌, ◌||◌, Bool, true, eqb, ltb, List, [], ◌∷◌, ◌++◌, length, Ok, Err, refl, sym, ap, subst, ◌∙◌, append-nil, length-append, arith, ◌⊎◌, inl, inr}, lemmas.Bool.{eqb-true, ltb-true, lt-ltb, or_cases}, Math.Bool.or-true}
use Rattle.pm_record.{specs.{Reading.{Read, ◌>>=◌, byte_at, Fails}, Repeated.stepped, Gated.{past_gate, through_gates}, declared.fault.Unread.Unread}, proofs.{Gated.{behind_gate, gated_at}, Words.{Begins, Spelled}, Readers.{Reads, ThenWaits, ThenIs, becomes, then_reads, byte_reads}, Checks.done_waits, Loops.{behind_items, cons_items, behind_cons, fails_behind}}}

abbrev single : ℕ → List ℕ
single gate = gate ∷ []

module _ {X State : Type 0} (Waits : State → List ℕ → Type 0) (Is : State → X → List ℕ → Type 0) (next : State → X → State) (room : State → ℕ) where
  -- a gate that may stand here
  abbrev pub MayGate : State → ℕ → Type 0
  MayGate state gate = ((gate ≡ 0) ⊎ (0 < room state)) × (gate < 256)

  -- the front of what is behind a gate
  abbrev pub GatedWait : ℕ → State → List ℕ → Type 0
  GatedWait zero state bytes = bytes ≡ []
  GatedWait (suc most) state [] = Unit {0}
  GatedWait (suc most) state (zero ∷ bytes) = ⊥
  GatedWait (suc most) state (suc gate ∷ bytes) = MayGate state (suc gate) × ThenWaits (Waits state) (Is state) (λ x. GatedWait most (next state x)) bytes

  abbrev pub AreGated : ℕ → State → List X → List ℕ → Type 0
  AreGated most state [] bytes = bytes ≡ 0 ∷ []
  AreGated zero state (x ∷ xs) bytes = ⊥
  AreGated (suc most) state (x ∷ xs) bytes =
      (gate : ℕ) × (word : List ℕ) × (behind : List ℕ) × MayGate state (suc gate) × Is state x word × (bytes ≡ suc gate ∷ (word ++ behind)) × AreGated most (next state x) xs behind

module _ {X State : Type 0} (Waits : State → List ℕ → Type 0) (Is : State → X → List ℕ → Type 0) (next : State → X → State) (room : State → ℕ) (item_at : State → List ℕ → Read X)
    (item_reads : (state : State) → 0 < room state → Reads (Waits state) (Is state) (item_at state))
    (falls : (state : State) (x : X) (word : List ℕ) → Is state x word → room (next state x) < room state) where
  abbrev May : State → ℕ → Type 0
  May state gate = MayGate Waits Is next room state gate

  abbrev Wait : ℕ → State → List ℕ → Type 0
  Wait most state bytes = GatedWait Waits Is next room most state bytes

  abbrev Are : ℕ → State → List X → List ℕ → Type 0
  Are most state xs bytes = AreGated Waits Is next room most state xs bytes

  abbrev Cons : X → List X → List X → List ℕ → Type 0
  Cons x xs ys word = (ys ≡ x ∷ xs) × (word ≡ [])

  abbrev ItemIs : ℕ → State → List X → List ℕ → Type 0
  ItemIs most state = ThenIs (Is state) (λ x. ThenIs (Are most (next state x)) (Cons x))

  abbrev ItemWaits : ℕ → State → List ℕ → Type 0
  ItemWaits most state = ThenWaits (Waits state) (Is state) (λ x. ThenWaits (Wait most (next state x)) (Are most (next state x)) (λ xs bytes. ⊥))

  -- what is behind a gate, by the gate
  abbrev GateIs : ℕ → State → ℕ → List X → List ℕ → Type 0
  GateIs most state zero xs bytes = (xs ≡ []) × (bytes ≡ [])
  GateIs most state (suc gate) xs bytes = ItemIs most state xs bytes

  abbrev GateWaits : ℕ → State → ℕ → List ℕ → Type 0
  GateWaits most state zero bytes = ⊥
  GateWaits most state (suc gate) bytes = ItemWaits most state bytes

  closed_gate : Reads (Begins (Spelled (λ gate. gate ≡ 0) single)) (Spelled (λ gate. gate ≡ 0) single) (byte_at (λ gate. eqb gate 0))
  closed_gate = byte_reads (λ gate. gate ≡ 0) (λ gate. eqb gate 0) (λ b e lt. eqb-true b 0 e) (λ b h. (ap (λ (g : ℕ). eqb g 0) h, omega (arith, h))) (0, refl)

  gate_to : (state : State) (gate : ℕ) → (eqb gate 0 || ltb 0 (room state)) ≡ true → gate < 256 → May state gate
  gate_to state gate e lt = elim (or_cases (eqb gate 0) (ltb 0 (room state)) e) [ inl a ↦ (inl (eqb-true gate 0 a), lt) | inr a ↦ (inr (ltb-true 0 (room state) a), lt) ]

  gate_from : (state : State) (gate : ℕ) → May state gate → ((eqb gate 0 || ltb 0 (room state)) ≡ true) × (gate < 256)
  gate_from state gate may = elim may.0 [
    | inl a ↦ (ap (λ (g : ℕ). eqb g 0 || ltb 0 (room state)) a, may.1)
    | inr a ↦ (ap (λ (t : Bool). eqb gate 0 || t) (lt-ltb 0 (room state) a) ∙ or-true (eqb gate 0), may.1)
  ]

  a_gate : (state : State) → Reads (Begins (Spelled (May state) single)) (Spelled (May state) single) (byte_at (λ gate. eqb gate 0 || ltb 0 (room state)))
  a_gate state = byte_reads (May state) (λ gate. eqb gate 0 || ltb 0 (room state)) (gate_to state) (gate_from state) (0, (inl refl, omega arith))

  nothing_yet : (Gate : ℕ → Type 0) (bytes : List ℕ) → Begins (Spelled Gate single) bytes → bytes ≡ []
  nothing_yet Gate [] b = refl
  nothing_yet Gate (c ∷ bytes) b = absurd (omega (arith, ap length b.3.1, length-append bytes (b.1 ∷ b.2)))

  begun : (state : State) → Begins (Spelled (May state) single) []
  begun state = (0, 0, [], ((inl refl, omega arith), refl))

  items_to : (most : ℕ) (state : State) (gate : ℕ) → May state (suc gate) → (ys : List X) (bytes behind : List ℕ) → ItemIs most state ys behind → bytes ≡ suc gate ∷ behind → Are (suc most) state ys bytes
  items_to most state gate may ys bytes behind is parts =
      let o = is.5 in
      let rest : is.2 ≡ o.1 = o.4 ∙ ap (λ (t : List ℕ). o.1 ++ t) o.5.1 ∙ append-nil o.1 in
      subst (λ (t : List X). Are (suc most) state t bytes) (sym o.5.0)
      (gate, is.1, is.2, may, is.3, parts ∙ ap (λ (t : List ℕ). suc gate ∷ t) is.4, subst (Are most (next state is.0) o.0) (sym rest) o.3)

  are_to : (most : ℕ) (state : State) (ys : List X) (bytes : List ℕ) → ThenIs (Spelled (May state) single) (GateIs most state) ys bytes → Are (suc most) state ys bytes
  are_to most state ys bytes is = by_gate is.0 is.1 is.2 is.3 is.4 is.5
    where
      by_gate : (gate : ℕ) (word behind : List ℕ) → Spelled (May state) single gate word → bytes ≡ word ++ behind → GateIs most state gate ys behind → Are (suc most) state ys bytes
      by_gate zero word behind w parts g = subst (λ (t : List X). Are (suc most) state t bytes) (sym g.0) (parts ∙ ap (λ (t : List ℕ). t ++ behind) w.1 ∙ ap (λ (t : List ℕ). 0 ∷ t) g.1)
      by_gate (suc gate) word behind w parts g = items_to most state gate w.0 ys bytes behind g (parts ∙ ap (λ (t : List ℕ). t ++ behind) w.1)

  are_from : (most : ℕ) (state : State) (ys : List X) (bytes : List ℕ) → Are (suc most) state ys bytes → ThenIs (Spelled (May state) single) (GateIs most state) ys bytes
  are_from most state [] bytes is = (0, 0 ∷ [], [], ((inl refl, omega arith), refl), is, (refl, refl))
  are_from most state (x ∷ xs) bytes is =
      (suc is.0, suc is.0 ∷ [], is.1 ++ is.2, (is.3, refl), is.5, (x, is.1, is.2, is.4, refl, (xs, is.2, [], is.6, sym (append-nil is.2), (refl, refl))))

  waits_to : (most : ℕ) (state : State) (bytes : List ℕ) → ThenWaits (Begins (Spelled (May state) single)) (Spelled (May state) single) (GateWaits most state) bytes → Wait (suc most) state bytes
  waits_to most state bytes w = elim w [
    | inl a ↦ subst (Wait (suc most) state) (sym (nothing_yet (May state) bytes a)) tt
    | inr a ↦ by_gate a.0 a.1 a.2 a.3 a.4 a.5
  ]
    where
      by_gate : (gate : ℕ) (word behind : List ℕ) → Spelled (May state) single gate word → bytes ≡ word ++ behind → GateWaits most state gate behind → Wait (suc most) state bytes
      by_gate zero word behind s parts g = absurd g
      by_gate (suc gate) word behind s parts g =
          subst (Wait (suc most) state) (sym (parts ∙ ap (λ (t : List ℕ). t ++ behind) s.1))
          (s.0, elim g [ inl b ↦ inl b | inr b ↦ elim b.5 [ inl d ↦ inr (b.0, b.1, b.2, b.3, b.4, d) | inr d ↦ absurd d.5 ] ])

  waits_from : (most : ℕ) (state : State) (bytes : List ℕ) → Wait (suc most) state bytes → ThenWaits (Begins (Spelled (May state) single)) (Spelled (May state) single) (GateWaits most state) bytes
  waits_from most state [] w = inl (begun state)
  waits_from most state (zero ∷ bytes) w = absurd w
  waits_from most state (suc gate ∷ bytes) w =
      inr (suc gate, suc gate ∷ [], bytes, (w.0, refl), refl, elim w.1 [ inl b ↦ inl b | inr b ↦ inr (b.0, b.1, b.2, b.3, b.4, inl b.5) ])

  last_to : (state : State) (ys : List X) (bytes : List ℕ) → ThenIs (Spelled (λ gate. gate ≡ 0) single) (λ gate xs word. (xs ≡ []) × (word ≡ [])) ys bytes → Are zero state ys bytes
  last_to state ys bytes is =
      subst (λ (t : List X). Are zero state t bytes) (sym is.5.0) (is.4 ∙ ap (λ (t : List ℕ). t ++ is.2) is.3.1 ∙ ap (λ (t : List ℕ). is.0 ∷ t) is.5.1 ∙ ap single is.3.0)

  last_from : (state : State) (ys : List X) (bytes : List ℕ) → Are zero state ys bytes → ThenIs (Spelled (λ gate. gate ≡ 0) single) (λ gate xs word. (xs ≡ []) × (word ≡ [])) ys bytes
  last_from state [] bytes is = (0, 0 ∷ [], [], (refl, refl), is, (refl, refl))
  last_from state (x ∷ xs) bytes is = absurd is

  last_waits : (bytes : List ℕ) → ThenWaits (Begins (Spelled (λ gate. gate ≡ 0) single)) (Spelled (λ gate. gate ≡ 0) single) (λ gate bytes. ⊥) bytes → bytes ≡ []
  last_waits bytes w = elim w [ inl a ↦ nothing_yet (λ gate. gate ≡ 0) bytes a | inr a ↦ absurd a.5 ]

  abbrev go : ℕ → State → ℕ → List ℕ → Read (List X)
  go most state gate bytes = behind_gate (λ bytes. item_at state bytes >>= λ x. gated_at item_at next room most (next state x.0) x.1 >>= λ xs. Ok (x.0 ∷ xs.0, xs.1)) gate bytes

  by_gate : (most : ℕ) (state : State) (gate : ℕ) → May state gate
      → ((x : X) (word : List ℕ) → Is state x word → Reads (Wait most (next state x)) (Are most (next state x)) (gated_at item_at next room most (next state x)))
      → Reads (GateWaits most state gate) (GateIs most state gate) (go most state gate)
  by_gate most state zero may others = done_waits []
  by_gate most state (suc gate) may others =
      then_reads (Waits state) (Is state) (item_at state) (λ x. ThenWaits (Wait most (next state x)) (Are most (next state x)) (λ xs bytes. ⊥)) (λ x. ThenIs (Are most (next state x)) (Cons x))
      (λ x bytes. gated_at item_at next room most (next state x) bytes >>= λ xs. Ok (x ∷ xs.0, xs.1))
      (item_reads state (elim may.0 [ inl a ↦ absurd (omega (arith, a)) | inr a ↦ a ]))
      (λ x word is. then_reads (Wait most (next state x)) (Are most (next state x)) (gated_at item_at next room most (next state x)) (λ xs bytes. ⊥) (Cons x) (λ xs bytes. Ok (x ∷ xs, bytes))
      (others x word is) (λ xs w are. done_waits (x ∷ xs)))

  pub gated_reads : (most : ℕ) (state : State) → room state ≤ most → Reads (Wait most state) (Are most state) (gated_at item_at next room most state)
  gated_reads zero state few = becomes
      (then_reads (Begins (Spelled (λ gate. gate ≡ 0) single)) (Spelled (λ gate. gate ≡ 0) single) (byte_at (λ gate. eqb gate 0)) (λ gate bytes. ⊥) (λ gate xs word. (xs ≡ []) × (word ≡ [])) (λ gate bytes. Ok ([], bytes)) closed_gate (λ gate word is. done_waits []))
      last_waits (λ bytes none. inl (subst (Begins (Spelled (λ gate. gate ≡ 0) single)) (sym none) (0, 0, [], (refl, refl)))) (last_to state) (last_from state)
  gated_reads (suc most) state few = becomes
      (then_reads (Begins (Spelled (May state) single)) (Spelled (May state) single) (byte_at (λ gate. eqb gate 0 || ltb 0 (room state))) (GateWaits most state) (GateIs most state) (go most state) (a_gate state)
      (λ gate word is. by_gate most state gate is.0 (λ x word is. gated_reads most (next state x) (omega (arith, falls state x word is, few)))))
      (waits_to most state) (waits_from most state) (are_to most state) (are_from most state)

-- ---- the state after the items

module _ {X State : Type 0} (item_at : State → List ℕ → Read X) (next : State → X → State) (room : State → ℕ) where
  abbrev step : State → List ℕ → Read State
  step state bytes = stepped next state (item_at state bytes)

  abbrev others : ℕ → State → List ℕ → Read (List X)
  others most state bytes = item_at state bytes >>= λ x. cons_items x.0 (gated_at item_at next room most (next state x.0) x.1)

  abbrev onward : ℕ → State → List ℕ → Read State
  onward most state bytes = step state bytes >>= λ s. through_gates step room most s.0 s.1

  by_gate_too : (most : ℕ) (state : State) → ((x : X) (bytes : List ℕ) → through_gates step room most (next state x) bytes ≡ behind_items next (next state x) (gated_at item_at next room most (next state x) bytes))
      → (gate : ℕ) (bytes : List ℕ) → past_gate (onward most state) state gate bytes ≡ behind_items next state (behind_gate (others most state) gate bytes)
  by_gate_too most state same zero bytes = refl
  by_gate_too most state same (suc gate) bytes =
      elim (item_at state bytes) as (λ (r : Read X). (stepped next state r >>= λ s. through_gates step room most s.0 s.1) ≡ behind_items next state (r >>= λ x. cons_items x.0 (gated_at item_at next room most (next state x.0) x.1))) [
        | Err left ↦ refl
        | Ok x ↦ same x.0 x.1 ∙ sym (behind_cons next state x.0 (gated_at item_at next room most (next state x.0) x.1))
      ]

  abbrev stays : State → Read ℕ → Read State
  stays state r = r >>= λ gate. Ok (state, gate.1)

  abbrev ends : Read ℕ → Read (List X)
  ends r = r >>= λ gate. Ok ([], gate.1)

  at_last : (state : State) (r : Read ℕ) → stays state r ≡ behind_items next state (ends r)
  at_last state (Ok p) = refl
  at_last state (Err left) = refl

  pub through_gated : (most : ℕ) (state : State) (bytes : List ℕ) → through_gates step room most state bytes ≡ behind_items next state (gated_at item_at next room most state bytes)
  through_gated zero state bytes = at_last state (byte_at (λ gate. eqb gate 0) bytes)
  through_gated (suc most) state bytes =
      elim (byte_at (λ gate. eqb gate 0 || ltb 0 (room state)) bytes) as (λ (r : Read ℕ). (r >>= λ gate. past_gate (onward most state) state gate.0 gate.1) ≡ behind_items next state (r >>= λ gate. behind_gate (others most state) gate.0 gate.1)) [
        | Err left ↦ refl
        | Ok p ↦ by_gate_too most state (λ x bytes. through_gated most (next state x) bytes) p.0 p.1
      ]

-- ---- the loop over gates

module _ {State : Type 0} (step : State → List ℕ → Read State) (room : State → ℕ) (most : ℕ) (state : State) (rest : List ℕ) (total : Read State)
    (more : room state < most) (so_far : through_gates step room most state rest ≡ total) where
  abbrev gate_at : Read ℕ
  gate_at = byte_at (λ gate. eqb gate 0 || ltb 0 (room state)) rest

  abbrev go_on : ℕ → ℕ → List ℕ → Read State
  go_on less gate bytes = past_gate (λ bytes. step state bytes >>= λ s. through_gates step room less s.0 s.1) state gate bytes

  one_gate : (less : ℕ) × (room state ≤ less) × (total ≡ (gate_at >>= λ gate. go_on less gate.0 gate.1))
  one_gate = by_most most more so_far
    where
      by_most : (most : ℕ) → room state < most → through_gates step room most state rest ≡ total → (less : ℕ) × (room state ≤ less) × (total ≡ (gate_at >>= λ gate. go_on less gate.0 gate.1))
      by_most zero lt so = absurd (omega (arith, lt))
      by_most (suc less) lt so = (less, omega (arith, lt), sym so)

  pub gate_end : (e : Unread) → Fails e gate_at → Fails e total
  gate_end e h = let g = one_gate in subst (Fails e) (sym g.2) (fails_behind e gate_at (λ gate. go_on g.0 gate.0 gate.1) h)

  module _ (gate : ℕ) (behind : List ℕ) where
    pub gate_shut : gate ≡ 0 → gate_at ≡ Ok (gate, behind) → total ≡ Ok (state, behind)
    gate_shut shut at = let g = one_gate in g.2 ∙ ap (λ (r : Read ℕ). r >>= λ p. go_on g.0 p.0 p.1) at ∙ ap (λ (n : ℕ). go_on g.0 n behind) shut

    module _ (is_open : gate ≢ 0) (at : gate_at ≡ Ok (gate, behind)) where
      past : (less n : ℕ) → n ≢ 0 → go_on less n behind ≡ (step state behind >>= λ s. through_gates step room less s.0 s.1)
      past less zero ne = absurd (ne refl)
      past less (suc n) ne = refl

      onto : (less : ℕ) × (room state ≤ less) × (total ≡ (step state behind >>= λ s. through_gates step room less s.0 s.1))
      onto = let g = one_gate in (g.0, g.1, g.2 ∙ ap (λ (r : Read ℕ). r >>= λ p. go_on g.0 p.0 p.1) at ∙ past g.0 gate is_open)

      pub gate_fails : (e : Unread) → Fails e (step state behind) → Fails e total
      gate_fails e h = let g = onto in subst (Fails e) (sym g.2) (fails_behind e (step state behind) (λ s. through_gates step room g.0 s.0 s.1) h)

      pub gate_on : (s : State) (after : List ℕ) → step state behind ≡ Ok (s, after) → room s < room state → (less : ℕ) × (room s < less) × (through_gates step room less s after ≡ total)
      gate_on s after h falls = let g = onto in (g.0, omega (arith, falls, g.1), sym (g.2 ∙ ap (λ (r : Read State). r >>= λ s. through_gates step room g.0 s.0 s.1) h))
