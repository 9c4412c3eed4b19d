-- A test after a word, and items of which each has one.
use Rattle.std.proofs.Common.{◌≡◌, ℕ, zero, suc, ◌<◌, Bool, true, false, cond, List, [], ◌∷◌, ◌++◌, length, Ok, Err, refl, sym, ap, subst, ◌∙◌, append_assoc, append-nil, arith, ◌⊎◌, inl, inr}
use Rattle.pm_record.{specs.{Reading.{Read, ◌>>=◌, checked}, Repeated.items_at}, proofs.{Words.Begins, Readers.{IsBytes, ok, ok_is, err_not_ok, err_is, Reads, Reading, Stops, ThenWaits, ThenIs, becomes, then_reads}}}

word_last : (word : List ℕ) → 0 < length word → (front : List ℕ) × (last : ℕ) × (word ≡ front ++ last ∷ [])
word_last [] some = absurd (omega (arith, some))
word_last (b ∷ []) some = ([], b, refl)
word_last (b ∷ d ∷ word) some = let w = word_last (d ∷ word) (omega arith) in (b ∷ w.0, w.1, ap (λ (t : List ℕ). b ∷ t) w.2)

module _ {X : Type 0} (Is : X → List ℕ → Type 0) (read : List ℕ → Read X) (test : X → Bool) (reads : Reading Is read) (some : (x : X) (word : List ℕ) → Is x word → 0 < length word) where
  abbrev pub Passes : X → List ℕ → Type 0
  Passes x word = Is x word × (test x ≡ true)

  at_ok : (bytes : List ℕ) (x : X) (rest : List ℕ) (t : Bool) → read bytes ≡ Ok (x, rest) → test x ≡ t → checked test (read bytes) ≡ cond t (Ok (x, rest)) (Err (suc (length rest)))
  at_ok bytes x rest t e is = ap (checked test) e ∙ ap (λ (u : Bool). cond u (Ok (x, rest)) (Err (suc (length rest)))) is

  check_found : (bytes : List ℕ) (x : X) (rest : List ℕ) → IsBytes bytes → checked test (read bytes) ≡ Ok (x, rest) → (word : List ℕ) × Passes x word × (bytes ≡ word ++ rest)
  check_found bytes x rest fits e =
      elim (read bytes) as (λ r. read bytes ≡ r → checked test r ≡ ok (x, rest) → (word : List ℕ) × Passes x word × (bytes ≡ word ++ rest)) [
        | Ok p ↦ λ is f. elim (test p.0) as (λ t. test p.0 ≡ t → cond t (Ok p) (Err (suc (length p.1))) ≡ ok (x, rest) → (word : List ℕ) × Passes x word × (bytes ≡ word ++ rest)) [
          | true ↦ λ t g.
              let same = ok_is p (x, rest) g in
              let w = reads.found bytes p.0 p.1 fits is in
              (w.0, (subst (λ (y : X × List ℕ). Is y.0 w.0) same w.1, subst (λ (y : X × List ℕ). test y.0 ≡ true) same t), w.2 ∙ ap (λ (y : X × List ℕ). w.0 ++ y.1) same)
          | false ↦ λ t g. absurd (err_not_ok (suc (length p.1)) (x, rest) g)
        ] refl f
        | Err left ↦ λ is f. absurd (err_not_ok left (x, rest) f)
      ] refl e

  check_stops : (bytes : List ℕ) (left : ℕ) → IsBytes bytes → checked test (read bytes) ≡ Err left → Stops (Begins Is) (λ b. checked test (read b)) bytes left
  check_stops bytes left fits e =
      elim (read bytes) as (λ r. read bytes ≡ r → checked test r ≡ Err left → Stops (Begins Is) (λ b. checked test (read b)) bytes left) [
        | Ok p ↦ λ is f. elim (test p.0) as (λ t. test p.0 ≡ t → cond t (Ok p) (Err (suc (length p.1))) ≡ Err left → Stops (Begins Is) (λ b. checked test (read b)) bytes left) [
          | true ↦ λ t g. absurd (err_not_ok left p (sym g))
          | false ↦ λ t g.
              let w = reads.found bytes p.0 p.1 fits is in
              let l = word_last w.0 (some p.0 w.0 w.1) in
              let whole : (tail : List ℕ) → l.0 ++ l.1 ∷ tail ≡ w.0 ++ tail = λ tail. sym (append_assoc l.0 (l.1 ∷ []) tail) ∙ ap (λ (t : List ℕ). t ++ tail) (sym l.2) in
              let same = err_is (checked test (Ok p)) (suc (length p.1)) left (ap (λ (u : Bool). cond u (Ok p) (Err (suc (length p.1)))) t) (ap (λ (u : Bool). cond u (Ok p) (Err (suc (length p.1)))) t ∙ g) in record {
                front = l.0;
                rest = l.1 ∷ p.1;
                parts = w.2 ∙ sym (whole p.1);
                size = sym same;
                waits = (p.0, l.1, [], subst (Is p.0) l.2 w.1);
                sticks = λ byte others at tail.
                    let is_last : l.1 ≡ byte = cc in
                    ap (λ (b : ℕ). checked test (read (l.0 ++ b ∷ tail))) (sym is_last) ∙ ap (λ (b : List ℕ). checked test (read b)) (whole tail) ∙ at_ok (w.0 ++ tail) p.0 tail false (reads.again p.0 w.0 tail w.1) t;
              }
        ] refl f
        | Err n ↦ λ is f.
            let s = reads.stops bytes left fits (is ∙ f) in record {
              front = s.front;
              rest = s.rest;
              parts = s.parts;
              size = s.size;
              waits = s.waits;
              sticks = λ byte others at tail. ap (checked test) (s.sticks byte others at tail);
            }
      ] refl e

  -- what waits is the same as without the test: a word that doesn't pass is told at its last byte
  pub checked_reads : Reads (Begins Is) Passes (λ bytes. checked test (read bytes))
  checked_reads = record {
    fits = λ x word is. reads.fits x word is.0;
    found = check_found;
    again = λ x word rest is. at_ok (word ++ rest) x rest true (reads.again x word rest is.0) is.1;
    short = λ bytes b. ap (checked test) (reads.short bytes b);
    stops = check_stops;
  }

-- ---- nothing more, and a value made of what was read, whatever waits

pub done_waits : {B : Type 0} (x : B) → Reads (λ bytes. ⊥) (λ b word. (b ≡ x) × (word ≡ [])) (λ bytes. Ok (x, bytes))
done_waits {B} x = record {
  fits = λ b word is. subst IsBytes (sym is.1) tt;
  found = λ bytes b rest fits e. let same = ok_is (x, bytes) (b, rest) e in ([], (sym (ap (λ (t : B × List ℕ). t.0) same), refl), ap (λ (t : B × List ℕ). t.1) same);
  again = λ b word rest is. ap (λ (t : B). ok (t, word ++ rest)) (sym is.0) ∙ ap (λ (t : List ℕ). ok (b, t ++ rest)) is.1;
  short = λ bytes w. absurd w;
  stops = λ bytes left fits e. absurd (err_not_ok left (x, bytes) (sym e));
}

-- ---- items, each with what waits for it

-- the front of so many items: of the first, or the first and a front of the others
abbrev pub ItemsWait : {X State : Type 0} → (ℕ → State → List ℕ → Type 0) → (ℕ → State → X → List ℕ → Type 0) → (State → X → State) → ℕ → State → List ℕ → Type 0
ItemsWait Waits Is next zero state bytes = ⊥
ItemsWait {X} Waits Is next (suc n) state bytes = Waits n state bytes ⊎ ((x : X) × (word : List ℕ) × (behind : List ℕ) × Is n state x word × (bytes ≡ word ++ behind) × ItemsWait Waits Is next n (next state x) behind)

abbrev pub AreItems : {X State : Type 0} → (ℕ → State → X → List ℕ → Type 0) → (State → X → State) → ℕ → State → List X → List ℕ → Type 0
AreItems Is next zero state xs bytes = (xs ≡ []) × (bytes ≡ [])
AreItems Is next (suc n) state [] bytes = ⊥
AreItems Is next (suc n) state (x ∷ xs) bytes = (word : List ℕ) × (behind : List ℕ) × Is n state x word × (bytes ≡ word ++ behind) × AreItems Is next n (next state x) xs behind

module _ {X State : Type 0} (Waits : ℕ → State → List ℕ → Type 0) (Is : ℕ → State → X → List ℕ → Type 0) (next : State → X → State) (Can : ℕ → State → Type 0) (item_at : ℕ → State → List ℕ → Read X)
    (item_reads : (n : ℕ) (state : State) → Can (suc n) state → Reads (Waits n state) (Is n state) (item_at n state))
    (on : (n : ℕ) (state : State) (x : X) (word : List ℕ) → Is n state x word → Can n (next state x)) where
  abbrev Cons : X → List X → List X → List ℕ → Type 0
  Cons x xs ys word = (ys ≡ x ∷ xs) × (word ≡ [])

  abbrev Others : ℕ → State → X → List X → List ℕ → Type 0
  Others n state x ys word = ThenIs (AreItems Is next n (next state x)) (Cons x) ys word

  abbrev OthersWait : ℕ → State → X → List ℕ → Type 0
  OthersWait n state x = ThenWaits (ItemsWait Waits Is next n (next state x)) (AreItems Is next n (next state x)) (λ xs bytes. ⊥)

  wait_to : (n : ℕ) (state : State) (bytes : List ℕ) → ThenWaits (Waits n state) (Is n state) (OthersWait n state) bytes → ItemsWait Waits Is next (suc n) state bytes
  wait_to n state bytes w = elim w [
    | inl a ↦ inl a
    | inr a ↦ elim a.5 [ inl b ↦ inr (a.0, a.1, a.2, a.3, a.4, b) | inr b ↦ absurd b.5 ]
  ]

  wait_from : (n : ℕ) (state : State) (bytes : List ℕ) → ItemsWait Waits Is next (suc n) state bytes → ThenWaits (Waits n state) (Is n state) (OthersWait n state) bytes
  wait_from n state bytes w = elim w [ inl a ↦ inl a | inr a ↦ inr (a.0, a.1, a.2, a.3, a.4, inl a.5) ]

  are_to : (n : ℕ) (state : State) (ys : List X) (bytes : List ℕ) → ThenIs (Is n state) (Others n state) ys bytes → AreItems Is next (suc n) state ys bytes
  are_to n state ys bytes is =
      let o = is.5 in
      let behind : is.2 ≡ o.1 = o.4 ∙ ap (λ (t : List ℕ). o.1 ++ t) o.5.1 ∙ append-nil o.1 in
      subst (λ (t : List X). AreItems Is next (suc n) state t bytes) (sym o.5.0) (is.1, is.2, is.3, is.4, subst (AreItems Is next n (next state is.0) o.0) (sym behind) o.3)

  are_from : (n : ℕ) (state : State) (ys : List X) (bytes : List ℕ) → AreItems Is next (suc n) state ys bytes → ThenIs (Is n state) (Others n state) ys bytes
  are_from n state [] bytes is = absurd is
  are_from n state (x ∷ xs) bytes is = (x, is.0, is.1, is.2, is.3, (xs, is.1, [], is.4, sym (append-nil is.1), (refl, refl)))

  pub items_wait : (n : ℕ) (state : State) → Can n state → Reads (ItemsWait Waits Is next n state) (AreItems Is next n state) (items_at item_at next n state)
  items_wait zero state can = done_waits []
  items_wait (suc n) state can = becomes
      (then_reads (Waits n state) (Is n state) (item_at n state) (OthersWait n state) (Others n state) (λ x bytes. items_at item_at next n (next state x) bytes >>= λ p. Ok (x ∷ p.0, p.1)) (item_reads n state can)
      (λ x word is. then_reads (ItemsWait Waits Is next n (next state x)) (AreItems Is next n (next state x)) (items_at item_at next n (next state x)) (λ xs bytes. ⊥) (Cons x) (λ xs bytes. Ok (x ∷ xs, bytes))
      (items_wait n (next state x) (on n state x word is)) (λ xs others are. done_waits (x ∷ xs))))
      (wait_to n state) (wait_from n state) (are_to n state) (are_from n state)
