-- The loop over items.
use Rattle.std.{proofs.Common.{◌≡◌, ℕ, zero, suc, ◌+◌, ◌-◌, ◌<◌, ◌≤◌, List, [], ◌∷◌, ◌++◌, length, Result, Ok, Err, refl, sym, ap, ◌∙◌, append-nil, append_assoc, arith}, specs.Prelude.fold}
use Rattle.pm_record.{specs.{declared.fault.Unread.Unread, Reading.{Read, ◌>>=◌, Fails}, Repeated.{items_at, stepped, through_at}}, proofs.Readers.{ok, ok_is, bind_ok}}
use Rattle.pm_record.specs.declared.fault.Unread.TheVariants as unread

-- what was read before, in front
abbrev pub with_front : {X : Type 0} → List X → Read (List X) → Read (List X)
with_front front read = read >>= λ x. Ok (front ++ x.0, x.1)

regroup : {X : Type 0} (front : List X) (x : X) (r : Read (List X)) → with_front front (r >>= λ p. Ok (x ∷ p.0, p.1)) ≡ with_front (front ++ x ∷ []) r
regroup front x (Ok p) = ap (λ (t : List _). ok (t, p.1)) (sym (append_assoc front (x ∷ []) p.0))
regroup front x (Err left) = refl

module _ {X State : Type 0} (item_at : ℕ → State → List ℕ → Read X) (next : State → X → State) (front : List X) (count i : ℕ) (state : State) (rest : List ℕ) (total : Read (List X))
    (so_far : with_front front (items_at item_at next (count - i) state rest) ≡ total) where
  pub items_done : count ≤ i → total ≡ Ok (front, rest)
  items_done le =
      let k : count - i ≡ 0 = omega (arith, le) in
      sym so_far ∙ ap (λ (n : ℕ). with_front front (items_at item_at next n state rest)) k ∙ ap (λ (t : List X). ok (t, rest)) (append-nil front)

  module _ (lt : i < count) where
    one_more : total ≡ with_front front (items_at item_at next (suc (count - 1 - i)) state rest)
    one_more = let k : count - i ≡ suc (count - 1 - i) = omega (arith, lt) in sym so_far ∙ ap (λ (n : ℕ). with_front front (items_at item_at next n state rest)) k

    abbrev step : Read X → Read (List X)
    step r = with_front front (r >>= λ x. items_at item_at next (count - 1 - i) (next state x.0) x.1 >>= λ p. Ok (x.0 ∷ p.0, p.1))

    pub items_end : (e : Unread) → Fails e (item_at (count - 1 - i) state rest) → Fails e total
    items_end unread.NoMemory h = tt
    items_end (unread.Bad left) h = one_more ∙ ap step h

    pub items_go_on : (x : X) (after : List ℕ) (m : ℕ) → m ≡ count - (i + 1) → item_at (count - 1 - i) state rest ≡ Ok (x, after) → with_front (front ++ x ∷ []) (items_at item_at next m (next state x) after) ≡ total
    items_go_on x after m is h =
        let k : m ≡ count - 1 - i = omega (arith, is, lt) in
        ap (λ (n : ℕ). with_front (front ++ x ∷ []) (items_at item_at next n (next state x) after)) k
        ∙ sym (regroup front x (items_at item_at next (count - 1 - i) (next state x) after)) ∙ sym (one_more ∙ ap step h)

pub fold_more : {X State : Type 0} (next : State → X → State) (state : State) (xs : List X) (x : X) → fold next state (xs ++ x ∷ []) ≡ next (fold next state xs) x
fold_more next state [] x = refl
fold_more next state (y ∷ xs) x = fold_more next (next state y) xs x

-- what fails, fails with something after it
pub fails_behind : {A B : Type 0} (e : Unread) (r : Result A ℕ) (f : A → Result B ℕ) → Fails e r → Fails e (r >>= f)
fails_behind unread.NoMemory r f h = tt
fails_behind (unread.Bad left) r f h = ap (λ (t : Result _ ℕ). t >>= f) h

-- so many items were read
pub items_long : {X State : Type 0} (item_at : ℕ → State → List ℕ → Read X) (next : State → X → State) (n : ℕ) (state : State) (bytes : List ℕ) (xs : List X) (rest : List ℕ)
    → items_at item_at next n state bytes ≡ Ok (xs, rest) → length xs ≡ n
items_long item_at next zero state bytes xs rest e = ap (λ (p : List _ × List ℕ). length p.0) (sym (ok_is ([], bytes) (xs, rest) e))
items_long {X} item_at next (suc n) state bytes xs rest e =
    let first = bind_ok (item_at n state bytes) (λ x. items_at item_at next n (next state x.0) x.1 >>= λ p. Ok (x.0 ∷ p.0, p.1)) (xs, rest) e in
    let others = bind_ok (items_at item_at next n (next state first.0.0) first.0.1) (λ p. Ok (first.0.0 ∷ p.0, p.1)) (xs, rest) first.2 in
    let whole = ap (λ (p : List X × List ℕ). length p.0) (ok_is (first.0.0 ∷ others.0.0, others.0.1) (xs, rest) others.2) in
    sym whole ∙ ap suc (items_long item_at next n (next state first.0.0) first.0.1 others.0.0 others.0.1 others.1)

-- ---- the loop over steps

module _ {State : Type 0} (step : ℕ → State → List ℕ → Read State) (count i : ℕ) (state : State) (rest : List ℕ) (total : Read State)
    (so_far : through_at step (count - i) state rest ≡ total) where
  pub through_done : count ≤ i → total ≡ Ok (state, rest)
  through_done le = let k : count - i ≡ 0 = omega (arith, le) in sym so_far ∙ ap (λ (n : ℕ). through_at step n state rest) k

  module _ (lt : i < count) where
    one_step : total ≡ (step (count - 1 - i) state rest >>= λ s. through_at step (count - 1 - i) s.0 s.1)
    one_step = let k : count - i ≡ suc (count - 1 - i) = omega (arith, lt) in sym so_far ∙ ap (λ (n : ℕ). through_at step n state rest) k

    pub through_end : (e : Unread) → Fails e (step (count - 1 - i) state rest) → Fails e total
    through_end unread.NoMemory h = tt
    through_end (unread.Bad left) h = one_step ∙ ap (λ (r : Read State). r >>= λ s. through_at step (count - 1 - i) s.0 s.1) h

    pub through_on : (s : State) (after : List ℕ) (m : ℕ) → m ≡ count - (i + 1) → step (count - 1 - i) state rest ≡ Ok (s, after) → through_at step m s after ≡ total
    through_on s after m is h =
        let k : m ≡ count - 1 - i = omega (arith, is, lt) in
        ap (λ (n : ℕ). through_at step n s after) k ∙ sym (one_step ∙ ap (λ (r : Read State). r >>= λ s. through_at step (count - 1 - i) s.0 s.1) h)

-- the state after a list of items, and one more in front of a list
abbrev pub behind_items : {X State : Type 0} → (State → X → State) → State → Read (List X) → Read State
behind_items next state r = r >>= λ p. Ok (fold next state p.0, p.1)

abbrev pub cons_items : {X : Type 0} → X → Read (List X) → Read (List X)
cons_items x r = r >>= λ p. Ok (x ∷ p.0, p.1)

pub behind_cons : {X State : Type 0} (next : State → X → State) (state : State) (x : X) (r : Read (List X)) → behind_items next state (cons_items x r) ≡ behind_items next (next state x) r
behind_cons next state x (Ok p) = refl
behind_cons next state x (Err left) = refl

-- the steps over items give the state after their list
module _ {X State : Type 0} (item_at : ℕ → State → List ℕ → Read X) (next : State → X → State) where
  abbrev step_over : ℕ → State → List ℕ → Read State
  step_over n state bytes = stepped next state (item_at n state bytes)

  pub through_items : (n : ℕ) (state : State) (bytes : List ℕ) → through_at step_over n state bytes ≡ behind_items next state (items_at item_at next n state bytes)
  through_items zero state bytes = refl
  through_items (suc n) state bytes =
      elim (item_at n state bytes) as (λ (r : Read X). (stepped next state r >>= λ s. through_at step_over n s.0 s.1) ≡ behind_items next state (r >>= λ x. cons_items x.0 (items_at item_at next n (next state x.0) x.1))) [
        | Err left ↦ refl
        | Ok x ↦ through_items n (next state x.0) x.1 ∙ sym (behind_cons next state x.0 (items_at item_at next n (next state x.0) x.1))
      ]
