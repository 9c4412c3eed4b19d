-- The children that the supervisor sees: how they change with one slot, and their counts.
use Rattle.std.{proofs.Common.{◌≡◌, ℕ, zero, suc, ◌+◌, ◌<◌, ◌≤◌, List, [], ◌∷◌, length, get_or, set, refl, sym, ap, ◌∙◌, arith}, specs.Prelude.{Bool, Option, Some, None, replicate}}
use Rattle.pm_exit.specs.declared.child.Kind.{Kind}
use Rattle.pm_board_words.specs.{declared.views.{RosterNotes.RosterNotes, Sight.{Sight, TheVariants.Unused}, SlotView.SlotView, RosterView.RosterView}, Words.bit}
use Rattle.pm_board.specs.{Places.{slot_view, slot_at}, Children.{child_seen, child_in_slot, children_of, counted_by, count_of, AreAll, HasFree}, Told.with_slot}

module _ {D : Type 0} where
  pub children_set : (xs : List (SlotView D)) (k : ℕ) (x : SlotView D) → children_of (set xs k x) ≡ set (children_of xs) k (child_seen x.sight)
  children_set [] k x = refl
  children_set (y ∷ ys) zero x = refl
  children_set (y ∷ ys) (suc k) x = ap (λ (z : List (Option (ℕ × Kind))). child_in_slot y ∷ z) (children_set ys k x)

  children_stay : (xs : List (SlotView D)) (k : ℕ) (x : SlotView D) → k < length xs → child_in_slot (get_or xs k (slot_view [] Unused)) ≡ child_seen x.sight → children_of (set xs k x) ≡ children_of xs
  children_stay [] k x near same = refl
  children_stay (y ∷ ys) zero x near same = ap (λ (z : Option (ℕ × Kind)). z ∷ children_of ys) (sym same)
  children_stay (y ∷ ys) (suc k) x near same = ap (λ (z : List (Option (ℕ × Kind))). child_in_slot y ∷ z) (children_stay ys k x (omega arith) same)

  -- a slot whose child stays
  pub children_same : (cs : List (Option (ℕ × Kind))) (d : RosterView D) (k : ℕ) (x : SlotView D) (notes : RosterNotes) (s : Sight D) → k < length d.slots → (slot_at d k).sight ≡ s → child_seen s ≡ child_seen x.sight → cs ≡ children_of d.slots → cs ≡ children_of (with_slot d k x notes).slots
  children_same cs d k x notes s near is same all = all ∙ sym (children_stay d.slots k x near (ap child_seen is ∙ same))

  -- a slot at a place of the list
  pub child_at : (xs : List (SlotView D)) (k : ℕ) (other : Option (ℕ × Kind)) → k < length xs → get_or (children_of xs) k other ≡ child_seen (get_or xs k (slot_view [] Unused)).sight
  child_at [] k other near = absurd (omega arith)
  child_at (y ∷ ys) zero other near = refl
  child_at (y ∷ ys) (suc k) other near = child_at ys k other (omega arith)

pub only_none : {A : Type 0} (P : Option A → Type 0) → ((x : A) → P (Some x) → ⊥) → (y : Option A) → P y → y ≡ None
only_none P never None h = refl
only_none P never (Some x) h = absurd (never x h)

-- a new board has no children
pub no_children : (D : Type 0) (n : ℕ) → replicate n None ≡ children_of (replicate n (slot_view {D = D} [] Unused))
no_children D zero = refl
no_children D (suc n) = ap (λ (z : List (Option (ℕ × Kind))). None ∷ z) (no_children D n)

count_set : (test : Kind → Bool) (cs : List (Option (ℕ × Kind))) (k : ℕ) (c : Option (ℕ × Kind)) → k < length cs → count_of test (set cs k c) + counted_by test (get_or cs k None) ≡ count_of test cs + counted_by test c
count_set test [] k c near = absurd (omega arith)
count_set test (y ∷ ys) zero c near = omega arith
count_set test (y ∷ ys) (suc k) c near = let h : count_of test (set ys k c) + counted_by test (get_or ys k None) ≡ count_of test ys + counted_by test c = count_set test ys k c (omega arith) in omega arith

pub count_assigned : (test : Kind → Bool) (cs : List (Option (ℕ × Kind))) (k : ℕ) (c : ℕ × Kind) → k < length cs → get_or cs k None ≡ None → count_of test (set cs k (Some c)) ≡ count_of test cs + bit (test c.1)
count_assigned test cs k c near is = let h : count_of test (set cs k (Some c)) + counted_by test (get_or cs k None) ≡ count_of test cs + bit (test c.1) = count_set test cs k (Some c) near in
    let z : counted_by test (get_or cs k None) ≡ 0 = ap (counted_by test) is in omega arith

-- where a child is, there is a slot
is_there : (cs : List (Option (ℕ × Kind))) (k : ℕ) (c : ℕ × Kind) → get_or cs k None ≡ Some c → k < length cs
is_there [] k c is = absurd (cc)
is_there (y ∷ ys) zero c is = omega arith
is_there (y ∷ ys) (suc k) c is = let h : k < length ys = is_there ys k c is in omega arith

pub count_released : (test : Kind → Bool) (cs : List (Option (ℕ × Kind))) (k : ℕ) (c : ℕ × Kind) → get_or cs k None ≡ Some c → count_of test (set cs k None) + bit (test c.1) ≡ count_of test cs
count_released test cs k c is = let h : count_of test (set cs k None) + counted_by test (get_or cs k None) ≡ count_of test cs + 0 = count_set test cs k None (is_there cs k c is) in
    let z : counted_by test (get_or cs k None) ≡ bit (test c.1) = ap (counted_by test) is in omega arith

-- so many slots that all have such a child are no more than these are
pub a_free_slot : (test : Kind → Bool) (first many : ℕ) (cs : List (Option (ℕ × Kind))) → first + many ≤ length cs → AreAll test first many cs → count_of test cs < many → HasFree first many cs
a_free_slot test first zero cs fits all few = absurd (omega arith)
a_free_slot test first (suc many) [] fits all few = absurd (omega arith)
a_free_slot test (suc first) (suc many) (c ∷ cs) fits all few =
    let rest = a_free_slot test first (suc many) cs (omega arith) (λ k x low high is. all (suc k) x (omega arith) (omega arith) is) (omega arith) in
    (suc rest.0, (let l : first ≤ rest.0 = rest.1 in omega arith), (let h : rest.0 < first + suc many = rest.2 in omega arith), rest.3)
a_free_slot test zero (suc many) (None ∷ cs) fits all few = (zero, omega arith, omega arith, refl)
a_free_slot test zero (suc many) (Some c ∷ cs) fits all few =
    let one : bit (test c.1) ≡ 1 = ap bit (all zero c (omega arith) (omega arith) refl) in
    let rest = a_free_slot test zero many cs (omega arith) (λ k x low high is. all (suc k) x (omega arith) (omega arith) is) (omega arith) in
    (suc rest.0, omega arith, (let h : rest.0 < zero + many = rest.2 in omega arith), rest.3)
