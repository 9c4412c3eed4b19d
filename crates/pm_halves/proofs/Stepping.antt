-- A step on a word of the first part, at a seat as contracts see it.
use Rattle.std.proofs.Common.{◌≡◌, ℕ, ◌+◌, ◌-◌, ◌<◌, ◌≤◌, List, sym, ap, ◌∙◌, subst, arith}
use mathlib.Core.Option.{none}
use Rattle.atomic_table.specs.{Table.{State, Me, Step, step, Allows}, Seated.TableId}
use Rattle.pm_halves.{specs.{declared.lot.Lot.{Lot, TheVariants.{First, Second}}, Halves.{Halves, carried_as}, Sitting.{Laid, laid, lowered, Sitting, sitting, firsts_in, seconds_in, AllWithin, IsLaid, IsWhole}, Steps.{told_of, MayStep, StaysTied, HasStepped, TellsFirst}}, proofs.{Lifts.on_first, Carried.{both_back, raised}}}

module _ {X Y V W K : Type 0} (count : ℕ → ℕ) (m : ℕ) (A : K → State X V → Type 0) (B : K → State Y W → Type 0) (T : List (V × W) → Type 0) (then : Step X → Me X V → ℕ → Me X V → Type 0) where
  abbrev Whole : K → State (Lot X Y) (V × W) → Type 0
  Whole k = Halves First Second count m (A k) (B k) T

  -- at the fields themselves
  first_here : (told f : ℕ → ℕ) (i a b id : ℕ) (t : TableId) (k : K) (me : Me (Lot X Y) (V × W)) → IsWhole count m t me
      → MayStep A (laid m t k) (sitting m t id me) i f (λ found. told_of then (laid m t k) (sitting m t id me) i a b (told found))
      → StaysTied A T (laid m t k) (sitting m t id me) (λ found. told_of then (laid m t k) (sitting m t id me) i a b (told found))
      → (i < t.words) × Allows (Whole k) t.slots id me i f (λ found. TellsFirst m then (step t.slots i a b none) me (told found))
  first_here told f i a b id t k me whole may ties =
      let n : ℕ = t.slots - m in let l : m ≤ t.slots = whole.0.1 in let w : t.words ≡ count n + m = whole.0.2 in
      let total : n + m ≡ t.slots = omega arith in let below : i < t.words - m = may.1 in let near : i < count n = omega arith in (
        omega arith,
        subst (λ (c : List (ℕ × Lot X Y)). Allows (Whole k) t.slots id (me.0, c) i f (λ found. TellsFirst m then (step t.slots i a b none) me (told found))) (sym whole.1)
            (on_first First Second count m (A k) (B k) T n t.slots id i me.0.0 me.0.1 (firsts_in me.1) (carried_as Second n (seconds_in n me.1)) f (λ found. then (step n i a b none) (me.0.0, firsts_in me.1) (told found)) may.2 total near whole.2
            (λ l views r is tied at found v' c' told'. ties l views r is tied at found (v', c') told')),
      )

  -- what the step of the whole table asks, by what a call asks
  pub first_of : (told f : ℕ → ℕ) (i a b id : ℕ) (t t' : TableId) (k : K) (me : Me (Lot X Y) (V × W)) (l : Laid K) (z : Sitting X Y V W) → IsLaid count m t' → IsWhole count m t me → laid m t' k ≡ l → sitting m t id me ≡ z
      → MayStep A l z i f (λ found. told_of then l z i a b (told found)) → StaysTied A T l z (λ found. told_of then l z i a b (told found))
      → (t ≡ t') × (i < t'.words) × Allows (Whole k) t'.slots id me i f (λ found. TellsFirst m then (step t'.slots i a b none) me (told found))
  first_of told f i a b id t t' k me l z is whole l_is z_is may ties =
      let same : t ≡ t' = raised count m t t' whole.0 is ((ap (λ (y : Sitting X Y V W). y.table) z_is ∙ may.0) ∙ ap (λ (y : Laid K). y.table) (sym l_is)) in
      let both : ◌≡◌ {A = Laid K × Sitting X Y V W} (l, z) (laid m t k, sitting m t id me) = λ u. ((sym l_is ∙ ap (λ (y : TableId). laid m y k) (sym same)) u, sym z_is u) in
      let here = first_here told f i a b id t k me whole
      (subst (λ (y : Laid K × Sitting X Y V W). MayStep A y.0 y.1 i f (λ found. told_of then y.0 y.1 i a b (told found))) both may)
      (subst (λ (y : Laid K × Sitting X Y V W). StaysTied A T y.0 y.1 (λ found. told_of then y.0 y.1 i a b (told found))) both ties) in
      let there = subst (λ (y : TableId). (i < y.words) × Allows (Whole k) y.slots id me i f (λ found. TellsFirst m then (step y.slots i a b none) me (told found))) same here in (same, there.0, there.1)

module _ {X Y V W : Type 0} (count : ℕ → ℕ) (m : ℕ) (then : Step X → Me X V → ℕ → Me X V → Type 0) where
  first_told : (i a b found : ℕ) (t t' : TableId) (me me' : Me (Lot X Y) (V × W)) → IsWhole count m t me → t' ≡ t → TellsFirst m then (step t.slots i a b none) me found me'
      → then (step (t.slots - m) i a b none) (me.0.0, firsts_in me.1) found (me'.0.0, firsts_in me'.1) × (◌≡◌ {A = Me Y W} (me'.0.1, seconds_in (t'.slots - m) me'.1) (me.0.1, seconds_in (t.slots - m) me.1)) × IsWhole count m t' me'
  first_told i a b found t t' me me' whole same told =
      let n : ℕ = t.slots - m in
      let back = both_back n me'.1 told.1 (seconds_in n me.1) (ap (λ (z : Me (Lot X Y) (V × W)). z.1) told.2) in
      let at : ◌≡◌ {A = Me X V} (me'.0.0, firsts_in me'.1) (told.0, told.1) = λ k. ((told.2 k).0.0, back.0 k) in (
        subst (λ (z : Me X V). then (step n i a b none) (me.0.0, firsts_in me.1) found z) (sym at) told.4,
        (λ k. ((told.2 k).0.1, (ap (λ (z : TableId). seconds_in (z.slots - m) me'.1) same ∙ back.1) k)),
        subst (λ (z : TableId). IsWhole count m z me') (sym same) (whole.0, back.2, subst (λ (c : List (ℕ × X)). AllWithin n c) (sym back.0) told.3),
      )

module _ {X Y V W K : Type 0} (count : ℕ → ℕ) (m : ℕ) (then : Step X → Me X V → ℕ → Me X V → Type 0) where
  -- what a call tells, by what the step of the whole table does
  pub first_after : (found i a b id id' : ℕ) (t t' t'' : TableId) (k : K) (me me' : Me (Lot X Y) (V × W)) (l : Laid K) (z : Sitting X Y V W) → IsWhole count m t me → t ≡ t' → t'' ≡ t → id' ≡ id → laid m t' k ≡ l → sitting m t id me ≡ z
      → TellsFirst m then (step t'.slots i a b none) me found me'
      → HasStepped (told_of then l z i a b) found z (sitting m t'' id' me') × (◌≡◌ {A = Me Y W} (me'.0.1, seconds_in (t''.slots - m) me'.1) z.more) × IsWhole count m t'' me'
  first_after found i a b id id' t t' t'' k me me' l z whole same same' id_is l_is z_is told =
      let h = first_told count m then i a b found t t'' me me' whole same' (subst (λ (y : TableId). TellsFirst m then (step y.slots i a b none) me found me') (sym same) told) in (
        (
          ap (lowered m) same' ∙ ap (λ (y : Sitting X Y V W). y.table) z_is,
          id_is ∙ ap (λ (y : Sitting X Y V W). y.id) z_is,
          subst (λ (y : Laid K × Sitting X Y V W). then (step y.0.table.slots i a b none) y.1.me found (me'.0.0, firsts_in me'.1)) (λ u. ((ap (λ (w : TableId). laid m w k) same ∙ l_is) u, z_is u)) h.0,
        ),
        h.1 ∙ ap (λ (y : Sitting X Y V W). y.more) z_is,
        h.2,
      )
