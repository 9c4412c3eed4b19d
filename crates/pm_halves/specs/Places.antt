-- What a take from a place of the second part asks and tells, and what a give does.
use Rattle.std.specs.Prelude.{◌≡◌, ℕ, zero, suc, ◌+◌, ◌-◌, ◌<◌, ◌==◌, List, [], ◌∷◌, ◌++◌, Option, Some, None, length, slice_get, remove}
use mathlib.Core.Option.{none, some}
use prog.Atomic.{either}
use lib.ListN.{get_elem?}
use lib.ListN.{set}
use Rattle.atomic_table.specs.Table.{State, Me, Step, step, Allows, rest, turned}
use Rattle.pm_halves.specs.{declared.{lot.Lot.{Lot, TheVariants.Second}, places.Hand.Hand}, Halves.{carried_as, firsts, seconds}, Sitting.{Laid, Sitting, seconds_in}}

-- the first of them alone
abbrev pub top : {A : Type 0} → List A → List A
top [] = []
top (x ∷ xs) = x ∷ []

-- the first goes after the others, so often
abbrev pub turned_by : {A : Type 0} → ℕ → List (ℕ × A) → List (ℕ × A)
turned_by zero l = l
turned_by (suc n) l = turned (turned_by n l)

-- what a play tells of a take from the place k of m, by a seat that knows this
abbrev pub told_of_take : {Y W : Type 0} → (Step Y → Me Y W → ℕ → Me Y W → Type 0) → ℕ → ℕ → ℕ → W → ℕ → Me Y W → Type 0
told_of_take then m k to u = then (step m k 0 to none) (u, [])

-- and of a give of this value there
abbrev pub told_of_give : {Y W : Type 0} → (Step Y → Me Y W → ℕ → Me Y W → Type 0) → ℕ → ℕ → W → Y → ℕ → Me Y W → Type 0
told_of_give then m k u y = then (step m k 0 0 none) (u, (k, y) ∷ [])

-- a take tells the slot of the place k exactly where the word was 0
abbrev pub IsTake : {Y W : Type 0} → ℕ → (ℕ → Me Y W → Type 0) → Type 0
IsTake {Y} {W} k then =
    (found : ℕ) (me : Me Y W) → then found me → (found ≡ 0 → (y : Y) × (me.1 ≡ (k, y) ∷ [])) × (¬ (found ≡ 0) → me.1 ≡ [])

-- a give leaves none
abbrev pub IsGive : {Y W : Type 0} → (ℕ → Me Y W → Type 0) → Type 0
IsGive {Y} {W} then = (found : ℕ) (me : Me Y W) → then found me → me.1 ≡ []

module _ {X Y V W K : Type 0} (holds : K → State X V → Type 0) (more_holds : K → State Y W → Type 0) (Tied : List (V × W) → Type 0) where
  -- the views are tied after a step on the second part, by what it tells; and both parts tell `tells` together
  abbrev pub StaysTiedBy : Laid K → Sitting X Y V W → (ℕ → Me Y W → Type 0) → (ℕ → W → Type 0) → Type 0
  StaysTiedBy t z then tells =
      (l : State X V) (s : State Y W) (views : List (V × W)) → holds t.key l → l.views ≡ firsts views → Tied views → get_elem? views z.id ≡ some (z.me.0, z.more.0)
      → (found : ℕ) (me : Me Y W) → more_holds t.key s → s.views ≡ set (seconds views) z.id me.0 → then found me
      → Tied (set views z.id (z.me.0, me.0)) × tells found me.0

module _ {Y W K : Type 0} (more_holds : K → State Y W → Type 0) (m : ℕ) where
  -- the second part's rule allows the take
  abbrev pub MayTake : K → ℕ → W → ℕ → ℕ → (ℕ → Me Y W → Type 0) → Type 0
  MayTake key id u k to then = (k < m) × Allows (more_holds key) m id (u, []) k (λ n. either (n == 0) to n) then × IsTake k then

  -- and the give
  abbrev pub MayGive : K → ℕ → W → ℕ → Y → (ℕ → Me Y W → Type 0) → Type 0
  MayGive key id u k y then = (k < m) × Allows (more_holds key) m id (u, (k, y) ∷ []) k (λ _. 0) then × IsGive then

-- The seat has the slot of this place, and as many others as the hand says
abbrev pub IsInHand : {X Y V W : Type 0} → Hand → Sitting X Y V W → Type 0
IsInHand {X} {Y} {V} {W} h z =
    (length z.me.1 ≡ h.firsts) × (length z.more.1 ≡ h.before + 1 + h.after) × ((y : Y) × (slice_get z.more.1 h.before ≡ Some (h.place, y)))

module _ {Y W : Type 0} where
  -- The value was taken from the place k: its slot is the seat's, with this in it. Or nothing was, since the word met wasn't 0
  abbrev pub HasTaken : (ℕ → Me Y W → Type 0) → (ℕ → W → Type 0) → ℕ → Y → Option Y → Me Y W → Me Y W → Type 0
  HasTaken then tells k empty (Some y) before now = then 0 (now.0, (k, y) ∷ []) × tells 0 now.0 × (now.1 ≡ before.1 ++ (k, empty) ∷ [])
  HasTaken then tells k empty None before now = (found : ℕ) × (¬ (found ≡ 0)) × then found (now.0, []) × tells found now.0 × (now.1 ≡ before.1)

  -- the value was given back, and the seat has what it had besides
  abbrev pub HasGiven : (ℕ → Me Y W → Type 0) → (ℕ → W → Type 0) → ℕ → Me Y W → Me Y W → Type 0
  HasGiven then tells index before now = (found : ℕ) × then found (now.0, []) × tells found now.0 × (now.1 ≡ remove before.1 index)

module _ {X Y V W : Type 0} where
  -- what a step on the second part leaves as it was
  abbrev pub KeepsFirst : Sitting X Y V W → Sitting X Y V W → Type 0
  KeepsFirst before after = (after.table ≡ before.table) × (after.id ≡ before.id) × (after.me ≡ before.me)

  -- The same of the whole table. `held` are the slots on top of the seat's that the step is about, and `others` are the rest
  abbrev pub TellsSecond : (ℕ → ℕ) → ℕ → (Step Y → Me Y W → ℕ → Me Y W → Type 0) → (V → ℕ → W → Type 0) → List (ℕ × Lot X Y) → List (ℕ × Lot X Y) → Step (Lot X Y) → V × W → ℕ → Me (Lot X Y) (V × W) → Type 0
  TellsSecond count m then tells held others st view found now =
      (u : W) × (d : List (ℕ × Y)) × (now ≡ ((view.0, u), carried_as Second (st.slots - m) d ++ others))
      × then (step m (st.word - count (st.slots - m)) st.first st.second none) (view.1, seconds_in (st.slots - m) held) found (u, d) × tells view.0 found u

  abbrev pub TellsTake : (ℕ → ℕ) → ℕ → (Step Y → Me Y W → ℕ → Me Y W → Type 0) → (V → ℕ → W → Type 0) → Step (Lot X Y) → Me (Lot X Y) (V × W) → ℕ → Me (Lot X Y) (V × W) → Type 0
  TellsTake count m then tells st me found now = TellsSecond count m then tells [] me.1 st me.0 found now

  abbrev pub TellsGive : (ℕ → ℕ) → ℕ → (Step Y → Me Y W → ℕ → Me Y W → Type 0) → (V → ℕ → W → Type 0) → Step (Lot X Y) → Me (Lot X Y) (V × W) → ℕ → Me (Lot X Y) (V × W) → Type 0
  TellsGive count m then tells st me found now = TellsSecond count m then tells (top me.1) (rest me.1) st me.0 found now
