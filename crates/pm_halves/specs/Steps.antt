-- What a step on a word of the first part asks and tells.
use Rattle.std.specs.Prelude.{◌≡◌, ℕ, ◌-◌, ◌<◌, List}
use mathlib.Core.Option.{none, some}
use lib.ListN.{get_elem?}
use lib.ListN.{set}
use Rattle.atomic_table.specs.Table.{State, Me, Step, step, Allows}
use Rattle.pm_halves.specs.{declared.lot.Lot.Lot, Halves.firsts, Sitting.{Laid, Sitting, firsts_in, seconds_in, carried_both, AllWithin}}

-- what a play tells of a step on this word with these operands, made at a seat as it was
abbrev pub told_of : {X Y V W K : Type 0} → (Step X → Me X V → ℕ → Me X V → Type 0) → Laid K → Sitting X Y V W → ℕ → ℕ → ℕ → ℕ → Me X V → Type 0
told_of then t z word first second = then (step t.table.slots word first second none) z.me

module _ {X Y V W K : Type 0} (holds : K → State X V → Type 0) where
  -- the word is one of the first part's, and that part's rule allows that it becomes f of what it was
  abbrev pub MayStep : Laid K → Sitting X Y V W → ℕ → (ℕ → ℕ) → (ℕ → Me X V → Type 0) → Type 0
  MayStep t z word f then =
      (z.table ≡ t.table) × (word < t.table.words) × Allows (holds t.key) t.table.slots z.id z.me word f then

  -- the views are tied after the step, by what it tells
  abbrev pub StaysTied : (List (V × W) → Type 0) → Laid K → Sitting X Y V W → (ℕ → Me X V → Type 0) → Type 0
  StaysTied Tied t z then =
      (l : State X V) (views : List (V × W)) → holds t.key l → l.views ≡ firsts views → Tied views → get_elem? views z.id ≡ some (z.me.0, z.more.0)
      → (found : ℕ) (me : Me X V) → then found me → Tied (set views z.id (me.0, z.more.0))

module _ {X Y V W : Type 0} where
  -- the step met this number
  abbrev pub HasStepped : (ℕ → Me X V → Type 0) → ℕ → Sitting X Y V W → Sitting X Y V W → Type 0
  HasStepped then found before after = (after.table ≡ before.table) × (after.id ≡ before.id) × then found after.me

  -- the same of the whole table, whose second part has m words and slots
  abbrev pub TellsFirst : ℕ → (Step X → Me X V → ℕ → Me X V → Type 0) → Step (Lot X Y) → Me (Lot X Y) (V × W) → ℕ → Me (Lot X Y) (V × W) → Type 0
  TellsFirst m then st me found now =
      (v : V) × (c : List (ℕ × X)) × (now ≡ ((v, me.0.1), carried_both (st.slots - m) c (seconds_in (st.slots - m) me.1))) × AllWithin (st.slots - m) c
      × then (step (st.slots - m) st.word st.first st.second none) (me.0.0, firsts_in me.1) found (v, c)
