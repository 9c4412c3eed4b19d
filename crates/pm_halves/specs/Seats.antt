-- What it takes to make one seat of two, or two of one, and what a new table is.
use Rattle.std.specs.Prelude.{◌≡◌, ℕ, ◌++◌, List, [], ◌∷◌, Option, None, replicate}
use mathlib.Core.Option.{some}
use lib.ListN.{get_elem?}
use lib.ListN.{set}
use Rattle.atomic_table.specs.Table.{State, opening, Splits, Joins}
use Rattle.pm_halves.specs.Sitting.{Laid, Sitting}

module _ {X Y V W K : Type 0} (holds : K → State X V → Type 0) (more_holds : K → State Y W → Type 0) (Tied : List (V × W) → Type 0) where
  -- both rules allow it that the seat keeps the one pair of views, and a new seat has the other; and the views stay tied
  abbrev pub MaySplit : Laid K → Sitting X Y V W → V × W → V × W → Type 0
  MaySplit t z left right =
      (z.table ≡ t.table) × Splits (holds t.key) z.id z.me.0 left.0 right.0 × Splits (more_holds t.key) z.id z.more.0 left.1 right.1
      × ((views : List (V × W)) → Tied views → get_elem? views z.id ≡ some (z.me.0, z.more.0) → Tied (set views z.id left ++ right ∷ []))

  -- Both rules allow it that the seat knows this, and the other one, which holds no slot, is left with that
  abbrev pub MayJoin : Laid K → Sitting X Y V W → Sitting X Y V W → V × W → V × W → Type 0
  MayJoin t z other both spent =
      (z.table ≡ t.table) × (other.table ≡ t.table) × (other.me.1 ≡ []) × (other.more.1 ≡ [])
      × Joins (holds t.key) z.id z.me.0 other.id other.me.0 both.0 spent.0 × Joins (more_holds t.key) z.id z.more.0 other.id other.more.0 both.1 spent.1
      × ((views : List (V × W)) → Tied views → get_elem? views z.id ≡ some (z.me.0, z.more.0) → ¬ (other.id ≡ z.id)
      → get_elem? (set views z.id both) other.id ≡ some (other.me.0, other.more.0) → Tied (set (set views z.id both) other.id spent))

module _ {X Y V W : Type 0} where
  -- the seat knows this, and has the slots that it had
  abbrev pub Knows : Sitting X Y V W → V × W → Sitting X Y V W → Type 0
  Knows before view after =
      (after.table ≡ before.table) × (after.id ≡ before.id) × (after.me ≡ (view.0, before.me.1)) × (after.more ≡ (view.1, before.more.1))

  -- a new seat knows this, and has no slot
  abbrev pub IsNewSeat : Sitting X Y V W → V × W → Sitting X Y V W → Type 0
  IsNewSeat before view new = (new.table ≡ before.table) × (new.me ≡ (view.0, [])) × (new.more ≡ (view.1, []))

-- a part's rule holds of these words and of empty slots
abbrev pub OpensVacant : {X V K : Type 0} → (K → State (Option X) V → Type 0) → K → List ℕ → ℕ → V → Type 0
OpensVacant holds key words slots view = holds key (opening words (replicate slots None) view)

module _ {X Y V W K : Type 0} where
  -- a table with so many words and slots in its first part, and its first seat
  abbrev pub IsNewTable : K → ℕ → ℕ → V × W → Laid K × Sitting X Y V W → Type 0
  IsNewTable key words slots view made =
      (made.0.table.words ≡ words) × (made.0.table.slots ≡ slots) × (made.0.key ≡ key)
      × (made.1 ≡ record { table = made.0.table; id = 0; me = (view.0, []); more = (view.1, []) })
