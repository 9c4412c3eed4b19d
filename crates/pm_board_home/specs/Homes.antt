-- What the rule of a home owes the board that it is of.
use Rattle.std.specs.Prelude.{◌≡◌, ℕ, ◌+◌, ◌==◌, Bool, true, false, List, [], ◌∷◌, Option, Some, None, slice_index}
use mathlib.Core.Option.{some}
use prog.Atomic.{either}
use lib.ListN.{get_elem?}
use Rattle.atomic_table.specs.Table.{State, Me, Allows, Splits, Joins}

-- who knew this has taken the value where the word met was 0, and nothing else
abbrev pub HasTaken : {Y W : Type 0} → (W → Y → W → Type 0) → W → ℕ → Me (Option Y) W → Type 0
HasTaken {Y} {W} takes u found now =
    (found ≡ 0 → (x : Y) × (v : W) × (now ≡ (v, (0, Some x) ∷ [])) × takes u x v) × (¬ (found ≡ 0) → now ≡ (u, []))

module _ {Y W : Type 0} (rule : State (Option Y) W → Type 0) where
  -- beside a seat that has the value the supervisor's lends it, and knows its generation
  abbrev pub IsAlone : (has leads lends : W → Bool) → (W → ℕ) → Type 0
  IsAlone has leads lends stamp =
      (s : State (Option Y) W) → rule s → (i j : ℕ) (a b : W) → get_elem? s.views i ≡ some a → get_elem? s.views j ≡ some b → ¬ (i ≡ j)
      → has a ≡ true → leads b ≡ true → (lends b ≡ true) × (stamp a ≡ stamp b)

  -- the value that lies there is of the generation that the supervisor knows, which lends it
  abbrev pub IsAtHome : (leads lends : W → Bool) → (W → ℕ) → (Y → ℕ) → Type 0
  IsAtHome leads lends stamp stamp_of =
      (s : State (Option Y) W) → rule s → (j : ℕ) (b : W) → get_elem? s.views j ≡ some b → leads b ≡ true → lends b ≡ true
      → slice_index s.words 0 ≡ 0 → (x : Y) × (get_elem? s.homes 0 ≡ some (some (Some x))) × (stamp_of x ≡ stamp b)

  -- where it doesn't lie there while the supervisor lends it, some seat has it
  abbrev pub IsOut : (has leads lends : W → Bool) → Type 0
  IsOut has leads lends =
      (s : State (Option Y) W) → rule s → (j : ℕ) (b : W) → get_elem? s.views j ≡ some b → leads b ≡ true → lends b ≡ true
      → ¬ (slice_index s.words 0 ≡ 0) → (i : ℕ) × (a : W) × (get_elem? s.views i ≡ some a) × (has a ≡ true)

  -- a seat that hasn't the value takes it where it lies there
  abbrev pub TakesByRule : (has : W → Bool) → (numbered : W → ℕ → Type 0) → (takes : W → Y → W → Type 0) → Type 0
  TakesByRule has numbered takes =
      (id n : ℕ) (u : W) → numbered u n → has u ≡ false → Allows rule 1 id (u, []) 0 (λ w. either (w == 0) (n + 1) w) (HasTaken takes u)

  -- one that has it gives one back
  abbrev pub GivesByRule : (has : W → Bool) → (gives : W → Y → W → Type 0) → Type 0
  GivesByRule has gives =
      (id : ℕ) (u v : W) (x : Y) → has u ≡ true → gives u x v → Allows rule 1 id (u, (0, Some x) ∷ []) 0 (λ _. 0) (λ _ now. now ≡ (v, []))

  -- the supervisor's makes another while it hasn't the value
  abbrev pub DealsByRule : (has leads : W → Bool) → (dealt next : W → W) → Type 0
  DealsByRule has leads dealt next = (id : ℕ) (u : W) → leads u ≡ true → has u ≡ false → Splits rule id u (dealt u) (next u)

  -- and takes in one that may be next
  abbrev pub GathersByRule : (leads : W → Bool) → (joins : W → W → Type 0) → (taken_in : W → W → W) → W → Type 0
  GathersByRule leads joins taken_in spent = (id other : ℕ) (u v : W) → leads u ≡ true → joins u v → Joins rule id u other v (taken_in u v) spent

  -- the first seat takes the empty slot of a new board
  abbrev pub FoundsByRule : (first founding : W) → Type 0
  FoundsByRule first founding = (id : ℕ) → Allows rule 1 id (first, []) 0 (λ w. either (w == 0) 1 w) (λ found now. (found ≡ 0) × (now ≡ (founding, (0, None) ∷ [])))
