-- What the tests know of two counters in one table, at which one seat counts.
use Rattle.std.specs.Prelude.{◌≡◌, ℕ, ◌+◌, ◌≤◌, List, [], ◌∷◌, Option, Some, None}
use mathlib.Core.Option.{none, some}
use Rattle.atomic_table.specs.Table.{State, Me, Step}
use Rattle.pm_halves.specs.Sitting.{Sitting}
use Rattle.pm_board_tests.specs.declared.second.Second.{Second, TheVariants.{Fresh, Home, Held}}

-- the first counter is its word
abbrev pub CountsFirst : State (Option ℕ) ℕ → Type 0
CountsFirst s = (n : ℕ) × (s.words ≡ n ∷ []) × (s.homes ≡ []) × (s.views ≡ n ∷ [])

-- the second lies in its slot while the word is 0
abbrev pub IsAt : Second → List ℕ → List (mathlib.Core.Option.Option (Option ℕ)) → Type 0
IsAt Fresh words homes = (words ≡ 0 ∷ []) × (homes ≡ some None ∷ [])
IsAt (Home n) words homes = (words ≡ 0 ∷ []) × (homes ≡ some (Some n) ∷ [])
IsAt (Held n) words homes = (words ≡ 1 ∷ []) × (homes ≡ none ∷ [])

abbrev pub CountsSecond : State (Option ℕ) Second → Type 0
CountsSecond s = (w : Second) × IsAt w s.words s.homes × (s.views ≡ w ∷ [])

abbrev pub number_of : Second → ℕ
number_of Fresh = 0
number_of (Home n) = n
number_of (Held n) = n

-- the second is never behind the first, and at most one before it
abbrev pub IsOneBefore : ℕ → Second → Type 0
IsOneBefore first second = (first ≤ number_of second) × (number_of second ≤ first + 1)

abbrev pub AreTied : List (ℕ × Second) → Type 0
AreTied views = (first : ℕ) × (second : Second) × (views ≡ (first, second) ∷ []) × IsOneBefore first second

abbrev pub Reads : Step (Option ℕ) → Me (Option ℕ) ℕ → ℕ → Me (Option ℕ) ℕ → Type 0
Reads st me found now = (found ≡ me.0) × (now ≡ me)

abbrev pub Counts : Step (Option ℕ) → Me (Option ℕ) ℕ → ℕ → Me (Option ℕ) ℕ → Type 0
Counts st me found now = now ≡ (st.first, me.1)

-- a take, by what the seat knew
abbrev pub HasTakenFrom : Second → ℕ → Me (Option ℕ) Second → Type 0
HasTakenFrom Fresh found now = (found ≡ 0) × (now ≡ (Held 0, (0, None) ∷ []))
HasTakenFrom (Home n) found now = (found ≡ 0) × (now ≡ (Held n, (0, Some n) ∷ []))
HasTakenFrom (Held n) found now = (found ≡ 1) × (now ≡ (Held n, []))

abbrev pub Takes : Step (Option ℕ) → Me (Option ℕ) Second → ℕ → Me (Option ℕ) Second → Type 0
Takes st me found now = HasTakenFrom me.0 found now

-- a give of the number in the slot on top
abbrev pub given : List (ℕ × Option ℕ) → Second
given [] = Fresh
given ((k, None) ∷ cs) = Fresh
given ((k, Some n) ∷ cs) = Home n

abbrev pub Gives : Step (Option ℕ) → Me (Option ℕ) Second → ℕ → Me (Option ℕ) Second → Type 0
Gives st me found now = now ≡ (given me.1, [])

-- the seat has counted both up to this number
abbrev pub HasCounted : ℕ → Sitting (Option ℕ) (Option ℕ) ℕ Second → Type 0
HasCounted n z = (z.me ≡ (n, [])) × (z.more ≡ (Home n, []))
