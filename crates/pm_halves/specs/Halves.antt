-- The rule of a table of two parts: each part keeps its own, and the views of the seats are tied.
use Rattle.std.specs.Prelude.{◌≡◌, ℕ, ◌+◌, List, [], ◌∷◌, ◌++◌, map, length}
use mathlib.Core.Option.{Option, none, some}
use Rattle.atomic_table.specs.Table.{State}

module _ {X S : Type 0} (of : X → S) where
  -- a slot of a part, as the table has it
  abbrev pub kept_as : Option X → Option S
  kept_as none = none
  kept_as (some x) = some (of x)

  abbrev pub all_kept_as : List (Option X) → List (Option S)
  all_kept_as homes = map kept_as homes

  -- the slots of a part that a seat has, where the part's first is the table's slot n
  abbrev pub carried_as : ℕ → List (ℕ × X) → List (ℕ × S)
  carried_as n [] = []
  carried_as n (c ∷ cs) = (n + c.0, of c.1) ∷ carried_as n cs

module _ {V W : Type 0} where
  -- what each seat knows of the first part, and what of the second
  abbrev pub firsts : List (V × W) → List V
  firsts views = map (λ (z : V × W). z.0) views

  abbrev pub seconds : List (V × W) → List W
  seconds views = map (λ (z : V × W). z.1) views

abbrev pub part : {X V : Type 0} → List ℕ → List (Option X) → List V → State X V
part words homes views = record { words = words; homes = homes; views = views }

-- A first part of n slots has `count n` words, and the second one has m of each. `A` and `B` are their rules
module _ {X Y S V W : Type 0} (here : X → S) (there : Y → S) (count : ℕ → ℕ) (m : ℕ) (A : State X V → Type 0) (B : State Y W → Type 0) (Tied : List (V × W) → Type 0) where
  pub record Halves (s : State S (V × W)) : Type 0 where
    pub words : List ℕ
    pub more_words : List ℕ
    pub homes : List (Option X)
    pub more_homes : List (Option Y)
    pub words_are : s.words ≡ words ++ more_words
    pub homes_are : s.homes ≡ all_kept_as here homes ++ all_kept_as there more_homes
    pub wide : length words ≡ count (length homes)
    pub many : length more_homes ≡ m
    pub first : A (part words homes (firsts s.views))
    pub second : B (part more_words more_homes (seconds s.views))
    pub tied : Tied s.views
