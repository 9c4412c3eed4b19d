-- The rule of a home whose value tells nothing but its generation: of one word and one slot, and of what the seats know.
use Rattle.std.specs.Prelude.{◌≡◌, ◌≢◌, ◌⊎◌, ℕ, ◌+◌, ◌<◌, Bool, true, false, not, List, [], ◌∷◌, Option, Some, None, length, slice_index}
use mathlib.Core.Option.{some, none}
use mathlib.Core.Option as maybe
use lib.ListN.{get_elem?}
use Rattle.atomic_table.specs.Table.{State}
use Rattle.pm_board_stamped.specs.declared.stamped.{Stamped.Stamped, Known.{Known, TheVariants.{Vacant, Founding, Desk, Hand, Gone}}}

-- where the value is: at home, or out with the seat of this number
pub data Where : Type 0 where
  home : Where
  out : ℕ → ℕ → Where

abbrev pub IsSeat : Where → ℕ → Type 0
IsSeat home n = Unit {0}
IsSeat (out seat number) n = seat < n

abbrev pub stamped : ℕ → Stamped
stamped stamp = record { stamp = stamp }

abbrev pub has : Known → Bool
has Vacant = true
has Founding = true
has (Desk n g held) = held
has (Hand n None) = false
has (Hand n (Some g)) = true
has Gone = false

abbrev pub leads : Known → Bool
leads Vacant = true
leads Founding = true
leads (Desk n g held) = true
leads (Hand n held) = false
leads Gone = false

abbrev pub lends : Known → Bool
lends (Desk n g held) = not held
lends Vacant = false
lends Founding = false
lends (Hand n held) = false
lends Gone = false

abbrev pub stamp : Known → ℕ
stamp (Desk n g held) = g
stamp (Hand n (Some g)) = g
stamp (Hand n None) = 0
stamp Vacant = 0
stamp Founding = 0
stamp Gone = 0

abbrev pub IsNumbered : Known → ℕ → Type 0
IsNumbered (Desk m g held) n = m ≡ n
IsNumbered (Hand m held) n = m ≡ n
IsNumbered Founding n = n ≡ 0
IsNumbered Vacant n = n ≡ 0
IsNumbered Gone n = ⊥

abbrev pub TakesIt : Known → Stamped → Known → Type 0
TakesIt (Desk n g false) x v = (x.stamp ≡ g) × (v ≡ Desk n g true)
TakesIt (Hand n None) x v = v ≡ Hand n (Some x.stamp)
TakesIt (Desk n g true) x v = ⊥
TakesIt (Hand n (Some g)) x v = ⊥
TakesIt Vacant x v = ⊥
TakesIt Founding x v = ⊥
TakesIt Gone x v = ⊥

-- a worker owes the generation that it took, and the supervisor may give another
abbrev pub GivesIt : Known → Stamped → Known → Type 0
GivesIt (Desk n g true) x v = v ≡ Desk n x.stamp false
GivesIt (Hand n (Some g)) x v = (x.stamp ≡ g) × (v ≡ Hand n None)
GivesIt Founding x v = v ≡ Desk 0 x.stamp false
GivesIt (Desk n g false) x v = ⊥
GivesIt (Hand n None) x v = ⊥
GivesIt Vacant x v = ⊥
GivesIt Gone x v = ⊥

abbrev pub MayJoin : Known → Known → Type 0
MayJoin u (Hand n None) = Unit {0}
MayJoin u (Hand n (Some g)) = ⊥
MayJoin u (Desk n g held) = ⊥
MayJoin u Vacant = ⊥
MayJoin u Founding = ⊥
MayJoin u Gone = ⊥

abbrev pub dealt : Known → Known
dealt (Desk n g held) = Desk (n + 1) g held
dealt (Hand n held) = Hand n held
dealt Vacant = Vacant
dealt Founding = Founding
dealt Gone = Gone

abbrev pub next : Known → Known
next (Desk n g held) = Hand n None
next (Hand n held) = Gone
next Vacant = Gone
next Founding = Gone
next Gone = Gone

abbrev pub IsThere : Where → ℕ → ℕ → maybe.Option (maybe.Option (Option Stamped)) → Type 0
IsThere home g word slot = (word ≡ 0) × (slot ≡ some (some (Some (stamped g))))
IsThere (out id number) g word slot = word ≡ number + 1

-- whether the seat id has it, whose number this is
abbrev pub HasIt : Where → ℕ → ℕ → Bool → Type 0
HasIt home id number false = Unit {0}
HasIt home id number true = ⊥
HasIt (out seat holder) id number false = id ≢ seat
HasIt (out seat holder) id number true = (id ≡ seat) × (number ≡ holder)

abbrev pub Fits : Where → ℕ → ℕ → ℕ → Known → Type 0
Fits w master g id (Desk n h held) = (id ≡ master) × (h ≡ g) × HasIt w id n held
Fits w master g id (Hand n None) = HasIt w id n false
Fits w master g id (Hand n (Some h)) = HasIt w id n true × (h ≡ g)
Fits w master g id Gone = HasIt w id 0 false
Fits w master g id Vacant = ⊥
Fits w master g id Founding = ⊥

-- the value is of the generation g, at home or as it was taken
pub record Holds (w : Where) (master g : ℕ) (s : State (Option Stamped) Known) : Type 0 where
  pub one_word : length s.words ≡ 1
  pub one_slot : length s.homes ≡ 1
  pub there : IsThere w g (slice_index s.words 0) (get_elem? s.homes 0)
  pub holder : IsSeat w (length s.views)
  pub each_seat : (id : ℕ) (v : Known) → get_elem? s.views id ≡ some v → Fits w master g id v

-- nothing lies there yet
abbrev pub IsFresh : State (Option Stamped) Known → Type 0
IsFresh s =
    ((s.words ≡ 0 ∷ []) × (s.homes ≡ some None ∷ []) × (s.views ≡ Vacant ∷ []))
    ⊎ ((s.words ≡ 1 ∷ []) × (s.homes ≡ none ∷ []) × (s.views ≡ Founding ∷ []))

abbrev pub IsHeld : State (Option Stamped) Known → Type 0
IsHeld s = (w : Where) × (master : ℕ) × (g : ℕ) × Holds w master g s

abbrev pub Kept : State (Option Stamped) Known → Type 0
Kept s = IsFresh s ⊎ IsHeld s
