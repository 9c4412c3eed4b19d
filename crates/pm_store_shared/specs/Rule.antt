-- The rule: where the store is, whose each of its entries is, and what the seats know of both.
use Rattle.std.specs.Prelude.{◌≡◌, ◌≢◌, ◌⊎◌, ℕ, ◌+◌, ◌<◌, ◌≤◌, List, [], ◌∷◌, Option, Some, None, length, slice_get, slice_index_or}
use mathlib.Core.Option.{some, none}
use mathlib.Core.Option as maybe
use lib.ListN.{get_elem?}
use Rattle.atomic_table.specs.Table.{State}
use Rattle.pm_segment.specs.{pm_query.{pm_facts.Numbers.sum_below, declared.book.BookEntry.BookEntry, Book.{generation_of, times_attached}}, pm_store_apart.declared.pass.Pass.Pass}
use Rattle.pm_store_shared.specs.{declared.views.{Joined.Joined, Taken.Taken, Hand.Hand, Desk.Desk, View.{View, TheVariants.{Vacant, Founding, Master, Worker, Spent}}}, Log.{Line, book_of, placed, placed_rest, AllBelow, Continues}, Passes.{live, AllUpTo, AllKnown}}

-- a token: its seat, or the shared side's once it is joined, and its passes
pub record Cell : Type 0 where
  pub seat : ℕ
  pub passes : List Pass

-- where the store is: at home, or out with a seat of this number
pub data Where : Type 0 where
  home : Where
  out : ℕ → ℕ → Where

abbrev pub IsSeat : Where → ℕ → Type 0
IsSeat home n = Unit {0}
IsSeat (out seat number) n = seat < n

-- what is lent of the store, with the seat that has lent it
abbrev pub Loan : Type 0 → Type 0
Loan L = Option (ℕ × L)

module _ {L : Type 0} where
  abbrev pub what_is_lent : Loan L → Option L
  what_is_lent None = None
  what_is_lent (Some loan) = Some loan.1

  abbrev pub IsLender : Loan L → ℕ → Type 0
  IsLender None n = Unit {0}
  IsLender (Some loan) n = loan.0 < n

  -- what a seat has lent
  abbrev pub HasLent : Loan L → ℕ → Option L → Type 0
  HasLent None id None = Unit {0}
  HasLent None id (Some b) = ⊥
  HasLent (Some loan) id None = id ≢ loan.0
  HasLent (Some loan) id (Some b) = (id ≡ loan.0) × (b ≡ loan.1)

-- the passes of the present generation that were not left are the attached pids
pub record AreCounted (dealt : ℕ) (cells : ℕ → Cell) (book : List BookEntry) : Type 0 where
  pub unborn : (k : ℕ) → dealt ≤ k → (cells k).passes ≡ []
  pub known : (k : ℕ) → AllUpTo (generation_of book) (cells k).passes
  pub counted : (p : ℕ) → sum_below dealt (λ k. live p (generation_of book) (cells k).passes) ≡ times_attached book p

module _ {S : Type 0} where
  abbrev pub taken : List BookEntry → S → Taken S
  taken book x = record { log = book; store = x }

  abbrev pub IsThere : Where → S → ℕ → maybe.Option (maybe.Option (Option S)) → Type 0
  IsThere home x word slot = (word ≡ 0) × (slot ≡ some (some (Some x)))
  IsThere (out id number) x word slot = word ≡ number + 1

  -- what a seat has of the store
  abbrev pub HasTaken : Where → Taken S → ℕ → ℕ → Option (Taken S) → Type 0
  HasTaken home t id number None = Unit {0}
  HasTaken home t id number (Some b) = ⊥
  HasTaken (out seat holder) t id number None = id ≢ seat
  HasTaken (out seat holder) t id number (Some b) = (id ≡ seat) × (number ≡ holder) × (b ≡ t)

module _ {S F L : Type 0} where
  pub record FitsHand (w : Where) (loan : Loan L) (dealt : ℕ) (first : F) (cells : ℕ → Cell) (log : List Line) (x : S) (id : ℕ) (h : Hand S F L) : Type 0 where
    pub seat : (cells h.number).seat ≡ id
    pub passes : (cells h.number).passes ≡ h.passes
    pub number : h.number < dealt
    pub first_is : h.first ≡ first
    pub own : h.own ≡ placed h.number 0 log
    pub past : Continues h.past (book_of log)
    pub held : HasTaken w (taken (book_of log) x) id h.number h.held
    pub lent : HasLent loan id h.lent

  pub record FitsDesk (w : Where) (loan : Loan L) (master dealt : ℕ) (first : F) (cells : ℕ → Cell) (log : List Line) (x : S) (id : ℕ) (d : Desk S F) : Type 0 where
    pub seat : id ≡ master
    pub dealt_is : d.dealt ≡ dealt
    pub first_is : d.first ≡ first
    pub few : length d.joined ≤ dealt
    pub generation : d.generation ≡ generation_of (book_of log)
    pub own : d.own ≡ placed_rest [] log
    pub joined : (k : ℕ) (his : Joined) → slice_get d.joined k ≡ Some his → ((cells k).seat ≡ master) × (his.own ≡ placed k 0 log) × Continues his.past (book_of log)
    pub held : HasTaken w (taken (book_of log) x) id d.dealt d.held
    pub lent : HasLent loan id None

  abbrev pub Fits : Where → Loan L → ℕ → ℕ → F → (ℕ → Cell) → List Line → S → ℕ → View S F L → Type 0
  Fits w loan master dealt first cells log x id Vacant = ⊥
  Fits w loan master dealt first cells log x id Founding = ⊥
  Fits w loan master dealt first cells log x id (Master d) = FitsDesk w loan master dealt first cells log x id d
  Fits w loan master dealt first cells log x id (Worker h) = FitsHand w loan dealt first cells log x id h
  Fits w loan master dealt first cells log x id Spent = HasTaken w (taken (book_of log) x) id 0 None × HasLent loan id None

  -- no store lies there yet
  abbrev pub IsFresh : State (Option S) (View S F L) → Type 0
  IsFresh s =
      (s.words ≡ 1 ∷ [])
      × (((s.homes ≡ some None ∷ []) × (s.views ≡ Vacant ∷ [])) ⊎ ((s.homes ≡ none ∷ []) × (s.views ≡ Founding ∷ [])))

-- what holds of a store that stands after these entries, as it was handed in first, and of what is lent of it; and what of each pass of its generation
module _ {S F L : Type 0} (Is : F → List BookEntry → S → Option L → Type 0) (Knows : List BookEntry → S → Pass → Type 0) where
  pub record Holds (w : Where) (loan : Loan L) (master dealt : ℕ) (first : F) (cells : ℕ → Cell) (log : List Line) (x : S) (s : State (Option S) (View S F L)) : Type 0 where
    pub one_word : length s.words ≡ 1
    pub one_slot : length s.homes ≡ 1
    pub there : IsThere w x (slice_index_or s.words 0 0) (get_elem? s.homes 0)
    pub holder : IsSeat w (length s.views)
    pub lender : IsLender loan (length s.views)
    pub owned : AllBelow dealt log
    pub passes : AreCounted dealt cells (book_of log)
    pub stands : Is first (book_of log) x (what_is_lent loan)
    pub good : (k : ℕ) → AllKnown (Knows (book_of log) x) (generation_of (book_of log)) (cells k).passes
    pub each_seat : (id : ℕ) (v : View S F L) → get_elem? s.views id ≡ some v → Fits w loan master dealt first cells log x id v

  abbrev pub IsHeld : State (Option S) (View S F L) → Type 0
  IsHeld s = (w : Where) × (loan : Loan L) × (master : ℕ) × (dealt : ℕ) × (first : F) × (cells : ℕ → Cell) × (log : List Line) × (x : S) × Holds w loan master dealt first cells log x s

  abbrev pub Kept : State (Option S) (View S F L) → Type 0
  Kept s = IsFresh s ⊎ IsHeld s
