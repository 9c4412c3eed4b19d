-- What ties what the seats know of the board to what they know of its home; and what contracts see of a seat at the home.
use Rattle.std.specs.Prelude.{◌≡◌, ℕ, Bool, true, false, List, [], ◌∷◌, ◌++◌, Option, Some, None}
use mathlib.Core.Option.{some}
use lib.ListN.{get_elem?}
use Rattle.atomic_table.specs.Table.{Me}
use Rattle.pm_board_home.specs.{declared.views.HomeView.HomeView, Views.{no_takes, met_more, with_knows, dealt_by}}
use Rattle.pm_board_home.specs.declared.home.Home as Home
use Rattle.pm_board_words.specs.declared.views.{Offer.Offer, RosterView.RosterView, PostView.PostView, Work.{Work, TheVariants.{Idle, Sees, Inactive, Active, Refused, Attached}}, View.{View, TheVariants.{Postmaster, Worker, Spent}}}

abbrev pub IsAttachedNow : {D : Type 0} → Work D → Type 0
IsAttachedNow (Attached o g) = Unit {0}
IsAttachedNow Idle = ⊥
IsAttachedNow (Sees word) = ⊥
IsAttachedNow (Inactive o) = ⊥
IsAttachedNow (Active o) = ⊥
IsAttachedNow (Refused o g) = ⊥

module _ {D H W : Type 0} (home : Home.Ghosts H W) where
  -- The supervisor knows the gate's generation as that of the value that it lends. A worker has the value only while its child is
  -- attached.
  abbrev pub SeatTied : View D → HomeView W → Type 0
  SeatTied (Postmaster d) u = (home.leads u.knows ≡ true) × (home.lends u.knows ≡ true → home.stamp u.knows ≡ d.generation)
  SeatTied (Worker k w) u = home.has u.knows ≡ true → IsAttachedNow w.work
  SeatTied Spent u = home.has u.knows ≡ false

  -- and the supervisor's seat is there
  pub record Tied (views : List (View D × HomeView W)) : Type 0 where
    pub there : (id : ℕ) × (d : RosterView D) × (u : HomeView W) × (get_elem? views id ≡ some (Postmaster d, u))
    pub each : (id : ℕ) (v : View D) (u : HomeView W) → get_elem? views id ≡ some (v, u) → SeatTied v u

  -- what a take tells of the value, with what the seat knows of the board: it is of the gate's generation
  abbrev pub TellsStamp : View D → ℕ → HomeView W → Type 0
  TellsStamp (Postmaster d) found u = home.has u.knows ≡ true → home.stamp u.knows ≡ d.generation
  TellsStamp (Worker k w) found u = (o : Offer D) (g : ℕ) → w.work ≡ Attached o g → home.has u.knows ≡ true → home.stamp u.knows ≡ g
  TellsStamp Spent found u = Unit {0}

-- a seat has the home's slot, with nothing in it, exactly while it has the value
abbrev pub HoldsHome : {H : Type 0} → Bool → List (ℕ × Option H) → Type 0
HoldsHome false c = c ≡ []
HoldsHome true c = c ≡ (0, None) ∷ []

module _ {H W : Type 0} (home : Home.Ghosts H W) where
  -- and takes the value by this number
  abbrev pub HasHome : ℕ → Me (Option H) (HomeView W) → Type 0
  HasHome n more = home.numbered more.0.knows n × HoldsHome (home.has more.0.knows) more.1

  -- The value was taken, which is of this generation. Or its word was met as another than 0, and the seat knows what it knew.
  abbrev pub HasTakenHome : ℕ → Option H → HomeView W → HomeView W → Type 0
  HasTakenHome generation (Some x) before after =
      (v : W) × (after ≡ met_more before 0 v) × home.takes before.knows x v × (home.has v ≡ true) × (home.lends v ≡ false) × (home.stamp_of x ≡ generation)
  HasTakenHome generation None before after = (word : ℕ) × (¬ (word ≡ 0)) × (after ≡ met_more before word before.knows)

  -- this one was given back, and such a thing is known then
  abbrev pub HasGivenHome : (W → Type 0) → H → HomeView W → HomeView W → Type 0
  HasGivenHome then x before after = (v : W) × (after ≡ with_knows before v) × home.gives before.knows x v × then v × (home.has v ≡ false)

  -- The roster of a new board at whose home this was laid: such a thing was known then, and so many posts have been made since
  abbrev pub IsFilled : (W → Type 0) → H → ℕ → HomeView W → Type 0
  IsFilled then x slots now = (v : W) × home.gives home.founding x v × then v × (now ≡ no_takes (dealt_by home.dealt slots v))
