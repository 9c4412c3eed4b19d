-- The children of each slot are such as it serves.
use Rattle.std.{proofs.{Common.{◌≡◌, ℕ, zero, suc, Bool, true, false, List, [], ◌∷◌, ◌++◌, refl, sym, ap, subst, ◌∙◌, length, nat_eq, replicate, length-set, append-nil}, lemmas.Bool.eqb-true}, specs.{List.AllByRecursion, Prelude.{if◌then◌else◌, Option, Some, None}}}
use Rattle.pm_board.specs.{pm_facts.Lists.each_both, pm_exit.declared.child.Kind.Kind, pm_supervisor.Steps.kind_for}
use Rattle.pm_supervisor_journal.specs.{declared.roll.Enrolled.Enrolled, pm_state.declared.event.PmEvent.PmEvent}
use Rattle.pm_supervisor_journal.specs.pm_state.declared.event.PmEvent.TheVariants as entry
use Rattle.pm_board_acts.{specs.{Seating.{Begun, Move, Notes, PidsEnd, PortEnds, Reads, Seating, begins, begun_at, begun_by, child, empty, seating_by, seating_from, seating_of}, Standing.{BeginRightly, SeatServes}}, proofs.FoldingLaws.begun-more}

-- ---- how many seats

seats_after : (s : Seating) (k : ℕ) (e : PmEvent) → length (seating_by s (Notes e k)).seats ≡ length s.seats
seats_after s k (entry.Started pid kind) = length-set s.seats k (Some (child pid kind))
seats_after s k (entry.Accepted pid decision) = length-set s.seats k (Some (child pid (kind_for decision)))
seats_after s k (entry.Exited pid kind status was_active at) = length-set s.seats k None
seats_after s k _ = refl

seats_from : (s : Seating) (moves : List Move) → length (seating_from s moves).seats ≡ length s.seats
seats_from s [] = refl
seats_from s (Notes e k ∷ moves) = seats_from (seating_by s (Notes e k)) moves ∙ seats_after s k e
seats_from s (Reads line asks at ∷ moves) = seats_from s moves
seats_from s (PortEnds at ∷ moves) = seats_from s moves
seats_from s (PidsEnd at ∷ moves) = seats_from s moves

length-replicate : (n : ℕ) (x : Option Enrolled) → length (replicate n x) ≡ n
length-replicate zero x = refl
length-replicate (suc n) x = ap (λ (m : ℕ). suc m) (length-replicate n x)

pub seats_of_all : (count : ℕ) (moves : List Move) → length (seating_of count moves).seats ≡ count
seats_of_all count moves = seats_from (empty count) moves ∙ length-replicate count None

-- ---- one move more

abbrev AreServed : ℕ → ℕ → List Begun → Type 0
AreServed count k begun = AllByRecursion (λ b. SeatServes count k b.kind) begun

-- that begins none
pub right_none : (count : ℕ) (moves : List Move) (move : Move) → ((k : ℕ) → begun_by k (seating_of count moves) move ≡ []) → BeginRightly count moves → BeginRightly count (moves ++ move ∷ [])
right_none count moves move none right k =
    subst (AreServed count k) (sym (begun-more count k moves move ∙ (ap (λ (bs : List Begun). begun_at count k moves ++ bs) (none k) ∙ append-nil (begun_at count k moves)))) (right k)

-- that begins one which its slot serves
pub right_begun : (count : ℕ) (moves : List Move) (noted : PmEvent) (k pid : ℕ) (kind : Kind)
    → ((generation : ℕ) → begins generation noted ≡ record { pid = pid; kind = kind; generation = generation } ∷ []) → SeatServes count k kind → BeginRightly count moves
    → BeginRightly count (moves ++ Notes noted k ∷ [])
right_begun count moves noted k pid kind begun serves right j =
    subst (AreServed count j) (sym (begun-more count j moves (Notes noted k)))
    (each_both (λ b. SeatServes count j b.kind) (begun_at count j moves) (begun_by j (seating_of count moves) (Notes noted k)) (right j) (here (nat_eq k j) refl))
  where
    here : (b : Bool) → nat_eq k j ≡ b → AreServed count j (if b then begins (seating_of count moves).generation noted else [])
    here false is = tt
    here true is =
        subst (AreServed count j) (sym (begun (seating_of count moves).generation)) (subst (λ (i : ℕ). SeatServes count i kind) (eqb-true k j is) serves, tt)
