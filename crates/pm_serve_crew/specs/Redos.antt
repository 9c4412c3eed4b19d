-- The ends of redo that a supervisor told of, beside what its startup children kept.
use Rattle.std.specs.{Prelude.{◌≡◌, ◌==◌, ℕ, if◌then◌else◌, List, [], ◌∷◌, ◌++◌, map, Option, None, Some}, List.flat_map}
use Rattle.pm_board_acts.specs.pm_state.declared.event.PmEvent.TheVariants as entry
use Rattle.pm_board_acts.specs.{pm_board.{pm_board_words.declared.views.{PastChild.PastChild, RosterView.RosterView}, Places.slot_at}, pm_supervisor_chain.Chain.InGeneration, Board.ended_of, Calls.kept_by, Mails.kept_told, Seating.{Move, Notes, ended_at}, pm_worker.declared.mail.MailTold.MailTold}

abbrev pub told_if : ℕ → Option ℕ → List InGeneration
told_if generation None = []
told_if generation (Some kept) = record { number = kept; generation = generation } ∷ []

-- the end of redo that a child tells of, which only a startup child does that exits with code 0
abbrev pub redo_told : PastChild MailTold → List InGeneration
redo_told child = told_if child.offer.generation (kept_by child.offer.kind child.status (kept_told child.back))

abbrev pub redo_ends_by : ℕ → Move → List InGeneration
redo_ends_by k (Notes (entry.RedoEnded generation kept) slot) =
    if slot == k then record { number = kept; generation = generation } ∷ [] else []
redo_ends_by k _ = []

-- the ends of redo that these moves tell of, of children of the slot k
abbrev pub redo_ends_at : ℕ → List Move → List InGeneration
redo_ends_at k moves = flat_map (redo_ends_by k) moves

-- The first children of the slot k are those whose ends these moves tell of, and the ends of redo that the moves tell of are those
-- that these children told of, in order.
pub record AreRedosOf (k : ℕ) (moves : List Move) (past : List (PastChild MailTold)) : Type 0 where
  pub front : List (PastChild MailTold)
  pub others : List (PastChild MailTold)
  pub is : past ≡ front ++ others
  pub ended : map ended_of front ≡ ended_at k moves
  pub redos : flat_map redo_told front ≡ redo_ends_at k moves

-- Each end of redo that the moves tell of is that of a child of its slot, with the number that this child told, and stands there
-- where the child's end does; others were never told of, since the run ended.
abbrev pub RedosAreThose : List Move → RosterView MailTold → Type 0
RedosAreThose moves d = (k : ℕ) → AreRedosOf k moves (slot_at d k).past
