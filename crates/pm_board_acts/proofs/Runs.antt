-- Ends in the journal, and runs.
use Rattle.std.{proofs.{Common.{inl, inr, ℕ, ◌<◌, List, [], ◌∷◌, refl, sym, subst, ◌∙◌, map, nat_eq}, lemmas.Bool.eq-eqb}, specs.{Prelude.{Bool, true, false, if◌then◌else◌, Option}, List.AllByRecursion}}
use Rattle.pm_board.specs.pm_facts.Lists.{each_both}
use Rattle.pm_supervisor_journal.specs.{pm_state.declared.event.PmEvent.PmEvent, declared.roll.Enrolled.Enrolled}
use Rattle.pm_supervisor_journal.specs.pm_state.declared.event.PmEvent.TheVariants as entry
use Rattle.pm_supervisor_chain.specs.Steps.{ChildRun}
use Rattle.pm_board_acts.{specs.{Seating.{Seating, Move, Notes, Reads, PortEnds, PidsEnd, Request, Nothing, Stop, Kill, Ended, empty, ends, ended_by, ended_at, entries_from, seating_by, is_seated, asked_by}, Runs.{IsEndOf, IsOnBoard, run_ended}, Laws.EndsOfTheJournalAreRuns}, proofs.EndedLaws.{Among, among_behind, among_front}}

among_runs : (end : Ended) (runs : List ChildRun) → Among end (map run_ended runs) → IsEndOf end runs
among_runs end [] on = elim on [ ]
among_runs end (run ∷ runs) (inl is) = inl is
among_runs end (run ∷ runs) (inr on) = inr (among_runs end runs on)

each_among : (P : Ended → Type 0) (xs : List Ended) → ((end : Ended) → Among end xs → P end) → AllByRecursion P xs
each_among P [] h = tt
each_among P (x ∷ xs) h = (h x (inl refl), each_among P xs (λ end on. h end (inr on)))

module _ (P : Ended → Type 0) where
  abbrev EachEnd : List PmEvent → Type 0
  EachEnd es = AllByRecursion (λ e. AllByRecursion P (ends e)) es

  asks_none : (asks : Request) (at : ℕ) (seats : List (Option Enrolled)) → EachEnd (asked_by asks at seats)
  asks_none Nothing at seats = tt
  asks_none (Stop how) at seats = (tt, tt)
  asks_none (Kill pid) at seats = both (is_seated pid seats)
    where
      both : (b : Bool) → EachEnd (if b then entry.KillAsked pid ∷ [] else [])
      both true = (tt, tt)
      both false = tt

  each_move : (count : ℕ) (s : Seating) (moves : List Move) → AllByRecursion (IsOnBoard count) moves
      → ((k : ℕ) (end : Ended) → k < count → Among end (ended_at k moves) → P end) → EachEnd (entries_from s moves)
  each_move count s [] on h = tt
  each_move count s (Notes e k ∷ moves) on h = (
    each_among P (ends e) (λ end is. h k end on.0 (among_front end (if nat_eq k k then ends e else []) (ended_at k moves) (subst (λ (b : Bool). Among end (if b then ends e else [])) (sym (eq-eqb k k refl)) is))),
    each_move count (seating_by s (Notes e k)) moves on.1 (λ j end near is. h j end near (among_behind end (ended_by j (Notes e k)) (ended_at j moves) is)),
  )
  each_move count s (Reads line asks at ∷ moves) on h = each_both (λ e. AllByRecursion P (ends e)) (asked_by asks at s.seats) (entries_from s moves) (asks_none asks at s.seats) (each_move count s moves on.1 h)
  each_move count s (PortEnds at ∷ moves) on h = (tt, each_move count s moves on.1 h)
  each_move count s (PidsEnd at ∷ moves) on h = (tt, each_move count s moves on.1 h)

pub ends_are_runs : {D : Type 0} → EndsOfTheJournalAreRuns D
ends_are_runs {D} count moves d runs many board gathered on =
    each_move (λ end. (k : ℕ) × (k < count) × IsEndOf end (runs k)) count (empty count) moves on
    (λ k end near is. (
      k,
      near,
      among_runs end (runs k)
          (subst (Among end) (sym ((gathered k (subst (λ (n : ℕ). k < n) (sym many) near)).ended ∙ (board.ended k).1))
          (among_front end (ended_at k moves) (board.ended k).0 is)),
    ))
