-- Steps with one step more.
use Rattle.std.{proofs.{Common.{◌≡◌, List, [], ◌∷◌, ◌++◌, Option, Some, None, refl, ap, ◌∙◌, append_assoc, append-nil}, lemmas.{Grind.flat_map-append, List.Sums.fold-append}}, specs.List.{flat_map, last_or}}
use Rattle.pm_state.specs.pm_supervisor.declared.Limits.{Limits}
use Rattle.pm_query.specs.declared.book.BookEntry.{BookEntry}
use Rattle.pm_query.specs.declared.book.BookEntry.TheVariants as entry
use Rattle.pm_supervisor_chain.specs.Steps.{Step, AreStepsBehind, MayStep, book_by, journal_by, journal_of, lost_after, lost_in, whole_book}

one_more : {X : Type 0} (f : Step → List X) (before : List Step) (step : Step) → flat_map f (before ++ step ∷ []) ≡ flat_map f before ++ f step
one_more f before step = flat_map-append f before (step ∷ []) ∙ ap (λ l. flat_map f before ++ l) (append-nil (f step))

pub journal-one_more : (before : List Step) (step : Step) → journal_of (before ++ step ∷ []) ≡ journal_of before ++ journal_by step
journal-one_more before step = one_more journal_by before step

pub book-one_more : (before : List Step) (step : Step) → whole_book (before ++ step ∷ []) ≡ whole_book before ++ book_by step
book-one_more before step = ap (λ (l : List BookEntry). entry.Opened 1 ∷ l) (one_more book_by before step)

pub lost-one_more : (before : List Step) (step : Step) → lost_in (before ++ step ∷ []) ≡ lost_after (lost_in before) step
lost-one_more before step = fold-append lost_after [] before (step ∷ [])

last-behind : (o : Option Step) (before : List Step) (step : Step) → last_or o (before ++ step ∷ []) ≡ Some step
last-behind o [] step = refl
last-behind o (first ∷ before) step = last-behind (Some first) before step

pub last-one_more : (before : List Step) (step : Step) → last_or None (before ++ step ∷ []) ≡ Some step
last-one_more before step = last-behind None before step

pub steps-one_more :
    (limits : Limits) (before steps : List Step) (step : Step) → AreStepsBehind limits before steps → MayStep limits (before ++ steps) step
    → AreStepsBehind limits before (steps ++ step ∷ [])
steps-one_more limits before [] step are may = (rw (append-nil before) at may, tt)
steps-one_more limits before (next ∷ steps) step are may =
    (are.0, steps-one_more limits (before ++ next ∷ []) steps step are.1 (rw (append_assoc before (next ∷ []) steps) may))
