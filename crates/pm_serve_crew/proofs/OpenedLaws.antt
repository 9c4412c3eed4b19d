-- The generations that a book opens are those that the shared side noted.
use Rattle.std.{proofs.Common.{◌≡◌, ℕ, List, [], ◌∷◌, ◌++◌, refl, ap}, specs.Prelude.cond}
use Rattle.pm_session_answers.specs.pm_query.declared.book.BookEntry.{BookEntry, TheVariants.{Opened, Gone}}
use Rattle.pm_board_acts.specs.pm_supervisor_chain.Chain.{opened_of}
use Rattle.pm_store_shared.specs.Log.{Line, book_of, entries_of, is_own, noted_behind, placed_rest}

opened_line : (before : List BookEntry) (entry : BookEntry) (log : List Line) → opened_of (book_of log) ≡ opened_of (entries_of (placed_rest (before ++ entry ∷ []) log))
    → opened_of (entry ∷ book_of log)
    ≡ opened_of (entries_of (cond (is_own entry) (placed_rest (before ++ entry ∷ []) log) (noted_behind before entry ∷ placed_rest (before ++ entry ∷ []) log)))
opened_line before (Opened generation) log rest = ap (λ (l : List ℕ). generation ∷ l) rest
opened_line before (Gone pid) log rest = rest
opened_line before _ log rest = rest

pub opened_rest : (before : List BookEntry) (log : List Line) → opened_of (book_of log) ≡ opened_of (entries_of (placed_rest before log))
opened_rest before [] = refl
opened_rest before (l ∷ log) = opened_line before l.entry log (opened_rest (before ++ l.entry ∷ []) log)
