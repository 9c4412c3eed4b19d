-- What holds of a book by those who noted its entries.
use Rattle.std.{proofs.Common.{◌≡◌, ℕ, ◌+◌, ◌<◌, Bool, true, false, List, [], ◌∷◌, refl, sym, ap, subst, ◌∙◌, arith}, specs.{Prelude.{cond, ◌&&◌, ◌==◌}, List.AllByRecursion}}
use Rattle.pm_board_acts.specs.{pm_board.pm_board_words.declared.views.RosterView.RosterView, pm_worker.{declared.mail.MailTold.MailTold, Runs.noted_by}}
use Rattle.pm_session_answers.specs.pm_query.declared.book.BookEntry.{BookEntry}
use Rattle.pm_store_shared.specs.{declared.views.Noted.Noted, Log.{AllBelow, Line, book_of, entries_of, is_own, noted as noted_at, placed}}
use Rattle.pm_serve_crew.{specs.{Left.{AreLeft, Manner}, Pids.AreUsedOnce}, proofs.EntriesLaws.entries_at}

module _ (Q : BookEntry → Type 0) (of_rest : (entry : BookEntry) → is_own entry ≡ false → Q entry) where
  -- what holds of each token's entries, and of what no token notes, holds of the book's
  all_entries : (count n : ℕ) (log : List Line) → AllBelow count log → ((k : ℕ) → k < count → AllByRecursion Q (entries_of (placed k n log))) → AllByRecursion Q (book_of log)
  all_entries count n [] below each = tt
  all_entries count n (l ∷ log) below each = (here (is_own l.entry) refl, all_entries count (n + 1) log below.1 (λ k less. behind k (is_own l.entry && (l.by == k)) refl (each k less)))
    where
      takes : is_own l.entry ≡ true → placed l.by n (l ∷ log) ≡ noted_at n l.entry ∷ placed l.by (n + 1) log
      takes own =
          let its : (l.by == l.by) ≡ true = grind arith in
          ap (λ (b : Bool). cond b (noted_at n l.entry ∷ placed l.by (n + 1) log) (placed l.by (n + 1) log)) (ap (λ (b : Bool). b && (l.by == l.by)) own ∙ its)

      here : (own : Bool) → is_own l.entry ≡ own → Q l.entry
      here true own = (subst (AllByRecursion Q) (ap entries_of (takes own)) (each l.by (below.0 own))).0
      here false own = of_rest l.entry own

      behind : (k : ℕ) (test : Bool) → (is_own l.entry && (l.by == k)) ≡ test → AllByRecursion Q (entries_of (placed k n (l ∷ log)))
          → AllByRecursion Q (entries_of (placed k (n + 1) log))
      behind k true is all =
          (subst (λ (b : Bool). AllByRecursion Q (entries_of (cond b (noted_at n l.entry ∷ placed k (n + 1) log) (placed k (n + 1) log)))) is all).1
      behind k false is all =
          subst (λ (b : Bool). AllByRecursion Q (entries_of (cond b (noted_at n l.entry ∷ placed k (n + 1) log) (placed k (n + 1) log)))) is all

module _ (manner : Manner) (count : ℕ) (d : RosterView MailTold) (own : List Noted) (book : List BookEntry) (left : AreLeft manner count d own book) (once : AreUsedOnce d) where
  -- what holds of what each run noted, and of what the shared side notes, holds of the book
  pub in_book : (Q : BookEntry → Type 0) → ((entry : BookEntry) → is_own entry ≡ false → Q entry) → ((k : ℕ) → k < count → AllByRecursion Q (noted_by (left.runs k)))
      → AllByRecursion Q book
  in_book Q of_rest each =
      subst (AllByRecursion Q) left.shuffle.book_is
      (all_entries Q of_rest count 0 left.shuffle.log left.shuffle.below (λ k less. subst (AllByRecursion Q) (sym (entries_at manner count d own book left once k less)) (each k less)))
