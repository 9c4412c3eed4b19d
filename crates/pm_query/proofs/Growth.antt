-- How rows grow with commits.
use Rattle.std.proofs.{Common.{◌≡◌, ℕ, ◌+◌, ◌-◌, ◌≤◌, List, [], ◌∷◌, ◌++◌, take, Option, None, Some, fold, sum_by, refl, ap, arith}, lemmas.List.Sums.{sum_by-cons, sum_by-append, sum_by-take-le}}
use Rattle.pm_rows.{specs.{Fold.{RowMap, changed, committed, folded}, Size.size_of, declared.commit.Change.{Change, TheVariants.{Put, Del}}, Standing.Standing}, proofs.RowLaws.{size-insert, size-remove}}
use Rattle.pm_rows.specs.LogSize as log
use Rattle.pm_query.specs.{declared.book.BookEntry.{BookEntry, TheVariants.{Opened, Redone, Attached, Answered, Released, Detached, Gone, CheckpointEnded, Broke, LogFull}}, History.{History, beginning}, Book.{Course, course_after, history_after, history_of, need_after, need_of, needs_of, standing_of}, BookLaws.{CommitsAddTheirBytes, RowsAreWithinNeeds}}

changed_size : (rows : RowMap) (change : Change) → size_of (changed rows change) ≤ size_of rows + log.change_length change
changed_size rows (Put key value) = omega (arith, size-insert rows key value)
changed_size rows (Del key) = omega (arith, size-remove rows key)

committed_size : (rows : RowMap) (changes : List Change) → size_of (committed rows changes) ≤ size_of rows + sum_by log.change_length changes
committed_size rows [] = omega arith
committed_size rows (change ∷ changes) = omega (arith, changed_size rows change, committed_size (changed rows change) changes, sum_by-cons log.change_length change changes)

commit_size : (rows : RowMap) (commit : List Change) → size_of (committed rows commit) ≤ size_of rows + need_of commit
commit_size rows [] = omega arith
commit_size rows (change ∷ changes) =
    omega (arith, committed_size rows (change ∷ changes), sum_by-cons log.commit_length (change ∷ changes) [])

committed_bytes : (rows : RowMap) (commit : List Change) → size_of (committed rows commit) ≤ size_of rows + log.commit_length commit
committed_bytes rows commit = omega (arith, committed_size rows commit)

pub commits_add_their_bytes : CommitsAddTheirBytes
commits_add_their_bytes rows [] = omega arith
commits_add_their_bytes rows (commit ∷ commits) =
    omega (arith, committed_bytes rows commit, commits_add_their_bytes (committed rows commit) commits, sum_by-cons log.commit_length commit commits)

folded_size : (rows : RowMap) (commits : List (List Change)) → size_of (folded rows commits) ≤ size_of rows + sum_by need_of commits
folded_size rows [] = omega arith
folded_size rows (commit ∷ commits) = omega (arith, commit_size rows commit, folded_size (committed rows commit) commits, sum_by-cons need_of commit commits)

-- ---- along a book

-- a history has this base, and commits of at most so many bytes
pub record IsWithinNeeds (base : Standing) (total : ℕ) (history : History) : Type 0 where
  pub base_is : history.base ≡ base
  pub needs : sum_by need_of history.commits ≤ total

one_need : (history : History) (commits : List (List Change)) (commit : List Change) (total : ℕ) → sum_by need_of commits ≤ total → sum_by need_of (commits ++ commit ∷ []) ≤ total + need_of commit
one_need history commits commit total within = omega (arith, within, sum_by-append need_of commits (commit ∷ []), sum_by-cons need_of commit [])

entry_needs : (base : Standing) (total : ℕ) (redone : Option ℕ) (history : History) (entry : BookEntry) → IsWithinNeeds base total history
    → IsWithinNeeds base (need_after total entry) (history_after redone history entry)
entry_needs base total redone history (Answered pid script reply [] front tick) is = record { base_is = is.base_is; needs = omega (arith, is.needs) }
entry_needs base total redone history (Answered pid script reply (change ∷ changes) front tick) is =
    record { base_is = is.base_is; needs = one_need history history.commits (change ∷ changes) total is.needs }
entry_needs base total redone history (Released pid front tick) is = record { base_is = is.base_is; needs = is.needs }
entry_needs base total None history (Redone pid generation count) is =
    record { base_is = is.base_is; needs = omega (arith, is.needs, sum_by-take-le need_of history.commits (count - history.base.count)) }
entry_needs base total (Some first) history (Redone pid generation count) is = is
entry_needs base total redone history (Opened generation) is = is
entry_needs base total redone history (Attached pid generation) is = is
entry_needs base total redone history (Detached pid) is = is
entry_needs base total redone history (Gone pid) is = is
entry_needs base total redone history (CheckpointEnded pid done clean) is = is
entry_needs base total redone history (Broke pid since count) is = is
entry_needs base total redone history (LogFull pid script need room) is = is

book_needs : (base : Standing) (total : ℕ) (course : Course) (book : List BookEntry) → IsWithinNeeds base total course.history
    → IsWithinNeeds base (fold need_after total book) (fold course_after course book).history
book_needs base total course [] is = is
book_needs base total course (entry ∷ book) is =
    book_needs base (need_after total entry) (course_after course entry) book (entry_needs base total course.redone course.history entry is)

pub rows_are_within_needs : RowsAreWithinNeeds
rows_are_within_needs base book n =
    let history = history_of base book in
    let is : IsWithinNeeds (standing_of base) (needs_of book) history =
    book_needs (standing_of base) 0 (record { history = beginning (standing_of base); redone = None }) book (record { base_is = refl; needs = omega arith }) in
    let commits = take (n - history.base.count) history.commits in
    omega (
      arith,
      folded_size history.base.rows commits,
      sum_by-take-le need_of history.commits (n - history.base.count),
      is.needs,
      ap (λ (s : Standing). size_of s.rows) is.base_is,
    )
