-- Laws of a book that goes on by an entry, and of its history.
use Rattle.std.{proofs.{Common.{◌≡◌, inl, inr, ℕ, ◌-◌, ◌≤◌, ℤ, List, [], ◌∷◌, ◌++◌, length, Option, None, fold, refl, sym, ap, subst, ◌∙◌, arith, length-append, append_assoc, append-nil}, lemmas.List.{take_all, Elements.All-nil, Sums.fold-append}, Math.Seq.length-take-le}, specs.{Ordering.int_cmp, Prelude.All, FinMap.{empty, entries, len-empty, len-entries}}}
use Rattle.pm_rows.specs.{Fold.{committed, folded}, declared.commit.Change.Change, Standing.Standing}
use Rattle.pm_sql.specs.declared.stmt.Stmt.{Stmt}
use Rattle.pm_query.specs.{declared.{item.Item.Item, book.BookEntry.{BookEntry, TheVariants.{Opened, Attached, Redone, Answered, Released, Detached, Gone, CheckpointEnded, Broke, LogFull}}}, History.{History, beginning, count_of, kept, number, rows_of, with_commit}, Limits.{HasShortRows, IsShortRow}, Book.{AnswersAt, Base, Course, MayGoOn, course_after, generation_after, generation_of, history_after, history_of, kept_after, kept_by_redo, present, present_after, standing_of, times_after, times_attached}}

-- ---- one entry more

pub redone_is : (course : Course) (book : List BookEntry) → (fold course_after course book).redone ≡ fold kept_after course.redone book
redone_is course [] = refl
redone_is course (entry ∷ book) = redone_is (course_after course entry) book

-- the history after one entry more
pub history_push : (base : Base) (book : List BookEntry) (entry : BookEntry) → history_of base (book ++ entry ∷ []) ≡ history_after (kept_by_redo book) (history_of base book) entry
history_push base book entry =
    ap (λ (c : Course). c.history) (fold-append course_after (record { history = beginning (standing_of base); redone = None }) book (entry ∷ []))
    ∙ ap (λ (r : Option ℕ). history_after r (history_of base book) entry) (redone_is (record { history = beginning (standing_of base); redone = None }) book)

one_rises : (n : ℕ) (e : BookEntry) → n ≤ generation_after n e
one_rises n (Opened generation) = omega arith
one_rises n (Attached pid generation) = omega arith
one_rises n (Redone pid generation kept) = omega arith
one_rises n (Answered pid script reply commit front tick) = omega arith
one_rises n (Released pid front tick) = omega arith
one_rises n (Detached pid) = omega arith
one_rises n (Gone pid) = omega arith
one_rises n (CheckpointEnded pid done clean) = omega arith
one_rises n (Broke pid since faults) = omega arith
one_rises n (LogFull pid script need room) = omega arith

-- no entry takes a generation back
pub generations_rise : (n : ℕ) (es : List BookEntry) → n ≤ fold generation_after n es
generations_rise n [] = omega arith
generations_rise n (e ∷ es) = omega (arith, one_rises n e, generations_rise (generation_after n e) es)

pub generation_push : (book : List BookEntry) (entry : BookEntry) → generation_of (book ++ entry ∷ []) ≡ generation_after (generation_of book) entry
generation_push book entry = fold-append generation_after 0 book (entry ∷ [])

pub redone_push : (book : List BookEntry) (entry : BookEntry) → kept_by_redo (book ++ entry ∷ []) ≡ kept_after (kept_by_redo book) entry
redone_push book entry = fold-append kept_after None book (entry ∷ [])

pub present_push : (book : List BookEntry) (entry : BookEntry) → present (book ++ entry ∷ []) ≡ present_after (present book) entry
present_push book entry = fold-append present_after [] book (entry ∷ [])

pub times_push : (book : List BookEntry) (entry : BookEntry) (pid : ℕ) → times_attached (book ++ entry ∷ []) pid ≡ times_after pid (times_attached book pid) entry
times_push book entry pid = fold-append (times_after pid) 0 book (entry ∷ [])

-- a book that goes on in two parts
pub going-append : (base : Base) (before first second : List BookEntry) → MayGoOn base before (first ++ second) → MayGoOn base before first × MayGoOn base (before ++ first) second
going-append base before [] second may = (tt, subst (λ (b : List BookEntry). MayGoOn base b second) (sym (append-nil before)) may)
going-append base before (entry ∷ first) second may =
    let rest = going-append base (before ++ entry ∷ []) first second may.1 in
    ((may.0, rest.0), subst (λ (b : List BookEntry). MayGoOn base b second) (append_assoc before (entry ∷ []) first) rest.1)

-- ---- a history with a commit

pub count_of-with_commit : (history : History) (commit : List Change) → count_of history ≤ count_of (with_commit history commit)
count_of-with_commit history [] = omega arith
count_of-with_commit history (change ∷ changes) = omega (arith, length-append history.commits ((change ∷ changes) ∷ []))

-- no front is past all commits
pub answered_within : (history : History) (script : List Stmt) (reply : List Item) (commit : List Change) (front : ℕ) → AnswersAt history script reply commit front → front ≤ count_of (with_commit history commit)
answered_within history script reply commit front at = elim at [
  | inl is ↦ omega (arith, is)
  | inr early ↦ omega (arith, early.within, count_of-with_commit history commit)
]

pub base-with_commit : (history : History) (commit : List Change) → (with_commit history commit).base ≡ history.base
base-with_commit history [] = refl
base-with_commit history (change ∷ changes) = refl

-- the rows after a commit
pub rows_of-with_commit : (history : History) (commit : List Change) → rows_of (with_commit history commit) ≡ committed (rows_of history) commit
rows_of-with_commit history [] = refl
rows_of-with_commit history (change ∷ changes) = fold-append committed history.base.rows history.commits ((change ∷ changes) ∷ [])

-- ---- its numbers

-- what these commits make of its base
abbrev pub number_of : History → ℕ → List (List Change) → Standing
number_of history n commits = record { rows = folded history.base.rows commits; count = n }

-- the last number has all commits
pub whole_number : (history : History) → number history (count_of history) ≡ record { rows = rows_of history; count = count_of history }
whole_number history = ap (number_of history (count_of history)) (take_all (count_of history - history.base.count) history.commits (omega arith))

-- a history that is cut has as many as were kept
pub cut_count : (history : History) (count : ℕ) → history.base.count ≤ count → count ≤ count_of history → count_of (kept history count) ≡ count
cut_count history count least most = omega (arith, length-take-le (count - history.base.count) history.commits (omega (arith, most)), least)

-- ---- no rows

no_rows : (es : List (ℤ × List ℕ)) → length es ≡ 0 → All IsShortRow es
no_rows [] none = All-nil IsShortRow
no_rows (first ∷ es) none = absurd (omega arith)

-- no row is too long
pub short_rows-empty : HasShortRows empty
short_rows-empty = no_rows (entries empty) (sym (len-entries empty) ∙ len-empty int_cmp (List ℕ))
