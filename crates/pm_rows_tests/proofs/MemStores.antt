-- What an entry does to the store in memory.
use Rattle.std.{proofs.{Common.{rules, ◌≡◌, ◌≢◌, ◌↔◌, ◌==◌, Bool, not, IsTrue, ℕ, ◌-◌, List, [], ◌∷◌, ◌++◌, length, length-append, Option, None, Some, refl, sym, ◌∙◌, ap, subst, arith}, lemmas.List.{take_all, Sums.fold-append}}, specs.Option.option_map}
use Rattle.pm_query.{specs.{pm_rows.{Fold.{RowMap, committed}, declared.commit.Change.Change}, pm_sql.declared.stmt.Stmt.Stmt, declared.{item.Item.Item, book.BookEntry.{BookEntry, TheVariants.{Answered, Broke, CheckpointEnded, Detached, Redone, Released}}, store.StoreNo.{StoreNo, TheVariants.Broken}}, History.{History, beginning, count_of, kept, rows_of, with_commit}, Book.{Base, Course, course_after, course_of, history_after, history_of, kept_after, standing_of}}, proofs.HistoryLaws.rows_of-with_commit}
use Rattle.pm_rows_tests.specs.{MemStore.{Goes, Holds, IsOf, Moment, count_behind}, MemStoreLaws.goes_nowhere}

-- the course after one entry more
course_push : (base : Base) (book : List BookEntry) (entry : BookEntry) → course_of base (book ++ entry ∷ []) ≡ course_after (course_of base book) entry
course_push base book entry = fold-append course_after (record { history = beginning (standing_of base); redone = None }) book (entry ∷ [])

of_history : (base : Base) (book : List BookEntry) (entry : BookEntry) (rows : RowMap) (count : ℕ) (redone : Option ℕ) → rows ≡ rows_of (course_after (course_of base book) entry).history
    → count ≡ count_of (course_after (course_of base book) entry).history → redone ≡ (course_after (course_of base book) entry).redone → IsOf base (book ++ entry ∷ []) rows count redone
of_history base book entry rows count redone r n k = record {
  rows_are = r ∙ ap (λ (c : Course). rows_of c.history) (sym (course_push base book entry));
  count_is = n ∙ ap (λ (c : Course). count_of c.history) (sym (course_push base book entry));
  redone_is = k ∙ ap (λ (c : Course). c.redone) (sym (course_push base book entry));
}

-- the entry leaves the store what it is
abbrev pub LeavesStore : BookEntry → Type 0
LeavesStore entry = (base : Base) (book : List BookEntry) (rows : RowMap) (count : ℕ) (redone : Option ℕ) → IsOf base book rows count redone → IsOf base (book ++ entry ∷ []) rows count redone

pub released_leaves : (pid front tick : ℕ) → LeavesStore (Released pid front tick)
released_leaves pid front tick base book rows count redone is = of_history base book (Released pid front tick) rows count redone is.rows_are is.count_is (is.redone_is ∙ still (course_of base book).redone)
  where
    still : (r : Option ℕ) → r ≡ kept_after r (Released pid front tick)
    still None = refl
    still (Some kept) = refl

pub detached_leaves : (pid : ℕ) → LeavesStore (Detached pid)
detached_leaves pid base book rows count redone is = of_history base book (Detached pid) rows count redone is.rows_are is.count_is (is.redone_is ∙ still (course_of base book).redone)
  where
    still : (r : Option ℕ) → r ≡ kept_after r (Detached pid)
    still None = refl
    still (Some kept) = refl

pub broke_leaves : (pid since faults : ℕ) → LeavesStore (Broke pid since faults)
broke_leaves pid since faults base book rows count redone is = of_history base book (Broke pid since faults) rows count redone is.rows_are is.count_is (is.redone_is ∙ still (course_of base book).redone)
  where
    still : (r : Option ℕ) → r ≡ kept_after r (Broke pid since faults)
    still None = refl
    still (Some kept) = refl

pub checkpoint_leaves : (pid : ℕ) (done clean : Bool) → LeavesStore (CheckpointEnded pid done clean)
checkpoint_leaves pid done clean base book rows count redone is = of_history base book (CheckpointEnded pid done clean) rows count redone is.rows_are is.count_is (is.redone_is ∙ still (course_of base book).redone)
  where
    still : (r : Option ℕ) → r ≡ kept_after r (CheckpointEnded pid done clean)
    still None = refl
    still (Some kept) = refl

pub goes_one : (entry : BookEntry) (before now : Moment) (reserved : Option (List BookEntry)) → reserved ≡ before.book → now.book ≡ option_map (λ es. es ++ entry ∷ []) reserved
    → ((base : Base) (book : List BookEntry) → IsOf base book before.rows before.count before.redone → IsOf base (book ++ entry ∷ []) now.rows now.count now.redone) → Goes (entry ∷ []) before now
goes_one entry before now reserved er en keeps = record {
  notes = en ∙ ap (option_map (λ es. es ++ entry ∷ [])) er;
  keeps = λ base holds. subst (λ (b : Option (List BookEntry)). Holds base b now) (sym (en ∙ ap (option_map (λ es. es ++ entry ∷ [])) er)) (holds_in base before.book holds);
} where
  holds_in : (base : Base) (book : Option (List BookEntry)) → Holds base book before → Holds base (option_map (λ es. es ++ entry ∷ []) book) now
  holds_in base None holds = tt
  holds_in base (Some book) holds = keeps base book holds

-- what is seen of a store
abbrev pub seen : Option (List BookEntry) → RowMap → ℕ → Option ℕ → Moment
seen book rows count redone = record { book = book; rows = rows; count = count; redone = redone }

-- an entry that says nothing of rows
pub goes_quietly : (entry : BookEntry) (rows rows_now : RowMap) (count count_now : ℕ) (redone redone_now : Option ℕ) (before reserved now : Option (List BookEntry)) → LeavesStore entry → reserved ≡ before
    → now ≡ option_map (λ es. es ++ entry ∷ []) reserved → rows_now ≡ rows → count_now ≡ count → redone_now ≡ redone
    → Goes (entry ∷ []) (seen before rows count redone) (seen now rows_now count_now redone_now)
goes_quietly entry rows rows_now count count_now redone redone_now before reserved now quiet er en r n k =
    rw (r, n, k) (goes_one entry (seen before rows count redone) (seen now rows count redone) reserved er en (λ base book is. quiet base book rows count redone is))

-- a fault told again, whatever call tells it
pub tells_again : (pid since faults : ℕ) (refusal : StoreNo) (Notes : StoreNo → List BookEntry → Type 0) (rows rows_now : RowMap) (count count_now : ℕ) (redone redone_now : Option ℕ) (before reserved now : Option (List BookEntry))
    → refusal ≡ Broken since → reserved ≡ before → now ≡ option_map (λ es. es ++ Broke pid since faults ∷ []) reserved
    → (rows_now ≡ rows) × (count_now ≡ count) × (redone_now ≡ redone) → Notes (Broken since) (Broke pid since faults ∷ [])
    → (entries : List BookEntry) × Goes entries (seen before rows count redone) (seen now rows_now count_now redone_now) × Notes refusal entries
tells_again pid since faults refusal Notes rows rows_now count count_now redone redone_now before reserved now e er en same noted = (
  Broke pid since faults ∷ [],
  goes_quietly (Broke pid since faults) rows rows_now count count_now redone redone_now before reserved now (broke_leaves pid since faults) er en same.0 same.1 same.2,
  subst (λ (x : StoreNo). Notes x (Broke pid since faults ∷ [])) (sym e) noted,
)

-- no entry
pub goes_silently : (rows rows_now : RowMap) (count : ℕ) (redone : Option ℕ) (before now : Option (List BookEntry)) → now ≡ before → rows_now ≡ rows
    → Goes [] (seen before rows count redone) (seen now rows_now count redone)
goes_silently rows rows_now count redone before now e r = rw (e, r) (goes_nowhere (seen before rows count redone))

-- ---- a redo

all_kept : (history : History) → kept history (count_of history) ≡ history
all_kept history = ap (λ (commits : List (List Change)). record { base = history.base; commits = commits; acked = history.acked }) (take_all (count_of history - history.base.count) history.commits (omega arith))

-- the number of commits, unless a redo has kept another before
abbrev pub kept_with : ℕ → Option ℕ → ℕ
kept_with count None = count
kept_with count (Some first) = first

pub goes_redone : (pid generation count number : ℕ) (redone : Option ℕ) (rows : RowMap) (before now : Option (List BookEntry)) → number ≡ kept_with count redone
    → now ≡ option_map (λ es. es ++ Redone pid generation number ∷ []) before
    → Goes (Redone pid generation number ∷ []) (seen before rows count redone) (seen now rows count (Some number))
goes_redone pid generation count number redone rows before now is en =
    goes_one (Redone pid generation number) (seen before rows count redone) (seen now rows count (Some number)) before refl en (λ base book of. each base book of redone refl)
  where
    each : (base : Base) (book : List BookEntry) → IsOf base book rows count redone → (r : Option ℕ) → redone ≡ r → IsOf base (book ++ Redone pid generation number ∷ []) rows count (Some number)
    each base book of None none =
        let was : (course_of base book).redone ≡ None = sym of.redone_is ∙ none in
        let number_is : number ≡ count_of (history_of base book) = is ∙ ap (kept_with count) none ∙ of.count_is in
        let history_is : history_after (course_of base book).redone (history_of base book) (Redone pid generation number) ≡ history_of base book =
        ap (λ (r : Option ℕ). history_after r (history_of base book) (Redone pid generation number)) was ∙ ap (kept (history_of base book)) number_is ∙ all_kept (history_of base book) in
        of_history base book (Redone pid generation number) rows count (Some number) (of.rows_are ∙ ap rows_of (sym history_is)) (of.count_is ∙ ap count_of (sym history_is))
        (sym (ap (λ (r : Option ℕ). kept_after r (Redone pid generation number)) was))
    each base book of (Some first) some =
        let was : (course_of base book).redone ≡ Some first = sym of.redone_is ∙ some in
        let number_is : number ≡ first = is ∙ ap (kept_with count) some in
        let history_is : history_after (course_of base book).redone (history_of base book) (Redone pid generation number) ≡ history_of base book =
        ap (λ (r : Option ℕ). history_after r (history_of base book) (Redone pid generation number)) was in
        of_history base book (Redone pid generation number) rows count (Some number) (of.rows_are ∙ ap rows_of (sym history_is)) (of.count_is ∙ ap count_of (sym history_is))
        (ap Some number_is ∙ sym (ap (λ (r : Option ℕ). kept_after r (Redone pid generation number)) was))

-- ---- an answer

count_of-with_commit : (history : History) (commit : List Change) → count_of (with_commit history commit) ≡ count_behind (count_of history) commit
count_of-with_commit history [] = refl
count_of-with_commit history (change ∷ changes) = omega (arith, length-append history.commits ((change ∷ changes) ∷ []))

pub goes_answered : (pid : ℕ) (script : List Stmt) (reply : List Item) (commit : List Change) (front : ℕ) (rows rows_now : RowMap) (count : ℕ) (redone : Option ℕ) (before reserved now : Option (List BookEntry))
    → reserved ≡ before → now ≡ option_map (λ es. es ++ Answered pid script reply commit front 0 ∷ []) reserved → rows_now ≡ committed rows commit → front ≡ count_behind count commit
    → Goes (Answered pid script reply commit front 0 ∷ []) (seen before rows count redone) (seen now rows_now front redone)
goes_answered pid script reply commit front rows rows_now count redone before reserved now er en r n =
    goes_one (Answered pid script reply commit front 0) (seen before rows count redone) (seen now rows_now front redone) reserved er en
    (λ base book is. of_history base book (Answered pid script reply commit front 0) rows_now front redone
    (r ∙ ap (λ (m : RowMap). committed m commit) is.rows_are ∙ sym (rows_of-with_commit (history_of base book) commit))
    (n ∙ ap (λ (k : ℕ). count_behind k commit) is.count_is ∙ sym (count_of-with_commit (history_of base book) commit))
    (is.redone_is ∙ still (course_of base book).redone))
  where
    still : (r : Option ℕ) → r ≡ kept_after r (Answered pid script reply commit front 0)
    still None = refl
    still (Some first) = refl

-- a commit that isn't empty has changes
pub wrote_changes : (is_empty : Bool) (changes commit : List Change) → changes ≡ commit → is_empty ≡ (length changes == 0) → IsTrue (not is_empty) ↔ (commit ≢ [])
wrote_changes is_empty [] commit e b = rw (← e, b) (λ t no. cc, λ no. absurd (no refl))
wrote_changes is_empty (change ∷ changes) commit e b = rw (← e, b) (λ t no. cc, λ no. search rules)
