-- Why a script that shows nothing of what is staged may be answered at the flushed number.
use Rattle.std.{proofs.{Common.{◌≡◌, ◌≢◌, Bool, true, false, cond, ◌&&◌, ◌⊎◌, inl, inr, ℕ, ℤ, ◌+◌, ◌-◌, ◌≤◌, List, [], ◌∷◌, ◌++◌, length, take, drop, fold, Option, None, Some, refl, sym, ◌∙◌, ap, subst, arith}, lemmas.{Bool.{and_parts}, Bool.Decides.{Decides-int_eq, nat_tests, same_from_decides}, Cmp.int_ranked, List.{take-append-drop, Sums.{fold-append, sum_by-cons}}}}, specs.{Prelude.{IfOk, IfSome, Result, Ok, Err, not, nat_le, unwrap_or}, Ordering.{eq_by_cmp, int_cmp, int_eq}, Cmp.ranked_equal, FinMap.get, List.{list_all, list_any}}}
use Rattle.pm_query.{specs.{pm_rows.{declared.commit.Change.Change, Fold.{RowMap, changed, committed, folded, key_of, value_left}, Standing.Standing}, pm_sql.{Limits.is_writing, declared.stmt.Stmt.Stmt}, declared.{item.Item.Item, book.BookEntry.BookEntry, store.{Staged.Staged, StoreNo.StoreNo}}, Answer.{Progress, advanced, after_statement, answers, commit_of, effect_of, has_error, has_failed, items_of, row_at, start_on}, Calls.IsNoLess, History.number, Book.{AnswersAt, Base, history_of}}, proofs.ReadingLaws.reads_commit_nothing}
use Rattle.pm_query.specs.pm_sql.declared.stmt.Stmt.TheVariants as stmts
use Rattle.pm_query.specs.declared.item.Item.TheVariants as items
use Rattle.pm_rows.proofs.FoldLaws.{get-changed}
use Rattle.pm_stage.specs.Naming.{is_about, is_named, times_in, times_named}
use Rattle.pm_store_apart.specs.{declared.live.Live.Live, Fronts.{flushed_of, whole_of}, Moment.Moment, Passes.{IsFlushed, IsStaged}, ReadsApart.{AnswersEarly, ReadsApart, read_front, reads_apart}, Stands.HasGone}

-- ---- a key that nobody names

-- a map finds a key where it is equal
same_test : (x y : ℤ) → eq_by_cmp int_cmp x y ≡ int_eq y x
same_test x y =
    let same = ranked_equal x y (int_cmp x y) (int_ranked x y (int_cmp x y) refl) in
    let back = Decides-int_eq y x in
    same_from_decides (eq_by_cmp int_cmp x y) (int_eq y x) same (λ yes. sym (back.0 yes), λ is. back.1 (sym is))

abbrev once : Bool → ℕ
once b = cond b 1 0

none_of : (b : Bool) → once b ≡ 0 → b ≡ false
none_of true none = absurd (omega (arith, none))
none_of false none = refl

get-committed : (rows : RowMap) (changes : List Change) (key : ℤ) → times_in key changes ≡ 0 → get (committed rows changes) key ≡ get rows key
get-committed rows [] key none = refl
get-committed rows (change ∷ changes) key none =
    let parts = sum_by-cons (λ (c : Change). once (is_about key c)) change changes in
    let other : is_about key change ≡ false = none_of (is_about key change) (omega (arith, none, parts)) in
    get-committed (changed rows change) changes key (omega (arith, none, parts))
    ∙ get-changed rows change key
    ∙ ap (λ (b : Bool). cond b (value_left change) (get rows key)) (same_test key (key_of change) ∙ other)

get-folded : (rows : RowMap) (staged : List (List Change)) (key : ℤ) → times_named key staged ≡ 0 → get (folded rows staged) key ≡ get rows key
get-folded rows [] key none = refl
get-folded rows (commit ∷ staged) key none =
    let parts = sum_by-cons (times_in key) commit staged in
    get-folded (committed rows commit) staged key (omega (arith, none, parts)) ∙ get-committed rows commit key (omega (arith, none, parts))

unnamed : (key : ℤ) (staged : List (List Change)) → not (is_named key staged) ≡ true → times_named key staged ≡ 0
unnamed key staged is = grind (arith, nat_tests)

-- ---- two runs side by side

cond_in : {A B : Type 0} (f : A → B) (b : Bool) (x y : A) → f (cond b x y) ≡ cond b (f x) (f y)
cond_in f true x y = refl
cond_in f false x y = refl

cond_same : {A : Type 0} (b : Bool) (x : A) → cond b x x ≡ x
cond_same true x = refl
cond_same false x = refl

-- a statement that only answers
items_behind : (p : Progress) (stmt : Stmt) (item : Item) → effect_of p.rows stmt ≡ answers item → (after_statement p stmt).items ≡ cond (has_error p.items) p.items (p.items ++ item ∷ [])
items_behind p stmt item is =
    ap (λ e. (cond (has_failed p) p (advanced p e)).items) is ∙ cond_in (λ (x : Progress). x.items) (has_failed p) p (advanced p (answers item))

rows_behind : (p : Progress) (stmt : Stmt) (item : Item) → effect_of p.rows stmt ≡ answers item → (after_statement p stmt).rows ≡ p.rows
rows_behind p stmt item is =
    ap (λ e. (cond (has_failed p) p (advanced p e)).rows) is ∙ cond_in (λ (x : Progress). x.rows) (has_failed p) p (advanced p (answers item)) ∙ cond_same (has_failed p) p.rows

-- the one with what is staged in its rows, the other without it
abbrev IsBeside : List (List Change) → Progress → Progress → Type 0
IsBeside staged p q = (p.items ≡ q.items) × (p.rows ≡ folded q.rows staged)

one_further : (staged : List (List Change)) (p q : Progress) (stmt : Stmt) (item : Item) → effect_of p.rows stmt ≡ answers item → effect_of q.rows stmt ≡ answers item
    → IsBeside staged p q → IsBeside staged (after_statement p stmt) (after_statement q stmt)
one_further staged p q stmt item here there beside = (
  items_behind p stmt item here ∙ ap (λ (l : List Item). cond (has_error l) l (l ++ item ∷ [])) beside.0 ∙ sym (items_behind q stmt item there),
  rows_behind p stmt item here ∙ beside.1 ∙ sym (ap (λ (r : RowMap). folded r staged) (rows_behind q stmt item there)),
)

same_items : (staged : List (List Change)) (script : List Stmt) (p q : Progress) → ReadsApart staged script → IsBeside staged p q
    → (fold after_statement p script).items ≡ (fold after_statement q script).items
same_items staged [] p q apart beside = beside.0
same_items staged (stmts.Sleep seconds ∷ script) p q apart beside =
    let stmt = stmts.Sleep seconds in
    same_items staged script (after_statement p stmt) (after_statement q stmt) apart (one_further staged p q stmt items.Slept refl refl beside)
same_items staged (stmts.Select (Some key) ∷ script) p q apart beside =
    let stmt = stmts.Select (Some key) in
    let both = and_parts (not (is_named key staged)) (list_all (reads_apart staged) script) apart in
    let same : get p.rows key ≡ get q.rows key = ap (λ (r : RowMap). get r key) beside.1 ∙ get-folded q.rows staged key (unnamed key staged both.0) in
    same_items staged script (after_statement p stmt) (after_statement q stmt) both.1
    (one_further staged p q stmt (items.Rows (row_at key (get q.rows key))) (ap (λ (o : Option (List ℕ)). answers (items.Rows (row_at key o))) same) refl beside)
same_items staged (stmts.Insert key value ∷ script) p q apart beside = absurd cc
same_items staged (stmts.Update key value ∷ script) p q apart beside = absurd cc
same_items staged (stmts.Delete key ∷ script) p q apart beside = absurd cc
same_items staged (stmts.Select None ∷ script) p q apart beside = absurd cc
same_items staged (stmts.Count ∷ script) p q apart beside = absurd cc

-- a script that reads apart has the same reply on the rows without what is staged
shows_nothing : (rows : RowMap) (staged : List (List Change)) (script : List Stmt) → ReadsApart staged script → items_of (folded rows staged) script ≡ items_of rows script
shows_nothing rows staged [] apart = refl
shows_nothing rows staged (stmt ∷ script) apart = same_items staged (stmt ∷ script) (start_on (folded rows staged)) (start_on rows) apart (refl, refl)

-- and it writes nothing
pub apart_reads : (staged : List (List Change)) (script : List Stmt) → ReadsApart staged script → list_any is_writing script ≡ false
apart_reads staged [] apart = refl
apart_reads staged (stmts.Sleep seconds ∷ script) apart = apart_reads staged script apart
apart_reads staged (stmts.Select (Some key) ∷ script) apart = apart_reads staged script (and_parts (not (is_named key staged)) (list_all (reads_apart staged) script) apart).1
apart_reads staged (stmts.Insert key value ∷ script) apart = absurd cc
apart_reads staged (stmts.Update key value ∷ script) apart = absurd cc
apart_reads staged (stmts.Delete key ∷ script) apart = absurd cc
apart_reads staged (stmts.Select None ∷ script) apart = absurd cc
apart_reads staged (stmts.Count ∷ script) apart = absurd cc

-- ---- the flushed number of a history

-- its rows are all rows without what is staged
rows_flushed : (base : Base) (at : Moment) (live : Live) (book : List BookEntry) → live.log.since ≡ None → HasGone base at live book → at.rows ≡ folded (number (history_of base book) (flushed_of live)).rows at.staged
rows_flushed base at live book unbroken is =
    let h = history_of base book in
    let k = flushed_of live - h.base.count in
    let left : drop k h.commits ≡ at.staged = ap (λ (s : Standing). drop (flushed_of live - s.count) h.commits) is.base_is ∙ is.behind unbroken in
    is.rows_are
    ∙ ap (folded h.base.rows) (sym (take-append-drop k h.commits))
    ∙ fold-append committed h.base.rows (take k h.commits) (drop k h.commits)
    ∙ ap (folded (folded h.base.rows (take k h.commits))) left

-- a reply that shows nothing of what is staged may be an answer at it
answers_flushed : (base : Base) (at : Moment) (live : Live) (book : List BookEntry) (script : List Stmt) (reply : List Item) → live.log.since ≡ None → whole_of live ≡ flushed_of live + length at.staged
    → reply ≡ items_of at.rows script → ReadsApart at.staged script → HasGone base at live book → AnswersAt (history_of base book) script reply [] (flushed_of live)
answers_flushed base at live book script reply unbroken fronts reply_is apart is =
    let rows : RowMap = (number (history_of base book) (flushed_of live)).rows in
    inr (record {
      reads = apart_reads at.staged script apart;
      acked = is.acked;
      within = omega (arith, fronts, is.count_is unbroken);
      same = reply_is ∙ ap (λ (r : RowMap). items_of r script) (rows_flushed base at live book unbroken is) ∙ shows_nothing rows at.staged script apart;
    })

-- ---- the number of an answer

front_of : (a b : Bool) (m n : ℕ) → (cond (a && b) m n ≡ n) ⊎ ((a ≡ true) × (b ≡ true) × (cond (a && b) m n ≡ m))
front_of true true m n = inr (refl, refl, refl)
front_of true false m n = inl refl
front_of false b m n = inl refl

at_most : (m n : ℕ) → nat_le m n ≡ true → m ≤ n
at_most m n is = grind (arith, nat_tests)

-- it is one or the other
front_cases : (staged : List (List Change)) (seen : Option ℕ) (live : Live) (script : List Stmt)
    → (read_front staged seen live script ≡ whole_of live) ⊎ (ReadsApart staged script × (unwrap_or seen 0 ≤ flushed_of live) × (read_front staged seen live script ≡ flushed_of live))
front_cases staged seen live script = elim (front_of (nat_le (unwrap_or seen 0) (flushed_of live)) (list_all (reads_apart staged) script) (flushed_of live) (whole_of live)) [
  | inl whole ↦ inl whole
  | inr early ↦ inr (early.1, at_most (unwrap_or seen 0) (flushed_of live) early.0, early.2)
]

pub answers_read : (base : Base) (at : Moment) (live : Live) (book : List BookEntry) (seen : Option ℕ) (script : List Stmt) (reply : List Item) → live.log.since ≡ None → whole_of live ≡ flushed_of live + length at.staged
    → reply ≡ items_of at.rows script → HasGone base at live book → AnswersAt (history_of base book) script reply [] (read_front at.staged seen live script)
answers_read base at live book seen script reply unbroken fronts reply_is is = elim (front_cases at.staged seen live script) [
  | inl whole ↦ inl (whole ∙ is.count_is unbroken)
  | inr early ↦ subst (AnswersAt (history_of base book) script reply []) (sym early.2) (answers_flushed base at live book script reply unbroken fronts reply_is early.0 is)
]

-- it is none after all that was taken, and none before what the pass has seen
pub front_taken : (staged : List (List Change)) (seen : Option ℕ) (live : Live) (script : List Stmt) → whole_of live ≡ flushed_of live + length staged → read_front staged seen live script ≤ whole_of live
front_taken staged seen live script fronts = elim (front_cases staged seen live script) [
  | inl whole ↦ omega (arith, whole)
  | inr early ↦ omega (arith, early.2, fronts)
]

pub front_reached : (staged : List (List Change)) (seen : Option ℕ) (live : Live) (script : List Stmt) → IsStaged seen (Some live) → IsNoLess seen (read_front staged seen live script)
front_reached staged None live script within = tt
front_reached staged (Some front) live script within = elim (front_cases staged (Some front) live script) [
  | inl whole ↦ omega (arith, whole, within)
  | inr early ↦ omega (arith, early.1, early.2)
]

-- it is the flushed one wherever it may be
seen_flushed : (seen : Option ℕ) (live : Live) → IsFlushed seen (Some live) → nat_le (unwrap_or seen 0) (flushed_of live) ≡ true
seen_flushed None live within = grind (arith, nat_tests)
seen_flushed (Some front) live within = grind (arith, nat_tests)

pub early : (at : Moment) (live : Live) (seen : Option ℕ) (script : List Stmt) → at.live ≡ Some live → AnswersEarly at seen script (read_front at.staged seen live script)
early at live seen script read = λ apart flushed.
    subst (λ (o : Option Live). IfSome o (λ l. read_front at.staged seen live script ≡ flushed_of l)) (sym read)
    (ap (λ (b : Bool). cond (b && list_all (reads_apart at.staged) script) (flushed_of live) (whole_of live)) (seen_flushed seen live (subst (IsFlushed seen) read flushed))
    ∙ ap (λ (b : Bool). cond b (flushed_of live) (whole_of live)) apart)

-- no script that writes is one of these
pub never_early : (at : Moment) (seen : Option ℕ) (rows : RowMap) (script : List Stmt) (commit : List Change) (result : Result Staged StoreNo) → commit ≡ commit_of rows script → commit ≢ []
    → IfOk result (λ staged. AnswersEarly at seen script staged.front)
never_early at seen rows script commit (Ok staged) is some = λ apart flushed. absurd (some (is ∙ reads_commit_nothing rows script (apart_reads at.staged script apart)))
never_early at seen rows script commit (Err fault) is some = tt
