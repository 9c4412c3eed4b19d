-- What a script keeps from statement to statement: rows within their limits, short values, and no more changes than
-- statements that write.
use Rattle.std.{proofs.{Common.{◌≡◌, ℕ, ℤ, ◌+◌, ◌-◌, ◌≤◌, ◌<◌, Bool, true, false, cond, List, [], ◌∷◌, length, length-append, Some, None, fold, nat_lt, nat_le, refl, sym, ap, subst, ◌∙◌, arith}, lemmas.{List.{Elements.{All-nil, All-cons, All-head, All-tail, All-append, All-push, All-same, All-filter}, Sums.sum_by-cons}, Bool.Decides.nat_tests}}, specs.{Prelude.{All, count_by}, Option.option_to_list, declared.cmp.Ordering.TheVariants.{Less, Equal, Greater}, Ordering.{int_cmp, eq_by_cmp}, Cmp.int_cmp_total, FinMap.{get, insert, remove, contains_key, len, entries, find, put, entries-insert, get-entries, len-insert, len-remove, Entries.by_order}}}
use Rattle.pm_rows.{specs.{Fold.{RowMap, changed}, Limits.{max_rows, max_rows_bytes, max_value_bytes, IsWithinRowLimits}, declared.commit.Change.{Change, TheVariants.{Put, Del}}}, proofs.RowLaws.{entries-remove, size-remove}}
use Rattle.pm_sql.specs.{declared.stmt.Stmt.Stmt, Limits.{is_writing, HasShortValue}}
use Rattle.pm_sql.specs.declared.stmt.Stmt.TheVariants as stmts
use Rattle.pm_query.specs.{declared.{item.Item.Item, effect.Effect.Effect}, Answer.{Progress, answers, makes, is_full, is_too_large, row_at, insertion, replacement, deletion, effect_of, with_change, has_failed, advanced, after_statement}, Limits.{IsShortRow, HasShortRows, IsShortChange, HasShortValues}}
use Rattle.pm_query.specs.declared.item.Item.TheVariants as items

-- ---- rows with one change

short_put : (key : ℤ) (value : List ℕ) (es : List (ℤ × List ℕ)) → length value ≤ max_value_bytes → All IsShortRow es → All IsShortRow (put int_cmp key value es)
short_put key value [] short h = All-cons IsShortRow (key, value) [] short h
short_put key value (e ∷ es) short h =
    let rest = All-tail IsShortRow e es h in
    elim (int_cmp key e.0) as (λ r. All IsShortRow (by_order r ((key, value) ∷ e ∷ es) ((e.0, value) ∷ es) (e ∷ put int_cmp key value es))) [
      | Less ↦ All-cons IsShortRow (key, value) (e ∷ es) short h
      | Equal ↦ All-cons IsShortRow (e.0, value) es short rest
      | Greater ↦ All-cons IsShortRow e (put int_cmp key value es) (All-head IsShortRow e es h) (short_put key value es short rest)
    ]

short_insert : (rows : RowMap) (key : ℤ) (value : List ℕ) → length value ≤ max_value_bytes → HasShortRows rows → HasShortRows (insert rows key value)
short_insert rows key value short h = All-same IsShortRow _ _ (entries-insert int_cmp_total rows key value) (short_put key value (entries rows) short h)

short_remove : (rows : RowMap) (key : ℤ) → HasShortRows rows → HasShortRows (remove rows key)
short_remove rows key h = All-same IsShortRow _ _ (entries-remove rows key) (All-filter _ IsShortRow (entries rows) h)

short_found : (key : ℤ) (es : List (ℤ × List ℕ)) → All IsShortRow es → All IsShortRow (row_at key (find int_cmp key es))
short_found key [] h = h
short_found key (e ∷ es) h =
    elim (eq_by_cmp int_cmp key e.0) as (λ b. All IsShortRow (row_at key (cond b (Some e.1) (find int_cmp key es)))) [
      | true ↦ All-cons IsShortRow (key, e.1) [] (All-head IsShortRow e es h) (All-nil IsShortRow)
      | false ↦ short_found key es (All-tail IsShortRow e es h)
    ]

short_row_at : (rows : RowMap) (key : ℤ) → HasShortRows rows → All IsShortRow (row_at key (get rows key))
short_row_at rows key h = All-same IsShortRow _ _ (ap (row_at key) (get-entries rows key)) (short_found key (entries rows) h)

removed_within : (rows : RowMap) (key : ℤ) → IsWithinRowLimits rows → IsWithinRowLimits (remove rows key)
removed_within rows key h = record {
  few = fewer (contains_key rows key) _ _ (len-remove int_cmp_total rows key) h.few;
  small = omega (arith, size-remove rows key, h.small);
} where
  fewer : (b : Bool) (n m : ℕ) → n ≡ cond b (m - 1) m → m ≤ max_rows → n ≤ max_rows
  fewer true n m e h = omega (arith, e, h)
  fewer false n m e h = omega (arith, e, h)

below : (n : ℕ) → nat_le max_rows n ≡ false → n < max_rows
below n e = grind (arith, nat_tests, e)

at_most : (n : ℕ) → nat_lt max_rows_bytes n ≡ false → n ≤ max_rows_bytes
at_most n e = grind (arith, nat_tests, e)

-- a row more, where there is room for it, and a new value
added_within : (rows : RowMap) (key : ℤ) (value : List ℕ) → is_full rows ≡ false → is_too_large (insert rows key value) ≡ false → IsWithinRowLimits (insert rows key value)
added_within rows key value room small = record {
  few = more (contains_key rows key) _ _ (len-insert int_cmp_total rows key value) (below _ room);
  small = at_most _ small;
} where
  more : (b : Bool) (n m : ℕ) → n ≡ cond b m (m + 1) → m < max_rows → n ≤ max_rows
  more true n m e h = omega (arith, e, h)
  more false n m e h = omega (arith, e, h)

replaced_within : (rows : RowMap) (key : ℤ) (value : List ℕ) → contains_key rows key ≡ true → is_too_large (insert rows key value) ≡ false → IsWithinRowLimits rows → IsWithinRowLimits (insert rows key value)
replaced_within rows key value here small h = record {
  few = subst (λ n. n ≤ max_rows) (sym (len-insert int_cmp_total rows key value ∙ ap (λ b. cond b (len rows) (len rows + 1)) here)) h.few;
  small = at_most _ small;
}

-- ---- effects

-- what an effect keeps of the rows, where its statement makes at most so many changes
pub record IsKeeping (rows : RowMap) (writing : ℕ) (effect : Effect) : Type 0 where
  pub within : IsWithinRowLimits rows → IsWithinRowLimits (with_change rows effect.change)
  pub rows_short : HasShortRows rows → HasShortRows (with_change rows effect.change)
  pub item_short : HasShortRows rows → HasShortValues effect.item
  pub changes_short : All IsShortChange (option_to_list effect.change)
  pub few : length (option_to_list effect.change) ≤ writing

answer_keeps : (rows : RowMap) (writing : ℕ) (item : Item) → (HasShortRows rows → HasShortValues item) → IsKeeping rows writing (answers item)
answer_keeps rows writing item short = record {
  within = λ h. h;
  rows_short = λ h. h;
  item_short = short;
  changes_short = All-nil IsShortChange;
  few = omega arith;
}

change_keeps : (rows : RowMap) (item : Item) (change : Change) → HasShortValues item → IsShortChange change → (IsWithinRowLimits rows → IsWithinRowLimits (changed rows change))
    → (HasShortRows rows → HasShortRows (changed rows change)) → IsKeeping rows 1 (makes item change)
change_keeps rows item change shows short within rows_short = record {
  within = within;
  rows_short = rows_short;
  item_short = λ _. shows;
  changes_short = All-cons IsShortChange change [] short (All-nil IsShortChange);
  few = omega arith;
}

insertion_keeps : (rows : RowMap) (key : ℤ) (value : List ℕ) → length value ≤ max_value_bytes → IsKeeping rows 1 (insertion rows key value)
insertion_keeps rows key value short = cases (contains_key rows key) (is_full rows) (is_too_large (insert rows key value)) refl refl where
  cases : (here full large : Bool) → is_full rows ≡ full → is_too_large (insert rows key value) ≡ large
      → IsKeeping rows 1 (cond here (answers (items.Duplicate key)) (cond full (answers items.TableFull) (cond large (answers items.RowsTooLarge) (makes items.Insert (Put key value)))))
  cases true full large room small = answer_keeps rows 1 (items.Duplicate key) (λ _. tt)
  cases false true large room small = answer_keeps rows 1 items.TableFull (λ _. tt)
  cases false false true room small = answer_keeps rows 1 items.RowsTooLarge (λ _. tt)
  cases false false false room small = change_keeps rows items.Insert (Put key value) tt short (λ _. added_within rows key value room small) (short_insert rows key value short)

replacement_keeps : (rows : RowMap) (key : ℤ) (value : List ℕ) → length value ≤ max_value_bytes → IsKeeping rows 1 (replacement rows key value)
replacement_keeps rows key value short = cases (contains_key rows key) (is_too_large (insert rows key value)) refl refl where
  cases : (here large : Bool) → contains_key rows key ≡ here → is_too_large (insert rows key value) ≡ large
      → IsKeeping rows 1 (cond here (cond large (answers items.RowsTooLarge) (makes (items.Update 1) (Put key value))) (answers (items.Update 0)))
  cases true true is small = answer_keeps rows 1 items.RowsTooLarge (λ _. tt)
  cases true false is small = change_keeps rows (items.Update 1) (Put key value) tt short (replaced_within rows key value is small) (short_insert rows key value short)
  cases false large is small = answer_keeps rows 1 (items.Update 0) (λ _. tt)

deletion_keeps : (rows : RowMap) (key : ℤ) → IsKeeping rows 1 (deletion rows key)
deletion_keeps rows key = cases (contains_key rows key) where
  cases : (here : Bool) → IsKeeping rows 1 (cond here (makes (items.Delete 1) (Del key)) (answers (items.Delete 0)))
  cases true = change_keeps rows (items.Delete 1) (Del key) tt tt (removed_within rows key) (short_remove rows key)
  cases false = answer_keeps rows 1 (items.Delete 0) (λ _. tt)

-- how many statements of one write
abbrev pub writing_of : Stmt → ℕ
writing_of stmt = cond (is_writing stmt) 1 0

effect_keeps : (rows : RowMap) (stmt : Stmt) → HasShortValue stmt → IsKeeping rows (writing_of stmt) (effect_of rows stmt)
effect_keeps rows (stmts.Insert key value) short = insertion_keeps rows key value short
effect_keeps rows (stmts.Update key value) short = replacement_keeps rows key value short
effect_keeps rows (stmts.Delete key) short = deletion_keeps rows key
effect_keeps rows (stmts.Select None) short = answer_keeps rows 0 (items.Rows (entries rows)) (λ h. h)
effect_keeps rows (stmts.Select (Some key)) short = answer_keeps rows 0 (items.Rows (row_at key (get rows key))) (short_row_at rows key)
effect_keeps rows stmts.Count short = answer_keeps rows 0 (items.Count (len rows)) (λ _. tt)
effect_keeps rows (stmts.Sleep seconds) short = answer_keeps rows 0 items.Slept (λ _. tt)

-- ---- a script

-- what holds of the progress of a script on a table, after so many statements that write
pub record IsKept (table : RowMap) (writing : ℕ) (progress : Progress) : Type 0 where
  pub within : IsWithinRowLimits table → IsWithinRowLimits progress.rows
  pub rows_short : HasShortRows table → HasShortRows progress.rows
  pub items_short : HasShortRows table → All HasShortValues progress.items
  pub changes_short : All IsShortChange progress.changes
  pub few : length progress.changes ≤ writing

kept_advanced : (table : RowMap) (writing more : ℕ) (progress : Progress) (effect : Effect) → IsKept table writing progress → IsKeeping progress.rows more effect
    → IsKept table (writing + more) (advanced progress effect)
kept_advanced table writing more progress effect is keeps = record {
  within = λ h. keeps.within (is.within h);
  rows_short = λ h. keeps.rows_short (is.rows_short h);
  items_short = λ h. All-push HasShortValues progress.items effect.item (is.items_short h) (keeps.item_short (is.rows_short h));
  changes_short = All-append IsShortChange progress.changes (option_to_list effect.change) is.changes_short keeps.changes_short;
  few = omega (arith, length-append progress.changes (option_to_list effect.change), is.few, keeps.few);
}

kept_statement : (table : RowMap) (writing : ℕ) (progress : Progress) (stmt : Stmt) → HasShortValue stmt → IsKept table writing progress
    → IsKept table (writing + writing_of stmt) (after_statement progress stmt)
kept_statement table writing progress stmt short is =
    elim (has_failed progress) as (λ b. IsKept table (writing + writing_of stmt) (cond b progress (advanced progress (effect_of progress.rows stmt)))) [
      | true ↦ record { within = is.within; rows_short = is.rows_short; items_short = is.items_short; changes_short = is.changes_short; few = omega (arith, is.few) }
      | false ↦ kept_advanced table writing (writing_of stmt) progress (effect_of progress.rows stmt) is (effect_keeps progress.rows stmt short)
    ]

counted : (writing : ℕ) (stmt : Stmt) (script : List Stmt) → (writing + writing_of stmt) + count_by is_writing script ≡ writing + count_by is_writing (stmt ∷ script)
counted writing stmt script = omega (arith, sum_by-cons writing_of stmt script)

pub kept_script : (table : RowMap) (writing : ℕ) (progress : Progress) (script : List Stmt) → All HasShortValue script → IsKept table writing progress
    → IsKept table (writing + count_by is_writing script) (fold after_statement progress script)
kept_script table writing progress [] short is = record { within = is.within; rows_short = is.rows_short; items_short = is.items_short; changes_short = is.changes_short; few = omega (arith, is.few) }
kept_script table writing progress (stmt ∷ script) short is =
    let rest = kept_script table (writing + writing_of stmt) (after_statement progress stmt) script (All-tail HasShortValue stmt script short) (kept_statement table writing progress stmt (All-head HasShortValue stmt script short) is) in
    subst (λ n. IsKept table n (fold after_statement progress (stmt ∷ script))) (counted writing stmt script) rest
