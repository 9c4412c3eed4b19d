-- Laws of rows as a finite map: their list by rising key, their size, and one change more.
use Rattle.std.{proofs.{Common.{◌≡◌, ℕ, ℤ, ◌+◌, Bool, true, false, cond, not, T, List, [], ◌∷◌, ◌++◌, length, None, Some, arith, refl, sym, ap, subst, ◌∙◌, Less, Equal, Greater}, lemmas.{Bool.{and_from, and_parts}, List.Sums.fold-append, Map.{Entries.sum_by-insert_entry, Keys.{sorted_head, sorted_tail}}}}, specs.{declared.cmp.Ordering.Ordering, Ordering.{int_cmp, eq_by_cmp, is_eq, is_lt, match_ordering}, Cmp.{int_cmp_total, alike_right, eq_by_cmp_equiv, tied_itself}, FinMap.{get, insert, remove, empty, keys, entries, find, from_sorted, entries_sorted, entries-from_sorted, entries-insert, get-entries, get-insert, get-remove, get-from_sorted, get_tied, same_map, int_cmp-IsAntisymmetric, is_sorted, put, len-entries, len-empty, Entries.{below_all, by_order, where_key, is_sorted-where_key, find-where_key}}, Map.{keys_of, values_of, lookup}, BTreeMap.{is_at, insert_entry}, List.{AllByRecursion, Sorted.IsStrictlySortedBy}, Prelude.sum_by}}
use Rattle.pm_facts.specs.{Bools.{cond-not, true_of}, Orders.is_less}
use Rattle.pm_rows.specs.{declared.commit.Change.Change, Fold.{RowMap, changed, committed}, Size.{row_size, size_at, size_of}}

-- two maps that answer alike are one
pub same_rows : (m n : RowMap) → ((q : ℤ) → get m q ≡ get n q) → m ≡ n
same_rows m n is = same_map int_cmp_total int_cmp-IsAntisymmetric m n is

-- ---- the rows by rising key

module _ {X : Type 0} where
  -- a look-up in the entries is the map's
  pub find-lookup : (q : ℤ) (es : List (ℤ × X)) → find int_cmp q es ≡ lookup (is_at (int_cmp q)) es
  find-lookup q [] = refl
  find-lookup q (e ∷ es) = ap (cond (eq_by_cmp int_cmp q e.0) (Some e.1)) (find-lookup q es)

  below_rest : (k : ℤ) (es : List (ℤ × X)) → AllByRecursion (λ y. int_cmp k y ≡ Less) (keys_of es) → below_all int_cmp k es ≡ true
  below_rest k [] h = refl
  below_rest k (e ∷ es) h = and_from _ _ (ap is_lt h.0) (below_rest k es h.1)

  -- entries whose keys rise are sorted
  pub rises : (es : List (ℤ × X)) → IsStrictlySortedBy int_cmp (keys_of es) → is_sorted int_cmp es ≡ true
  rises [] h = refl
  rises (e ∷ es) h = and_from _ _ (below_rest e.0 es (sorted_head int_cmp e.0 (keys_of es) h)) (rises es (sorted_tail int_cmp e.0 (keys_of es) h))

all_above : (k : ℤ) (es : List (ℤ × List ℕ)) → below_all int_cmp k es ≡ true → AllByRecursion (λ y. int_cmp k y ≡ Less) (keys_of es)
all_above k [] h = tt
all_above k (e ∷ es) h = let parts = and_parts _ _ h in (is_less (int_cmp k e.0) (subst T (sym parts.0) tt), all_above k es parts.1)

ordered : (es : List (ℤ × List ℕ)) → is_sorted int_cmp es ≡ true → IsStrictlySortedBy int_cmp (keys_of es)
unfolding IsStrictlySortedBy
ordered [] h = tt
ordered (e ∷ es) h = let parts = and_parts _ _ h in (all_above e.0 es parts.0, ordered es parts.1)

-- the keys of rows rise
keys_rise : (rows : RowMap) → IsStrictlySortedBy int_cmp (keys rows)
keys_rise rows = ordered (entries rows) (true_of _ (entries_sorted rows))

-- what a key has is what the list has there
get-lookup : (rows : RowMap) (key : ℤ) → get rows key ≡ lookup (is_at (int_cmp key)) (entries rows)
get-lookup rows key = get-entries rows key ∙ find-lookup key (entries rows)

-- a value put at a key, in the list
put-insert_entry : (k : ℤ) (v : List ℕ) (es : List (ℤ × List ℕ)) → put int_cmp k v es ≡ insert_entry int_cmp es k v
put-insert_entry k v [] = refl
put-insert_entry k v (e ∷ es) = elim (int_cmp k e.0) as (λ order. by_order order ((k, v) ∷ e ∷ es) ((e.0, v) ∷ es) (e ∷ put int_cmp k v es) ≡ match_ordering order ((k, v) ∷ e ∷ es) ((e.0, v) ∷ es) (e ∷ insert_entry int_cmp es k v)) [
  | Less ↦ refl
  | Equal ↦ refl
  | Greater ↦ ap (λ rest. e ∷ rest) (put-insert_entry k v es)
]

entries-put : (rows : RowMap) (key : ℤ) (value : List ℕ) → entries (insert rows key value) ≡ insert_entry int_cmp (entries rows) key value
entries-put rows key value = entries-insert int_cmp_total rows key value ∙ put-insert_entry key value (entries rows)

-- to take a key out is to drop its entry
pub entries-remove : (rows : RowMap) (key : ℤ) → entries (remove rows key) ≡ where_key int_cmp (λ other. not (eq_by_cmp int_cmp key other)) (entries rows)
entries-remove rows key =
    let others : ℤ → Bool = λ other. not (eq_by_cmp int_cmp key other) in
    let rest = where_key int_cmp others (entries rows) in
    let rise = is_sorted-where_key int_cmp others (entries rows) (entries_sorted rows) in
    let alike : (q x : ℤ) → int_cmp q x ≡ Equal → others x ≡ others q = λ q x t. ap (λ r. not (is_eq r)) (sym (alike_right int_cmp_total q x key t)) in
    ap entries (same_rows (remove rows key) (from_sorted rest) (λ q.
    get-remove int_cmp_total rows key q
    ∙ ap (λ b. cond b None (get rows q)) ((eq_by_cmp_equiv int_cmp_total).symm q key)
    ∙ sym (cond-not (eq_by_cmp int_cmp key q) (get rows q) None)
    ∙ ap (λ o. cond (others q) o None) (get-entries rows q)
    ∙ sym (get-from_sorted int_cmp rest q rise ∙ find-where_key int_cmp others q (alike q) (entries rows))))
    ∙ entries-from_sorted int_cmp rest rise

-- ---- the size

nothing : (es : List (ℤ × List ℕ)) → length es ≡ 0 → es ≡ []
nothing [] h = refl
nothing (e ∷ es) h = absurd (omega arith)

pub size-empty : size_of empty ≡ 0
size-empty = ap (λ (es : List (ℤ × List ℕ)). sum_by row_size (values_of es)) (nothing (entries empty) (sym (len-entries empty) ∙ len-empty int_cmp (List ℕ)))

-- a row that is put takes its size, and gives up what its key took
pub size-insert : (rows : RowMap) (key : ℤ) (value : List ℕ) → size_of (insert rows key value) + size_at (get rows key) ≡ size_of rows + row_size value
size-insert rows key value =
    ap (λ es. sum_by row_size (values_of es) + size_at (get rows key)) (entries-put rows key value)
    ∙ ap (λ w. sum_by row_size (values_of (insert_entry int_cmp (entries rows) key value)) + size_at w) (get-lookup rows key)
    ∙ sum_by-insert_entry row_size int_cmp_total (entries rows) key value (keys_rise rows)

tied : (x y : ℤ) → T (eq_by_cmp int_cmp x y) → int_cmp x y ≡ Equal
tied x y h = equal (int_cmp x y) h where
  equal : (r : Ordering) → T (is_eq r) → r ≡ Equal
  equal Less p = absurd p
  equal Equal p = refl
  equal Greater p = absurd p

-- a key without a row can be taken out with no effect
remove-missing : (rows : RowMap) (key : ℤ) → get rows key ≡ None → remove rows key ≡ rows
remove-missing rows key none = same_rows _ _ (λ q.
    get-remove int_cmp_total rows key q
    ∙ same (eq_by_cmp int_cmp q key) None (get rows q) (λ t. sym (get_tied int_cmp_total rows key q (tied key q (subst T ((eq_by_cmp_equiv int_cmp_total).symm q key) t)) ∙ none))) where
      same : {X : Type 0} (b : Bool) (x y : X) → (T b → x ≡ y) → cond b x y ≡ y
      same true x y h = h tt
      same false x y h = refl

-- a row that is taken out and put back
insert-remove : (rows : RowMap) (key : ℤ) (value : List ℕ) → get rows key ≡ Some value → insert (remove rows key) key value ≡ rows
insert-remove rows key value some = same_rows _ _ (λ q.
    get-insert int_cmp_total (remove rows key) key value q ∙ ap (cond (eq_by_cmp int_cmp q key) (Some value)) (get-remove int_cmp_total rows key q)
    ∙ twice (eq_by_cmp int_cmp q key) (Some value) None (get rows q) (λ t. sym (get_tied int_cmp_total rows key q (tied key q (subst T ((eq_by_cmp_equiv int_cmp_total).symm q key) t)) ∙ some))) where
      twice : {X : Type 0} (b : Bool) (x y z : X) → (T b → x ≡ z) → cond b x (cond b y z) ≡ z
      twice true x y z h = h tt
      twice false x y z h = refl

get-removed : (rows : RowMap) (key : ℤ) → get (remove rows key) key ≡ None
get-removed rows key = get-remove int_cmp_total rows key key ∙ ap (λ r. cond (is_eq r) None (get rows key)) (tied_itself int_cmp_total key)

-- a key that is taken out gives up what it took
pub size-remove : (rows : RowMap) (key : ℤ) → size_of (remove rows key) + size_at (get rows key) ≡ size_of rows
size-remove rows key =
    elim (get rows key) as (λ o. get rows key ≡ o → size_of (remove rows key) + size_at o ≡ size_of rows) [
      | None ↦ λ none. omega (arith, ap size_of (remove-missing rows key none))
      | Some value ↦ λ some. omega (arith, size-insert (remove rows key) key value, ap size_at (get-removed rows key), ap size_of (insert-remove rows key value some))
    ] refl

-- ---- one change more

pub committed-push : (rows : RowMap) (changes : List Change) (change : Change) → committed rows (changes ++ change ∷ []) ≡ changed (committed rows changes) change
committed-push rows changes change = fold-append changed rows changes (change ∷ [])
