-- Sums over the tables of a database, and what one table more or less adds to them.
use Rattle.std.{proofs.{Common.{◌≡◌, ℕ, suc, ◌+◌, ◌-◌, ◌≤◌, Bool, true, false, cond, T, List, [], ◌∷◌, length, Option, Some, None, arith, refl, sym, ap, subst, ◌∙◌, sum_by}, lemmas.{Bool.and_parts, Cmp.nat_list_cmp_total, List.Sums.{sum_by-cons}}}, specs.{declared.cmp.Ordering.{Ordering, TheVariants.{Less, Equal, Greater}}, Option.is_some, Ordering.is_eq, Cmp.tied_itself, FinMap.{entries, entries_sorted, entries-insert, get, get-entries, insert, remove, get-insert, get-remove, get_tied, find, put, is_sorted, len, len-insert, len-remove, contains_key, same_map, nat_cmp-IsAntisymmetric, slice_cmp-IsAntisymmetric, Entries.{by_order, length-put}}}}
use Rattle.pm_rows.specs.{pm_facts.Bools.true_of, Fold.RowMap}
use Rattle.pm_tables.{specs.{Tables.{TableMap, name_cmp, with_table}, Sizes.NamedTable}, proofs.ByItself.{same_name, tied}}

only_equal : (x y : List ℕ) → name_cmp x y ≡ Equal → x ≡ y
only_equal = slice_cmp-IsAntisymmetric nat_cmp-IsAntisymmetric

-- two databases that answer alike are one
pub same_tables : (m n : TableMap) → ((q : List ℕ) → get m q ≡ get n q) → m ≡ n
same_tables m n is = same_map nat_list_cmp_total only_equal m n is

two : {X : Type 0} (b : Bool) (x y z : X) → (T b → x ≡ z) → cond b x (cond b y z) ≡ z
two true x y z h = h tt
two false x y z h = refl

one : {X : Type 0} (b : Bool) (x y : X) → (T b → x ≡ y) → cond b x y ≡ y
one true x y h = h tt
one false x y h = refl

-- a name without a table can be taken out with no effect
pub remove-missing : (tables : TableMap) (name : List ℕ) → get tables name ≡ None → remove tables name ≡ tables
remove-missing tables name none = same_tables _ _ (λ q.
    get-remove nat_list_cmp_total tables name q
    ∙ one (same_name q name) None (get tables q) (λ t. sym (sym (get_tied nat_list_cmp_total tables q name (tied q name t)) ∙ none)))

-- a table that is taken out and put back
insert-remove : (tables : TableMap) (name : List ℕ) (rows : RowMap) → get tables name ≡ Some rows → insert (remove tables name) name rows ≡ tables
insert-remove tables name rows some = same_tables _ _ (λ q.
    get-insert nat_list_cmp_total (remove tables name) name rows q ∙ ap (cond (same_name q name) (Some rows)) (get-remove nat_list_cmp_total tables name q)
    ∙ two (same_name q name) (Some rows) None (get tables q) (λ t. sym (sym (get_tied nat_list_cmp_total tables q name (tied q name t)) ∙ some)))

get-removed : (tables : TableMap) (name : List ℕ) → get (remove tables name) name ≡ None
get-removed tables name = get-remove nat_list_cmp_total tables name name ∙ ap (λ r. cond (is_eq r) None (get tables name)) (tied_itself nat_list_cmp_total name)

module _ (f : NamedTable → ℕ) where
  -- what the table of a name adds, if there is one
  abbrev pub at : List ℕ → Option RowMap → ℕ
  at name None = 0
  at name (Some rows) = f (name, rows)

  same : (x y : List ℕ) (rows : RowMap) → name_cmp x y ≡ Equal → f (y, rows) ≡ f (x, rows)
  same x y rows is = ap (λ (n : List ℕ). f (n, rows)) (sym (only_equal x y is))

  sorted_tail : (e : NamedTable) (es : List NamedTable) → T (is_sorted name_cmp (e ∷ es)) → T (is_sorted name_cmp es)
  sorted_tail e es h = subst T (sym (and_parts _ _ (true_of _ h)).1) tt

  longer : (n : ℕ) (x : Option RowMap) → suc (suc n) ≡ cond (is_some x) (suc n) (suc n + 1) → x ≡ None
  longer n None is = refl
  longer n (Some x) is = absurd (omega (arith, is))

  -- a name below the first has no entry
  none_below : (k : List ℕ) (v : RowMap) (e : NamedTable) (es : List NamedTable) → T (is_sorted name_cmp (e ∷ es)) → name_cmp k e.0 ≡ Less → find name_cmp k es ≡ None
  none_below k v e es h p =
      longer (length es) (find name_cmp k es)
      (subst (λ (r : Ordering). length (by_order r ((k, v) ∷ e ∷ es) ((e.0, v) ∷ es) (e ∷ put name_cmp k v es)) ≡ cond (is_some (cond (is_eq r) (Some e.1) (find name_cmp k es))) (suc (length es)) (suc (length es) + 1)) p (length-put name_cmp nat_list_cmp_total k v (e ∷ es) h))

  sum_zero : (n : ℕ) → n + 0 ≡ n
  sum_zero n = omega arith

  sum-put : (k : List ℕ) (v : RowMap) (es : List NamedTable) → T (is_sorted name_cmp es) → sum_by f (put name_cmp k v es) + at k (find name_cmp k es) ≡ sum_by f es + f (k, v)
  sum-put k v [] h = sum_zero (sum_by f ((k, v) ∷ [])) ∙ omega (arith, sum_by-cons f (k, v) [])
  sum-put k v (e ∷ es) h =
      elim (name_cmp k e.0) as (λ r. name_cmp k e.0 ≡ r → sum_by f (by_order r ((k, v) ∷ e ∷ es) ((e.0, v) ∷ es) (e ∷ put name_cmp k v es)) + at k (cond (is_eq r) (Some e.1) (find name_cmp k es)) ≡ sum_by f (e ∷ es) + f (k, v)) [
        | Less ↦ λ p. omega (arith, sum_by-cons f (k, v) (e ∷ es), ap (at k) (none_below k v e es h p))
        | Equal ↦ λ p. omega (arith, sum_by-cons f (e.0, v) es, sum_by-cons f e es, same k e.0 v p, same k e.0 e.1 p)
        | Greater ↦ λ p. omega (arith, sum_by-cons f e (put name_cmp k v es), sum_by-cons f e es, sum-put k v es (sorted_tail e es h))
      ] refl

  sum-insert : (tables : TableMap) (name : List ℕ) (rows : RowMap) → sum_by f (entries (insert tables name rows)) + at name (get tables name) ≡ sum_by f (entries tables) + f (name, rows)
  sum-insert tables name rows =
      ap (λ (es : List NamedTable). sum_by f es + at name (get tables name)) (entries-insert nat_list_cmp_total tables name rows)
      ∙ ap (λ (t : Option RowMap). sum_by f (put name_cmp name rows (entries tables)) + at name t) (get-entries tables name)
      ∙ sum-put name rows (entries tables) (entries_sorted tables)

  sum-remove : (tables : TableMap) (name : List ℕ) → sum_by f (entries (remove tables name)) + at name (get tables name) ≡ sum_by f (entries tables)
  sum-remove tables name =
      elim (get tables name) as (λ o. get tables name ≡ o → sum_by f (entries (remove tables name)) + at name o ≡ sum_by f (entries tables)) [
        | None ↦ λ none. omega (arith, ap (λ (m : TableMap). sum_by f (entries m)) (remove-missing tables name none))
        | Some rows ↦ λ some. omega (arith, sum-insert (remove tables name) name rows, ap (at name) (get-removed tables name), ap (λ (m : TableMap). sum_by f (entries m)) (insert-remove tables name rows some))
      ] refl

  -- another table under a name, or none, adds what it counts and gives up what stood there
  pub sum-with : (tables : TableMap) (name : List ℕ) (left : Option RowMap) → sum_by f (entries (with_table tables name left)) + at name (get tables name) ≡ sum_by f (entries tables) + at name left
  sum-with tables name (Some rows) = sum-insert tables name rows
  sum-with tables name None = omega (arith, sum-remove tables name)

longer_by_one : (b : Bool) (n : ℕ) → cond b n (n + 1) ≤ n + 1
longer_by_one true n = omega arith
longer_by_one false n = omega arith

shorter_by_one : (b : Bool) (n : ℕ) → cond b (n - 1) n ≤ n + 1
shorter_by_one true n = omega arith
shorter_by_one false n = omega arith

pub len-with : (tables : TableMap) (name : List ℕ) (left : Option RowMap) → len (with_table tables name left) ≤ len tables + 1
len-with tables name (Some rows) = omega (arith, len-insert nat_list_cmp_total tables name rows, longer_by_one (contains_key tables name) (len tables))
len-with tables name None = omega (arith, len-remove nat_list_cmp_total tables name, shorter_by_one (contains_key tables name) (len tables))
