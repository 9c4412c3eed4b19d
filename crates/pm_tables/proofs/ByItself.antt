-- What commits leave of each table.
use Rattle.std.{proofs.{Common.{◌≡◌, ℕ, Bool, true, false, cond, T, List, [], ◌∷◌, Option, Some, None, refl, ap, ◌∙◌}, lemmas.Cmp.nat_list_cmp_total}, specs.{declared.cmp.Ordering.{Ordering, TheVariants.{Less, Equal, Greater}}, Ordering.{eq_by_cmp, is_eq}, FinMap.{get, get-insert, get-remove, get_tied}}}
use Rattle.pm_rows.specs.Fold.{RowMap}
use Rattle.pm_tables.specs.{declared.change.TableChange.TableChange, Tables.{TableMap, name_cmp, name_of, left_of, with_table, changed, left_at}, Laws.EachTableByItself}

-- whether two names are equal
abbrev pub same_name : List ℕ → List ℕ → Bool
same_name = eq_by_cmp name_cmp

pub tied : (x y : List ℕ) → T (same_name x y) → name_cmp x y ≡ Equal
tied x y h = equal (name_cmp x y) h where
  equal : (r : Ordering) → T (is_eq r) → r ≡ Equal
  equal Less p = absurd p
  equal Equal p = refl
  equal Greater p = absurd p

pub get-with : (tables : TableMap) (name : List ℕ) (table : Option RowMap) (q : List ℕ) → get (with_table tables name table) q ≡ cond (same_name q name) table (get tables q)
get-with tables name (Some rows) q = get-insert nat_list_cmp_total tables name rows q
get-with tables name None q = get-remove nat_list_cmp_total tables name q

-- under a tied name stands the same table
alike : (b : Bool) (one two : Option RowMap) (change : TableChange) → (T b → one ≡ two) → cond b (left_of one change) two ≡ cond b (left_of two change) two
alike true one two change same = ap (λ (t : Option RowMap). left_of t change) (same tt)
alike false one two change same = refl

pub get-changed : (tables : TableMap) (change : TableChange) (q : List ℕ)
    → get (changed tables change) q ≡ cond (same_name q (name_of change)) (left_of (get tables q) change) (get tables q)
get-changed tables change q =
    get-with tables (name_of change) (left_of (get tables (name_of change)) change) q
    ∙ alike (same_name q (name_of change)) (get tables (name_of change)) (get tables q) change
    (λ t. get_tied nat_list_cmp_total tables q (name_of change) (tied q (name_of change) t))

pub by_itself : EachTableByItself
by_itself tables [] name = refl
by_itself tables (change ∷ changes) name =
    by_itself (changed tables change) changes name
    ∙ ap (λ (t : Option RowMap). left_at name t changes) (get-changed tables change name)
