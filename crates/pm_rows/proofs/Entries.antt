-- What the entries of an ordered table are as a finite map.
use Rattle.std.{proofs.{Common.{◌≡◌, ℤ, Bool, true, cond, T, List, [], ◌∷◌, Option, Some, None, sym, ap, subst, ◌∙◌}, lemmas.Cmp.eq_by_cmp_equiv}, specs.{Prelude.fold, Ordering.{int_cmp, eq_by_cmp}, Cmp.int_cmp_total, FinMap.{FinMap, from_sorted, is_sorted, same_map, int_cmp-IsAntisymmetric, get-from_sorted, get-insert, get-remove, get-empty}, Map.{keys_of, lookup, update, update_all}, List.Sorted.IsStrictlySortedBy, BTreeMap.{BTreeMap, is_at, IsFromIterResult, IsOrdered, Updates}}}
use Rattle.std.specs.FinMap as map
use Rattle.std.specs.BTreeMap as tree
use Rattle.pm_rows.proofs.RowLaws.{find-lookup, rises}

holds : (b : Bool) → b ≡ true → T b
holds b e = subst T (sym e) tt

module _ {X : Type 0} where
  -- entries whose keys rise make a map
  pub sorted_from_ordered : (es : List (ℤ × X)) → IsStrictlySortedBy int_cmp (keys_of es) → T (is_sorted int_cmp es)
  sorted_from_ordered es h = holds _ (rises es h)

  -- the map of the entries answers as the table does
  pub get-of_table : (m : BTreeMap ℤ X) (q : ℤ) → IsOrdered int_cmp m → map.get (from_sorted {R = int_cmp} m.entries) q ≡ tree.get int_cmp m q
  get-of_table m q h = get-from_sorted int_cmp m.entries q (sorted_from_ordered m.entries h) ∙ find-lookup q m.entries

  -- and is the one map that does
  pub same_as_table : (m : BTreeMap ℤ X) (f : FinMap int_cmp X) → IsOrdered int_cmp m → ((q : ℤ) → tree.get int_cmp m q ≡ map.get f q) → from_sorted {R = int_cmp} m.entries ≡ f
  same_as_table m f h is = same_map int_cmp_total int_cmp-IsAntisymmetric _ f (λ q. get-of_table m q h ∙ is q)

  -- an empty table is the empty map
  pub table_empty : (m : BTreeMap ℤ X) → IsOrdered int_cmp m → m.entries ≡ [] → from_sorted {R = int_cmp} m.entries ≡ map.empty
  table_empty m h e = same_as_table m map.empty h (λ q. ap (lookup (is_at (int_cmp q))) e ∙ sym (get-empty int_cmp q))

  turned : (k q : ℤ) (a b : Option X) → cond (is_at (int_cmp k) q) a b ≡ cond (eq_by_cmp int_cmp q k) a b
  turned k q a b = ap (λ t. cond t a b) ((eq_by_cmp_equiv int_cmp_total).symm k q)

  -- a table with a value put at a key
  pub table_put : (m n : BTreeMap ℤ X) (k : ℤ) (v : X) → IsOrdered int_cmp m → IsOrdered int_cmp n → Updates int_cmp m n k (Some v) → from_sorted {R = int_cmp} n.entries ≡ map.insert (from_sorted m.entries) k v
  table_put m n k v hm hn u = same_as_table n _ hn (λ q. u.0 q ∙ turned k q _ _ ∙ ap (cond (eq_by_cmp int_cmp q k) (Some v)) (sym (get-of_table m q hm)) ∙ sym (get-insert int_cmp_total _ k v q))

  -- a table with a key taken out
  pub table_remove : (m n : BTreeMap ℤ X) (k : ℤ) → IsOrdered int_cmp m → IsOrdered int_cmp n → Updates int_cmp m n k None → from_sorted {R = int_cmp} n.entries ≡ map.remove (from_sorted m.entries) k
  table_remove m n k hm hn u = same_as_table n _ hn (λ q. u.0 q ∙ turned k q _ _ ∙ ap (cond (eq_by_cmp int_cmp q k) None) (sym (get-of_table m q hm)) ∙ sym (get-remove int_cmp_total _ k q))

  -- what a list of entries leaves at a key, inserted in turn
  inserted_at : (es : List (ℤ × X)) (before : ℤ → Option X) (f : FinMap int_cmp X) (q : ℤ) → before q ≡ map.get f q
      → update_all (eq_by_cmp int_cmp) before es q ≡ map.get (fold (λ g (e : ℤ × X). map.insert g e.0 e.1) f es) q
  inserted_at [] before f q same = same
  inserted_at (e ∷ es) before f q same =
      inserted_at es (update (eq_by_cmp int_cmp) before e.0 (Some e.1)) (map.insert f e.0 e.1) q
      (turned e.0 q _ _ ∙ ap (cond (eq_by_cmp int_cmp q e.0) (Some e.1)) same ∙ sym (get-insert int_cmp_total f e.0 e.1 q))

  -- a table made of a list of entries
  pub table_made : (m : BTreeMap ℤ X) (es : List (ℤ × X)) → IsFromIterResult int_cmp es m → from_sorted {R = int_cmp} m.entries ≡ fold (λ g (e : ℤ × X). map.insert g e.0 e.1) map.empty es
  table_made m es made = same_as_table m _ made.1 (λ q. made.0 q ∙ inserted_at es (λ _. None) map.empty q (sym (get-empty int_cmp q)))
