-- What entries by `String` are as a finite map by the bytes of these.
use Rattle.std.{proofs.{Common.{◌≡◌, ℕ, true, cond, T, List, [], ◌∷◌, length, Option, Some, String, refl, sym, ap, subst, ◌∙◌, Less}, lemmas.{Bool.and_from, Cmp.{eq_by_cmp_equiv, nat_list_cmp_total}, List.length-map, Map.{Keys.{sorted_head, sorted_tail}, Text.{btree_map_updates_text, is_eq-slice_cmp}}}}, specs.{Ordering.{nat_cmp, is_lt}, Cmp.Lexicographic.slice_cmp, String.{string_cmp, string_bytes}, Str.bytes_eq, FinMap.{entries, entries-from_sorted, find, from_sorted, get, get-from_sorted, is_sorted, len, len-entries, empty, get-empty, Entries.below_all}, List.{AllByRecursion, Sorted.IsStrictlySortedBy}, Map.{keys_of, lookup}, BTreeMap.{BTreeMap, IsOrdered, UpdatesBy, btree_map_len, get_by_text, is_at}}}
use Rattle.pm_rows.specs.Fold.{RowMap}
use Rattle.pm_tables.{specs.{Tables.{name_cmp, with_table}, Inside.{named, tables_in}}, proofs.{ByItself.{same_name, get-with}, Sums.same_tables}}

turned : (name q : List ℕ) (a b : Option RowMap) → cond (bytes_eq name q) a b ≡ cond (same_name q name) a b
turned name q a b = ap (λ t. cond t a b) (sym (is_eq-slice_cmp name q) ∙ (eq_by_cmp_equiv nat_list_cmp_total).symm name q)

module _ {Z : Type 0} where
  below_rest : (k : String Z) (es : List (String Z × RowMap)) → AllByRecursion (λ y. string_cmp k y ≡ Less) (keys_of es) → below_all name_cmp (string_bytes k) (named es) ≡ true
  below_rest k [] h = refl
  below_rest k (e ∷ es) h = and_from _ _ (ap is_lt h.0) (below_rest k es h.1)

  rises : (es : List (String Z × RowMap)) → IsStrictlySortedBy string_cmp (keys_of es) → is_sorted name_cmp (named es) ≡ true
  rises [] h = refl
  rises (e ∷ es) h = and_from _ _ (below_rest e.0 es (sorted_head string_cmp e.0 (keys_of es) h)) (rises es (sorted_tail string_cmp e.0 (keys_of es) h))

  sorted : (es : List (String Z × RowMap)) → IsStrictlySortedBy string_cmp (keys_of es) → T (is_sorted name_cmp (named es))
  sorted es h = subst T (sym (rises es h)) tt

  find-named : (q : List ℕ) (es : List (String Z × RowMap)) → find name_cmp q (named es) ≡ lookup (is_at (λ k. slice_cmp nat_cmp q (string_bytes k))) es
  find-named q [] = refl
  find-named q (e ∷ es) = ap (cond (same_name q (string_bytes e.0)) (Some e.1)) (find-named q es)

  pub entries-in : (m : BTreeMap (String Z) RowMap) → IsOrdered string_cmp m → entries (tables_in m) ≡ named m.entries
  entries-in m h = entries-from_sorted name_cmp (named m.entries) (sorted m.entries h)

  pub len-in : (m : BTreeMap (String Z) RowMap) → IsOrdered string_cmp m → len (tables_in m) ≡ btree_map_len m
  len-in m h = len-entries (tables_in m) ∙ ap length (entries-in m h) ∙ length-map m.entries (λ entry. (string_bytes entry.0, entry.1))

  pub get-in : (m : BTreeMap (String Z) RowMap) (q : List ℕ) → IsOrdered string_cmp m → get (tables_in m) q ≡ get_by_text m q
  get-in m q h = get-from_sorted name_cmp (named m.entries) q (sorted m.entries h) ∙ find-named q m.entries

  pub in-empty : (m : BTreeMap (String Z) RowMap) → IsOrdered string_cmp m → m.entries ≡ [] → tables_in m ≡ empty
  in-empty m h e = same_tables _ _ (λ q. get-in m q h ∙ ap (lookup (is_at (λ k. slice_cmp nat_cmp q (string_bytes k)))) e ∙ sym (get-empty name_cmp q))

  pub in-unchanged : (m n : BTreeMap (String Z) RowMap) → n.entries ≡ m.entries → tables_in n ≡ tables_in m
  in-unchanged m n e = ap (λ es. from_sorted (named es)) e

  -- an update of an entry is one of the map
  pub in-updated : (m n : BTreeMap (String Z) RowMap) (name : List ℕ) (w : Option RowMap) → IsOrdered string_cmp m → IsOrdered string_cmp n
      → UpdatesBy string_cmp (λ k. slice_cmp nat_cmp name (string_bytes k)) m n w → tables_in n ≡ with_table (tables_in m) name w
  in-updated m n name w hm hn u = same_tables _ _ (λ q.
      get-in n q hn
      ∙ btree_map_updates_text name m n w u q
      ∙ turned name q w (get_by_text m q)
      ∙ ap (cond (same_name q name) w) (sym (get-in m q hm))
      ∙ sym (get-with (tables_in m) name w q))
