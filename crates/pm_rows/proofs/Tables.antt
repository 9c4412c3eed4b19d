-- What an insertion and a removal in an ordered table are on the map that it stands for.
use Rattle.std.{proofs.{Common.{◌≡◌, ℕ, ℤ, ◌+◌, ◌^◌, ◌<◌, List, length, All, w64, FitsSigned, Some, None, sym, ap, subst, ◌∙◌, arith}, lemmas.{List.{get_or-map, Elements.{All-map, same_from_all_zip}}, Map.{Entries.{length-keys_of, length-values_of}, Views.{All-keys-insert_entry, All-values-insert_entry, All-map-remove_entry}}}}, specs.{Ordering.int_cmp, FinMap.{entries-from_sorted, len-entries, entries}, Str.IsUtf8, Map.{remove_entry, keys_of, values_of}, List.Sorted.IsStrictlySortedBy, BTreeMap.{BTreeMap, is_at, insert_entry, IsClone, IsOrdered, Updates, btree_map_len}}}
use Rattle.std.specs.FinMap as finite
use Rattle.std.specs.BTreeMap as tree
use Rattle.pm_rows.{specs.{Size.{row_size, size_at, size_of}, Table.{rows_in, IsTable}, Typed.IsTypedRow}, proofs.{Entries.{sorted_from_ordered, table_put, table_remove}, Sizes.{entries_size, size-insert_entry, size-remove_entry, size_small}}}

-- what `len` and `size` say of the map
pub len-rows_in : (m : BTreeMap ℤ (List ℕ)) → IsOrdered int_cmp m → finite.len (rows_in m) ≡ btree_map_len m
len-rows_in m h = len-entries (rows_in m) ∙ ap length (entries-from_sorted int_cmp m.entries (sorted_from_ordered m.entries h))

pub entries-rows_in : (m : BTreeMap ℤ (List ℕ)) → IsOrdered int_cmp m → entries (rows_in m) ≡ m.entries
entries-rows_in m h = entries-from_sorted int_cmp m.entries (sorted_from_ordered m.entries h)

pub size-rows_in : (m : BTreeMap ℤ (List ℕ)) (size : ℕ) → IsTable m size → size_of (rows_in m) ≡ size
size-rows_in m size h = ap entries_size (entries-rows_in m h.ordered) ∙ sym h.sum

-- rows are typed where their keys and their values are
rows_typed : (es : List (ℤ × List ℕ)) → All (FitsSigned w64) (keys_of es) → All IsUtf8 (values_of es) → All IsTypedRow es
rows_typed es in_range texts = λ k d inside. (
  subst (FitsSigned w64) (get_or-map (λ row. row.0) es k d d.0 inside) (in_range k d.0 (omega (arith, inside, length-keys_of es))),
  subst IsUtf8 (get_or-map (λ row. row.1) es k d d.1 inside) (texts k d.1 (omega (arith, inside, length-values_of es))),
)

pub typed-rows_in : (m : BTreeMap ℤ (List ℕ)) (size : ℕ) → IsTable m size → All IsTypedRow (entries (rows_in m))
typed-rows_in m size h = subst (All IsTypedRow) (sym (entries-rows_in m h.ordered)) (rows_typed m.entries h.in_range h.texts)

-- a row is of its types, and its value's length fits a `usize`
abbrev pub IsTypedShort : ℤ × List ℕ → Type 0
IsTypedShort row = FitsSigned w64 row.0 × IsUtf8 row.1 × (length row.1 < 2 ^ 64)

-- so a table of such rows is one
pub table_of : (m : BTreeMap ℤ (List ℕ)) (size : ℕ) → IsOrdered int_cmp m → size ≡ entries_size m.entries → All IsTypedShort m.entries → IsTable m size
table_of m size h sum typed = record {
  ordered = h;
  in_range = All-map (FitsSigned w64) (λ row. row.0) m.entries (λ k d l. (typed k d l).0);
  texts = All-map IsUtf8 (λ row. row.1) m.entries (λ k d l. (typed k d l).1);
  lengths = All-map (λ value. length value < 2 ^ 64) (λ row. row.1) m.entries (λ k d l. (typed k d l).2);
  sum = sum;
}

-- a table with the same entries stands for the same rows
pub same_table : (m n : BTreeMap ℤ (List ℕ)) (size : ℕ) → n.entries ≡ m.entries → IsTable m size → IsTable n size
same_table m n size same h = record {
  ordered = subst (λ es. IsStrictlySortedBy int_cmp (keys_of es)) (sym same) h.ordered;
  in_range = subst (λ es. All (FitsSigned w64) (keys_of es)) (sym same) h.in_range;
  texts = subst (λ es. All IsUtf8 (values_of es)) (sym same) h.texts;
  lengths = subst (λ es. All (λ value. length value < 2 ^ 64) (values_of es)) (sym same) h.lengths;
  sum = h.sum ∙ ap entries_size (sym same);
}

-- as has a table that is a clone
same_row : (x y : ℤ × List ℕ) → (y.0 ≡ x.0) × (y.1 ≡ x.1) → y ≡ x
same_row x y same = ap (λ k. (k, y.1)) same.0 ∙ ap (λ v. (x.0, v)) same.1

pub entries-clone : (m n : BTreeMap ℤ (List ℕ)) → IsClone (λ k l. l ≡ k) (λ v w. w ≡ v) m n → n.entries ≡ m.entries
entries-clone m n is = same_from_all_zip _ m.entries n.entries is same_row

module _ (m n : BTreeMap ℤ (List ℕ)) (size : ℕ) (is : IsTable m size) (stored key : ℤ) (same : stored ≡ key) where
  -- a value at a key
  pub put_rows : (v : List ℕ) → IsOrdered int_cmp n → Updates int_cmp m n stored (Some v) → rows_in n ≡ finite.insert (rows_in m) key v
  put_rows v h u = table_put m n stored v is.ordered h u ∙ ap (λ k. finite.insert (rows_in m) k v) same

  pub put_size : (v : List ℕ) → n.entries ≡ insert_entry int_cmp m.entries stored v → entries_size n.entries + size_at (tree.get int_cmp m stored) ≡ size + row_size v
  put_size v e = ap (λ es. entries_size es + size_at (tree.get int_cmp m stored)) e ∙ size-insert_entry m.entries stored v is.ordered ∙ ap (λ s. s + row_size v) (sym is.sum)

  pub put_table : (v : List ℕ) (total : ℕ) → FitsSigned w64 key → IsUtf8 v → IsOrdered int_cmp n → n.entries ≡ insert_entry int_cmp m.entries stored v → length v < 2 ^ 64
      → total + size_at (tree.get int_cmp m stored) ≡ size + row_size v → IsTable n total
  put_table v total fits text h e short t = record {
    ordered = h;
    in_range = subst (λ es. All (FitsSigned w64) (keys_of es)) (sym e) (All-keys-insert_entry int_cmp stored v (FitsSigned w64) m.entries is.in_range (subst (FitsSigned w64) (sym same) fits));
    texts = subst (λ es. All IsUtf8 (values_of es)) (sym e) (All-values-insert_entry int_cmp stored v IsUtf8 m.entries is.texts text);
    lengths = subst (λ es. All (λ value. length value < 2 ^ 64) (values_of es)) (sym e) (All-values-insert_entry int_cmp stored v (λ value. length value < 2 ^ 64) m.entries is.lengths short);
    sum = omega (arith, t, put_size v e);
  }

  pub put_fits : (v : List ℕ) → length m.entries < 2 ^ 63 → row_size v < 2 ^ 64 + 12 → size + row_size v < 2 ^ 128
  put_fits v few short = omega (arith, is.sum, size_small m.entries is.lengths few)

  -- a key taken out
  pub remove_rows : IsOrdered int_cmp n → Updates int_cmp m n stored None → rows_in n ≡ finite.remove (rows_in m) key
  remove_rows h u = table_remove m n stored is.ordered h u ∙ ap (λ k. finite.remove (rows_in m) k) same

  pub remove_size : n.entries ≡ remove_entry (is_at (int_cmp stored)) m.entries → entries_size n.entries + size_at (tree.get int_cmp m stored) ≡ size
  remove_size e = ap (λ es. entries_size es + size_at (tree.get int_cmp m stored)) e ∙ size-remove_entry m.entries stored ∙ sym is.sum

  pub remove_table : (total : ℕ) → IsOrdered int_cmp n → n.entries ≡ remove_entry (is_at (int_cmp stored)) m.entries
      → total + size_at (tree.get int_cmp m stored) ≡ size → IsTable n total
  remove_table total h e t = record {
    ordered = h;
    in_range = subst (λ es. All (FitsSigned w64) (keys_of es)) (sym e) (All-map-remove_entry (is_at (int_cmp stored)) (λ (row : ℤ × List ℕ). row.0) (FitsSigned w64) m.entries is.in_range);
    texts = subst (λ es. All IsUtf8 (values_of es)) (sym e) (All-map-remove_entry (is_at (int_cmp stored)) (λ (row : ℤ × List ℕ). row.1) IsUtf8 m.entries is.texts);
    lengths = subst (λ es. All (λ value. length value < 2 ^ 64) (values_of es)) (sym e) (All-map-remove_entry (is_at (int_cmp stored)) (λ (row : ℤ × List ℕ). row.1) (λ value. length value < 2 ^ 64) m.entries is.lengths);
    sum = omega (arith, t, remove_size e);
  }
