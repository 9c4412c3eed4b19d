-- How the size of a table's rows changes with one of them.
use Rattle.std.{proofs.{Common.{◌≡◌, ℕ, ℤ, ◌+◌, ◌*◌, ◌^◌, ◌<◌, ◌≤◌, List, length, All, sum_by, arith}, lemmas.{List.Sums.sum_by-le, Map.Entries.{sum_by-insert_entry, sum_by-remove_entry, length-values_of}}}, specs.{Ordering.int_cmp, Cmp.int_cmp_total, Map.{keys_of, values_of, lookup, remove_entry}, BTreeMap.{is_at, insert_entry}, List.Sorted.IsStrictlySortedBy}}
use Rattle.pm_rows.specs.Size.{row_size, size_at}

-- what the rows of entries take
abbrev pub entries_size : List (ℤ × List ℕ) → ℕ
entries_size es = sum_by row_size (values_of es)

pub size-insert_entry : (es : List (ℤ × List ℕ)) (k : ℤ) (v : List ℕ) → IsStrictlySortedBy int_cmp (keys_of es)
    → entries_size (insert_entry int_cmp es k v) + size_at (lookup (is_at (int_cmp k)) es) ≡ entries_size es + row_size v
size-insert_entry es k v h = sum_by-insert_entry row_size int_cmp_total es k v h

pub size-remove_entry : (es : List (ℤ × List ℕ)) (k : ℤ)
    → entries_size (remove_entry (is_at (int_cmp k)) es) + size_at (lookup (is_at (int_cmp k)) es) ≡ entries_size es
size-remove_entry es k = sum_by-remove_entry row_size (is_at (int_cmp k)) es

-- values whose lengths fit a `usize`, fewer than 2^63 of them, take less than 2^128
pub size_small : (es : List (ℤ × List ℕ)) → All (λ value. length value < 2 ^ 64) (values_of es) → length es < 2 ^ 63 → entries_size es ≤ 2 ^ 63 * 2 ^ 64 + 2 ^ 63 * 12
size_small es lengths few =
    let each : All (λ value. row_size value ≤ 2 ^ 64 + 12) (values_of es) = λ k d l. omega (arith, lengths k d l) in
    let whole = sum_by-le row_size (2 ^ 64 + 12) (values_of es) each in
    omega (arith, whole, length-values_of es)
