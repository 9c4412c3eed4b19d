-- What is kept of all tables, as one of them changes.
use Rattle.std.{proofs.{Common.{◌≡◌, ℕ, ◌+◌, ◌-◌, ◌*◌, ◌^◌, ◌<◌, ◌≤◌, min, List, [], ◌∷◌, Option, Some, None, String, sum_by, arith, refl, sym, ap, subst, ◌∙◌}, lemmas.List.Sums.{sum_by-cons, sum_by-le}}, specs.{FinMap.{entries, get, len, len-entries}, String.{string_cmp, string_bytes}, BTreeMap.{BTreeMap, IsOrdered, UpdatesBy, btree_map_len}, Ordering.nat_cmp, Cmp.Lexicographic.slice_cmp}}
use Rattle.pm_rows.specs.Fold.{RowMap}
use Rattle.pm_tables.{specs.{declared.totals.Totals.Totals, Tables.{TableMap, with_table}, Sizes.{NamedTable, table_rows, table_size}, Inside.{capped_by, total, tables_in, IsDatabase, Counts, MayExchange, Exchanges}}, proofs.{Sums.{at, sum-with, len-with}, Names.{len-in, in-updated}}}

-- no table counts more than the largest number of 64 bits
total_small : (count : NamedTable → ℕ) (tables : TableMap) → total count tables ≤ len tables * (2 ^ 64 - 1)
total_small count tables = omega (arith, sum_by-le (capped_by count) (2 ^ 64 - 1) (entries tables) (λ k d l. omega arith), len-entries tables)

-- what the table of a name counts, if there is one
pub record HasCounts (name : List ℕ) (table : Option RowMap) (totals : Totals) : Type 0 where
  pub rows : totals.rows ≡ at (capped_by table_rows) name table
  pub size : totals.size ≡ at (capped_by table_size) name table

-- the totals are those of the tables
pub record IsTotal (tables : TableMap) (totals : Totals) : Type 0 where
  pub rows : totals.rows ≡ total table_rows tables
  pub size : totals.size ≡ total table_size tables

module _ (tables : TableMap) (before taken given : Totals) (name : List ℕ) (left : Option RowMap) where
  module _ (count : NamedTable → ℕ) (b t g : ℕ) (few : len tables < 2 ^ 63) (is : b ≡ total count tables) (was : t ≡ at (capped_by count) name (get tables name)) (now : g ≡ at (capped_by count) name left) where
    next : total count (with_table tables name left) + t ≡ b + g
    next = omega (arith, sum-with (capped_by count) tables name left)

    counted : t ≤ b
    counted = omega (arith, sum-with (capped_by count) tables name None)

    fits : b + g < 2 ^ 128 + t
    fits = omega (arith, next, total_small count (with_table tables name left), len-with tables name left)

  pub may_exchange : len tables < 2 ^ 63 → IsTotal tables before → HasCounts name (get tables name) taken → HasCounts name left given → MayExchange before taken given
  may_exchange few is was now = record {
    rows = counted table_rows before.rows taken.rows given.rows few is.rows was.rows now.rows;
    size = counted table_size before.size taken.size given.size few is.size was.size now.size;
    rows_fit = fits table_rows before.rows taken.rows given.rows few is.rows was.rows now.rows;
    size_fit = fits table_size before.size taken.size given.size few is.size was.size now.size;
  }

  pub exchanged : (after : Totals) → len tables < 2 ^ 63 → IsTotal tables before → HasCounts name (get tables name) taken → HasCounts name left given → Exchanges before taken given after → IsTotal (with_table tables name left) after
  exchanged after few is was now change = record {
    rows = omega (arith, change.rows, next table_rows before.rows taken.rows given.rows few is.rows was.rows now.rows);
    size = omega (arith, change.size, next table_size before.size taken.size given.size few is.size was.size now.size);
  }

-- ---- a sum that is capped at the end, and one of which each part is

capped_sum : (count : NamedTable → ℕ) (es : List NamedTable) → min (sum_by (capped_by count) es) (2 ^ 64 - 1) ≡ min (sum_by count es) (2 ^ 64 - 1)
capped_sum count [] = refl
capped_sum count (e ∷ es) = omega (arith, capped_sum count es, sum_by-cons (capped_by count) e es, sum_by-cons count e es)

pub capped_total : (count : NamedTable → ℕ) (tables : TableMap) → min (total count tables) (2 ^ 64 - 1) ≡ min (sum_by count (entries tables)) (2 ^ 64 - 1)
capped_total count tables = capped_sum count (entries tables)

-- ---- the fields, as one table changes

pub counts_some : (name : List ℕ) (rows : RowMap) (table : Option RowMap) (totals : Totals) → table ≡ Some rows → Counts (name, rows) totals → HasCounts name table totals
counts_some name rows table totals is h = subst (λ t. HasCounts name t totals) (sym is) (record { rows = h.rows; size = h.size })

pub counts_none : (name : List ℕ) (table : Option RowMap) → table ≡ None → HasCounts name table (record { rows = 0; size = 0 })
counts_none name table is = subst (λ t. HasCounts name t (record { rows = 0; size = 0 })) (sym is) (record { rows = refl; size = refl })

module _ {Z : Type 0} (t : BTreeMap (String Z) RowMap) (before taken given : Totals) (name : List ℕ) (left : Option RowMap) (is : IsDatabase t before) (few : btree_map_len t < 2 ^ 63)
    (was : HasCounts name (get (tables_in t) name) taken) (now : HasCounts name left given) where
  few_tables : len (tables_in t) < 2 ^ 63
  few_tables = omega (arith, len-in t is.ordered)

  pub may : MayExchange before taken given
  may = may_exchange (tables_in t) before taken given name left few_tables (record { rows = is.rows; size = is.size }) was now

  pub after_is : (n : BTreeMap (String Z) RowMap) (after : Totals) → IsOrdered string_cmp n → UpdatesBy string_cmp (λ k. slice_cmp nat_cmp name (string_bytes k)) t n left
      → Exchanges before taken given after → IsDatabase n after
  after_is n after ordered updates change =
      let same = in-updated t n name left is.ordered ordered updates in
      let sums = exchanged (tables_in t) before taken given name left after few_tables (record { rows = is.rows; size = is.size }) was now change in record {
        ordered = ordered;
        rows = sums.rows ∙ ap (total table_rows) (sym same);
        size = sums.size ∙ ap (total table_size) (sym same);
      }
