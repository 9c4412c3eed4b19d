-- How the fields of `Tables` stand for a finite map.
use Rattle.std.specs.{Prelude.{◌≡◌, ℕ, ◌+◌, ◌-◌, ◌^◌, ◌<◌, ◌≤◌, min, List, map, String, string_bytes, sum_by}, String.string_cmp, BTreeMap.{BTreeMap, IsOrdered}, FinMap.{from_sorted, entries}}
use Rattle.pm_rows.specs.Fold.{RowMap}
use Rattle.pm_tables.specs.{declared.totals.Totals.Totals, Tables.{TableMap}, Sizes.{NamedTable, table_rows, table_size}}

-- a count, or the largest number of 64 bits where that is less
abbrev pub capped : ℕ → ℕ
capped count = min count (2 ^ 64 - 1)

abbrev pub capped_by : (NamedTable → ℕ) → NamedTable → ℕ
capped_by count table = capped (count table)

-- the sum over all tables, in which none counts more than that
abbrev pub total : (NamedTable → ℕ) → TableMap → ℕ
total count tables = sum_by (capped_by count) (entries tables)

module _ {Z : Type 0} where
  -- the entries with the bytes of their names
  abbrev pub named : List (String Z × RowMap) → List NamedTable
  named es = map (λ entry. (string_bytes entry.0, entry.1)) es

  -- the map of the entries
  abbrev pub tables_in : BTreeMap (String Z) RowMap → TableMap
  tables_in tables = from_sorted (named tables.entries)

  -- the names rise, and the totals are the sums over the tables
  pub record IsDatabase (tables : BTreeMap (String Z) RowMap) (totals : Totals) : Type 0 where
    pub ordered : IsOrdered string_cmp tables
    pub rows : totals.rows ≡ total table_rows (tables_in tables)
    pub size : totals.size ≡ total table_size (tables_in tables)

-- what one table counts
pub record Counts (table : NamedTable) (totals : Totals) : Type 0 where
  pub rows : totals.rows ≡ capped (table_rows table)
  pub size : totals.size ≡ capped (table_size table)

-- what is taken was counted, and what is given fits
pub record MayExchange (before taken given : Totals) : Type 0 where
  pub rows : taken.rows ≤ before.rows
  pub size : taken.size ≤ before.size
  pub rows_fit : before.rows + given.rows < 2 ^ 128 + taken.rows
  pub size_fit : before.size + given.size < 2 ^ 128 + taken.size

-- totals with the ones taken out and the others put in
pub record Exchanges (before taken given after : Totals) : Type 0 where
  pub rows : after.rows + taken.rows ≡ before.rows + given.rows
  pub size : after.size + taken.size ≡ before.size + given.size
