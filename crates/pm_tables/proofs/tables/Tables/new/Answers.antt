use Rattle.std.{proofs.{Common.{◌≡◌, ◌≤◌, ℕ, List, [], ◌∷◌, length, map, sum_by, All, refl, ap, subst, sym, arith}, lemmas.List.Elements.All-nil}, specs.FinMap.{empty, entries, len-empty, len-entries}}
use Rattle.pm_rows.specs.Fold.{RowMap}
use Rattle.pm_tables.{specs.{Tables.{TableMap, name_cmp}, Sizes.{NamedTable, table_rows, table_size}, Limits.IsWithinLimits, Inside.{capped_by, total}}, proofs.Names.in-empty}
use Rattle.pm_tables.proofs.tables.Tables.new.Goals as goal

nothing : (es : List NamedTable) → length es ≡ 0 → es ≡ []
nothing [] h = refl
nothing (e ∷ es) h = absurd (omega arith)

abbrev no_tables : TableMap
no_tables = empty

no_entries : entries no_tables ≡ []
no_entries = nothing (entries no_tables) (omega (arith, len-entries no_tables, len-empty name_cmp RowMap))

-- no tables are within their limits
empty_within : IsWithinLimits no_tables
empty_within = record {
  few = omega (arith, len-empty name_cmp RowMap);
  short = subst (λ (es : List NamedTable). All (λ name. length name ≤ 63) (map (λ e. e.0) es)) (sym no_entries) (All-nil (λ name. length name ≤ 63));
  rows = omega (arith, ap (sum_by table_rows) no_entries);
  small = omega (arith, ap (sum_by table_size) no_entries);
}

nothing_counted : (count : NamedTable → ℕ) → 0 ≡ total count no_tables
nothing_counted count = sym (ap (sum_by (capped_by count)) no_entries)

pub invariant_of-result : goal.invariant_of-result
invariant_of-result c =
    let none = in-empty c.new.result c.new.ensures.ordered c.new.ensures.empty in record {
      ordered = c.new.ensures.ordered;
      rows = subst (λ m. 0 ≡ total table_rows m) (sym none) (nothing_counted table_rows);
      size = subst (λ m. 0 ≡ total table_size m) (sym none) (nothing_counted table_size);
    }

pub returns-clause-none : goal.returns-clause-none
returns-clause-none c = in-empty c.new.result c.new.ensures.ordered c.new.ensures.empty

pub returns-clause-limits : goal.returns-clause-limits
returns-clause-limits c = subst IsWithinLimits (sym (in-empty c.new.result c.new.ensures.ordered c.new.ensures.empty)) empty_within
