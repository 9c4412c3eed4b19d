-- A commit whose memory is taken, and which isn't made yet.
use Rattle.std.specs.{Prelude.{List, refl}, Coded.{Coded, code_by, coded×, coded_ℕ, coded_list}, FinMap.code}
use Rattle.pm_rows.specs.Pending.{row_map_code}
use Rattle.pm_tables.specs.{declared.change.TableChange.TableChange, Tables.{TableMap, committed}, Sizes.NamedTable}

-- the tables without the commit, and the tables with it
pub record Pending : Type 0 where
  pub before : TableMap
  pub after : TableMap

-- a commit of these changes, on these tables
abbrev pub pending : TableMap → List TableChange → Pending
pending tables changes = record { before = tables; after = committed tables changes }

abbrev pub table_map_code : Coded TableMap
table_map_code = code (coded_list coded_ℕ) row_map_code

abbrev pub named_table_code : Coded NamedTable
named_table_code = coded× (coded_list coded_ℕ) row_map_code

-- it is stored as the pair of its fields
abbrev pub pending_code : Coded Pending
pending_code = code_by (TableMap × TableMap) (coded× table_map_code table_map_code) (λ pending. (pending.before, pending.after)) (λ pair. record { before = pair.0; after = pair.1 }) (λ _. refl)
