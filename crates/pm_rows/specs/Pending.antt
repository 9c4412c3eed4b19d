-- A commit whose memory is taken, and which isn't made yet.
use Rattle.std.specs.{Prelude.{List, refl}, Coded.{Coded, code_by, coded×, coded_ℤ, coded_ℕ, coded_list}, FinMap.code}
use Rattle.pm_rows.specs.{declared.commit.Change.Change, Fold.{RowMap, committed}}

-- the rows without the commit, and the rows with it
pub record Pending : Type 0 where
  pub before : RowMap
  pub after : RowMap

-- a commit of these changes, on these rows
abbrev pub pending : RowMap → List Change → Pending
pending rows changes = record { before = rows; after = committed rows changes }

abbrev pub row_map_code : Coded RowMap
row_map_code = code coded_ℤ (coded_list coded_ℕ)

-- it is stored as the pair of its fields
abbrev pub pending_code : Coded Pending
pending_code = code_by (RowMap × RowMap) (coded× row_map_code row_map_code) (λ pending. (pending.before, pending.after)) (λ pair. record { before = pair.0; after = pair.1 }) (λ _. refl)
