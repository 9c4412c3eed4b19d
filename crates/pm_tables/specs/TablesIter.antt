-- What an iterator over tables gives.
use Rattle.std.specs.{Prelude.{ℕ, List}, Borrow.Bor}
use Rattle.pm_rows.specs.Fold.{RowMap}
use Rattle.pm_tables.specs.Sizes.{NamedTable}

-- a name with the rows that the reference points to
abbrev pub shown_table : Bor (List ℕ) × Bor RowMap → NamedTable
shown_table table = (table.0.now, table.1.now)
