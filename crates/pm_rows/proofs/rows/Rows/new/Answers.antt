use Rattle.std.{proofs.Common.{ℕ, List, subst, sym, arith}, specs.{Ordering.int_cmp, FinMap.{empty, len-empty}}}
use Rattle.pm_rows.{specs.Limits.IsWithinRowLimits, proofs.{RowLaws.size-empty, Entries.table_empty}}
use Rattle.pm_rows.proofs.rows.Rows.new.Goals as goal

-- no rows are within their limits
empty_within : IsWithinRowLimits empty
empty_within = record { few = omega (arith, len-empty int_cmp (List ℕ)); small = omega (arith, size-empty) }

pub returns-clause-none : goal.returns-clause-none
returns-clause-none c = table_empty c.new.result c.new.ensures.ordered c.new.ensures.empty

pub returns-clause-limits : goal.returns-clause-limits
returns-clause-limits c = subst IsWithinRowLimits (sym (table_empty c.new.result c.new.ensures.ordered c.new.ensures.empty)) empty_within
