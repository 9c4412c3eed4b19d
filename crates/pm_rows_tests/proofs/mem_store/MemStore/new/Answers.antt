use Rattle.std.proofs.Common.{subst, sym}
use Rattle.pm_query.{proofs.HistoryLaws.short_rows-empty, specs.Limits.HasShortRows}
use Rattle.pm_rows_tests.proofs.mem_store.MemStore.new.Goals as goal

pub invariant_of-result : goal.invariant_of-result
invariant_of-result g c = record { short = subst HasShortRows (sym c.new.ensures.none) short_rows-empty }
