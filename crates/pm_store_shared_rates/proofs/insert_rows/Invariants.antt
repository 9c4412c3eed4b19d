use Rattle.pm_store_shared.specs.Passes.{Among}
use Rattle.pm_store_shared_rates.proofs.insert_rows.Given as goal

abbrev pub invariant-loop-row : goal.invariant-loop-row
invariant-loop-row g l = Among l.pass l.token.passes
