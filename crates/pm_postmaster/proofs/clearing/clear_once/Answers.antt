use Rattle.std.proofs.Common.{rules}
use Rattle.pm_postmaster.proofs.Cleared.{clears_both}
use Rattle.pm_postmaster.proofs.clearing.clear_once.Goals as goal

pub loop-slot-preserved : goal.loop-slot-preserved
loop-slot-preserved g c = record {
  clears = clears_both _ _ _ _ _ _ _ _ _ c.loop-slot.invariant.clears c.clear_slot-running.ensures.clears;
  free = search rules;
}
