use Rattle.std.proofs.Common.{◌<◌, ◌∙◌, subst, sym}
use Rattle.pm_postmaster.proofs.Cleared.{as_many_seats}
use Rattle.pm_postmaster.proofs.calls.call.Goals as goal

pub seated-requires : goal.seated-requires
seated-requires g c = subst (λ n. c.loop-slot.slot < n) (c.slots-slot-end.ensures ∙ sym (as_many_seats c.args.roster.now.knows)) c.loop-slot-test.true
