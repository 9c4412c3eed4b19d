use Rattle.std.proofs.Common.{inr, refl}
use Rattle.pm_postmaster.proofs.{Cleared.{clears_found, clears_released, near_slots, past_still}, Reaped.{may_come, released_by}}
use Rattle.pm_postmaster.proofs.clearing.clear_slot.Goals as goal

pub open_mail-fault-requires : goal.open_mail-fault-requires
open_mail-fault-requires g c =
    let d = c.args.roster.now.knows in
    let has = c.in-Gone.ensures.found in
    may_come c.counts_children.ensures c.requires.may.accepted c.args.slot _ _ _ _ d _ _
    (released_by _ c.args.slot has.0 c.in-Gone.released d _ (near_slots c.args.slot d c.requires.slot) has.1 has.1.back) c.requires.may.links

pub returns-in-Running-clause-clears : goal.returns-in-Running-clause-clears
returns-in-Running-clause-clears g c =
    let d = c.args.roster.now.knows in
    let has = c.in-Running.ensures.found in
    clears_found c.args.slot _ _ d _ _ _ c.reap_rest.ensures.table c.reap_rest.ensures.ending (near_slots c.args.slot d c.requires.slot) (inr (has.0, has.1)) (past_still c.args.slot has.0 d _ has.1) refl

pub returns-in-Gone-clause-clears : goal.returns-in-Gone-clause-clears
returns-in-Gone-clause-clears g c =
    let d = c.args.roster.now.knows in
    let has = c.in-Gone.ensures.found in
    clears_released c.counts_children.ensures c.args.slot _ _ _ _ _ _ d _ _ _ c.reap_rest.ensures.table c.reap_rest.ensures.ending
    (released_by _ c.args.slot has.0 c.in-Gone.released d _ (near_slots c.args.slot d c.requires.slot) has.1 has.1.back) c.open_mail-fault.ensures.visits
