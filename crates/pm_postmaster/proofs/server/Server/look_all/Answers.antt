use Rattle.std.proofs.Common.{◌<◌, ◌∙◌, ap, length, rules, subst, sym}
use Rattle.pm_postmaster.proofs.{Cleared.as_many_seats, Going.{alive_on, slots_kept}}
use Rattle.pm_postmaster.proofs.server.Server.look_all.Goals as goal

pub look-requires-clause-alive : goal.look-requires-clause-alive
look-requires-clause-alive g c = alive_on g.C.Clock.gives _ _ c.loop-slot.invariant.keeps c.requires.alive

pub look-requires-clause-slot : goal.look-requires-clause-slot
look-requires-clause-slot g c =
    let same = slots_kept g.C.Clock.gives _ _ c.loop-slot.invariant.keeps c.requires.alive in
    let less : c.loop-slot.slot < c.slots-slot-end.result = search rules in
    subst (λ n. c.loop-slot.slot < n)
    (c.slots-slot-end.ensures ∙ (ap (λ r. length r.knows.slots) c.roster.ensures ∙ (sym same ∙ sym (as_many_seats c.loop-slot.self.desk.roster.knows)))) less

pub returns-in-Err-clause-goes : goal.returns-in-Err-clause-goes
returns-in-Err-clause-goes g c = λ outset was. c.in-Err.ensures.goes outset (c.loop-slot.invariant.keeps outset was)
