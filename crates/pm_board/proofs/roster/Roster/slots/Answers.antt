use Rattle.std.proofs.Common.{sym, ap, length, ◌∙◌}
use Rattle.pm_board.specs.{Told.roster_of, Slots.all_slots}
use Rattle.pm_board.proofs.roster.Roster.slots.Goals as goal

pub returns : goal.returns
returns g c =
    let inv = c.self.invariant.0 in
    let first = ap (λ b. b.table) c.deref.ensures ∙ inv.0 in
    c.slot_count.ensures ∙ (ap (λ z. z.slots) first ∙ (sym (all_slots _) ∙ (sym inv.3 ∙ ap (λ v. length v.knows.slots) c.self.view_is)))
