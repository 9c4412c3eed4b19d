use Rattle.std.proofs.Common.{sym, ap, ◌∙◌}
use Rattle.pm_board.specs.Slots.{all_slots}
use Rattle.pm_board.proofs.post.Post.slots.Goals as goal

pub returns : goal.returns
returns g c =
    let first = ap (λ b. b.table) c.deref.ensures ∙ c.self.invariant.0.0 in
    c.slot_count.ensures ∙ (ap (λ z. z.slots) first ∙ (ap (λ v. v.table.slots) c.self.view_is ∙ sym (all_slots c.args.self.now.table.slots)))
