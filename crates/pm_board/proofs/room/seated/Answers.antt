use Rattle.std.{proofs.{Common.{◌≡◌, ◌≤◌, ℕ, ◌+◌, ◌*◌, [], length, refl, sym, ap, ◌∙◌, subst}, lemmas.List.length-replicate}}
use Rattle.pm_board_words.specs.declared.views.View.TheVariants.{Postmaster}
use Rattle.pm_board.{specs.{Slots.all_slots, Places.used_in, Children.children_of, Told.roster_of}, proofs.Children.no_children}
use Rattle.pm_board.proofs.Steps as steps
use Rattle.pm_board.proofs.room.seated.Goals as goal

pub invariant_of-result : goal.invariant_of-result
invariant_of-result g c =
    let w = c.requires.seat.1 in
    let n : ℕ = length c.args.children.items in
    let slots : c.args.seat.table.slots ≡ n = ap (λ z. z.slots) w.0 ∙ w.2 in
    let words : c.args.seat.table.words ≡ 3 * n + 1 = ap (λ z. z.words) w.0 ∙ w.1 in
    let count = ap (λ m. length (roster_of m.0).slots) w.3 ∙ length-replicate n _ in (
      (
        sym w.0,
        w.3 ∙ (λ i. (Postmaster (roster_of (sym w.3 i).0), [])),
        words ∙ ap (λ (m : ℕ). 3 * m + 1) (sym (all_slots _ ∙ slots)),
        count ∙ sym (all_slots _ ∙ slots),
        subst (λ (z : ℕ). z ≤ 407) (sym slots) c.requires.slots,
        sym (ap (λ m. used_in (roster_of m.0).slots) w.3 ∙ steps.used_none _ n),
        sym (ap (λ m. (roster_of m.0).generation) w.3),
        sym (ap (λ m. (roster_of m.0).noticed) w.3),
        c.requires.children ∙ (no_children _ n ∙ sym (ap (λ m. children_of (roster_of m.0).slots) w.3)),
      ),
      (sym (ap (λ m. (roster_of m.0).dealt) w.3), c.requires.home.0, c.requires.home.1),
    )
