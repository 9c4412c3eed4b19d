use Rattle.std.proofs.Common.{◌<◌, ◌≤◌, length, arith, sym, ap, ◌∙◌, map}
use Rattle.pm_board_words.specs.declared.views.{PostView.PostView, RosterView.RosterView}
use Rattle.pm_board.specs.{Slots.child_slots, History.{events_of, worker_step}}
use Rattle.pm_board.proofs.laws.history_is_of_the_seats.Goals as goal

pub returns : goal.returns
returns g c = record {
  supervisor = λ limit s kept id d at. kept.5.4.made ∙ ap (λ (z : RosterView g.row.J-Told.Denot). events_of z.notes.steps) (sym (kept.3.each_seat id _ at).1);
  worker = λ limit s kept id k w at.
      let seat = kept.3.each_seat id _ at in let dealt : k < kept.1.dealt = seat.2 in let posts : kept.1.dealt ≤ child_slots (length s.homes) = kept.3.some_posts in
      (kept.5.5 k (omega arith)).made ∙ ap (λ (z : PostView g.row.J-Told.Denot). map worker_step z.notes.steps) seat.1;
}
