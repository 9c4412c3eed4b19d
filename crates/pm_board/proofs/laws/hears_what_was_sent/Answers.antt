use Rattle.std.proofs.Common.{◌≡◌, ◌+◌, ◌<◌, ◌≤◌, [], ◌∷◌, ◌++◌, length, arith, sym, ap, ◌∙◌, subst}
use Rattle.pm_facts.specs.Numbers.{sum_below}
use Rattle.pm_board_words.specs.declared.views.{PostView.PostView, RosterView.RosterView}
use Rattle.pm_board.{specs.{Slots.child_slots, Places.slot_at, Heard.{WasMade, HeardAsSent}, Latches.{HeardRightly, EachHeard, HeardBy, doings_of, Reaches, beside, waiting, times_made, times_made_on, made_on, WereMade, latch_at, cancel_at}, Rule.{running, ended, Does}}, proofs.{Latches.{latch_here, a_term}, Latching.{does_child, left_behind}, Hearing.{each_known, heard_known, same_limit, made_known, heard_as_sent}}}
use Rattle.pm_board.proofs.laws.hears_what_was_sent.Goals as goal

pub returns : goal.returns
returns g c = record {
  before = λ limit s kept master id k d w at mine.
      let h = kept.3 in let seat = h.each_seat id _ mine in let dealt : k < kept.1.dealt = seat.2 in let posts : kept.1.dealt ≤ child_slots (length s.homes) = h.some_posts in
      let known = each_known kept.1.notes.steps (kept.2 k).post.notes.session_limit kept.1.session_limit (same_limit limit kept.1.generation kept.1 kept.2 kept.4.current h.new_posts k) (beside (WereMade (child_slots (length s.homes)) kept.2) (cancel_at (child_slots (length s.homes)) s.words k)) (WasMade s.views kept.1) (λ pid times made. made_known s.views (child_slots (length s.homes)) s.words kept.1 kept.2 kept.6 kept.7 h.new_posts h.many pid times (let m : times + waiting (cancel_at (child_slots (length s.homes)) s.words k) pid ≤ sum_below (child_slots (length s.homes)) (λ j. times_made pid (kept.2 j).post.notes.cancels) = made in omega arith)) (kept.2 k).post.past (kept.2 k).post.notes.heard (kept.6.each k (omega arith)).past in
      subst (λ (z : RosterView g.row.J-Told.Denot × PostView g.row.J-Told.Denot). EachHeard (HeardBy (doings_of z.0) (WasMade s.views z.0)) z.1.past z.1.notes.heard) {x = (kept.1, (kept.2 k).post)} {y = (d, w)} (λ i. (sym (h.each_seat master _ at).1 i, seat.1 i)) known;
  now = λ limit s kept master id k d w at mine o runs.
      let h = kept.3 in let seat = h.each_seat id _ mine in let dealt : k < kept.1.dealt = seat.2 in let posts : kept.1.dealt ≤ child_slots (length s.homes) = h.some_posts in
      let child = does_child (kept.2 k).phase w.work o (subst (λ (z : PostView g.row.J-Told.Denot). Does (kept.2 k).phase z.work) seat.1 (h.each_slot k (omega arith)).does) runs in
      let l = latch_here kept.1.notes.steps (WereMade (child_slots (length s.homes)) kept.2) (made_on (child_slots (length s.homes)) kept.2 k) (latch_at (child_slots (length s.homes)) s.words k) (cancel_at (child_slots (length s.homes)) s.words k) (kept.2 k) (running o child.0) w child.1 seat.1 (kept.6.each k (omega arith)) in
      let known = heard_known kept.1.notes.steps w.notes.session_limit kept.1.session_limit (ap (λ (z : PostView g.row.J-Told.Denot). z.notes.session_limit) (sym seat.1) ∙ same_limit limit kept.1.generation kept.1 kept.2 kept.4.current h.new_posts k) (beside (WereMade (child_slots (length s.homes)) kept.2) (cancel_at (child_slots (length s.homes)) s.words k)) (WasMade s.views kept.1) (λ pid times made. made_known s.views (child_slots (length s.homes)) s.words kept.1 kept.2 kept.6 kept.7 h.new_posts h.many pid times (let m : times + waiting (cancel_at (child_slots (length s.homes)) s.words k) pid ≤ sum_below (child_slots (length s.homes)) (λ j. times_made pid (kept.2 j).post.notes.cancels) = made in omega arith)) o w.notes.now l.now.so_far in
      subst (λ (z : RosterView g.row.J-Told.Denot). HeardRightly (doings_of z) (WasMade s.views z) o w.notes.now) (sym (h.each_seat master _ at).1) known;
  reached = λ limit s kept master id k d w at mine o runs.
      let h = kept.3 in let seat = h.each_seat id _ mine in let dealt : k < kept.1.dealt = seat.2 in let posts : kept.1.dealt ≤ child_slots (length s.homes) = h.some_posts in
      let child = does_child (kept.2 k).phase w.work o (subst (λ (z : PostView g.row.J-Told.Denot). Does (kept.2 k).phase z.work) seat.1 (h.each_slot k (omega arith)).does) runs in
      let l = latch_here kept.1.notes.steps (WereMade (child_slots (length s.homes)) kept.2) (made_on (child_slots (length s.homes)) kept.2 k) (latch_at (child_slots (length s.homes)) s.words k) (cancel_at (child_slots (length s.homes)) s.words k) (kept.2 k) (running o child.0) w child.1 seat.1 (kept.6.each k (omega arith)) in
      subst (λ (z : RosterView g.row.J-Told.Denot). Reaches z.notes.steps (latch_at (child_slots (length s.homes)) s.words k) o.pid w.notes.now.given) (sym (h.each_seat master _ at).1) l.reaches;
  called = λ limit s kept id k id' k' w w' mine other o runs made.
      let h = kept.3 in let seat = h.each_seat id _ mine in let dealt : k < kept.1.dealt = seat.2 in let posts : kept.1.dealt ≤ child_slots (length s.homes) = h.some_posts in
      let seat' = h.each_seat id' _ other in let dealt' : k' < kept.1.dealt = seat'.2 in
      let child = does_child (kept.2 k).phase w.work o (subst (λ (z : PostView g.row.J-Told.Denot). Does (kept.2 k).phase z.work) seat.1 (h.each_slot k (omega arith)).does) runs in
      let l = latch_here kept.1.notes.steps (WereMade (child_slots (length s.homes)) kept.2) (made_on (child_slots (length s.homes)) kept.2 k) (latch_at (child_slots (length s.homes)) s.words k) (cancel_at (child_slots (length s.homes)) s.words k) (kept.2 k) (running o child.0) w child.1 seat.1 (kept.6.each k (omega arith)) in
      let term : times_made_on k o.pid (kept.2 k').post.notes.cancels ≤ made_on (child_slots (length s.homes)) kept.2 k o.pid = a_term (child_slots (length s.homes)) (λ j. times_made_on k o.pid (kept.2 j).post.notes.cancels) k' (omega arith) in
      let same : times_made_on k o.pid (kept.2 k').post.notes.cancels ≡ times_made_on k o.pid w'.notes.cancels = ap (λ (z : PostView g.row.J-Told.Denot). times_made_on k o.pid z.notes.cancels) seat'.1 in
      l.calls (omega arith);
  left_standing = λ limit s kept master id k d w x at mine is.
      let h = kept.3 in let seat = h.each_seat id _ mine in let dealt : k < kept.1.dealt = seat.2 in let posts : kept.1.dealt ≤ child_slots (length s.homes) = h.some_posts in
      let ph = left_behind (kept.2 k).phase (kept.2 k).post.past (slot_at kept.1 k).past x (h.each_slot k (omega arith)).lists (ap (λ (z : PostView g.row.J-Told.Denot). z.past) seat.1 ∙ (is ∙ ap (λ (z : RosterView g.row.J-Told.Denot). (slot_at z k).past ++ x ∷ []) (h.each_seat master _ at).1)) in
      let l = latch_here kept.1.notes.steps (WereMade (child_slots (length s.homes)) kept.2) (made_on (child_slots (length s.homes)) kept.2 k) (latch_at (child_slots (length s.homes)) s.words k) (cancel_at (child_slots (length s.homes)) s.words k) (kept.2 k) (ended x.offer x.status x.was_active x.back) w ph seat.1 (kept.6.each k (omega arith)) in
      subst (λ (z : RosterView g.row.J-Told.Denot). Reaches z.notes.steps (latch_at (child_slots (length s.homes)) s.words k) x.offer.pid w.notes.now.given) (sym (h.each_seat master _ at).1) l.reaches;
  gathered = λ limit s kept master d at.
      let h = kept.3 in subst HeardAsSent (sym (h.each_seat master _ at).1) (heard_as_sent s.views (child_slots (length s.homes)) s.words kept.1 kept.2 kept.6 kept.7 h.new_posts h.many (same_limit limit kept.1.generation kept.1 kept.2 kept.4.current h.new_posts));
}
