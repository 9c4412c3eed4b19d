-- How the board of the tests moves.
use Rattle.std.proofs.{Common.{◌≡◌, ◌≢◌, ℕ, ◌+◌, ◌<◌, ◌≤◌, [], length, sym, refl, ap, ◌∙◌, subst, arith}, lemmas.List.length-replicate}
use Rattle.pm_board.specs.{pm_facts.Lists.same_everywhere, pm_board_words.declared.views.{SessionLimit.SessionLimit, Offer.Offer, RosterNotes.RosterNotes, RosterStep.RosterStep, RosterView.RosterView, Sight.TheVariants.{Unused, Assigned}, SlotView.SlotView}, Places.{slot_view, IsAssigned}, Told.{new_roster, after_step}, Models.SlotBecame}
use Rattle.pm_board_tests.specs.LatchChildren.{IsNew, CanBegin, IsBusy, Changed, HasBegun, HasStayed, HasFinished, TakesTurns, Waits}

pub is_new : (d : RosterView ℕ) (limit : SessionLimit) (dealt : ℕ) → d ≡ new_roster 9 limit dealt → IsNew d
is_new d limit dealt is = let x : SlotView ℕ = slot_view [] Unused in subst IsNew (sym is) record {
  count = length-replicate 9 x;
  unused = λ k. ap (λ (z : SlotView ℕ). z.sight) (same_everywhere 9 k x);
  last_pid = refl;
}

-- posts

-- the roster

changed : (k : ℕ) (d e : RosterView ℕ) (x : SlotView ℕ) (notes : RosterNotes) → SlotBecame k x notes d e → Changed k d e
changed k d e x notes was = record { count = was.count; others = was.others }

pub finished : (k : ℕ) (d e f : RosterView ℕ) (x y : SlotView ℕ) (n m : RosterNotes) → SlotBecame k x n d e → SlotBecame k y m e f → y.sight ≡ Unused → n.last_pid ≡ d.notes.last_pid → m.last_pid ≡ e.notes.last_pid → HasFinished k d f
finished k d e f x y n m a b free first second = record {
  changed = record { count = b.count ∙ a.count; others = λ j ne. b.others j ne ∙ a.others j ne };
  unused = ap (λ (z : SlotView ℕ). z.sight) b.here ∙ free;
  last_pid = ap (λ (z : RosterNotes). z.last_pid) b.notes_are ∙ (second ∙ (ap (λ (z : RosterNotes). z.last_pid) a.notes_are ∙ first));
}

-- a slot's child is there still after a send
pub busy_still : (d : RosterView ℕ) (s : RosterStep) (k : ℕ) → IsBusy d k → IsBusy (after_step d s) k
busy_still d s k busy = record { count = busy.count; slot = busy.slot; child = busy.child }

pub first_begin : (d : RosterView ℕ) (k pid : ℕ) → IsNew d → 3 ≤ k → k ≤ 4 → 0 < pid → pid < 2147483648 → CanBegin d k pid
first_begin d k pid new low high pos fits = let top : d.notes.last_pid ≡ 0 = new.last_pid in record { count = new.count; slot = (low, high); unused = new.unused k; new = omega arith; fits = fits }

-- another slot may begin next
pub next_begin : (d e : RosterView ℕ) (j k p q : ℕ) → IsNew d → HasBegun j p d e → 3 ≤ k → k ≤ 4 → k ≢ j → p < q → q < 2147483648 → CanBegin e k q
next_begin d e j k p q new begun low high ne up fits = let top : e.notes.last_pid ≡ p = begun.last_pid in
    record { count = begun.busy.count; slot = (low, high); unused = ap (λ (x : SlotView ℕ). x.sight) (begun.changed.others k ne) ∙ new.unused k; new = omega arith; fits = fits }

-- and the same slot again, once its child is released
pub again_begin : (e f : RosterView ℕ) (k p q : ℕ) → IsBusy e k → HasFinished k e f → e.notes.last_pid ≡ p → 3 ≤ k → k ≤ 4 → p < q → q < 2147483648 → CanBegin f k q
again_begin e f k p q busy done last low high up fits = let top : f.notes.last_pid ≡ e.notes.last_pid = done.last_pid in
    record { count = done.changed.count ∙ busy.count; slot = (low, high); unused = done.unused; new = omega arith; fits = fits }

-- turns

pub turns_first : (d e : RosterView ℕ) → IsNew d → HasBegun 4 1 d e → TakesTurns e 3 4 2
turns_first d e new begun = let top : e.notes.last_pid ≡ 1 = begun.last_pid in record {
  slots = (omega arith, omega arith, omega arith, omega arith, λ e. absurd (omega arith));
  count = begun.busy.count;
  unused = ap (λ (x : SlotView ℕ). x.sight) (begun.changed.others 3 (λ e. absurd (omega arith))) ∙ new.unused 3;
  child = begun.busy.child;
  last_pid = omega arith;
}

pub may_turn : (d : RosterView ℕ) (free busy pid : ℕ) → TakesTurns d free busy pid → pid < 1000000 → CanBegin d free pid
may_turn d free busy pid turns fits = let top : d.notes.last_pid + 1 ≡ pid = turns.last_pid in record { count = turns.count; slot = (turns.slots.0, turns.slots.1); unused = turns.unused; new = omega arith; fits = omega arith }

-- the child of the busy slot is there still
pub other_busy : (d e : RosterView ℕ) (free busy pid : ℕ) → TakesTurns d free busy pid → HasBegun free pid d e → IsBusy e busy
other_busy d e free busy pid turns begun = let high : busy ≤ 4 = turns.slots.3 in record {
  count = begun.busy.count;
  slot = omega arith;
  child = (turns.child.0, ap (λ (x : SlotView ℕ). x.sight) (begun.changed.others busy (λ same. turns.slots.4 (sym same))) ∙ turns.child.1);
}

pub stayed : (k : ℕ) (d e : RosterView ℕ) (x : SlotView ℕ) (notes : RosterNotes) (o : Offer ℕ) → IsBusy d k → SlotBecame k x notes d e → x.sight ≡ Assigned o → notes.last_pid ≡ d.notes.last_pid → HasStayed k d e
stayed k d e x notes o busy was is last = record {
  changed = changed k d e x notes was;
  busy = record { count = was.count ∙ busy.count; slot = busy.slot; child = (o, ap (λ (z : SlotView ℕ). z.sight) was.here ∙ is) };
  last_pid = ap (λ (z : RosterNotes). z.last_pid) was.notes_are ∙ last;
}

-- while the busy slot is looked at, the child of the other one and the last pid stay
pub waits_still : (d e : RosterView ℕ) (free busy pid : ℕ) → Waits d free busy pid → HasStayed busy d e → Waits e free busy pid
waits_still d e free busy pid w stays = record {
  slots = w.slots;
  given = record { count = stays.busy.count; slot = w.given.slot; child = (w.given.child.0, ap (λ (x : SlotView ℕ). x.sight) (stays.changed.others free w.slots.4) ∙ w.given.child.1) };
  looked_at = stays.busy;
  last_pid = stays.last_pid ∙ w.last_pid;
}

pub waits_over : (d e : RosterView ℕ) (free busy pid : ℕ) → Waits d free busy pid → HasFinished busy d e → TakesTurns e busy free (pid + 1)
waits_over d e free busy pid w done = let top : d.notes.last_pid ≡ pid = w.last_pid in let same : e.notes.last_pid ≡ d.notes.last_pid = done.last_pid in record {
  slots = (w.slots.2, w.slots.3, w.slots.0, w.slots.1, λ same_. w.slots.4 (sym same_));
  count = done.changed.count ∙ w.given.count;
  unused = done.unused;
  child = (w.given.child.0, ap (λ (x : SlotView ℕ). x.sight) (done.changed.others free w.slots.4) ∙ w.given.child.1);
  last_pid = omega arith;
}

pub waits_first : (d e : RosterView ℕ) (free busy pid : ℕ) → TakesTurns d free busy pid → HasBegun free pid d e → Waits e free busy pid
waits_first d e free busy pid turns begun = record { slots = turns.slots; given = begun.busy; looked_at = other_busy d e free busy pid turns begun; last_pid = begun.last_pid }

pub waits_sent : (d : RosterView ℕ) (s : RosterStep) (free busy pid : ℕ) → Waits d free busy pid → Waits (after_step d s) free busy pid
waits_sent d s free busy pid w = record { slots = w.slots; given = busy_still d s free w.given; looked_at = busy_still d s busy w.looked_at; last_pid = w.last_pid }

pub is_assigned : (d : RosterView ℕ) (k : ℕ) → IsBusy d k → IsAssigned d k
is_assigned d k busy = let many : length d.slots ≡ 9 = busy.count in let low : k < 9 = busy.slot in (omega arith, busy.child)
