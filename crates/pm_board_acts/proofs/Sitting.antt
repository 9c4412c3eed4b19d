-- A child that sits down, and one that is gone.
use Rattle.std.{proofs.{Common.{◌≡◌, ◌≢◌, ℕ, ◌<◌, ◌≤◌, List, [], ◌∷◌, ◌++◌, refl, sym, ap, subst, ◌∙◌, length, set, map, nat_eq, append-nil, length-set}, lemmas.{List.{get_or-set_same, get_or-set_other, map-append}, Bool.{eqb-true, eqb-false, ne_eqb, eq-eqb}}}, specs.Prelude.{Bool, true, false, ◌==◌, if◌then◌else◌, Option, Some, None}}
use Rattle.pm_board.specs.{pm_facts.{Lists.set_set, Bools.by_test}, pm_exit.declared.child.{Kind.Kind, Status.Status}, pm_board_words.declared.views.{PastChild.PastChild, RosterNotes.RosterNotes, RosterView.RosterView, SlotView.SlotView}, declared.roster.Released.Released, Places.{slot_at, EndsWell}, Told.{with_slot, exited_slot, released_slot, past_child, noted_look, noted_release}, Models.SlotBecame}
use Rattle.pm_supervisor_journal.specs.{declared.roll.Enrolled.Enrolled, pm_state.declared.event.PmEvent.PmEvent}
use Rattle.pm_board.specs.pm_board_words.declared.views.Letter as Letter
use Rattle.pm_board_acts.{specs.{Seating.{Seating, Move, Notes, Begun, Ended, with_seat, begins, ends, begun_at, ended_at, begun_by, ended_by, seating_of}, Board.{SeenAs, Shows, begun_of, ended_of, seat_at, sitting}, Sitting.{Sits, HasReaped}, Standing.{HasHad, SeatServes}}, proofs.{FoldingLaws.{begun-more, ended-more}, Rightly.{right_begun, right_none}}}

module _ {D : Type 0} where
  -- a slot that became one thing and then another
  pub became_twice : (k : ℕ) (x y z : SlotView D) (m n l : RosterNotes) (d e f : RosterView D) → SlotBecame k x m d e → SlotBecame k y n e f → y ≡ z → n ≡ l → SlotBecame k z l d f
  became_twice k x y z m n l d e f one two same notes = record {
    count = two.count ∙ one.count;
    others = λ j ne. two.others j ne ∙ one.others j ne;
    here = two.here ∙ same;
    notes_are = two.notes_are ∙ notes;
    whole = two.whole ∙ (ap (λ (v : RosterView D). with_slot v k y n) one.whole
        ∙ (ap (λ (ss : List (SlotView D)). record d { slots = ss; notes = n }) (set_set d.slots k x y)
        ∙ (ap (λ (w : SlotView D). with_slot d k w n) same ∙ ap (with_slot d k z) notes)));
  }

  -- the slot k has this seat now
  pub shows_set : (d e : RosterView D) (s : Seating) (k : ℕ) (x : SlotView D) (notes : RosterNotes) (seat : Option Enrolled) → Shows d s → k < length s.seats
      → SlotBecame k x notes d e → SeenAs s.generation seat x.sight → Shows e (with_seat k seat s)
  shows_set d e s k x notes seat shows near became seen = record {
    count = length-set s.seats k seat ∙ (shows.count ∙ sym became.count);
    few = subst (λ (n : ℕ). n ≤ 407) (sym (length-set s.seats k seat)) shows.few;
    generation = ap (λ (v : RosterView D). v.generation) became.whole ∙ shows.generation;
    each = λ j l. by_test (nat_eq j k)
        (λ is. let same : j ≡ k = eqb-true j k is in
        subst (λ (i : ℕ). SeenAs s.generation (seat_at i (set s.seats k seat)) (slot_at e i).sight) (sym same)
        (subst (λ (y : Option Enrolled). SeenAs s.generation y (slot_at e k).sight) (sym (get_or-set_same s.seats k seat None near))
        (subst (λ (y : SlotView D). SeenAs s.generation seat y.sight) (sym became.here) seen)))
        (λ isnt. let ne : j ≢ k = eqb-false j k isnt in
        subst (λ (y : Option Enrolled). SeenAs s.generation y (slot_at e j).sight) (sym (get_or-set_other s.seats k j seat None ne))
        (subst (λ (y : SlotView D). SeenAs s.generation (seat_at j s.seats) y.sight) (sym (became.others j ne))
        (shows.each j (subst (λ (n : ℕ). j < n) (length-set s.seats k seat) l))));
  }

  -- a child of the slot k began, by this entry
  pub had_begun : (count : ℕ) (moves : List Move) (d e : RosterView D) (s : Seating) (k : ℕ) (c : Enrolled) (entry : PmEvent) (x : SlotView D) (notes : RosterNotes)
      → HasHad count moves d s → s ≡ seating_of count moves → k < length s.seats → seat_at k s.seats ≡ None
      → SlotBecame k x notes d e → x.past ≡ (slot_at d k).past
      → ((g : ℕ) → begins g entry ≡ record { pid = c.pid; kind = c.kind; generation = g } ∷ []) → ends entry ≡ [] → SeatServes count k c.kind
      → HasHad count (moves ++ Notes entry k ∷ []) e (with_seat k (Some c) s)
  had_begun count moves d e s k c entry x notes had that near free became past begun ended serves = record {
    begun = λ j. by_test (nat_eq j k)
        (λ is. subst (λ (i : ℕ). map begun_of (slot_at e i).past ++ sitting s.generation (seat_at i (set s.seats k (Some c))) ≡ begun_at count i (moves ++ Notes entry k ∷ [])) (sym (eqb-true j k is))
        (ap (λ (ps : List (PastChild D)). map begun_of ps ++ sitting s.generation (seat_at k (set s.seats k (Some c)))) (ap (λ (y : SlotView D). y.past) became.here ∙ past)
        ∙ (ap (λ (y : Option Enrolled). map begun_of (slot_at d k).past ++ sitting s.generation y) (get_or-set_same s.seats k (Some c) None near)
        ∙ (ap (λ (bs : List Begun). bs ++ record { pid = c.pid; kind = c.kind; generation = s.generation } ∷ [])
        (sym (append-nil (map begun_of (slot_at d k).past)) ∙ (sym (ap (λ (y : Option Enrolled). map begun_of (slot_at d k).past ++ sitting s.generation y) free) ∙ had.begun k))
        ∙ (ap (λ (bs : List Begun). begun_at count k moves ++ bs) (sym (begun s.generation) ∙ (sym (ap (λ (b : Bool). if b then begins s.generation entry else []) (eq-eqb k k refl)) ∙ ap (λ (t : Seating). begun_by k t (Notes entry k)) that))
        ∙ sym (begun-more count k moves (Notes entry k)))))))
        (λ isnt. ap (λ (y : SlotView D). map begun_of y.past ++ sitting s.generation (seat_at j (set s.seats k (Some c)))) (became.others j (eqb-false j k isnt))
        ∙ (ap (λ (y : Option Enrolled). map begun_of (slot_at d j).past ++ sitting s.generation y) (get_or-set_other s.seats k j (Some c) None (eqb-false j k isnt))
        ∙ (had.begun j
        ∙ (sym (append-nil (begun_at count j moves))
        ∙ (ap (λ (bs : List Begun). begun_at count j moves ++ bs) (sym (ap (λ (b : Bool). if b then begins (seating_of count moves).generation entry else []) (ne_eqb k j (λ same. eqb-false j k isnt (sym same)))))
        ∙ sym (begun-more count j moves (Notes entry k)))))));
    ended = λ j. past_same j ∙ (had.ended j ∙ (sym (append-nil (ended_at j moves)) ∙ (ap (λ (es : List Ended). ended_at j moves ++ es) (sym (no_end j)) ∙ sym (ended-more j moves (Notes entry k)))));
    right = right_begun count moves entry k c.pid c.kind begun serves had.right;
  }
    where
      past_same : (j : ℕ) → map ended_of (slot_at e j).past ≡ map ended_of (slot_at d j).past
      past_same j = by_test (nat_eq j k)
          (λ is. subst (λ (i : ℕ). map ended_of (slot_at e i).past ≡ map ended_of (slot_at d i).past) (sym (eqb-true j k is)) (ap (map ended_of) (ap (λ (y : SlotView D). y.past) became.here ∙ past)))
          (λ isnt. ap (λ (y : SlotView D). map ended_of y.past) (became.others j (eqb-false j k isnt)))

      no_end : (j : ℕ) → ended_by j (Notes entry k) ≡ []
      no_end j = both (k == j)
        where
          both : (b : Bool) → (if b then ends entry else []) ≡ []
          both true = ended
          both false = refl

  -- the child of the slot k ended, by this entry
  pub had_ended : (count : ℕ) (moves : List Move) (d e : RosterView D) (s : Seating) (k : ℕ) (c : Enrolled) (child : PastChild D) (entry : PmEvent) (x : SlotView D) (notes : RosterNotes)
      → HasHad count moves d s → s ≡ seating_of count moves → k < length s.seats → seat_at k s.seats ≡ Some c
      → SlotBecame k x notes d e → x.past ≡ (slot_at d k).past ++ child ∷ []
      → begun_of child ≡ record { pid = c.pid; kind = c.kind; generation = s.generation }
      → begins s.generation entry ≡ [] → ends entry ≡ ended_of child ∷ []
      → HasHad count (moves ++ Notes entry k ∷ []) e (with_seat k None s)
  had_ended count moves d e s k c child entry x notes had that near sits became past was begun ended = record {
    begun = λ j. by_test (nat_eq j k)
        (λ is. subst (λ (i : ℕ). map begun_of (slot_at e i).past ++ sitting s.generation (seat_at i (set s.seats k None)) ≡ begun_at count i (moves ++ Notes entry k ∷ [])) (sym (eqb-true j k is))
        (ap (λ (y : Option Enrolled). map begun_of (slot_at e k).past ++ sitting s.generation y) (get_or-set_same s.seats k None None near)
        ∙ (append-nil (map begun_of (slot_at e k).past)
        ∙ (ap (map begun_of) (ap (λ (y : SlotView D). y.past) became.here ∙ past)
        ∙ (map-append begun_of (slot_at d k).past (child ∷ [])
        ∙ (ap (λ (b : Begun). map begun_of (slot_at d k).past ++ b ∷ []) was
        ∙ (sym (ap (λ (y : Option Enrolled). map begun_of (slot_at d k).past ++ sitting s.generation y) sits)
        ∙ (had.begun k ∙ begun_same k))))))))
        (λ isnt. ap (λ (y : SlotView D). map begun_of y.past ++ sitting s.generation (seat_at j (set s.seats k None))) (became.others j (eqb-false j k isnt))
        ∙ (ap (λ (y : Option Enrolled). map begun_of (slot_at d j).past ++ sitting s.generation y) (get_or-set_other s.seats k j None None (eqb-false j k isnt))
        ∙ (had.begun j ∙ begun_same j)));
    ended = λ j. by_test (nat_eq j k)
        (λ is. subst (λ (i : ℕ). map ended_of (slot_at e i).past ≡ ended_at i (moves ++ Notes entry k ∷ [])) (sym (eqb-true j k is))
        (ap (map ended_of) (ap (λ (y : SlotView D). y.past) became.here ∙ past)
        ∙ (map-append ended_of (slot_at d k).past (child ∷ [])
        ∙ (ap (λ (es : List Ended). es ++ ended_of child ∷ []) (had.ended k)
        ∙ (ap (λ (es : List Ended). ended_at k moves ++ es) (sym ended ∙ sym (ap (λ (b : Bool). if b then ends entry else []) (eq-eqb k k refl)))
        ∙ sym (ended-more k moves (Notes entry k)))))))
        (λ isnt. ap (λ (y : SlotView D). map ended_of y.past) (became.others j (eqb-false j k isnt))
        ∙ (had.ended j ∙ (sym (append-nil (ended_at j moves))
        ∙ (ap (λ (es : List Ended). ended_at j moves ++ es) (sym (ap (λ (b : Bool). if b then ends entry else []) (ne_eqb k j (λ same. eqb-false j k isnt (sym same)))))
        ∙ sym (ended-more j moves (Notes entry k))))));
    right = right_none count moves (Notes entry k) no_begin had.right;
  }
    where
      no_begin : (j : ℕ) → begun_by j (seating_of count moves) (Notes entry k) ≡ []
      no_begin j = both (k == j)
        where
          both : (b : Bool) → (if b then begins (seating_of count moves).generation entry else []) ≡ []
          both true = sym (ap (λ (t : Seating). begins t.generation entry) that) ∙ begun
          both false = refl

      begun_same : (j : ℕ) → begun_at count j moves ≡ begun_at count j (moves ++ Notes entry k ∷ [])
      begun_same j = sym (append-nil (begun_at count j moves)) ∙ (ap (λ (bs : List Begun). begun_at count j moves ++ bs) (sym (no_begin j)) ∙ sym (begun-more count j moves (Notes entry k)))

-- two steps on one slot are one
module _ {J D : Type 0} (letter : Letter.Ghosts J D) where
  pub reaped : (k : ℕ) (c : Enrolled) (released : Released J) (d e f : RosterView D) (sits : Sits k c d) (status : Status) (active : Bool) (word : ℕ)
      → SlotBecame k (exited_slot (slot_at d k) sits.offer status active) (noted_look d.notes word) d e → EndsWell sits.offer.kind status active
      → released.pid ≡ sits.offer.pid → released.kind ≡ sits.offer.kind → released.status ≡ status → released.was_active ≡ active
      → SlotBecame k (released_slot (slot_at e k) (past_child sits.offer status active (letter.told released.job))) (noted_release e.notes sits.offer) e f
      → letter.comes_back released.job released.kind released.status released.was_active
      → HasReaped letter k c released d f
  reaped k c released d e f sits status active word look well pid kind status_is active_is out back = record {
    sits = sits;
    pid = pid ∙ sits.pid;
    kind = kind ∙ sits.kind;
    word = word;
    became = became_twice k _ _ _ _ _ _ d e f look out
        (ap (λ (y : SlotView D). released_slot y (past_child sits.offer status active (letter.told released.job))) look.here
        ∙ ap (λ (p : Status × Bool). released_slot (slot_at d k) (past_child sits.offer p.0 p.1 (letter.told released.job))) (λ i. (sym status_is i, sym active_is i)))
        (ap (λ (n : RosterNotes). noted_release n sits.offer) look.notes_are);
    back = back;
    well = subst (λ (x : Kind). EndsWell x released.status released.was_active) (sym kind)
        (subst (λ (x : Status). EndsWell sits.offer.kind x released.was_active) (sym status_is)
        (subst (λ (x : Bool). EndsWell sits.offer.kind status x) (sym active_is) well));
  }
