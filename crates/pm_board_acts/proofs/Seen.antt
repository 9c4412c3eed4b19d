-- Who sits where, as the roster's own list has it.
use Rattle.std.{proofs.{Common.{◌≡◌, ℕ, ◌<◌, ◌∙◌, [], sym, ap, subst, set, map, length}, lemmas.List.{get_or-map, map-set, length-map}}, specs.Prelude.{Option, None}}
use Rattle.pm_board.specs.{pm_exit.declared.child.Kind.Kind, pm_board_words.declared.views.{RosterView.RosterView, Sight.TheVariants.Unused}, Children.{child_in_slot, child_seen, children_of}, Places.{slot_at, slot_view}}
use Rattle.pm_board_acts.specs.Board.{enrolled, seat_at, seats_of}

module _ {D : Type 0} where
  -- one that has sat down, or is gone
  pub seats_set : (d e : RosterView D) (k : ℕ) (c : Option (ℕ × Kind)) → children_of e.slots ≡ set (children_of d.slots) k c → seats_of e ≡ set (seats_of d) k (enrolled c)
  seats_set d e k c is = ap (map enrolled) is ∙ map-set enrolled (children_of d.slots) k c

  pub seats_stay : (d e : RosterView D) → children_of e.slots ≡ children_of d.slots → seats_of e ≡ seats_of d
  seats_stay d e is = ap (map enrolled) is

  -- as many as there are slots
  pub as_many : (d : RosterView D) → length (seats_of d) ≡ length d.slots
  as_many d = length-map (children_of d.slots) enrolled ∙ length-map d.slots child_in_slot

  pub seat_seen : (d : RosterView D) (k : ℕ) → k < length d.slots → seat_at k (seats_of d) ≡ enrolled (child_seen (slot_at d k).sight)
  seat_seen d k near =
      get_or-map enrolled (children_of d.slots) k None None (subst (λ (n : ℕ). k < n) (sym (length-map d.slots child_in_slot)) near)
      ∙ ap enrolled (get_or-map child_in_slot d.slots k (slot_view [] Unused) None near)
