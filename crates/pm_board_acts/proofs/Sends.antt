-- Steps at a board that change no slot.
use Rattle.std.{proofs.{Common.{◌≡◌, ℕ, ◌+◌, ◌<◌, List, [], ◌∷◌, ◌++◌, refl, sym, ap, subst, ◌∙◌, append_assoc, append-nil, length, get_or, map, take, arith}, lemmas.List.{length-take-le, take_more}}, specs.Prelude.{Bool, true, false, Option, Some, None, if◌then◌else◌}}
use Rattle.pm_supervisor_journal.specs.declared.roll.Enrolled.{Enrolled}
use Rattle.pm_board.specs.{pm_board_words.declared.views.{RosterStep.{RosterStep, TheVariants.Send}, RosterView.RosterView, Sight.TheVariants.Unused, SlotView.SlotView, Signal.Signal}, Children.children_of, Places.{slot_at, slot_view, IsAssigned}, Told.after_step, Models.HasSent}
use Rattle.pm_board_acts.specs.{declared.audience.Audience.Audience, Seating.{Seating, is_meant, is_told, send_to, sends, sends_from}, Board.{SeenAs, Shows, after_steps, enrolled, seat_at, seats_of}, Sitting.Sits}

module _ {D : Type 0} where
  pub after-append : (d : RosterView D) (xs ys : List RosterStep) → after_steps d (xs ++ ys) ≡ after_steps (after_steps d xs) ys
  after-append d [] ys = refl
  after-append d (x ∷ xs) ys = after-append (after_step d x) xs ys

  -- the slots stay as they are
  pub same-slots : (d : RosterView D) (ss : List RosterStep) → (after_steps d ss).slots ≡ d.slots
  same-slots d [] = refl
  same-slots d (s ∷ ss) = same-slots (after_step d s) ss

  -- and so does the limit of sessions
  pub same-limit : (d : RosterView D) (ss : List RosterStep) → (after_steps d ss).session_limit ≡ d.session_limit
  same-limit d [] = refl
  same-limit d (s ∷ ss) = same-limit (after_step d s) ss

  pub noted-steps : (d : RosterView D) (ss : List RosterStep) → (after_steps d ss).notes.steps ≡ d.notes.steps ++ ss
  noted-steps d [] = sym (append-none d.notes.steps)
    where
      append-none : (xs : List RosterStep) → xs ++ [] ≡ xs
      append-none [] = refl
      append-none (x ∷ xs) = ap (λ (ys : List RosterStep). x ∷ ys) (append-none xs)
  noted-steps d (s ∷ ss) = noted-steps (after_step d s) ss ∙ append_assoc d.notes.steps (s ∷ []) ss

  same-generation-from : (d : RosterView D) (who : Audience) (what : Signal) (g k : ℕ) (seats : List (Option Enrolled))
      → (after_steps d (sends_from who what g k seats)).generation ≡ d.generation
  same-generation-from d who what g k [] = refl
  same-generation-from d who what g k (None ∷ seats) = same-generation-from d who what g (k + 1) seats
  same-generation-from d who what g k (Some c ∷ seats) =
      by (is_meant who c) (same-generation-from (after_step d (Send k c.pid c.kind what g)) who what g (k + 1) seats) (same-generation-from d who what g (k + 1) seats)
    where
      by : (b : Bool) → (after_steps (after_step d (Send k c.pid c.kind what g)) (sends_from who what g (k + 1) seats)).generation ≡ d.generation
          → (after_steps d (sends_from who what g (k + 1) seats)).generation ≡ d.generation
          → (after_steps d ((if b then Send k c.pid c.kind what g ∷ [] else []) ++ sends_from who what g (k + 1) seats)).generation ≡ d.generation
      by true sent unsent = sent
      by false sent unsent = unsent

  -- sends leave the generation
  pub same-generation : (d : RosterView D) (who : Audience) (what : Signal) (g : ℕ) (seats : List (Option Enrolled)) → (after_steps d (sends who what g seats)).generation ≡ d.generation
  same-generation d who what g seats = same-generation-from d who what g 0 seats

  -- the child that sits there is assigned
  pub assigned : (d : RosterView D) (s : Seating) (k : ℕ) (c : Enrolled) → Shows d s → k < length s.seats → seat_at k s.seats ≡ Some c → IsAssigned d k
  assigned d s k c shows near sits =
      let seen = subst (λ (x : Option Enrolled). SeenAs s.generation x (slot_at d k).sight) sits (shows.each k near) in
      (subst (λ (n : ℕ). k < n) shows.count near, (seen.0, seen.1))

  -- and a send to it is this step
  pub sent : (d e : RosterView D) (s : Seating) (k : ℕ) (c : Enrolled) (what : Signal) → Shows d s → k < length s.seats → seat_at k s.seats ≡ Some c → HasSent k what d e
      → e ≡ after_step d (Send k c.pid c.kind what s.generation)
  sent d e s k c what shows near sits has =
      let seen = subst (λ (x : Option Enrolled). SeenAs s.generation x (slot_at d k).sight) sits (shows.each k near) in
      has seen.0 seen.1 ∙ rw (seen.2, seen.3, seen.4) refl

sends-append : (who : Audience) (what : Signal) (g k : ℕ) (xs ys : List (Option Enrolled))
    → sends_from who what g k (xs ++ ys) ≡ sends_from who what g k xs ++ sends_from who what g (k + length xs) ys
sends-append who what g k [] ys = ap (λ (n : ℕ). sends_from who what g n ys) (let z : k ≡ k + 0 = omega arith in z)
sends-append who what g k (x ∷ xs) ys =
    ap (λ (ss : List RosterStep). send_to who what g k x ++ ss)
    (sends-append who what g (k + 1) xs ys ∙ ap (λ (n : ℕ). sends_from who what g (k + 1) xs ++ sends_from who what g n ys) (let z : k + 1 + length xs ≡ k + length (x ∷ xs) = omega arith in z))
    ∙ sym (append_assoc (send_to who what g k x) (sends_from who what g (k + 1) xs) (sends_from who what g (k + length (x ∷ xs)) ys))

pub sends-more : (who : Audience) (what : Signal) (g : ℕ) (seats : List (Option Enrolled)) (k : ℕ) → k < length seats
    → sends who what g (take (k + 1) seats) ≡ sends who what g (take k seats) ++ send_to who what g k (seat_at k seats)
sends-more who what g seats k near =
    ap (sends who what g) (take_more seats k None near)
    ∙ (sends-append who what g 0 (take k seats) (seat_at k seats ∷ [])
    ∙ ap (λ (ss : List RosterStep). sends_from who what g 0 (take k seats) ++ ss)
    (append-nil (send_to who what g (0 + length (take k seats)) (seat_at k seats)) ∙ ap (λ (n : ℕ). send_to who what g n (seat_at k seats)) place))
  where
    place : 0 + length (take k seats) ≡ k
    place = let all : length (take k seats) ≡ k = length-take-le k seats (let low : k < length seats = near in omega arith) in omega arith

module _ {D : Type 0} where
  -- steps that change no slot leave who sits where
  pub seats_same : (d e : RosterView D) (ss : List RosterStep) → e ≡ after_steps d ss → seats_of e ≡ seats_of d
  seats_same d e ss is = ap (λ (xs : List (SlotView D)). map enrolled (children_of xs)) (ap (λ (x : RosterView D). x.slots) is ∙ same-slots d ss)

  -- and so do sends
  pub seats_kept : (d e : RosterView D) (who : Audience) (what : Signal) (g : ℕ) (seats : List (Option Enrolled)) → e ≡ after_steps d (sends who what g seats) → seats_of e ≡ seats_of d
  seats_kept d e who what g seats is = seats_same d e (sends who what g seats) is

  pub sits_at : (d : RosterView D) (s : Seating) (k : ℕ) (c : Enrolled) → Shows d s → s.generation ≡ d.generation → k < length s.seats → seat_at k s.seats ≡ Some c → Sits k c d
  sits_at d s k c shows same near is =
      let seen = subst (λ (x : Option Enrolled). SeenAs s.generation x (slot_at d k).sight) is (shows.each k near) in
      record { offer = seen.0; sight = seen.1; pid = seen.2; kind = seen.3; generation = seen.4 ∙ same }

  -- what a seating shows is in slots and generation alone
  pub shows_same : (d e : RosterView D) (s : Seating) → e.slots ≡ d.slots → e.generation ≡ d.generation → Shows d s → Shows e s
  shows_same d e s slots generation shows = record {
    count = shows.count ∙ sym (ap length slots);
    few = shows.few;
    generation = generation ∙ shows.generation;
    each = λ k near. subst (λ (xs : List (SlotView D)). SeenAs s.generation (seat_at k s.seats) (get_or xs k (slot_view [] Unused)).sight) (sym slots) (shows.each k near);
  }

  pub shows_sends : (d e : RosterView D) (s : Seating) (who : Audience) (what : Signal) (g : ℕ) (seats : List (Option Enrolled)) → Shows d s → e ≡ after_steps d (sends who what g seats) → Shows e s
  shows_sends d e s who what g seats shows is =
      subst (λ (x : RosterView D). Shows x s) (sym is) (shows_same d (after_steps d (sends who what g seats)) s (same-slots d (sends who what g seats)) (same-generation d who what g seats) shows)

  -- one more was told, or wasn't meant
  pub told_more : (d e f : RosterView D) (who : Audience) (what : Signal) (g k : ℕ) (seats : List (Option Enrolled)) (c : Enrolled) → k < length seats
      → e ≡ after_steps d (sends who what g (take k seats)) → seat_at k seats ≡ Some c → is_meant who c ≡ true → f ≡ after_step e (Send k c.pid c.kind what g)
      → f ≡ after_steps d (sends who what g (take (k + 1) seats))
  told_more d e f who what g k seats c near so_far sits meant next =
      next ∙ (ap (λ (x : RosterView D). after_step x (Send k c.pid c.kind what g)) so_far
      ∙ (sym (after-append d (sends who what g (take k seats)) (Send k c.pid c.kind what g ∷ []))
      ∙ sym (ap (after_steps d) (sends-more who what g seats k near
      ∙ ap (λ (ss : List RosterStep). sends who what g (take k seats) ++ ss) (ap (send_to who what g k) sits ∙ ap (λ (b : Bool). if b then Send k c.pid c.kind what g ∷ [] else []) meant)))))

  pub told_same : (d e : RosterView D) (who : Audience) (what : Signal) (g k : ℕ) (seats : List (Option Enrolled)) → k < length seats
      → e ≡ after_steps d (sends who what g (take k seats)) → send_to who what g k (seat_at k seats) ≡ []
      → e ≡ after_steps d (sends who what g (take (k + 1) seats))
  told_same d e who what g k seats near so_far none =
      so_far ∙ sym (ap (after_steps d) (sends-more who what g seats k near
      ∙ (ap (λ (ss : List RosterStep). sends who what g (take k seats) ++ ss) none ∙ append-nil (sends who what g (take k seats)))))

-- who is told sits there
pub told_one : (who : Audience) (seat : Option Enrolled) → is_told who seat ≡ true → (c : Enrolled) × (seat ≡ Some c) × (is_meant who c ≡ true)
told_one who None is = absurd (let no_ : false ≡ true = is in cc)
told_one who (Some c) is = (c, refl, is)

pub not_told : (who : Audience) (what : Signal) (g k : ℕ) (seat : Option Enrolled) → is_told who seat ≡ false → send_to who what g k seat ≡ []
not_told who what g k None isnt = refl
not_told who what g k (Some c) isnt = ap (λ (b : Bool). if b then Send k c.pid c.kind what g ∷ [] else []) isnt
