-- What stays of the seats at each step.
use Rattle.std.{proofs.Common.{◌≡◌, ◌≢◌, ℕ, zero, suc, ◌+◌, ◌<◌, ◌≤◌, List, [], ◌∷◌, ◌++◌, length, set, refl, sym, ap, ◌∙◌, subst, arith, length-set, get_or-set_same, get_or-set_other}, specs.Prelude.{true, false}}
use mathlib.Core.Logic.{dite}
use mathlib.Core.Option.{some, some-injective}
use native.Mathlib.Decide.{ℕ_discrete}
use lib.ListN.{get_elem?}
use Rattle.atomic_table.proofs.Lists.{at_longer, at_last, set_else}
use Rattle.pm_board_words.specs.declared.views.{PostView.PostView, RosterNotes.RosterNotes, RosterView.RosterView, Sight.{Sight, TheVariants.{Unused, Gathered}}, SlotView.SlotView, View.{View, TheVariants.{Postmaster, Worker, Spent}}}
use Rattle.pm_board.specs.{Places.{slot_view, slot_at}, Rule.{Phase, Cell, put, at_put, idle_post}, Told.{with_slot, with_post}, Seats.{is_gathered, HasSeat, held, taken, Seats}}

-- a view that was replaced is there
set_at : {A : Type 0} (l : List A) (i : ℕ) (a b : A) → get_elem? l i ≡ some a → get_elem? (set l i b) i ≡ some b
set_at [] i a b e = absurd (cc)
set_at (x ∷ xs) zero a b e = refl
set_at (x ∷ xs) (suc i) a b e = set_at xs i a b e

module _ {D : Type 0} where
  same_view : (views : List (View D)) (i : ℕ) (v w : View D) → get_elem? views i ≡ some v → get_elem? views i ≡ some w → v ≡ w
  same_view views i v w a b = some-injective v w (sym a ∙ b)

  -- a seat stays where another's view changes
  stays : (views : List (View D)) (id : ℕ) (v v' : View D) (s : Sight D) (k : ℕ) (c : Cell D) → get_elem? views id ≡ some v → v ≢ Spent → v ≢ Worker k c.post → HasSeat views s k c → HasSeat (set views id v') s k c
  stays views id v v' s k c at no_spent no_worker (held h e) = held (set_else views id c.seat v' (λ is. no_worker (same_view views id v _ at (ap (get_elem? views) (sym is) ∙ h))) ∙ h) e
  stays views id v v' s k c at no_spent no_worker (taken h e) = taken (set_else views id c.seat v' (λ is. no_spent (same_view views id v _ at (ap (get_elem? views) (sym is) ∙ h))) ∙ h) e

  -- a slot that was gathered has no worker's seat
  not_taken : (views : List (View D)) (s : Sight D) (k : ℕ) (c : Cell D) (w : PostView D) → get_elem? views c.seat ≡ some (Worker k w) → HasSeat views s k c → is_gathered s ≡ false
  not_taken views s k c w at (held h e) = e
  not_taken views s k c w at (taken h e) = let no_ : Worker k w ≡ Spent = same_view views c.seat _ _ at h in absurd (cc)

  -- and one that wasn't has one
  there : (views : List (View D)) (s s' : Sight D) (k : ℕ) (c : Cell D) → is_gathered s ≡ false → is_gathered s' ≡ false → HasSeat views s k c → HasSeat views s' k c
  there views s s' k c no_ no' (held h e) = held h no'
  there views s s' k c no_ no' (taken h e) = let both : false ≡ true = sym no_ ∙ ap is_gathered e in absurd (cc)

  -- a worker's step on its own slot
  pub seats_step : (id k : ℕ) (views : List (View D)) (d : RosterView D) (cells : ℕ → Cell D) (w w' : PostView D) (ph : Phase D) → get_elem? views id ≡ some (Worker k w) → ((cells k).seat ≡ id) × ((cells k).post ≡ w) × (k < d.dealt)
      → Seats views d cells → Seats (set views id (Worker k w')) d (put cells k record { phase = ph; seat = id; post = w' })
  seats_step id k views d cells w w' ph at mine ok = let c' : Cell D = record { phase = ph; seat = id; post = w' } in record {
    each = λ j l. at_put cells k c' (λ q c. q < d.dealt → HasSeat (set views id (Worker k w')) (slot_at d q).sight q c) j
        (λ l'. held (set_at views id (Worker k w) (Worker k w') at) (not_taken views (slot_at d k).sight k (cells k) w (ap (get_elem? views) mine.0 ∙ at) (ok.each k l')))
        (λ ne l'. stays views id (Worker k w) (Worker k w') (slot_at d j).sight j (cells j) at (λ e. absurd (cc)) (λ e. ne (let same : k ≡ j = cc in sym same)) (ok.each j l')) l;
    none_yet = ok.none_yet;
  }

  -- the supervisor's step on a slot
  pub seats_turn : (id k : ℕ) (views : List (View D)) (d : RosterView D) (cells : ℕ → Cell D) (x : SlotView D) (notes : RosterNotes) (ph : Phase D) → get_elem? views id ≡ some (Postmaster d) → k < length d.slots → is_gathered (slot_at d k).sight ≡ false → is_gathered x.sight ≡ false
      → Seats views d cells → Seats (set views id (Postmaster (with_slot d k x notes))) (with_slot d k x notes) (put cells k record { phase = ph; seat = (cells k).seat; post = (cells k).post })
  seats_turn id k views d cells x notes ph at near old new ok = let c' : Cell D = record { phase = ph; seat = (cells k).seat; post = (cells k).post } in let d' : RosterView D = with_slot d k x notes in let views' : List (View D) = set views id (Postmaster d') in record {
    each = λ j l. at_put cells k c' (λ q c. q < d.dealt → HasSeat views' (slot_at d' q).sight q c) j
        (λ l'. subst (λ (z : SlotView D). HasSeat views' z.sight k c') (sym (get_or-set_same d.slots k x (slot_view [] Unused) near))
        (moved views' x.sight k (cells k) ph (stays views id (Postmaster d) (Postmaster d') x.sight k (cells k) at (λ e. absurd (cc)) (λ e. absurd (cc)) (there views (slot_at d k).sight x.sight k (cells k) old new (ok.each k l')))))
        (λ ne l'. subst (λ (z : SlotView D). HasSeat views' z.sight j (cells j)) (sym (get_or-set_other d.slots k j x (slot_view [] Unused) (λ e. ne e)))
        (stays views id (Postmaster d) (Postmaster d') (slot_at d j).sight j (cells j) at (λ e. absurd (cc)) (λ e. absurd (cc)) (ok.each j l'))) l;
    none_yet = λ j le. dite (ℕ_discrete j k)
        (λ is. subst (λ (q : ℕ). is_gathered (slot_at d' q).sight ≡ false) (sym is) (ap (λ (z : SlotView D). is_gathered z.sight) (get_or-set_same d.slots k x (slot_view [] Unused) near) ∙ new))
        (λ ne. ap (λ (z : SlotView D). is_gathered z.sight) (get_or-set_other d.slots k j x (slot_view [] Unused) (λ e. ne e)) ∙ ok.none_yet j le);
  }
    where
      moved : (views : List (View D)) (s : Sight D) (k : ℕ) (c : Cell D) (ph : Phase D) → HasSeat views s k c → HasSeat views s k record { phase = ph; seat = c.seat; post = c.post }
      moved views s k c ph (held h e) = held h e
      moved views s k c ph (taken h e) = taken h e

  -- a step of the supervisor that changes no slot
  pub seats_still : (id : ℕ) (views : List (View D)) (d d' : RosterView D) (cells : ℕ → Cell D) → get_elem? views id ≡ some (Postmaster d) → d'.slots ≡ d.slots → d'.dealt ≡ d.dealt → Seats views d cells → Seats (set views id (Postmaster d')) d' cells
  seats_still id views d d' cells at slots dealt ok = record {
    each = λ j l. subst (λ (z : List (SlotView D)). HasSeat (set views id (Postmaster d')) (slot_at record d { slots = z } j).sight j (cells j)) (sym slots)
        (stays views id (Postmaster d) (Postmaster d') (slot_at d j).sight j (cells j) at (λ e. absurd (cc)) (λ e. absurd (cc)) (ok.each j (subst (λ (n : ℕ). j < n) dealt l)));
    none_yet = λ j le. ap (λ (z : List (SlotView D)). is_gathered (slot_at record d { slots = z } j).sight) slots ∙ ok.none_yet j (subst (λ (n : ℕ). n ≤ j) dealt le);
  }

  -- one more post is made
  pub seats_dealt : (id : ℕ) (views : List (View D)) (d : RosterView D) (cells : ℕ → Cell D) → get_elem? views id ≡ some (Postmaster d) → (cells d.dealt).post ≡ idle_post d.session_limit → Seats views d cells
      → Seats (set views id (Postmaster (with_post d)) ++ Worker d.dealt (idle_post d.session_limit) ∷ []) (with_post d) (put cells d.dealt record { phase = (cells d.dealt).phase; seat = length views; post = (cells d.dealt).post })
  seats_dealt id views d cells at idle ok = let k : ℕ = d.dealt in let c' : Cell D = record { phase = (cells k).phase; seat = length views; post = (cells k).post } in let v : View D = Worker k (idle_post d.session_limit) in let views' : List (View D) = set views id (Postmaster (with_post d)) in record {
    each = λ j l. at_put cells k c' (λ q c. q < k + 1 → HasSeat (views' ++ v ∷ []) (slot_at d q).sight q c) j
        (λ _. held (at_last views' v (length views) (length-set views id (Postmaster (with_post d))) ∙ ap (λ (z : PostView D). some (Worker k z)) (sym idle)) (ok.none_yet k (omega arith)))
        (λ ne l'. longer views' v (slot_at d j).sight j (cells j) (stays views id (Postmaster d) (Postmaster (with_post d)) (slot_at d j).sight j (cells j) at (λ e. absurd (cc)) (λ e. absurd (cc)) (ok.each j (omega arith)))) l;
    none_yet = λ j le. ok.none_yet j (let l : d.dealt + 1 ≤ j = le in omega arith);
  }
    where
      longer : (views : List (View D)) (v : View D) (s : Sight D) (k : ℕ) (c : Cell D) → HasSeat views s k c → HasSeat (views ++ v ∷ []) s k c
      longer views v s k c (held h e) = held (at_longer views (v ∷ []) c.seat _ h) e
      longer views v s k c (taken h e) = taken (at_longer views (v ∷ []) c.seat _ h) e

  -- a post is taken in
  pub seats_gathered : (id other k : ℕ) (views : List (View D)) (d : RosterView D) (cells : ℕ → Cell D) (w : PostView D) (ph : Phase D) → get_elem? views id ≡ some (Postmaster d) → get_elem? views other ≡ some (Worker k w) → other ≢ id → ((cells k).seat ≡ other) × ((cells k).post ≡ w) × (k < d.dealt) → k < length d.slots
      → Seats views d cells
      → Seats (set (set views id (Postmaster (with_slot d k (slot_view (slot_at d k).past (Gathered w.past w.notes)) d.notes))) other Spent) (with_slot d k (slot_view (slot_at d k).past (Gathered w.past w.notes)) d.notes) (put cells k record { phase = ph; seat = (cells k).seat; post = (cells k).post })
  seats_gathered id other k views d cells w ph at mine apart own near ok =
      let x : SlotView D = slot_view (slot_at d k).past (Gathered w.past w.notes) in let d' : RosterView D = with_slot d k x d.notes in let c' : Cell D = record { phase = ph; seat = (cells k).seat; post = (cells k).post } in
      let views' : List (View D) = set views id (Postmaster d') in let last : List (View D) = set views' other Spent in let mine' : get_elem? views' other ≡ some (Worker k w) = set_else views id other (Postmaster d') apart ∙ mine in record {
        each = λ j l. at_put cells k c' (λ q c. q < d.dealt → HasSeat last (slot_at d' q).sight q c) j
            (λ _. subst (λ (z : SlotView D). HasSeat last z.sight k c') (sym (get_or-set_same d.slots k x (slot_view [] Unused) near))
            (taken (ap (get_elem? last) own.0 ∙ set_at views' other (Worker k w) Spent mine') (ap (λ (z : PostView D). Gathered z.past z.notes) (sym own.1))))
            (λ ne l'. subst (λ (z : SlotView D). HasSeat last z.sight j (cells j)) (sym (get_or-set_other d.slots k j x (slot_view [] Unused) (λ e. ne e)))
            (stays views' other (Worker k w) Spent (slot_at d j).sight j (cells j) mine' (λ e. absurd (cc)) (λ e. ne (let same : k ≡ j = cc in sym same))
            (stays views id (Postmaster d) (Postmaster d') (slot_at d j).sight j (cells j) at (λ e. absurd (cc)) (λ e. absurd (cc)) (ok.each j l')))) l;
        none_yet = λ j le. dite (ℕ_discrete j k)
            (λ is. absurd (let l : k < d.dealt = own.2 in omega arith))
            (λ ne. ap (λ (z : SlotView D). is_gathered z.sight) (get_or-set_other d.slots k j x (slot_view [] Unused) (λ e. ne e)) ∙ ok.none_yet j le);
      }
