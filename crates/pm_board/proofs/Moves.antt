-- What stays of the rule when one slot and one seat move.
use Rattle.std.{proofs.Common.{◌≡◌, ◌≢◌, ℕ, ◌+◌, ◌*◌, ◌<◌, ◌≤◌, List, [], length, get_or, set, sym, refl, ap, ◌∙◌, subst, ⊎_elim, arith, length-set, get_or-set_other, get_or-set_same}, specs.Prelude.Option}
use mathlib.Core.Option.{some, some-ne-none, some-injective}
use mathlib.Core.Option as maybe
use lib.ListN.{get_elem?}
use lib.Seq.{set-get_or}
use Rattle.atomic_table.{specs.Table.State, proofs.Lists.at_set}
use Rattle.pm_board_words.specs.declared.views.{Sight.TheVariants.Unused, SlotView.SlotView, RosterNotes.RosterNotes, RosterStep.RosterStep, RosterView.RosterView, PostView.PostView, View.{View, TheVariants.{Postmaster, Worker, Spent}}}
use Rattle.pm_board.specs.{Slots.child_slots, Places.{slot_view, slot_at}, Rule.{put, at_put, Phase, PidsOk, Cell, SlotOk, OfChild, IsPlaced, Agrees, Holds, idle_post}, Told.{with_slot, after_step}}
use Rattle.pm_board_words.specs.declared.views.Letter as Letter

get_or-set_at : (l : List ℕ) (i j a : ℕ) → j ≡ i → i < length l → get_or (set l i a) j 0 ≡ a
get_or-set_at l i j a e h = ap (λ (k : ℕ). get_or (set l i a) k 0) e ∙ get_or-set_same l i a 0 h

module _ {J D : Type 0} (letter : Letter.Ghosts J D) where
  abbrev pub St : Type 0
  St = State (Option J) (View D)

  abbrev pub Homes : Type 0
  Homes = List (maybe.Option (Option J))

  abbrev pub moved_to : St → ℕ → ℕ → Homes → ℕ → View D → St
  moved_to s i word homes id v = record { words = set s.words i word; homes = homes; views = set s.views id v }

  -- the rule, with what the supervisor's seat shows
  pub rebased : (s : St) (m id : ℕ) (d e : RosterView D) (cells : ℕ → Cell D) → Holds letter m e cells s → get_elem? s.views id ≡ some (Postmaster d) → Holds letter id d cells s
  rebased s m id d e cells h at = let is = h.each_seat id (Postmaster d) at in subst (λ (z : ℕ × RosterView D). Holds letter z.0 z.1 cells s) (λ i. (sym is.0 i, sym is.1 i)) h

  module _ (s : St) (id k i : ℕ) (word : ℕ) (homes : Homes) (near : k < child_slots (length s.homes)) (here : i ≡ k) (as_long : child_slots (length homes) ≡ child_slots (length s.homes)) (apart : (j : ℕ) → j ≢ k → get_elem? homes j ≡ get_elem? s.homes j) where
    -- the slots after a step on the slot k
    slots_move : (cells : ℕ → Cell D) (x x' : ℕ → SlotView D) (c' : Cell D)
        → ((j : ℕ) → j ≢ k → x' j ≡ x j) → SlotOk letter (get_or (set s.words i word) k 0) (get_elem? homes k) (x' k) c'
        → ((j : ℕ) → j < child_slots (length s.homes) → SlotOk letter (get_or s.words j 0) (get_elem? s.homes j) (x j) (cells j))
        → (j : ℕ) → j < child_slots (length homes) → SlotOk letter (get_or (set s.words i word) j 0) (get_elem? homes j) (x' j) (put cells k c' j)
    slots_move cells x x' c' others ok each j l =
        at_put cells k c' (λ q c. q < child_slots (length homes) → SlotOk letter (get_or (set s.words i word) q 0) (get_elem? homes q) (x' q) c) j
        (λ _. ok)
        (λ other l'. subst (λ (z : ℕ × maybe.Option (maybe.Option (Option J)) × SlotView D). SlotOk letter z.0 z.1 z.2 (cells j))
        (λ u. (sym (get_or-set_other s.words i j word 0 (λ e. other (e ∙ here))) u, sym (apart j other) u, sym (others j other) u))
        (each j (omega arith)))
        l

    children_move : (d : RosterView D) (cells : ℕ → Cell D) (c' : Cell D) → OfChild (IsPlaced (child_slots (length s.homes)) d.generation k) c'.phase
        → ((j : ℕ) → j < child_slots (length s.homes) → OfChild (IsPlaced (child_slots (length s.homes)) d.generation j) (cells j).phase)
        → (j : ℕ) → j < child_slots (length homes) → OfChild (IsPlaced (child_slots (length homes)) d.generation j) (put cells k c' j).phase
    children_move d cells c' new each j l = subst (λ (n : ℕ). OfChild (IsPlaced n d.generation j) (put cells k c' j).phase) (sym as_long)
        (at_put cells k c' (λ q c. q < child_slots (length s.homes) → OfChild (IsPlaced (child_slots (length s.homes)) d.generation q) c.phase) j (λ _. new) (λ _ l'. each j l') (omega arith))

    -- the supervisor's step on a slot
    pub master_step : (d : RosterView D) (cells : ℕ → Cell D) → Holds letter id d cells s → (x' : SlotView D) (ph : Phase D) (notes : RosterNotes)
        → SlotOk letter word (get_elem? homes k) x' record { phase = ph; seat = (cells k).seat; post = (cells k).post }
        → OfChild (IsPlaced (child_slots (length s.homes)) d.generation k) ph → PidsOk (with_slot d k x' notes)
        → Holds letter id (with_slot d k x' notes) (put cells k record { phase = ph; seat = (cells k).seat; post = (cells k).post }) (moved_to s i word homes id (Postmaster (with_slot d k x' notes)))
    master_step d cells h x' ph notes ok placed pids =
        let many : length d.slots ≡ child_slots (length s.homes) = h.many in let wide : length s.words ≡ 3 * child_slots (length s.homes) + 1 = h.wide in
        let c' : Cell D = record { phase = ph; seat = (cells k).seat; post = (cells k).post } in let d' : RosterView D = with_slot d k x' notes in let cells' : ℕ → Cell D = put cells k c' in
        let ok' = subst (λ (z : ℕ). SlotOk letter z (get_elem? homes k) x' c') (sym (get_or-set_at s.words i k word (sym here) (omega arith))) ok in
        record {
          wide = length-set s.words i word ∙ (h.wide ∙ ap (λ (n : ℕ). 3 * n + 1) (sym as_long));
          many = length-set d.slots k x' ∙ (h.many ∙ sym as_long);
          pids = pids;
          some_posts = subst (λ (n : ℕ). d.dealt ≤ n) (sym as_long) h.some_posts;
          new_posts = λ j le. at_put cells k c' (λ q c. d.dealt ≤ q → c.post ≡ idle_post d.session_limit) j (λ le'. h.new_posts k le') (λ _ le'. h.new_posts j le') le;
          each_slot = slots_move cells (slot_at d) (slot_at d') c' (λ j other. get_or-set_other d.slots k j x' (slot_view [] Unused) (λ e. other e))
              (subst (λ (y : SlotView D). SlotOk letter (get_or (set s.words i word) k 0) (get_elem? homes k) y c') (sym (get_or-set_same d.slots k x' (slot_view [] Unused) (omega arith))) ok') h.each_slot;
          each_child = children_move d cells c' placed h.each_child;
          each_seat = λ j v e. ⊎_elim (λ (t : (j ≡ id) × (Postmaster d' ≡ v)). subst (λ (z : ℕ × View D). Agrees id d' cells' z.0 z.1) (λ i. (sym t.0 i, t.1 i)) (refl, refl))
              (λ (t : (j ≢ id) × (get_elem? s.views j ≡ some v)). others j v t.0 (h.each_seat j v t.1)) (at_set s.views id j (Postmaster d') v e);
        }
      where
        others : (j : ℕ) (v : View D) → j ≢ id → Agrees id d cells j v → Agrees id (with_slot d k x' notes) (put cells k record { phase = ph; seat = (cells k).seat; post = (cells k).post }) j v
        others j (Postmaster e) other f = absurd (other f.0)
        others j (Worker i w) other f = at_put cells k record { phase = ph; seat = (cells k).seat; post = (cells k).post } (λ q c. (q ≡ i) → (c.seat ≡ j) × (c.post ≡ w) × (i < d.dealt)) i
            (λ is. subst (λ (q : ℕ). ((cells q).seat ≡ j) × ((cells q).post ≡ w) × (i < d.dealt)) (sym is) f) (λ _ _. f) refl
        others j Spent other f = tt

    -- a worker's step on its own slot
    pub worker_step : (m : ℕ) (d : RosterView D) (cells : ℕ → Cell D) → Holds letter m d cells s → (w w' : PostView D) (ph : Phase D) → get_elem? s.views id ≡ some (Worker k w)
        → SlotOk letter word (get_elem? homes k) (slot_at d k) record { phase = ph; seat = id; post = w' }
        → OfChild (IsPlaced (child_slots (length s.homes)) d.generation k) ph
        → Holds letter m d (put cells k record { phase = ph; seat = id; post = w' }) (moved_to s i word homes id (Worker k w'))
    worker_step m d cells h w w' ph mine ok placed =
        let f = h.each_seat id (Worker k w) mine in let dealt : k < d.dealt = f.2 in let wide : length s.words ≡ 3 * child_slots (length s.homes) + 1 = h.wide in
        let c' : Cell D = record { phase = ph; seat = id; post = w' } in let cells' : ℕ → Cell D = put cells k c' in
        record {
          wide = length-set s.words i word ∙ (h.wide ∙ ap (λ (n : ℕ). 3 * n + 1) (sym as_long));
          many = h.many ∙ sym as_long;
          pids = h.pids;
          some_posts = subst (λ (n : ℕ). d.dealt ≤ n) (sym as_long) h.some_posts;
          new_posts = λ j le. at_put cells k c' (λ q c. d.dealt ≤ q → c.post ≡ idle_post d.session_limit) j (λ le'. absurd (omega arith)) (λ _ le'. h.new_posts j le') le;
          each_slot = slots_move cells (slot_at d) (slot_at d) c' (λ _ _. refl)
              (subst (λ (z : ℕ). SlotOk letter z (get_elem? homes k) (slot_at d k) c') (sym (get_or-set_at s.words i k word (sym here) (omega arith))) ok) h.each_slot;
          each_child = children_move d cells c' placed h.each_child;
          each_seat = λ j v e. ⊎_elim (λ (t : (j ≡ id) × (Worker k w' ≡ v)). subst (λ (z : ℕ × View D). Agrees m d cells' z.0 z.1) (λ i. (sym t.0 i, t.1 i)) (own f))
              (λ (t : (j ≢ id) × (get_elem? s.views j ≡ some v)). others f.0 j v t.0 (h.each_seat j v t.1)) (at_set s.views id j (Worker k w') v e);
        }
      where
        own : Agrees m d cells id (Worker k w) → Agrees m d (put cells k record { phase = ph; seat = id; post = w' }) id (Worker k w')
        own f = at_put cells k record { phase = ph; seat = id; post = w' } (λ q c. q ≡ k → (c.seat ≡ id) × (c.post ≡ w') × (k < d.dealt)) k (λ _. (refl, refl, f.2)) (λ n is. absurd (n is)) refl

        others : (cells k).seat ≡ id → (j : ℕ) (v : View D) → j ≢ id → Agrees m d cells j v → Agrees m d (put cells k record { phase = ph; seat = id; post = w' }) j v
        others is j (Postmaster e) other f = f
        others is j (Worker i u) other f = at_put cells k record { phase = ph; seat = id; post = w' } (λ q c. (q ≡ i) → (c.seat ≡ j) × (c.post ≡ u) × (i < d.dealt)) i
            (λ at_k. absurd (other (sym f.0 ∙ (ap (λ (q : ℕ). (cells q).seat) (sym at_k) ∙ is)))) (λ _ _. f) refl
        others is j Spent other f = tt

  -- the rule of the slots doesn't speak of the words after them
  pub other_word : (s : St) (m : ℕ) (d : RosterView D) (cells : ℕ → Cell D) (i word : ℕ) → child_slots (length s.homes) ≤ i → Holds letter m d cells s → Holds letter m d cells record { words = set s.words i word; homes = s.homes; views = s.views }
  other_word s m d cells i word behind h = record {
    wide = length-set s.words i word ∙ h.wide;
    many = h.many;
    pids = h.pids;
    some_posts = h.some_posts;
    new_posts = h.new_posts;
    each_slot = λ k l. subst (λ (z : ℕ). SlotOk letter z (get_elem? s.homes k) (slot_at d k) (cells k)) (sym (get_or-set_other s.words i k word 0 (λ e. absurd (omega arith)))) (h.each_slot k l);
    each_child = h.each_child;
    each_seat = h.each_seat;
  }

  -- a worker's step on such a word
  pub word_step : (s : St) (id k i word m : ℕ) (d : RosterView D) (cells : ℕ → Cell D) → Holds letter m d cells s → k < child_slots (length s.homes) → child_slots (length s.homes) ≤ i → (w w' : PostView D) (ph : Phase D) → get_elem? s.views id ≡ some (Worker k w)
      → SlotOk letter (get_or s.words k 0) (get_elem? s.homes k) (slot_at d k) record { phase = ph; seat = id; post = w' } → OfChild (IsPlaced (child_slots (length s.homes)) d.generation k) ph
      → Holds letter m d (put cells k record { phase = ph; seat = id; post = w' }) (moved_to s i word s.homes id (Worker k w'))
  word_step s id k i word m d cells h near behind w w' ph mine ok placed =
      let stay = worker_step s id k k (get_or s.words k 0) s.homes near refl refl (λ _ _. refl) m d cells h w w' ph mine ok placed in
      subst (λ (z : List ℕ). Holds letter m d (put cells k record { phase = ph; seat = id; post = w' }) record { words = set z i word; homes = s.homes; views = set s.views id (Worker k w') }) (set-get_or s.words k 0)
      (other_word (moved_to s k (get_or s.words k 0) s.homes id (Worker k w')) m d (put cells k record { phase = ph; seat = id; post = w' }) i word behind stay)

  -- the supervisor's step on such a word that changes no slot
  pub word_turn : (s : St) (id i word : ℕ) (d : RosterView D) (cells : ℕ → Cell D) (t : RosterStep) → child_slots (length s.homes) ≤ i → Holds letter id d cells s
      → ((k : ℕ) → k < child_slots (length s.homes) → OfChild (IsPlaced (child_slots (length s.homes)) (after_step d t).generation k) (cells k).phase) → Holds letter id (after_step d t) cells (moved_to s i word s.homes id (Postmaster (after_step d t)))
  word_turn s id i word d cells t behind h placed = let o = other_word s id d cells i word behind h in record {
    wide = o.wide;
    many = h.many;
    pids = record { below = h.pids.below; differ = h.pids.differ };
    some_posts = h.some_posts;
    new_posts = h.new_posts;
    each_slot = o.each_slot;
    each_child = placed;
    each_seat = λ j v e. ⊎_elim (λ (z : (j ≡ id) × (Postmaster (after_step d t) ≡ v)). subst (λ (y : ℕ × View D). Agrees id (after_step d t) cells y.0 y.1) (λ u. (sym z.0 u, z.1 u)) (refl, refl))
        (λ (z : (j ≢ id) × (get_elem? s.views j ≡ some v)). others j v z.0 (h.each_seat j v z.1)) (at_set s.views id j (Postmaster (after_step d t)) v e);
  }
    where
      others : (j : ℕ) (v : View D) → j ≢ id → Agrees id d cells j v → Agrees id (after_step d t) cells j v
      others j (Postmaster e) other f = absurd (other f.0)
      others j (Worker i w) other f = f
      others j Spent other f = tt

  -- the supervisor's step on such a word that changes the slot k
  pub slot_turn : (s : St) (id k i word : ℕ) (homes : Homes) (near : k < child_slots (length s.homes)) → child_slots (length s.homes) ≤ i → child_slots (length homes) ≡ child_slots (length s.homes) → ((j : ℕ) → j ≢ k → get_elem? homes j ≡ get_elem? s.homes j)
      → (d : RosterView D) (cells : ℕ → Cell D) → Holds letter id d cells s → (x' : SlotView D) (ph : Phase D) (notes : RosterNotes)
      → SlotOk letter (get_or s.words k 0) (get_elem? homes k) x' record { phase = ph; seat = (cells k).seat; post = (cells k).post }
      → OfChild (IsPlaced (child_slots (length s.homes)) d.generation k) ph → PidsOk (with_slot d k x' notes)
      → Holds letter id (with_slot d k x' notes) (put cells k record { phase = ph; seat = (cells k).seat; post = (cells k).post }) (moved_to s i word homes id (Postmaster (with_slot d k x' notes)))
  slot_turn s id k i word homes near behind as_long apart d cells h x' ph notes ok placed pids =
      let stay = master_step s id k k (get_or s.words k 0) homes near refl as_long apart d cells h x' ph notes ok placed pids in
      subst (λ (z : List ℕ). Holds letter id (with_slot d k x' notes) (put cells k record { phase = ph; seat = (cells k).seat; post = (cells k).post }) record { words = set z i word; homes = homes; views = set s.views id (Postmaster (with_slot d k x' notes)) }) (set-get_or s.words k 0)
      (other_word (moved_to s k (get_or s.words k 0) homes id (Postmaster (with_slot d k x' notes))) id (with_slot d k x' notes) (put cells k record { phase = ph; seat = (cells k).seat; post = (cells k).post }) i word (subst (λ (n : ℕ). n ≤ i) (sym as_long) behind) stay)
