-- Each step keeps the rule.
use Rattle.std.{proofs.{Common.{◌≡◌, ◌≢◌, ◌⊎◌, inl, ℕ, zero, suc, ◌+◌, ◌*◌, ◌%◌, ◌^◌, ◌<◌, ◌≤◌, List, [], ◌∷◌, ◌++◌, length, map, get_or, set, sym, refl, ap, ◌∙◌, subst, ⊎_elim, arith, length-set, get_or-set_other, get_or-set_same, append-nil}, lemmas.List.{length-map, length-replicate, Elements.Contains-append_left}, Math.Nat.mod-eq_of_lt}, specs.Prelude.{Bool, true, false, Option, Some, None, replicate}}
use mathlib.Core.Logic.{dite}
use mathlib.Core.Option.{none, some, some-ne-none, some-injective}
use mathlib.Core.Option as maybe
use native.Mathlib.Decide.{ℕ_discrete}
use lib.ListN.{get_elem?}
use lib.Seq.{set-get_or}
use Rattle.atomic_table.{specs.Table.{step, keeps, takes, gives, stepped, opening, Allows, Joins}, proofs.Lists.{at_set, set_here, set_else, set_again}}
use Rattle.pm_facts.specs.Lists.{at_end, same_everywhere}
use Rattle.pm_exit.specs.declared.child.Status.{Status, TheVariants.Code}
use Rattle.pm_board_words.specs.{declared.views.{SessionLimit.SessionLimit, Offer.Offer, PastChild.PastChild, PostNotes.PostNotes, PostStep.TheVariants.Exit, RosterNotes.RosterNotes, RosterStep.{RosterStep, TheVariants.{Assign, Release}}, Sight.TheVariants.{Unused, Opened, Assigned, Exited, Collected, Gathered}, SlotView.SlotView, RosterView.RosterView, Work.{Work, TheVariants.{Idle, Sees, Inactive, Active, Refused, Attached}}, PostView.PostView, View.{View, TheVariants.{Postmaster, Worker, Spent}}}, Words.{bit, kind_number, kind_of, signal_bit, status_number, exit_step, stage_in, active_in, status_in, FitsWord}, Latch.{latch_place, cancel_place}}
use Rattle.pm_board.{specs.{Slots.{child_slots, is_slot}, Places.{slot_view, slot_at, is_auxiliary, lost, SlotServes, EndsWell}, Rule.{at_put, put, Phase, unused, opened, offered, running, ended, collected, gathered, child_word, offer_word, word_of, Seen, Does, OfChild, OfLiving, IsPlaced, used_pid, PidsOk, Cell, SlotOk, Agrees, Holds, idle_post}, Gate.{GateOk, gate_of}, Latches.{times_sent, WereMade, latch_at, cancel_at, Latches}, Seats.is_gathered, History.Kept, Told.{MayEnd, Assigns, Loads, Starts, Ends, Looks, Releases, Clears, Compares, post_view, past_child, with_slot, noted_assign, noted_release, noted_look, noted_load, noted_start, noted_exit, assigned_slot, running_slot, exited_slot, dealt_more, next_post, with_post, taken_in, newcomer, new_roster}}, proofs.{Bits.{kind_small, kind_again, active_again, status_read, packed_small, same_exit}, Gates.{uncounted, uncounted_by, gate_moves, ended_counts, once_still, once_offered, once_ended, first_gate_ok}, Moves.{rebased, master_step, worker_step, St}, Passes.lives, Latches.{at_last, reach-more, not_released-append, assign_is_no_release, release_is_other, unreleased_all, each-append, hears_first, latch_stepped, latch_released, latch_here, latches_pass, latches_still, first_latches}, Seats.{seats_step, seats_turn, seats_dealt, seats_gathered}, Hearing.{same_limit, heard_as_sent}, Histories.{kept, same_history, own_release, quiet, leaves, joins, first_history, others_stay}}}
use Rattle.pm_board_words.specs.declared.views.Letter as Letter

pub grown : (x a y : ℕ) → x + a ≡ y → y < 18446744073709551616 → (x + a) % 2 ^ 64 ≡ y
grown x a y e h = let l : x + a < 2 ^ 64 = omega arith in mod-eq_of_lt l ∙ e

module _ {D : Type 0} where
  pub fits_for : (stage : ℕ) (o : Offer D) (status : Status) (active : Bool) → stage < 8 → o.pid < 2147483648 → status_number status < 256 → FitsWord record { stage = stage; is_active = active; kind = o.kind; status = status; pid = o.pid }
  fits_for stage o status active a b c = record { stage = a; status = c; pid = b }

  stage_is : (stage : ℕ) (o : Offer D) (status : Status) (active : Bool) → stage < 8 → stage_in (child_word stage o status active) ≡ stage
  stage_is stage o status active h =
      let y : ℕ = bit active + (2 * kind_number o.kind + (16 * signal_bit status + (32 * status_number status + 8192 * o.pid))) in omega arith

  -- the phases in which the supervisor sees this
  pub see_unused : (ph : Phase D) (past : List (PastChild D)) → Seen ph past Unused → ph ≡ unused
  see_unused unused past e = refl
  see_unused (opened q) past e = absurd (cc)
  see_unused (offered o) past e = absurd (cc)
  see_unused (running o a) past e = absurd (cc)
  see_unused (ended o st a b) past e = absurd e
  see_unused (collected o st a) past e = absurd (cc)
  see_unused gathered past e = let no : Unused ≡ Gathered past e.0 = e.1 in absurd (cc)

  see_opened : (ph : Phase D) (past : List (PastChild D)) (p : ℕ) → Seen ph past (Opened p) → ph ≡ opened p
  see_opened unused past p e = absurd (cc)
  see_opened (opened q) past p e = let same : Opened p ≡ Opened q = e in let it : q ≡ p = cc in ap opened it
  see_opened (offered o) past p e = absurd (cc)
  see_opened (running o a) past p e = absurd (cc)
  see_opened (ended o st a b) past p e = absurd e
  see_opened (collected o st a) past p e = absurd (cc)
  see_opened gathered past p e = let no : Opened p ≡ Gathered past e.0 = e.1 in absurd (cc)

  see_exited : (ph : Phase D) (past : List (PastChild D)) (o : Offer D) (st : Status) (a : Bool) → Seen ph past (Exited o st a) → (b : D) × (ph ≡ ended o st a b)
  see_exited unused past o st a e = absurd (cc)
  see_exited (opened q) past o st a e = absurd (cc)
  see_exited (offered p) past o st a e = absurd (cc)
  see_exited (running p c) past o st a e = absurd (cc)
  see_exited (ended p t c b) past o st a e = (b, λ i. ended (sym e.0 i) (sym e.1 i) (sym e.2 i) b)
  see_exited (collected p t c) past o st a e = absurd (cc)
  see_exited gathered past o st a e = let no : Exited o st a ≡ Gathered past e.0 = e.1 in absurd (cc)

  see_collected : (ph : Phase D) (past : List (PastChild D)) (o : Offer D) (st : Status) (a : Bool) → Seen ph past (Collected o st a) → ph ≡ collected o st a
  see_collected unused past o st a e = absurd (cc)
  see_collected (opened q) past o st a e = absurd (cc)
  see_collected (offered p) past o st a e = absurd (cc)
  see_collected (running p c) past o st a e = absurd (cc)
  see_collected (ended p t c b) past o st a e = absurd e
  see_collected (collected p t c) past o st a e = let same : Collected p t c ≡ Collected o st a = sym e in let x : p ≡ o = cc in let y : t ≡ st = cc in let z : c ≡ a = cc in λ i. collected (x i) (y i) (z i)
  see_collected gathered past o st a e = let no : Collected o st a ≡ Gathered past e.0 = e.1 in absurd (cc)

  see_gathered : (ph : Phase D) (past ys : List (PastChild D)) (notes : PostNotes) → Seen ph past (Gathered ys notes) → ys ≡ past
  see_gathered unused past ys notes e = absurd (cc)
  see_gathered (opened q) past ys notes e = absurd (cc)
  see_gathered (offered o) past ys notes e = absurd (cc)
  see_gathered (running o a) past ys notes e = absurd (cc)
  see_gathered (ended o st a b) past ys notes e = absurd e
  see_gathered (collected o st a) past ys notes e = absurd (cc)
  see_gathered gathered past ys notes e = let same : Gathered ys notes ≡ Gathered past e.0 = e.1 in cc

  -- an assigned slot whose word is in stage 3 has a child that has ended
  see_ended : (ph : Phase D) (past : List (PastChild D)) (o : Offer D) (word : ℕ) → word ≡ word_of ph → Seen ph past (Assigned o) → stage_in word ≡ 3 → (st : Status) × (a : Bool) × (b : D) × (ph ≡ ended o st a b)
  see_ended unused past o w is e three = absurd (cc)
  see_ended (opened q) past o w is e three = absurd (cc)
  see_ended (offered p) past o w is e three = let one : stage_in (child_word 1 p (Code 0) false) ≡ 1 = stage_is 1 p (Code 0) false (omega arith) in let same : stage_in w ≡ 1 = ap stage_in is ∙ one in absurd (omega arith)
  see_ended (running p c) past o w is e three = let two : stage_in (child_word 2 p (Code 0) c) ≡ 2 = stage_is 2 p (Code 0) c (omega arith) in let same : stage_in w ≡ 2 = ap stage_in is ∙ two in absurd (omega arith)
  see_ended (ended p t c b) past o w is e three = (t, c, b, λ i. ended (sym e i) t c b)
  see_ended (collected p t c) past o w is e three = absurd (cc)
  see_ended gathered past o w is e three = let no : Assigned o ≡ Gathered past e.0 = e.1 in absurd (cc)

  -- the phases in which a worker does this
  does_nothing : (ph : Phase D) (word : ℕ) → word ≡ word_of ph → Does ph Idle → stage_in word ≡ 1 → (o : Offer D) × (ph ≡ offered o)
  does_nothing unused w is e one = absurd (omega arith)
  does_nothing (opened q) w is e one = absurd (omega arith)
  does_nothing (offered p) w is e one = (p, refl)
  does_nothing (running p c) w is e one = absurd e
  does_nothing (ended p t c b) w is e one = let three : stage_in (child_word 3 p t c) ≡ 3 = stage_is 3 p t c (omega arith) in let same : stage_in w ≡ 3 = ap stage_in is ∙ three in absurd (omega arith)
  does_nothing (collected p t c) w is e one = let four : stage_in (child_word 4 p t c) ≡ 4 = stage_is 4 p t c (omega arith) in let same : stage_in w ≡ 4 = ap stage_in is ∙ four in absurd (omega arith)
  does_nothing gathered w is e one = absurd (omega arith)

  does_see : (ph : Phase D) (word : ℕ) → Does ph (Sees word) → (o : Offer D) × (word ≡ offer_word o) × (ph ≡ offered o)
  does_see unused word e = absurd (cc)
  does_see (opened q) word e = absurd (cc)
  does_see (offered o) word e = (o, e, refl)
  does_see (running o a) word e = absurd e
  does_see (ended o t a b) word e = absurd (cc)
  does_see (collected o t a) word e = absurd (cc)
  does_see gathered word e = absurd (cc)

  pub does_run : (ph : Phase D) (o : Offer D) → Does ph (Inactive o) → ph ≡ running o false
  does_run unused o e = absurd (cc)
  does_run (opened q) o e = absurd (cc)
  does_run (offered p) o e = absurd e
  does_run (running p a) o e = λ i. running (sym e.0 i) (e.1 i)
  does_run (ended p t a b) o e = absurd (cc)
  does_run (collected p t a) o e = absurd (cc)
  does_run gathered o e = absurd (cc)

  pub does_stay : (ph : Phase D) (o : Offer D) (g : ℕ) → Does ph (Attached o g) → ph ≡ running o true
  does_stay unused o g e = absurd (cc)
  does_stay (opened q) o g e = absurd (cc)
  does_stay (offered p) o g e = absurd e
  does_stay (running p a) o g e = λ i. running (sym e.0 i) (e.1 i)
  does_stay (ended p t a b) o g e = absurd (cc)
  does_stay (collected p t a) o g e = absurd (cc)
  does_stay gathered o g e = absurd (cc)

  pub does_act : (ph : Phase D) (o : Offer D) → Does ph (Active o) → ph ≡ running o true
  does_act unused o e = absurd (cc)
  does_act (opened q) o e = absurd (cc)
  does_act (offered p) o e = absurd e
  does_act (running p a) o e = λ i. running (sym e.0 i) (e.1 i)
  does_act (ended p t a b) o e = absurd (cc)
  does_act (collected p t a) o e = absurd (cc)
  does_act gathered o e = absurd (cc)

  pub does_back : (ph : Phase D) (o : Offer D) (g : ℕ) → Does ph (Refused o g) → ph ≡ running o true
  does_back unused o g e = absurd (cc)
  does_back (opened q) o g e = absurd (cc)
  does_back (offered p) o g e = absurd e
  does_back (running p a) o g e = λ i. running (sym e.0 i) (e.1 i)
  does_back (ended p t a b) o g e = absurd (cc)
  does_back (collected p t a) o g e = absurd (cc)
  does_back gathered o g e = absurd (cc)

  -- a child that may end runs
  ending : (ph : Phase D) (w : Work D) (o : Offer D) (a : Bool) → Does ph w → MayEnd w o a → ph ≡ running o a
  ending ph Idle o a does may = absurd may
  ending ph (Sees word) o a does may = absurd may
  ending ph (Active p) o a does may = absurd may
  ending ph (Refused p g) o a does may = absurd may
  ending ph (Inactive p) o a does may = does_run ph p does ∙ (λ i. running (may.0 i) (sym may.1 i))
  ending ph (Attached p g) o a does may = does_stay ph p g does ∙ (λ i. running (may.0 i) (sym may.1 i))

  pub same_end : (w : Work D) (o o' : Offer D) (a a' : Bool) → MayEnd w o a → MayEnd w o' a' → (o ≡ o') × (a ≡ a')
  same_end Idle o o' a a' x y = absurd x
  same_end (Sees word) o o' a a' x y = absurd x
  same_end (Active p) o o' a a' x y = absurd x
  same_end (Refused p g) o o' a a' x y = absurd x
  same_end (Inactive p) o o' a a' x y = (sym x.0 ∙ y.0, x.1 ∙ sym y.1)
  same_end (Attached p g) o o' a a' x y = (sym x.0 ∙ y.0, x.1 ∙ sym y.1)

  -- what holds of the slot k after and of each other slot holds after
  at_roster : (d : RosterView D) (k : ℕ) (x : SlotView D) (notes : RosterNotes) → k < length d.slots → (F : ℕ → SlotView D → Type 0) (j : ℕ) → F k x → (j ≢ k → F j (slot_at d j)) → F j (slot_at (with_slot d k x notes) j)
  at_roster d k x notes near F j here other = dite (ℕ_discrete j k)
      (λ is. subst (λ (q : ℕ). F q (slot_at (with_slot d k x notes) q)) (sym is) (subst (F k) (sym (get_or-set_same d.slots k x (slot_view [] Unused) near)) here))
      (λ ne. subst (F j) (sym (get_or-set_other d.slots k j x (slot_view [] Unused) (λ e. ne e))) (other ne))

  pids_set : (d : RosterView D) (k : ℕ) (x : SlotView D) (notes : RosterNotes) → k < length d.slots → PidsOk d → d.notes.last_pid ≤ notes.last_pid → used_pid x.sight ≤ notes.last_pid
      → ((j : ℕ) → j ≢ k → 0 < used_pid x.sight → used_pid x.sight ≢ used_pid (slot_at d j).sight) → PidsOk (with_slot d k x notes)
  pids_set d k x notes near ok up low apart = record {
    below = λ j. at_roster d k x notes near (λ q y. used_pid y.sight ≤ notes.last_pid) j low (λ _. let h : used_pid (slot_at d j).sight ≤ d.notes.last_pid = ok.below j in omega arith);
    differ = λ i j. at_roster d k x notes near (λ q y. 0 < used_pid y.sight → used_pid y.sight ≡ used_pid (slot_at (with_slot d k x notes) j).sight → q ≡ j) i
        (λ pos. at_roster d k x notes near (λ q y. used_pid x.sight ≡ used_pid y.sight → k ≡ q) j (λ _. refl) (λ ne e. absurd (apart j ne pos e)))
        (λ nei pos. at_roster d k x notes near (λ q y. used_pid (slot_at d i).sight ≡ used_pid y.sight → i ≡ q) j
        (λ e. let pos' : 0 < used_pid x.sight = omega arith in absurd (apart i nei pos' (sym e))) (λ nej e. ok.differ i j pos e));
  }

  -- the pid of the slot k stays, or goes
  pids_keep : (d : RosterView D) (k : ℕ) (x : SlotView D) (notes : RosterNotes) → k < length d.slots → PidsOk d → notes.last_pid ≡ d.notes.last_pid → used_pid x.sight ≡ used_pid (slot_at d k).sight → PidsOk (with_slot d k x notes)
  pids_keep d k x notes near ok top is = let b : used_pid (slot_at d k).sight ≤ d.notes.last_pid = ok.below k in
      pids_set d k x notes near ok (omega arith) (omega arith) (λ j ne pos e. ne (sym (ok.differ k j (omega arith) (sym is ∙ e))))

  pub pids_drop : (d : RosterView D) (k : ℕ) (x : SlotView D) (notes : RosterNotes) → k < length d.slots → PidsOk d → notes.last_pid ≡ d.notes.last_pid → used_pid x.sight ≡ 0 → PidsOk (with_slot d k x notes)
  pids_drop d k x notes near ok top is = pids_set d k x notes near ok (omega arith) (omega arith) (λ j ne pos e. absurd (omega arith))

abbrev value_or : {J : Type 0} → J → Option J → J
value_or d None = d
value_or d (Some y) = y

abbrev value_in : {J : Type 0} → J → List (ℕ × Option J) → J
value_in d [] = d
value_in d (x ∷ xs) = value_or d x.1

-- a seat that holds one slot holds one value
pub held : {J : Type 0} (k k' : ℕ) (j j' : J) → ◌≡◌ {A = List (ℕ × Option J)} ((k, Some j) ∷ []) ((k', Some j') ∷ []) → j ≡ j'
held k k' j j' e = ap (value_in j) e

all_home : {A : Type 0} (n k : ℕ) (a : A) → k < n → get_elem? (map some (replicate n a)) k ≡ some (some a)
all_home zero k a h = absurd (omega arith)
all_home (suc n) zero a h = refl
all_home (suc n) (suc k) a h = all_home n k a (omega arith)

module _ {J D : Type 0} (letter : Letter.Ghosts J D) (limit : SessionLimit) where
  -- the same slot, with a phase that is known
  pub at_phase : (word : ℕ) (home : maybe.Option (maybe.Option (Option J))) (x : SlotView D) (c : Cell D) (p : Phase D) → c.phase ≡ p → SlotOk letter word home x c → SlotOk letter word home x record { phase = p; seat = c.seat; post = c.post }
  at_phase word home x c p e ok = subst (λ (q : Phase D). SlotOk letter word home x record { phase = q; seat = c.seat; post = c.post }) e ok

  pub placed_as : (n g k : ℕ) (p q : Phase D) → p ≡ q → OfChild (IsPlaced n g k) p → OfChild (IsPlaced n g k) q
  placed_as n g k p q e h = subst (OfChild (IsPlaced n g k)) e h

  pub assigns : (n id k : ℕ) (o : Offer D) (d : RosterView D) (j : J) → k < child_slots n → (slot_at d k).sight ≡ Opened o.pid → d.notes.last_pid < o.pid → o.pid < 2147483648 → SlotServes (child_slots n) k o.kind → o.generation ≡ d.generation → o.given ≡ letter.told j → letter.fits j o.kind → (is_auxiliary o.kind ≡ true → lost is_auxiliary d.generation (slot_at d k).past ≡ 0)
      → Allows (Kept letter limit) n id (Postmaster d, (k, Some j) ∷ []) k (λ _. offer_word o) (λ _ m. Assigns letter (step n k (offer_word o) 0 none) (Postmaster d, (k, Some j) ∷ []) (offer_word o) m)
  assigns n id k o d j near is new low serves now gave fit alone s r wide at _ = let h = rebased letter s r.0 id d r.1 r.2 r.3 at in let both = same_history letter limit s r.0 id d r.1 r.2 r.3 at r.4 r.5 r.6 r.7 in let st = both.1 in let near' : k < child_slots (length s.homes) = subst (λ (m : ℕ). k < child_slots m) (sym wide) near in let many : length d.slots ≡ child_slots (length s.homes) = h.many in
      let was = h.each_slot k near' in let ph = see_opened _ _ o.pid (subst (Seen (r.2 k).phase (slot_at d k).past) is was.seen) in let ok = at_phase _ _ _ _ _ ph was in
      let x : SlotView D = assigned_slot (slot_at d k) o in let notes : RosterNotes = noted_assign d.notes k o in (
        Postmaster (with_slot d k x notes),
        gives,
        tt,
        kept letter limit _ _ _ _ _ (master_step letter s id k k (offer_word o) (set s.homes k (some (Some j))) near' refl (ap child_slots (length-set s.homes k (some (Some j)))) (λ i other. set_else s.homes k i (some (Some j)) other) d r.2 h x (offered o) notes
            record { shows = refl; fits = low; seen = refl; does = subst (Does (offered o)) (sym ok.does) tt; lists = ok.lists; there = some (Some j); there_is = set_here s.homes k (some (Some j)) (is_slot _ k near'); mail = (j, refl, sym gave, fit) }
            (now, subst (λ (z : ℕ). SlotServes z k o.kind) (sym (ap child_slots wide)) serves)
            (pids_set d k x notes (omega arith) h.pids (omega arith) (omega arith) (λ i ne pos e. let b : used_pid (slot_at d i).sight ≤ d.notes.last_pid = h.pids.below i in absurd (omega arith)))) (ap child_slots (length-set s.homes k (some (Some j))))
            (gate_moves limit _ k _ s.words (gate_of d) r.2 _ _ near' refl (uncounted _ _ _) (once_offered _ (r.2 k) o _ (subst (λ (z : List (PastChild D)). is_auxiliary o.kind ≡ true → lost is_auxiliary d.generation z ≡ 0) (sym (ok.lists ∙ append-nil (slot_at d k).past)) alone) (both.0.once k)) both.0) (joins letter limit s id d _ r.2 h st refl refl refl k near' o _ o.pid ph refl now new refl refl refl)
            (let t : RosterStep = Assign k o.pid o.kind o.generation in let l = latch_stepped d.notes.steps (t ∷ []) _ _ _ _ (opened o.pid) _ _ tt tt (latch_here _ _ _ _ _ (r.2 k) (opened o.pid) (r.2 k).post ph refl (both.2.each k near')) in
            latches_pass _ k k _ s.words d _ r.2 _ (omega arith, omega arith) refl (t ∷ []) refl (λ _ _. refl) (omega arith) (λ i _ _. unreleased_all _ (r.2 i).phase (λ p. assign_is_no_release k p.pid o.pid o.generation o.kind))
            (λ why is. Contains-append_left d.notes.steps (t ∷ []) _ (both.2.noticed why is))
            (λ q above. not_released-append q d.notes.steps (t ∷ []) (both.2.fresh q (let up : o.pid < q = above in omega arith)) (assign_is_no_release k q o.pid o.generation o.kind))
            record { armed = l.armed; fits = l.fits; standing = l.standing; cancel_is = l.cancel_is; now = tt; past = l.past; unreleased = ((k, at_last d.notes.steps t), not_released-append o.pid d.notes.steps (t ∷ []) (both.2.fresh o.pid new) (assign_is_no_release k o.pid o.pid o.generation o.kind)); named = (omega arith); keyed = l.keyed; reaches = reach-more d.notes.steps (t ∷ []) (latch_at (child_slots (length s.homes)) s.words k) o.pid [] (λ _. refl) (λ number _ sent. let none_ : times_sent number o.pid d.notes.steps ≡ 0 = both.2.unsent o.pid new number in absurd (omega arith)); calls = both.2.ahead k near' o.pid new } both.2) (seats_turn id k s.views d r.2 _ _ _ at (omega arith) (ap is_gathered is) refl both.3),
        λ j' o' same word now' gave'. let e : j ≡ j' = held k k j j' same in let oe = same_offer o o' word (now ∙ sym now') (gave ∙ (ap letter.told e ∙ sym gave')) in λ i. (Postmaster (with_slot d k (assigned_slot (slot_at d k) (oe i)) (noted_assign d.notes k (oe i))), []),
      )
    where
      same_offer : (o o' : Offer D) → offer_word o ≡ offer_word o' → o.generation ≡ o'.generation → o.given ≡ o'.given → o ≡ o'
      same_offer o o' e g v =
          let a : kind_number o.kind < 8 = kind_small o.kind in let b : kind_number o'.kind < 8 = kind_small o'.kind in
          let kinds : kind_number o.kind ≡ kind_number o'.kind = omega arith in let pids : o.pid ≡ o'.pid = omega arith in
          let kind : o.kind ≡ o'.kind = sym (kind_again o.kind) ∙ (ap kind_of kinds ∙ kind_again o'.kind) in
          λ i. record { pid = pids i; kind = kind i; generation = g i; given = v i }

  pub clears : (n id k : ℕ) (st : Status) (a : Bool) (o : Offer D) (d : RosterView D) → k < child_slots n → (slot_at d k).sight ≡ Collected o st a → Allows (Kept letter limit) n id (Postmaster d, (k, None) ∷ []) k (λ _. 0) (λ _ m. Clears (step n k 0 0 none) (Postmaster d, (k, None) ∷ []) 0 m)
  clears n id k t a o d near is s r wide at _ = let h = rebased letter s r.0 id d r.1 r.2 r.3 at in let both = same_history letter limit s r.0 id d r.1 r.2 r.3 at r.4 r.5 r.6 r.7 in let st = both.1 in let near' : k < child_slots (length s.homes) = subst (λ (m : ℕ). k < child_slots m) (sym wide) near in let many : length d.slots ≡ child_slots (length s.homes) = h.many in
      let was = h.each_slot k near' in let e = see_collected _ _ o t a (subst (Seen (r.2 k).phase (slot_at d k).past) is was.seen) in let ok = at_phase _ _ _ _ _ e was in
      let x : SlotView D = slot_view (slot_at d k).past Unused in (
        Postmaster (with_slot d k x d.notes),
        gives,
        tt,
        kept letter limit _ _ _ _ _ (master_step letter s id k k 0 (set s.homes k (some None)) near' refl (ap child_slots (length-set s.homes k (some None))) (λ i other. set_else s.homes k i (some None) other) d r.2 h x unused d.notes
            record { shows = refl; fits = tt; seen = refl; does = ok.does; lists = ok.lists; there = some None; there_is = set_here s.homes k (some None) (is_slot _ k near'); mail = refl }
            tt (pids_drop d k x d.notes (omega arith) h.pids refl refl)) (ap child_slots (length-set s.homes k (some None))) (gate_moves limit _ k _ s.words (gate_of d) r.2 _ _ near' refl (uncounted _ _ _) (once_still _ (r.2 k) unused _ _ refl (λ _ _. tt) (both.0.once k)) both.0) (quiet limit d _ r.2 (child_slots (length s.homes)) k _ (collected o t a) _ refl refl refl refl (λ _ o. o) near' e refl refl refl refl (λ _ _. tt) st)
            (let l = latch_here _ _ _ _ _ (r.2 k) (collected o t a) (r.2 k).post e refl (both.2.each k near') in latches_still _ k k _ s.words d _ r.2 _ (omega arith, omega arith) refl refl refl refl refl record { armed = tt; fits = l.fits; standing = l.standing; cancel_is = l.cancel_is; now = tt; past = l.past; unreleased = tt; named = tt; keyed = l.keyed; reaches = tt; calls = tt } both.2) (seats_turn id k s.views d r.2 _ _ _ at (omega arith) (ap is_gathered is) refl both.3),
        refl,
      )

  pub looks : (n id k : ℕ) (o : Offer D) (d : RosterView D) → k < child_slots n → (slot_at d k).sight ≡ Assigned o → Allows (Kept letter limit) n id (Postmaster d, []) k (λ x. x) (Looks (step n k 0 0 none) (Postmaster d, []))
  looks n id k o d near is s r wide at _ = let h = rebased letter s r.0 id d r.1 r.2 r.3 at in let both = same_history letter limit s r.0 id d r.1 r.2 r.3 at r.4 r.5 r.6 r.7 in let st = both.1 in let near' : k < child_slots (length s.homes) = subst (λ (m : ℕ). k < child_slots m) (sym wide) near in let many : length d.slots ≡ child_slots (length s.homes) = h.many in let word : ℕ = get_or s.words k 0 in
      let was = h.each_slot k near' in let seen = subst (Seen (r.2 k).phase (slot_at d k).past) is was.seen in let notes : RosterNotes = noted_look d.notes word in dite (ℕ_discrete (stage_in word) 3)
      (λ three. let e = see_ended _ _ o word was.shows seen three in let t : Status = e.0 in let a : Bool = e.1 in let b : D = e.2 in let ok = at_phase _ _ _ _ _ e.3 was in
      let fits : FitsWord record { stage = 3; is_active = a; kind = o.kind; status = t; pid = o.pid } = fits_for 3 o t a (omega arith) ok.fits.0 ok.fits.1 in
      let t_is : t ≡ status_in word = sym (status_read _ fits) ∙ ap status_in (sym ok.shows) in
      let a_is : a ≡ active_in word = sym (active_again _ fits) ∙ ap active_in (sym ok.shows) in
      let x : SlotView D = exited_slot (slot_at d k) o t a in (
        Postmaster (with_slot d k x notes),
        keeps,
        tt,
        kept letter limit _ _ _ _ _ (master_step letter s id k k word s.homes near' refl refl (λ i other. refl) d r.2 h x (ended o t a b) notes
            record { shows = ok.shows; fits = ok.fits; seen = (refl, refl, refl); does = ok.does; lists = ok.lists; there = ok.there; there_is = ok.there_is; mail = ok.mail }
            (placed_as _ _ _ _ _ e.3 (h.each_child k near'))
            (pids_keep d k x notes (omega arith) h.pids refl (ap used_pid (sym is)))) refl (gate_moves limit _ k _ s.words (gate_of d) r.2 _ _ near' refl (uncounted _ _ _) (once_still _ (r.2 k) (ended o t a b) _ _ refl (λ _ _. tt) (both.0.once k)) both.0) (quiet limit d _ r.2 (child_slots (length s.homes)) k _ (ended o t a b) _ refl refl refl refl (λ _ o. o) near' e.3 refl refl refl refl (λ _ _. tt) st)
            (latches_still _ k k _ s.words d _ r.2 _ (omega arith, omega arith) refl refl refl refl refl (latch_here _ _ _ _ _ (r.2 k) (ended o t a b) (r.2 k).post e.3 refl (both.2.each k near')) both.2) (seats_turn id k s.views d r.2 _ _ _ at (omega arith) (ap is_gathered is) refl both.3),
        λ o' is'. let same : Assigned o ≡ Assigned o' = sym is ∙ is' in let oe : o ≡ o' = cc in (
          (λ _. (
            (λ i. (Postmaster (with_slot d k (exited_slot (slot_at d k) (oe i) (t_is i) (a_is i)) notes), [])),
            ok.shows ∙ (λ i. child_word 3 (oe i) (t_is i) (a_is i)),
            subst (λ (z : Offer D × Status × Bool). EndsWell z.0.kind z.1 z.2) (λ i. (oe i, t_is i, a_is i)) ok.fits.2,
          )),
          (λ no. absurd (no three)),
        ),
      ))
      (λ no. let x : SlotView D = running_slot (slot_at d k) o d.notes.last_connection in (
        Postmaster (with_slot d k x notes),
        keeps,
        tt,
        kept letter limit _ _ _ _ _ (master_step letter s id k k word s.homes near' refl refl (λ i other. refl) d r.2 h x (r.2 k).phase notes
            record { shows = was.shows; fits = was.fits; seen = seen; does = was.does; lists = was.lists; there = was.there; there_is = was.there_is; mail = was.mail }
            (h.each_child k near')
            (pids_keep d k x notes (omega arith) h.pids refl (ap used_pid (sym is)))) refl (gate_moves limit _ k _ s.words (gate_of d) r.2 _ _ near' refl (uncounted _ _ _) (once_still _ (r.2 k) (r.2 k).phase _ _ refl (λ _ z. z) (both.0.once k)) both.0) (quiet limit d _ r.2 (child_slots (length s.homes)) k _ (r.2 k).phase _ refl refl refl refl (λ _ o. o) near' refl refl refl refl refl (λ _ z. z) st)
            (latches_still _ k k _ s.words d _ r.2 _ (omega arith, omega arith) refl refl refl refl refl (latch_here _ _ _ _ _ (r.2 k) (r.2 k).phase (r.2 k).post refl refl (both.2.each k near')) both.2) (seats_turn id k s.views d r.2 _ _ _ at (omega arith) (ap is_gathered is) refl both.3),
        λ o' is'. let same : Assigned o ≡ Assigned o' = sym is ∙ is' in let oe : o ≡ o' = cc in
            ((λ three. absurd (no three)), (λ _. λ i. (Postmaster (with_slot d k (running_slot (slot_at d k) (oe i) d.notes.last_connection) notes), []))),
      ))

  pub releases : (n id k : ℕ) (st : Status) (a : Bool) (o : Offer D) (d : RosterView D) → k < child_slots n → (slot_at d k).sight ≡ Exited o st a → Allows (Kept letter limit) n id (Postmaster d, []) k (λ x. (x + 1) % 2 ^ 64) (Releases letter (step n k 1 0 none) (Postmaster d, []))
  releases n id k t a o d near is s r wide at _ = let h = rebased letter s r.0 id d r.1 r.2 r.3 at in let both = same_history letter limit s r.0 id d r.1 r.2 r.3 at r.4 r.5 r.6 r.7 in let st = both.1 in let near' : k < child_slots (length s.homes) = subst (λ (m : ℕ). k < child_slots m) (sym wide) near in let many : length d.slots ≡ child_slots (length s.homes) = h.many in let word : ℕ = get_or s.words k 0 in
      let was = h.each_slot k near' in let e = see_exited _ _ o t a (subst (Seen (r.2 k).phase (slot_at d k).past) is was.seen) in let b : D = e.0 in let ok = at_phase _ _ _ _ _ e.1 was in
      let j : J = ok.mail.0 in let given : letter.told j ≡ b = ok.mail.2 in let past : List (PastChild D) = (slot_at d k).past in let x : SlotView D = slot_view (past ++ past_child o t a (letter.told j) ∷ []) (Collected o t a) in let notes : RosterNotes = noted_release d.notes o in
      let shows : word ≡ child_word 3 o t a = ok.shows in let low : o.pid < 2147483648 = ok.fits.0 in let small : status_number t < 256 = ok.fits.1 in
      let room : child_word 3 o t a + 65536 < 18446744073709551616 = packed_small _ (fits_for 3 o t a (omega arith) low small) in (
        Postmaster (with_slot d k x notes),
        takes k (Some j),
        ok.there_is ∙ ap some ok.mail.1,
        kept letter limit _ _ _ _ _ (master_step letter s id k k ((word + 1) % 2 ^ 64) (set s.homes k none) near' refl (ap child_slots (length-set s.homes k none)) (λ i other. set_else s.homes k i none other) d r.2 h x (collected o t a) notes
            record {
              shows = grown word 1 (child_word 4 o t a) (omega arith) (omega arith);
              fits = ok.fits;
              seen = refl;
              does = ok.does;
              lists = ok.lists ∙ (ap (λ (z : D). past ++ past_child o t a z ∷ []) (sym given) ∙ sym (append-nil (past ++ past_child o t a (letter.told j) ∷ [])));
              there = none;
              there_is = set_here s.homes k none (is_slot _ k near');
              mail = tt;
            }
            (placed_as _ _ _ _ _ e.1 (h.each_child k near'))
            (pids_keep d k x notes (omega arith) h.pids refl (ap used_pid (sym is)))) (ap child_slots (length-set s.homes k none)) (gate_moves limit _ k _ s.words (gate_of d) r.2 _ _ near' refl (uncounted _ _ _) (once_still _ (r.2 k) (collected o t a) _ _ refl (λ _ _. tt) (both.0.once k)) both.0) (quiet limit d _ r.2 (child_slots (length s.homes)) k _ (ended o t a b) _ refl refl refl refl (λ log own. own_release log d.notes.steps (gate_of d) o.pid o.generation o.kind own) near' e.1 refl refl refl refl (λ _ _. tt) st)
            (let l = latch_here _ _ _ _ _ (r.2 k) (ended o t a b) (r.2 k).post e.1 refl (both.2.each k near') in let t : RosterStep = Release o.pid o.kind o.generation in
            let top : o.pid ≤ d.notes.last_pid = let low_ : used_pid (slot_at d k).sight ≤ d.notes.last_pid = h.pids.below k in let here_ : used_pid (slot_at d k).sight ≡ o.pid = ap used_pid is in omega arith in
            latches_pass _ k k _ s.words d _ r.2 _ (omega arith, omega arith) refl (t ∷ []) refl (λ _ _. refl) (omega arith) (λ i l' ne. others_stay letter limit s id d r.2 h k i l' ne o.pid o.generation o.kind l.named (ap used_pid is))
            (λ why is'. Contains-append_left d.notes.steps (t ∷ []) _ (both.2.noticed why is'))
            (λ q above. not_released-append q d.notes.steps (t ∷ []) (both.2.fresh q above) (release_is_other q o.pid o.generation o.kind (λ same. absurd (let up : d.notes.last_pid < q = above in omega arith))))
            (latch_released d.notes.steps (t ∷ []) _ _ _ _ o _ _ b _ _ l) both.2) (seats_turn id k s.views d r.2 _ _ _ at (omega arith) (ap is_gathered is) refl both.3),
        λ o' t' a' is'. let same : Exited o t a ≡ Exited o' t' a' = sym is ∙ is' in let oe : o ≡ o' = cc in let te : t ≡ t' = cc in let ae : a ≡ a' = cc in (
          shows ∙ (λ i. child_word 3 (oe i) (te i) (ae i)),
          subst (λ (z : Offer D). z.pid < 2147483648) oe low,
          subst (λ (z : Status). status_number z < 256) te small,
          (j, λ i. (Postmaster (with_slot d k (slot_view (past ++ past_child (oe i) (te i) (ae i) (letter.told j) ∷ []) (Collected (oe i) (te i) (ae i))) (noted_release d.notes (oe i))), (k, Some j) ∷ []), subst (λ (z : Offer D × Status × Bool). letter.comes_back j z.0.kind z.1 z.2) {x = (o, t, a)} {y = (o', t', a')} (λ i. (oe i, te i, ae i)) ok.mail.3),
        ),
      )

  -- the slot of a worker's seat
  pub owned : (s : St letter) (m : ℕ) (d : RosterView D) (cells : ℕ → Cell D) → Holds letter m d cells s → (id k : ℕ) (w : PostView D) → get_elem? s.views id ≡ some (Worker k w)
      → (k < child_slots (length s.homes)) × SlotOk letter (get_or s.words k 0) (get_elem? s.homes k) (slot_at d k) record { phase = (cells k).phase; seat = id; post = w } × ((cells k).post ≡ w)
  owned s m d cells h id k w at = let f = h.each_seat id (Worker k w) at in let dealt : k < d.dealt = f.2 in let some_posts : d.dealt ≤ child_slots (length s.homes) = h.some_posts in let near : k < child_slots (length s.homes) = omega arith in
      (near, subst (λ (z : ℕ × PostView D). SlotOk letter (get_or s.words k 0) (get_elem? s.homes k) (slot_at d k) record { phase = (cells k).phase; seat = z.0; post = z.1 }) (λ i. (f.0 i, f.1 i)) (h.each_slot k near), f.1)

  pub loads : (n id k : ℕ) (notes : PostNotes) (past : List (PastChild D)) → Allows (Kept letter limit) n id (Worker k (post_view notes past Idle), []) k (λ x. x) (Loads (step n k 0 0 none) (Worker k (post_view notes past Idle), []))
  loads n id k notes past s r wide at _ = let w : PostView D = post_view notes past Idle in let mine = owned s r.0 r.1 r.2 r.3 id k w at in let was = mine.1 in let word : ℕ = get_or s.words k 0 in let does_is = ap (λ (z : PostView D). z.work) mine.2 in let past_is = ap (λ (z : PostView D). z.past) mine.2 in let steps_is = ap (λ (z : PostView D). z.notes.steps) mine.2 in dite (ℕ_discrete (stage_in word) 1)
      (λ one. let e = does_nothing _ word was.shows was.does one in let o : Offer D = e.0 in let ok = at_phase _ _ _ _ _ e.1 was in let w' : PostView D = post_view (noted_load notes word) past (Sees word) in (
        Worker k w',
        keeps,
        tt,
        kept letter limit _ _ _ _ _ (worker_step letter s id k k word s.homes mine.0 refl refl (λ i other. refl) r.0 r.1 r.2 r.3 w w' (offered o) at
            record { shows = ok.shows; fits = ok.fits; seen = ok.seen; does = ok.shows; lists = ok.lists; there = ok.there; there_is = ok.there_is; mail = ok.mail }
            (placed_as _ _ _ _ _ e.1 (r.3.each_child k mine.0))) refl (gate_moves limit _ k _ s.words (gate_of r.1) r.2 _ w mine.0 mine.2 (uncounted_by _ _ _ _ _ _ _ refl refl refl) (once_still _ (r.2 k) (offered o) _ w' (sym past_is) (λ P z. subst (OfLiving P) e.1 z) (r.4.once k)) r.4) (quiet limit r.1 r.1 r.2 (child_slots (length s.homes)) k _ (offered o) Idle refl refl refl refl (λ _ o. o) mine.0 e.1 does_is (sym steps_is) (sym past_is) refl (λ _ z. z) r.5)
            (let l = latch_here _ _ _ _ _ (r.2 k) (offered o) w e.1 mine.2 (r.6.each k mine.0) in let near : k < child_slots (length s.homes) = mine.0 in latches_still _ k k _ s.words r.1 _ r.2 _ (omega arith, omega arith) (ap (λ (z : PostView D). z.notes.cancels) (sym mine.2)) refl refl refl refl record { armed = l.armed; fits = l.fits; standing = l.standing; cancel_is = l.cancel_is; now = l.now; past = l.past; unreleased = l.unreleased; named = l.named; keyed = l.keyed; reaches = l.reaches; calls = l.calls } r.6) (seats_step id k s.views r.1 r.2 _ _ _ at (r.3.each_seat id _ at) r.7),
        ((λ _. refl), (λ no. absurd (no one))),
      ))
      (λ no. let w' : PostView D = post_view (noted_load notes word) past Idle in (
        Worker k w',
        keeps,
        tt,
        kept letter limit _ _ _ _ _ (worker_step letter s id k k word s.homes mine.0 refl refl (λ i other. refl) r.0 r.1 r.2 r.3 w w' (r.2 k).phase at
            record { shows = was.shows; fits = was.fits; seen = was.seen; does = was.does; lists = was.lists; there = was.there; there_is = was.there_is; mail = was.mail }
            (r.3.each_child k mine.0)) refl (gate_moves limit _ k _ s.words (gate_of r.1) r.2 _ w mine.0 mine.2 (uncounted_by _ _ _ _ _ _ _ refl refl refl) (once_still _ (r.2 k) (r.2 k).phase _ w' (sym past_is) (λ _ z. z) (r.4.once k)) r.4) (quiet limit r.1 r.1 r.2 (child_slots (length s.homes)) k _ (r.2 k).phase Idle refl refl refl refl (λ _ o. o) mine.0 refl does_is (sym steps_is) (sym past_is) refl (λ _ z. z) r.5)
            (let l = latch_here _ _ _ _ _ (r.2 k) (r.2 k).phase w refl mine.2 (r.6.each k mine.0) in let near : k < child_slots (length s.homes) = mine.0 in latches_still _ k k _ s.words r.1 _ r.2 _ (omega arith, omega arith) (ap (λ (z : PostView D). z.notes.cancels) (sym mine.2)) refl refl refl refl record { armed = l.armed; fits = l.fits; standing = l.standing; cancel_is = l.cancel_is; now = l.now; past = l.past; unreleased = l.unreleased; named = l.named; keyed = l.keyed; reaches = l.reaches; calls = l.calls } r.6) (seats_step id k s.views r.1 r.2 _ _ _ at (r.3.each_seat id _ at) r.7),
        ((λ one. absurd (no one)), (λ _. refl)),
      ))

  pub starts : (n id k word : ℕ) (notes : PostNotes) (past : List (PastChild D)) → Allows (Kept letter limit) n id (Worker k (post_view notes past (Sees word)), []) k (λ x. (x + 1) % 2 ^ 64) (Starts letter (step n k 1 0 none) (Worker k (post_view notes past (Sees word)), []))
  starts n id k saw notes past s r wide at _ = let w : PostView D = post_view notes past (Sees saw) in let mine = owned s r.0 r.1 r.2 r.3 id k w at in let was = mine.1 in let near : k < child_slots (length s.homes) = mine.0 in let word : ℕ = get_or s.words k 0 in let does_is = ap (λ (z : PostView D). z.work) mine.2 in let past_is = ap (λ (z : PostView D). z.past) mine.2 in let steps_is = ap (λ (z : PostView D). z.notes.steps) mine.2 in
      let e = does_see _ saw was.does in let o : Offer D = e.0 in let ok = at_phase _ _ _ _ _ e.2 was in let j : J = ok.mail.0 in let shows : word ≡ offer_word o = ok.shows in let low : o.pid < 2147483648 = ok.fits in
      let room : child_word 1 o (Code 0) false + 65536 < 18446744073709551616 = packed_small _ (fits_for 1 o (Code 0) false (omega arith) low (omega arith)) in
      let w' : PostView D = post_view (noted_start notes) past (Inactive o) in (
        Worker k w',
        takes k (Some j),
        ok.there_is ∙ ap some ok.mail.1,
        kept letter limit _ _ _ _ _ (worker_step letter s id k k ((word + 1) % 2 ^ 64) (set s.homes k none) near refl (ap child_slots (length-set s.homes k none)) (λ i other. set_else s.homes k i none other) r.0 r.1 r.2 r.3 w w' (running o false) at
            record { shows = grown word 1 (child_word 2 o (Code 0) false) (omega arith) (omega arith); fits = low; seen = ok.seen; does = (refl, refl); lists = ok.lists; there = none; there_is = set_here s.homes k none (is_slot _ k near); mail = tt }
            (placed_as _ _ _ _ (offered o) e.2 (r.3.each_child k mine.0))) (ap child_slots (length-set s.homes k none)) (gate_moves limit _ k _ s.words (gate_of r.1) r.2 _ w mine.0 mine.2 (uncounted_by _ _ _ _ _ _ _ refl refl refl) (once_still _ (r.2 k) (running o false) _ w' (sym past_is) (λ P z. subst (OfLiving P) e.2 z) (r.4.once k)) r.4) (quiet limit r.1 r.1 r.2 (child_slots (length s.homes)) k _ (offered o) (Sees saw) refl refl refl refl (λ _ o. o) mine.0 e.2 does_is (sym steps_is) (sym past_is) refl (λ _ z. z) r.5)
            (let l = latch_here _ _ _ _ _ (r.2 k) (offered o) w e.2 mine.2 (r.6.each k near) in latches_still _ k k _ s.words r.1 _ r.2 _ (omega arith, omega arith) (ap (λ (z : PostView D). z.notes.cancels) (sym mine.2)) refl refl refl refl record { armed = l.armed; fits = l.fits; standing = l.standing; cancel_is = l.cancel_is; now = hears_first notes.session_limit r.1.notes.steps (WereMade (child_slots (length s.homes)) r.2) _ o (cancel_at (child_slots (length s.homes)) s.words k) (λ _. omega arith) l.cancel_is l.armed l.standing; past = l.past; unreleased = l.unreleased; named = l.named; keyed = l.keyed; reaches = l.reaches; calls = (λ made. inl (l.calls made)) } r.6) (seats_step id k s.views r.1 r.2 _ _ _ at (r.3.each_seat id _ at) r.7),
        λ saw' sees. let same : saw ≡ saw' = cc in (o, j, sym same ∙ e.1, low, ok.mail.2, refl, ok.mail.3),
      )

  -- a child ends, from outside the gate or attached
  pub ends : (n id k : ℕ) (t : Status) (a : Bool) (o : Offer D) (w : Work D) (notes : PostNotes) (past : List (PastChild D)) (j : J) → status_number t < 256 → MayEnd w o a → EndsWell o.kind t a → letter.comes_back j o.kind t a
      → Allows (Kept letter limit) n id (Worker k (post_view notes past w), (k, Some j) ∷ []) k (λ x. (x + exit_step t) % 2 ^ 64) (Ends letter (step n k (exit_step t) 0 none) (Worker k (post_view notes past w), (k, Some j) ∷ []))
  ends n id k t a o w notes past j small may well back s r wide at _ = let p : PostView D = post_view notes past w in let mine = owned s r.0 r.1 r.2 r.3 id k p at in let was = mine.1 in let near : k < child_slots (length s.homes) = mine.0 in let word : ℕ = get_or s.words k 0 in let does_is = ap (λ (z : PostView D). z.work) mine.2 in let past_is = ap (λ (z : PostView D). z.past) mine.2 in let steps_is = ap (λ (z : PostView D). z.notes.steps) mine.2 in
      let e = ending _ w o a was.does may in let ok = at_phase _ _ _ _ _ e was in let shows : word ≡ child_word 2 o (Code 0) a = ok.shows in let low : o.pid < 2147483648 = ok.fits in
      let room : child_word 3 o t a + 65536 < 18446744073709551616 = packed_small _ (fits_for 3 o t a (omega arith) low small) in
      let x : PastChild D = past_child o t a (letter.told j) in let p' : PostView D = post_view (noted_exit notes o) (past ++ x ∷ []) Idle in (
        Worker k p',
        gives,
        tt,
        kept letter limit _ _ _ _ _ (worker_step letter s id k k ((word + exit_step t) % 2 ^ 64) (set s.homes k (some (Some j))) near refl (ap child_slots (length-set s.homes k (some (Some j)))) (λ i other. set_else s.homes k i (some (Some j)) other) r.0 r.1 r.2 r.3 p p' (ended o t a (letter.told j)) at
            record {
              shows = grown word (exit_step t) (child_word 3 o t a) (omega arith) (omega arith);
              fits = (low, small, well);
              seen = subst (Seen (ended o t a (letter.told j)) (slot_at r.1 k).past) (sym ok.seen) refl;
              does = refl;
              lists = ap (λ (z : List (PastChild D)). z ++ x ∷ []) (ok.lists ∙ append-nil (slot_at r.1 k).past);
              there = some (Some j);
              there_is = set_here s.homes k (some (Some j)) (is_slot _ k near);
              mail = (j, refl, refl, back);
            }
            (placed_as _ _ _ _ (running o a) e (r.3.each_child k mine.0))) (ap child_slots (length-set s.homes k (some (Some j))))
            (gate_moves limit _ k _ s.words (gate_of r.1) r.2 _ p mine.0 mine.2 (ended_counts _ _ notes (noted_exit notes o) past w o t a (letter.told j) refl may (placed_as _ _ _ _ (running o a) e (r.3.each_child k mine.0)).0) (once_ended _ past o t a (letter.told j) _ (noted_exit notes o) (r.2 k) e past_is (r.4.once k)) r.4)
            (leaves letter limit s r.0 r.1 r.1 r.2 r.3 r.5 refl refl refl k near o a w _ e does_is refl (lives letter limit s r.0 r.1 r.2 r.3 r.5 k near o a w e does_is).1 refl x refl (ap (λ (z : List (PastChild D)). z ++ x ∷ []) (sym past_is)) (ap (λ z. z ++ Exit o.pid o.kind ∷ []) (sym steps_is)) (λ _. tt))
            (let l = latch_here _ _ _ _ _ (r.2 k) (running o a) p e mine.2 (r.6.each k near) in latches_still _ k k _ s.words r.1 _ r.2 _ (omega arith, omega arith) (ap (λ (z : PostView D). z.notes.cancels) (sym mine.2)) refl refl refl refl record { armed = l.armed; fits = l.fits; standing = l.standing; cancel_is = l.cancel_is; now = tt; past = each-append _ past notes.heard x notes.now l.past l.now.so_far; unreleased = l.unreleased; named = l.named; keyed = l.keyed; reaches = l.reaches; calls = tt } r.6) (seats_step id k s.views r.1 r.2 _ _ _ at (r.3.each_seat id _ at) r.7),
        λ j' o' t' a' has may' first. let je : j ≡ j' = held k k j j' has in let te : t ≡ t' = same_exit t t' first in let oe = same_end w o o' a a' may may' in λ i. (Worker k (post_view (noted_exit notes (oe.0 i)) (past ++ past_child (oe.0 i) (te i) (oe.1 i) (letter.told (je i)) ∷ []) Idle), []),
      )

  pub compares : (n id k : ℕ) (d : RosterView D) → k < child_slots n → Allows (Kept letter limit) n id (Postmaster d, []) k (λ x. x) (Compares (step n k 0 0 none) (Postmaster d, []))
  compares n id k d near s r wide at _ = let h = rebased letter s r.0 id d r.1 r.2 r.3 at in let near' : k < child_slots (length s.homes) = subst (λ (m : ℕ). k < child_slots m) (sym wide) near in
      let both = same_history letter limit s r.0 id d r.1 r.2 r.3 at r.4 r.5 r.6 r.7 in let was = h.each_slot k near' in
      (Postmaster d, keeps, tt, stays s k id (Postmaster d) at r, (refl, (λ xs notes is. see_gathered _ _ xs notes (subst (Seen (r.2 k).phase (slot_at d k).past) is was.seen)), heard_as_sent s.views (child_slots (length s.homes)) s.words d r.2 both.2 both.3 h.new_posts h.many (same_limit limit d.generation d r.2 both.0.current h.new_posts)))
    where
      -- a step that changes nothing
      stays : (s : St letter) (k id : ℕ) (v : View D) → get_elem? s.views id ≡ some v → Kept letter limit s → Kept letter limit (stepped s k (get_or s.words k 0) id [] v keeps)
      stays s k id v at h = subst (λ (z : List ℕ × List (View D)). Kept letter limit record { words = z.0; homes = s.homes; views = z.1 }) (λ i. (sym (set-get_or s.words k 0) i, sym (set_again s.views id v at) i)) h

  pub deals : (id : ℕ) (d : RosterView D) → d.dealt < length d.slots → (s : St letter) → Kept letter limit s → get_elem? s.views id ≡ some (Postmaster d)
      → Kept letter limit record { words = s.words; homes = s.homes; views = set s.views id (dealt_more (Postmaster d)) ++ next_post (Postmaster d) ∷ [] }
  deals id d less s r at = let h = rebased letter s r.0 id d r.1 r.2 r.3 at in let both = same_history letter limit s r.0 id d r.1 r.2 r.3 at r.4 r.5 r.6 r.7 in let st = both.1 in let many : length d.slots ≡ child_slots (length s.homes) = h.many in let p : ℕ = length s.views in
      let k : ℕ = d.dealt in let c : Cell D = record { phase = (r.2 k).phase; seat = p; post = (r.2 k).post } in let d' : RosterView D = with_post d in let cells' : ℕ → Cell D = put r.2 k c in (
        id,
        d',
        cells',
        record {
          wide = h.wide;
          many = h.many;
          pids = record { below = h.pids.below; differ = h.pids.differ };
          some_posts = omega arith;
          new_posts = λ j le. at_put r.2 k c (λ q x. k + 1 ≤ q → x.post ≡ idle_post d.session_limit) j (λ le'. absurd (omega arith)) (λ _ le'. h.new_posts j (omega arith)) le;
          each_slot = λ j l. at_put r.2 k c (λ q x. q < child_slots (length s.homes) → SlotOk letter (get_or s.words q 0) (get_elem? s.homes q) (slot_at d q) x) j (λ l'. let o = h.each_slot k l' in record { shows = o.shows; fits = o.fits; seen = o.seen; does = o.does; lists = o.lists; there = o.there; there_is = o.there_is; mail = o.mail }) (λ _ l'. h.each_slot j l') l;
          each_child = λ j l. at_put r.2 k c (λ q x. q < child_slots (length s.homes) → OfChild (IsPlaced (child_slots (length s.homes)) d.generation q) x.phase) j (λ l'. h.each_child k l') (λ _ l'. h.each_child j l') l;
          each_seat = λ j v e. ⊎_elim
              (λ (t : get_elem? (set s.views id (Postmaster d')) j ≡ some v). ⊎_elim (λ (u : (j ≡ id) × (Postmaster d' ≡ v)). subst (λ (z : ℕ × View D). Agrees id d' cells' z.0 z.1) (λ i. (sym u.0 i, u.1 i)) (refl, refl))
              (λ (u : (j ≢ id) × (get_elem? s.views j ≡ some v)). others r.2 j v u.0 (h.each_seat j v u.1)) (at_set s.views id j (Postmaster d') v t))
              (λ (t : (j ≡ length (set s.views id (Postmaster d'))) × (Worker k (idle_post d.session_limit) ≡ v)). subst (λ (z : ℕ × View D). Agrees id d' cells' z.0 z.1) (λ i. (sym (t.0 ∙ length-set s.views id (Postmaster d')) i, t.1 i))
              (at_put r.2 k c (λ q x. q ≡ k → (x.seat ≡ p) × (x.post ≡ idle_post d.session_limit) × (k < k + 1)) k (λ _. (refl, h.new_posts k (omega arith), omega arith)) (λ ne is. absurd (ne is)) refl))
              (at_end (set s.views id (Postmaster d')) (Worker k (idle_post d.session_limit)) v j e);
        },
        subst (λ (z : List ℕ). GateOk limit (child_slots (length s.homes)) (get_or z (child_slots (length s.homes)) 0) (gate_of d) (put r.2 k c)) (set-get_or s.words k 0) (gate_moves limit (child_slots (length s.homes)) k (get_or s.words k 0) s.words (gate_of d) r.2 c _ (omega arith) refl (uncounted _ _ _) (once_still _ (r.2 k) (r.2 k).phase p (r.2 k).post refl (λ _ z. z) (both.0.once k)) both.0),
        quiet limit d d' r.2 (child_slots (length s.homes)) k c (r.2 k).phase (r.2 k).post.work refl refl refl refl (λ _ o. o) (omega arith) refl refl refl refl refl (λ _ z. z) st,
        subst (λ (z : List ℕ). Latches (child_slots (length s.homes)) z d' (put r.2 k c)) (set-get_or s.words k 0) (latches_still (child_slots (length s.homes)) k k (get_or s.words k 0) s.words d d' r.2 c (omega arith, omega arith) refl refl refl refl refl (let l = latch_here _ _ _ _ _ (r.2 k) (r.2 k).phase (r.2 k).post refl refl (both.2.each k (omega arith)) in record { armed = l.armed; fits = l.fits; standing = l.standing; cancel_is = l.cancel_is; now = l.now; past = l.past; unreleased = l.unreleased; named = l.named; keyed = l.keyed; reaches = l.reaches; calls = l.calls }) both.2),
        seats_dealt id s.views d r.2 at (h.new_posts k (omega arith)) both.3,
      )
    where
      others : (cells : ℕ → Cell D) (j : ℕ) (v : View D) → j ≢ id → Agrees id d cells j v
          → Agrees id (with_post d) (put cells d.dealt record { phase = (cells d.dealt).phase; seat = length s.views; post = (cells d.dealt).post }) j v
      others cells j (Postmaster e) other f = absurd (other f.0)
      others cells j (Worker i w) other f = let l : i < d.dealt = f.2 in at_put cells d.dealt record { phase = (cells d.dealt).phase; seat = length s.views; post = (cells d.dealt).post } (λ q c. q ≡ i → (c.seat ≡ j) × (c.post ≡ w) × (i < d.dealt + 1)) i
          (λ is. absurd (omega arith)) (λ _ _. (f.0, f.1, omega arith)) refl
      others cells j Spent other f = tt

  -- the supervisor takes in the seat of a slot that is unused
  pub gathers : (id k other : ℕ) (d : RosterView D) (w : PostView D) → k < length d.slots → (slot_at d k).sight ≡ Unused → Joins (Kept letter limit) id (Postmaster d) other (Worker k w) (taken_in (Postmaster d) (Worker k w)) Spent
  gathers id k other d w near is s r at apart there = let h = rebased letter s r.0 id d r.1 r.2 r.3 at in let both = same_history letter limit s r.0 id d r.1 r.2 r.3 at r.4 r.5 r.6 r.7 in let st = both.1 in let near' : k < child_slots (length s.homes) = subst (λ (n : ℕ). k < n) h.many near in
      let x : SlotView D = slot_view (slot_at d k).past (Gathered w.past w.notes) in let d' : RosterView D = with_slot d k x d.notes in
      let mine : get_elem? s.views other ≡ some (Worker k w) = ⊎_elim (λ (t : (other ≡ id) × (Postmaster d' ≡ Worker k w)). absurd (apart t.0)) (λ (t : (other ≢ id) × (get_elem? s.views other ≡ some (Worker k w))). t.1) (at_set s.views id other (Postmaster d') (Worker k w) there) in
      let f = h.each_seat other (Worker k w) mine in
      let was = h.each_slot k near' in let ph = see_unused _ _ (subst (Seen (r.2 k).phase (slot_at d k).past) is was.seen) in let ok = at_phase _ _ _ _ _ ph was in
      let same : w.past ≡ (slot_at d k).past = ap (λ (z : PostView D). z.past) (sym f.1) ∙ (ok.lists ∙ append-nil (slot_at d k).past) in
      let c : Cell D = record { phase = gathered; seat = (r.2 k).seat; post = (r.2 k).post } in
      let held_ = master_step letter s id k k (get_or s.words k 0) s.homes near' refl refl (λ _ _. refl) d r.2 h x gathered d.notes
      record { shows = ok.shows; fits = tt; seen = (w.notes, ap (λ (z : List (PastChild D)). Gathered z w.notes) same); does = ok.does; lists = ok.lists; there = ok.there; there_is = ok.there_is; mail = tt } tt (pids_drop d k x d.notes near h.pids refl refl) in
      let seats = held_.each_seat in (
        id,
        d',
        put r.2 k c,
        record {
          wide = h.wide;
          many = held_.many;
          pids = held_.pids;
          some_posts = held_.some_posts;
          new_posts = held_.new_posts;
          each_slot = λ j l. subst (λ (z : List ℕ). SlotOk letter (get_or z j 0) (get_elem? s.homes j) (slot_at d' j) ((put r.2 k c) j)) (set-get_or s.words k 0) (held_.each_slot j l);
          each_child = held_.each_child;
          each_seat = λ j v e. ⊎_elim (λ (t : (j ≡ other) × (Spent ≡ v)). subst (Agrees id d' (put r.2 k c) j) t.1 tt) (λ (t : (j ≢ other) × (get_elem? (set s.views id (Postmaster d')) j ≡ some v)). seats j v t.1) (at_set (set s.views id (Postmaster d')) other j Spent v e);
        },
        subst (λ (z : List ℕ). GateOk limit (child_slots (length s.homes)) (get_or z (child_slots (length s.homes)) 0) (gate_of d) (put r.2 k c)) (set-get_or s.words k 0) (gate_moves limit (child_slots (length s.homes)) k (get_or s.words k 0) s.words (gate_of d) r.2 c _ near' refl (uncounted _ _ _) (once_still _ (r.2 k) gathered _ _ refl (λ _ _. tt) (both.0.once k)) both.0),
        quiet limit d d' r.2 (child_slots (length s.homes)) k c unused _ refl refl refl refl (λ _ o. o) near' ph refl refl refl refl (λ _ _. tt) st,
        subst (λ (z : List ℕ). Latches (child_slots (length s.homes)) z d' (put r.2 k c)) (set-get_or s.words k 0) (latches_still (child_slots (length s.homes)) k k (get_or s.words k 0) s.words d d' r.2 c (omega arith, omega arith) refl refl refl refl refl (let l = latch_here _ _ _ _ _ (r.2 k) unused (r.2 k).post ph refl (both.2.each k near') in record { armed = l.armed; fits = l.fits; standing = l.standing; cancel_is = l.cancel_is; now = l.now; past = l.past; unreleased = l.unreleased; named = l.named; keyed = l.keyed; reaches = l.reaches; calls = l.calls }) both.2),
        seats_gathered id other k s.views d r.2 w gathered at mine apart f near both.3,
      )

  -- the table at the start
  pub begins : (t n : ℕ) (words : List ℕ) → child_slots t ≡ n → length words ≡ 3 * n + 1 → ((k : ℕ) → k ≢ n → get_or words k 0 ≡ 0) → get_or words n 0 ≡ 134217728 → n ≤ 407 → limit.most ≤ 200 → Kept letter limit (opening words (replicate t None) (newcomer n limit))
  begins t n words slots long zeros gate few most = let d : RosterView D = new_roster n limit 0 in let nothing : Option J = None in let homes : length (map some (replicate t nothing)) ≡ t = length-map (replicate t nothing) some ∙ length-replicate t nothing in let wide : child_slots (length (map some (replicate t nothing))) ≡ n = ap child_slots homes ∙ slots in
      let new : (k : ℕ) → slot_at d k ≡ slot_view [] Unused = λ k. same_everywhere n k (slot_view [] Unused) in let no_pid : (k : ℕ) → used_pid (slot_at d k).sight ≡ 0 = λ k. ap (λ (x : SlotView D). used_pid x.sight) (new k) in (
        0,
        d,
        (λ _. record { phase = unused; seat = 0; post = idle_post limit }),
        record {
          wide = long ∙ ap (λ (m : ℕ). 3 * m + 1) (sym wide);
          many = length-replicate n (slot_view [] Unused) ∙ sym wide;
          pids = record { below = λ k. let z = no_pid k in omega arith; differ = λ j k pos e. let z = no_pid j in absurd (omega arith) };
          some_posts = omega arith;
          new_posts = λ k _. refl;
          each_slot = λ k l. subst (λ (x : SlotView D). SlotOk letter (get_or words k 0) (get_elem? (map some (replicate t nothing)) k) x record { phase = unused; seat = 0; post = idle_post limit }) (sym (new k))
              record { shows = zeros k (λ e. absurd (let l' : k < n = subst (λ (m : ℕ). k < m) wide l in omega arith)); fits = tt; seen = refl; does = refl; lists = refl; there = some None; there_is = all_home t k nothing (subst (λ (m : ℕ). k < m) homes (is_slot _ k l)); mail = refl };
          each_child = λ k l. tt;
          each_seat = one;
        },
        first_gate_ok limit (child_slots (length (map some (replicate t nothing)))) (get_or words (child_slots (length (map some (replicate t nothing)))) 0) (ap (λ (m : ℕ). get_or words m 0) wide ∙ gate) (subst (λ (m : ℕ). m ≤ 407) (sym wide) few) most,
        first_history letter limit (child_slots (length (map some (replicate t nothing)))) d (λ _. record { phase = unused; seat = 0; post = idle_post limit }) refl refl refl refl refl (λ _. refl) (λ _. refl) (λ _. refl),
        first_latches (child_slots (length (map some (replicate t nothing)))) words d limit refl refl (λ k l. zeros (latch_place (child_slots (length (map some (replicate t nothing)))) k) (λ e. absurd (omega arith))) (λ k l. zeros (cancel_place (child_slots (length (map some (replicate t nothing)))) k) (λ e. absurd (omega arith))),
        record { each = λ k l. absurd (omega arith); none_yet = λ k _. ap (λ (x : SlotView D). is_gathered x.sight) (new k) },
      )
    where
      one : (id : ℕ) (v : View D) → get_elem? (newcomer n limit ∷ []) id ≡ some v → Agrees 0 (new_roster n limit 0) (λ _. record { phase = unused; seat = 0; post = idle_post limit }) id v
      one zero v e = subst (Agrees 0 (new_roster n limit 0) (λ _. record { phase = unused; seat = 0; post = idle_post limit }) 0) (some-injective _ _ e) (refl, refl)
      one (suc id) v e = absurd (some-ne-none v (sym e))
