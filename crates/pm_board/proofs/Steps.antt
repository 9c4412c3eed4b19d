-- The steps, at a seat that is known by equations.
use Rattle.std.{proofs.{Common.{◌≡◌, ℕ, zero, suc, ◌+◌, ◌-◌, ◌*◌, ◌%◌, ◌^◌, ◌<◌, ◌≤◌, ◌≢◌, ◌⊎◌, inl, inr, ⊎_elim, List, [], ◌∷◌, ◌++◌, length, get_or, set, sym, refl, ap, ◌∙◌, subst, arith, length-set, get_or-set_same, get_or-set_other}, lemmas.{List.length-replicate, Option.same_Some}}, specs.Prelude.{Bool, true, false, Option, Some, None, Result, Ok, Err, replicate, slice_get, eqb, max, bit_or, bit_and}}
use mathlib.Core.Option.{none}
use mathlib.Core.Logic.{dite}
use native.Mathlib.Decide.{ℕ_discrete}
use prog.Atomic.{either}
use Rattle.atomic_table.specs.{Table.{step, rest, opening, Allows, Joins, Splits}, Seated.TableId}
use Rattle.pm_facts.specs.Lists.{set_set, same_everywhere}
use Rattle.pm_supervisor.specs.{pm_exit.declared.child.{Kind.Kind, Status.Status}, declared.Reason.Reason, Children.{is_session, is_dead_end}}
use Rattle.pm_child_life.specs.{declared.life.GateNo.{GateNo}, Life.attempt}
use Rattle.pm_board_words.specs.{declared.views.{SessionLimit.SessionLimit, Cancel.Cancel, Offer.Offer, PastChild.PastChild, PostNotes.PostNotes, RosterNotes.RosterNotes, Sight.{Sight, TheVariants.{Unused, Opened, Assigned, Exited, Collected}}, Signal.Signal, SlotView.SlotView, RosterView.RosterView, Work.{Work, TheVariants.{Idle, Sees, Inactive, Active, Refused, Attached}}, PostView.PostView, View.{View, TheVariants.{Postmaster, Worker, Spent}}}, Words.{exit_step, stage_in, active_in, kind_in, status_in, pid_in, status_number, bit}, GateWords.{place_of, gate_answer, MayQuit, quit_step, ready_step, new_gate}, Latch.{latch_place, cancel_place, armed_word, signal_number}}
use Rattle.pm_board.{specs.{Slots.{all_slots, child_slots}, Places.{slot_view, slot_at, is_auxiliary, lost, SlotServes, EndsWell, is_used, used_in}, Children.children_of, Rule.{child_word, offer_word}, History.Kept, Told.{Seated, MayEnd, roster_of, post_of, post_view, with_notes, child_in, past_child, with_slot, with_sight, assigned_slot, running_slot, exited_slot, noted_assign, noted_release, noted_look, noted_exit, Arms, Sends, Takes, Heeds, LooksAtLatch, Cancels, Assigns, Loads, Starts, Ends, Looks, Releases, Clears, Compares, Marks, Unmarks, Tries, BacksOut, Detaches, Quits, Readies, Resets, tried, tried_by, reposted, taken_in, dealt_more, next_post, newcomer}, Models.{HoldsMail, MayOpen, MayReset, RunsKind, RunsPid, IsWholePost, IsWholeRoster, SlotBecame, LookMet}, declared.roster.Look.Look}, proofs.{Bits.{pid_again, kind_read, status_read, active_again}, Children.children_same, BoardLaws.bit_small}}
use Rattle.pm_board_words.specs.declared.views.Letter as Letter
use Rattle.pm_board.specs.declared.roster.Look.TheVariants as look
use Rattle.pm_keys.specs.CancelKey.{cancel_key}
use Rattle.pm_board.proofs.Keeps as keep
use Rattle.pm_board.proofs.Gating as gate
use Rattle.pm_board.proofs.Latching as latch

pub used_none : (D : Type 0) (n : ℕ) → used_in (replicate n (slot_view {D = D} [] Unused)) ≡ 0
used_none D zero = refl
used_none D (suc n) = let h : used_in (replicate n (slot_view {D = D} [] Unused)) ≡ 0 = used_none D n in omega arith

module _ {D : Type 0} where
  pub slot_set : (d : RosterView D) (k : ℕ) (x : SlotView D) (notes : RosterNotes) → k < length d.slots → slot_at (with_slot d k x notes) k ≡ x
  slot_set d k x notes near = get_or-set_same d.slots k x (slot_view [] Unused) near

  pub twice : (d : RosterView D) (k : ℕ) (x y : SlotView D) (t u : RosterNotes) → with_slot (with_slot d k x t) k y u ≡ with_slot d k y u
  twice d k x y t u = ap (λ (l : List (SlotView D)). record d { slots = l; notes = u }) (set_set d.slots k x y)

  -- what a caller sees of a slot that has changed
  pub became : (d e : RosterView D) (k : ℕ) (x : SlotView D) (notes : RosterNotes) → k < length d.slots → e ≡ with_slot d k x notes → SlotBecame k x notes d e
  became d e k x notes near is = record {
    count = ap (λ (z : RosterView D). length z.slots) is ∙ length-set d.slots k x;
    others = λ j ne. ap (λ (z : RosterView D). slot_at z j) is ∙ get_or-set_other d.slots k j x (slot_view [] Unused) (λ e. ne e);
    here = ap (λ (z : RosterView D). slot_at z k) is ∙ slot_set d k x notes near;
    notes_are = ap (λ (z : RosterView D). z.notes) is;
    whole = is;
  }

  -- how many slots are used, after one of them has changed
  pub used_set : (xs : List (SlotView D)) (k : ℕ) (x : SlotView D) → k < length xs → used_in (set xs k x) + bit (is_used (get_or xs k (slot_view [] Unused)).sight) ≡ used_in xs + bit (is_used x.sight)
  used_set [] k x near = absurd (omega arith)
  used_set (y ∷ ys) zero x near = omega arith
  used_set (y ∷ ys) (suc k) x near = let h : used_in (set ys k x) + bit (is_used (get_or ys k (slot_view [] Unused)).sight) ≡ used_in ys + bit (is_used x.sight) = used_set ys k x (omega arith) in omega arith

  pub used_more : (d : RosterView D) (k : ℕ) (x : SlotView D) (notes : RosterNotes) (s : Sight D) → k < length d.slots → (slot_at d k).sight ≡ s → is_used s ≡ false → is_used x.sight ≡ true → used_in (with_slot d k x notes).slots ≡ used_in d.slots + 1
  used_more d k x notes s near is free taken = let h : used_in (set d.slots k x) + bit (is_used (slot_at d k).sight) ≡ used_in d.slots + bit (is_used x.sight) = used_set d.slots k x near in
      let a : bit (is_used (slot_at d k).sight) ≡ 0 = ap (λ (z : Sight D). bit (is_used z)) is ∙ ap bit free in let b : bit (is_used x.sight) ≡ 1 = ap bit taken in omega arith

  pub used_less : (d : RosterView D) (k : ℕ) (x : SlotView D) (notes : RosterNotes) (s : Sight D) → k < length d.slots → (slot_at d k).sight ≡ s → is_used s ≡ true → is_used x.sight ≡ false → used_in (with_slot d k x notes).slots + 1 ≡ used_in d.slots
  used_less d k x notes s near is taken free = let h : used_in (set d.slots k x) + bit (is_used (slot_at d k).sight) ≡ used_in d.slots + bit (is_used x.sight) = used_set d.slots k x near in
      let a : bit (is_used (slot_at d k).sight) ≡ 1 = ap (λ (z : Sight D). bit (is_used z)) is ∙ ap bit taken in let b : bit (is_used x.sight) ≡ 0 = ap bit free in omega arith

  pub used_same : (d : RosterView D) (k : ℕ) (x : SlotView D) (notes : RosterNotes) (s : Sight D) → k < length d.slots → (slot_at d k).sight ≡ s → is_used s ≡ is_used x.sight → used_in (with_slot d k x notes).slots ≡ used_in d.slots
  used_same d k x notes s near is same = let h : used_in (set d.slots k x) + bit (is_used (slot_at d k).sight) ≡ used_in d.slots + bit (is_used x.sight) = used_set d.slots k x near in
      let a : bit (is_used (slot_at d k).sight) ≡ bit (is_used x.sight) = ap (λ (z : Sight D). bit (is_used z)) is ∙ ap bit same in omega arith

  -- what the word of a child tells
  pub reads : (word stage : ℕ) (o : Offer D) (t : Status) (a : Bool) → word ≡ child_word stage o t a → stage < 8 → o.pid < 2147483648 → status_number t < 256
      → (pid_in word ≡ o.pid) × (kind_in word ≡ o.kind) × (status_in word ≡ t) × (active_in word ≡ a)
  reads word stage o t a is s p n = let f = keep.fits_for stage o t a s p n in
      (ap pid_in is ∙ pid_again _ f, ap kind_in is ∙ kind_read _ f, ap status_in is ∙ status_read _ f, ap active_in is ∙ active_again _ f)

  pub used_few : (xs : List (SlotView D)) → used_in xs ≤ length xs
  used_few [] = omega arith
  used_few (y ∷ ys) = let h : used_in ys ≤ length ys = used_few ys in let b : bit (is_used y.sight) ≤ 1 = bit_small (is_used y.sight) in omega arith

-- the words of a new board of n slots
abbrev pub new_words : ℕ → List ℕ
new_words n = set (replicate (3 * n + 1) 0) n 134217728

module _ {J D : Type 0} (letter : Letter.Ghosts J D) (limit : SessionLimit) where
  pub assigns_as : (n id k word : ℕ) (o : Offer D) (me : Seated J D) (d : RosterView D) (j : J) → me ≡ (Postmaster d, (k, Some j) ∷ []) → word ≡ offer_word o → k < child_slots n → (slot_at d k).sight ≡ Opened o.pid → d.notes.last_pid < o.pid → o.pid < 2147483648 → SlotServes (child_slots n) k o.kind → o.generation ≡ d.generation → o.given ≡ letter.told j → letter.fits j o.kind → (is_auxiliary o.kind ≡ true → lost is_auxiliary d.generation (slot_at d k).past ≡ 0)
      → Allows (Kept letter limit) n id me k (λ _. word) (λ _. Assigns letter (step n k word 0 none) me word)
  assigns_as n id k word o me d j is w near sight new low serves now gave fit alone = subst (λ (z : Seated J D × ℕ). Allows (Kept letter limit) n id z.0 k (λ _. z.1) (λ _. Assigns letter (step n k z.1 0 none) z.0 z.1)) (λ i. (sym is i, sym w i)) (keep.assigns letter limit n id k o d j near sight new low serves now gave fit alone)

  pub clears_as : (n id k : ℕ) (t : Status) (a : Bool) (o : Offer D) (me : Seated J D) (d : RosterView D) → me ≡ (Postmaster d, (k, None) ∷ []) → k < child_slots n → (slot_at d k).sight ≡ Collected o t a → Allows (Kept letter limit) n id me k (λ _. 0) (λ _. Clears (step n k 0 0 none) me 0)
  clears_as n id k t a o me d is near sight = subst (λ (m : Seated J D). Allows (Kept letter limit) n id m k (λ _. 0) (λ _. Clears (step n k 0 0 none) m 0)) (sym is) (keep.clears letter limit n id k t a o d near sight)

  pub looks_as : (n id k : ℕ) (o : Offer D) (me : Seated J D) (d : RosterView D) → me ≡ (Postmaster d, []) → k < child_slots n → (slot_at d k).sight ≡ Assigned o → Allows (Kept letter limit) n id me k (λ x. x) (Looks (step n k 0 0 none) me)
  looks_as n id k o me d is near sight = subst (λ (m : Seated J D). Allows (Kept letter limit) n id m k (λ x. x) (Looks (step n k 0 0 none) m)) (sym is) (keep.looks letter limit n id k o d near sight)

  pub releases_as : (n id k : ℕ) (t : Status) (a : Bool) (o : Offer D) (me : Seated J D) (d : RosterView D) → me ≡ (Postmaster d, []) → k < child_slots n → (slot_at d k).sight ≡ Exited o t a → Allows (Kept letter limit) n id me k (λ x. (x + 1) % 2 ^ 64) (Releases letter (step n k 1 0 none) me)
  releases_as n id k t a o me d is near sight = subst (λ (m : Seated J D). Allows (Kept letter limit) n id m k (λ x. (x + 1) % 2 ^ 64) (Releases letter (step n k 1 0 none) m)) (sym is) (keep.releases letter limit n id k t a o d near sight)

  pub loads_as : (n id k : ℕ) (notes : PostNotes) (past : List (PastChild D)) (me : Seated J D) → me ≡ (Worker k (post_view notes past Idle), []) → Allows (Kept letter limit) n id me k (λ x. x) (Loads (step n k 0 0 none) me)
  loads_as n id k notes past me is = subst (λ (m : Seated J D). Allows (Kept letter limit) n id m k (λ x. x) (Loads (step n k 0 0 none) m)) (sym is) (keep.loads letter limit n id k notes past)

  pub starts_as : (n id k word : ℕ) (notes : PostNotes) (past : List (PastChild D)) (me : Seated J D) → me ≡ (Worker k (post_view notes past (Sees word)), []) → Allows (Kept letter limit) n id me k (λ x. (x + 1) % 2 ^ 64) (Starts letter (step n k 1 0 none) me)
  starts_as n id k word notes past me is = subst (λ (m : Seated J D). Allows (Kept letter limit) n id m k (λ x. (x + 1) % 2 ^ 64) (Starts letter (step n k 1 0 none) m)) (sym is) (keep.starts letter limit n id k word notes past)

  pub ends_as : (n id k add : ℕ) (t : Status) (a : Bool) (o : Offer D) (w : Work D) (notes : PostNotes) (past : List (PastChild D)) (j : J) (me : Seated J D) → me ≡ (Worker k (post_view notes past w), (k, Some j) ∷ []) → add ≡ exit_step t → status_number t < 256 → MayEnd w o a → EndsWell o.kind t a → letter.comes_back j o.kind t a
      → Allows (Kept letter limit) n id me k (λ x. (x + add) % 2 ^ 64) (Ends letter (step n k add 0 none) me)
  ends_as n id k add t a o w notes past j me is e small may well back = subst (λ (z : Seated J D × ℕ). Allows (Kept letter limit) n id z.0 k (λ x. (x + z.1) % 2 ^ 64) (Ends letter (step n k z.1 0 none) z.0)) (λ i. (sym is i, sym e i)) (keep.ends letter limit n id k t a o w notes past j small may well back)

  pub gathers_as : (id k other : ℕ) (me v : View D) (d : RosterView D) (w : PostView D) → me ≡ Postmaster d → v ≡ Worker k w → k < length d.slots → (slot_at d k).sight ≡ Unused → Joins (Kept letter limit) id me other v (taken_in me v) Spent
  gathers_as id k other me v d w is is' near sight = subst (λ (z : View D × View D). Joins (Kept letter limit) id z.0 other z.1 (taken_in z.0 z.1) Spent) (λ i. (sym is i, sym is' i)) (keep.gathers letter limit id k other d w near sight)

  pub compares_as : (n id k : ℕ) (me : Seated J D) (d : RosterView D) → me ≡ (Postmaster d, []) → k < child_slots n → Allows (Kept letter limit) n id me k (λ x. x) (Compares (step n k 0 0 none) me)
  compares_as n id k me d is near = subst (λ (m : Seated J D). Allows (Kept letter limit) n id m k (λ x. x) (Compares (step n k 0 0 none) m)) (sym is) (keep.compares letter limit n id k d near)

  pub deals_as : (id : ℕ) (v : View D) (d : RosterView D) → v ≡ Postmaster d → d.dealt < length d.slots → Splits (Kept letter limit) id v (dealt_more v) (next_post v)
  deals_as id v d is less = subst (λ (z : View D). Splits (Kept letter limit) id z (dealt_more z) (next_post z)) (sym is) (keep.deals letter limit id d less)

  pub begins_as : (n m : ℕ) (l : SessionLimit) (words : List ℕ) → words ≡ new_words n → m ≡ n → l ≡ limit → n ≤ 407 → limit.most ≤ 200 → Kept letter limit (opening words (replicate n None) (newcomer m l))
  begins_as n m l words is same lim few most = subst (λ (z : ℕ × SessionLimit × List ℕ). Kept letter limit (opening z.2 (replicate n None) (newcomer z.0 z.1))) (λ i. (sym same i, sym lim i, sym is i))
      (keep.begins letter limit n n (new_words n) (all_slots n) (length-set (replicate (3 * n + 1) 0) n 134217728 ∙ length-replicate (3 * n + 1) 0)
      (λ k ne. get_or-set_other (replicate (3 * n + 1) 0) n k 134217728 0 (λ e. ne e) ∙ same_everywhere (3 * n + 1) k 0)
      (get_or-set_same (replicate (3 * n + 1) 0) n 134217728 0 (subst (λ (z : ℕ). n < z) (sym (length-replicate (3 * n + 1) 0)) (omega arith))) few most)

-- the steps at the gate

module _ {J D : Type 0} (letter : Letter.Ghosts J D) (limit : SessionLimit) where
  pub marks_as : (n id k : ℕ) (o : Offer D) (notes : PostNotes) (past : List (PastChild D)) (c : List (ℕ × Option J)) (me : Seated J D) → me ≡ (Worker k (post_view notes past (Inactive o)), c) → Allows (Kept letter limit) n id me k (λ x. (x + 8) % 2 ^ 64) (Marks (step n k 8 0 none) me)
  marks_as n id k o notes past c me is = subst (λ (m : Seated J D). Allows (Kept letter limit) n id m k (λ x. (x + 8) % 2 ^ 64) (Marks (step n k 8 0 none) m)) (sym is) (gate.marks letter limit n id k o notes past c)

  pub unmarks_as : (n id k : ℕ) (o : Offer D) (notes : PostNotes) (past : List (PastChild D)) (c : List (ℕ × Option J)) (me : Seated J D) → me ≡ (Worker k (post_view notes past (Active o)), c) → Allows (Kept letter limit) n id me k (λ x. (x + (2 ^ 64 - 8)) % 2 ^ 64) (Unmarks (step n k 8 0 none) me)
  unmarks_as n id k o notes past c me is = subst (λ (m : Seated J D). Allows (Kept letter limit) n id m k (λ x. (x + (2 ^ 64 - 8)) % 2 ^ 64) (Unmarks (step n k 8 0 none) m)) (sym is) (gate.unmarks letter limit n id k o notes past c)

  pub tries_as : (is_ordinary : Bool) (n i id k add : ℕ) (o : Offer D) (notes : PostNotes) (past : List (PastChild D)) (c : List (ℕ × Option J)) (me : Seated J D) → i ≡ child_slots n → add ≡ place_of (is_session o.kind) → is_dead_end o.kind ≡ false → me ≡ (Worker k (post_view notes past (Active o)), c)
      → Allows (Kept letter limit) n id me i (λ x. (x + add) % 2 ^ 64) (Tries is_ordinary (step n i add 0 none) me)
  tries_as is_ordinary n i id k add o notes past c me there adds lives is = subst (λ (z : Seated J D × ℕ × ℕ). Allows (Kept letter limit) n id z.0 z.1 (λ x. (x + z.2) % 2 ^ 64) (Tries is_ordinary (step n z.1 z.2 0 none) z.0)) (λ j. (sym is j, sym there j, sym adds j))
      (gate.tries letter limit is_ordinary n id k o notes past c lives)

  pub backs_out_as : (n i id k takes g : ℕ) (o : Offer D) (notes : PostNotes) (past : List (PastChild D)) (c : List (ℕ × Option J)) (me : Seated J D) → i ≡ child_slots n → takes ≡ place_of (is_session o.kind) → me ≡ (Worker k (post_view notes past (Refused o g)), c)
      → Allows (Kept letter limit) n id me i (λ x. (x + (2 ^ 64 - takes)) % 2 ^ 64) (BacksOut (step n i takes 0 none) me)
  backs_out_as n i id k takes g o notes past c me there takes_is is = subst (λ (z : Seated J D × ℕ × ℕ). Allows (Kept letter limit) n id z.0 z.1 (λ x. (x + (2 ^ 64 - z.2)) % 2 ^ 64) (BacksOut (step n z.1 z.2 0 none) z.0)) (λ j. (sym is j, sym there j, sym takes_is j))
      (gate.backs_out letter limit n id k o g notes past c)

  pub detaches_as : (n i id k takes g : ℕ) (o : Offer D) (notes : PostNotes) (past : List (PastChild D)) (c : List (ℕ × Option J)) (me : Seated J D) → i ≡ child_slots n → takes ≡ place_of (is_session o.kind) → me ≡ (Worker k (post_view notes past (Attached o g)), c)
      → Allows (Kept letter limit) n id me i (λ x. (x + (2 ^ 64 - takes)) % 2 ^ 64) (Detaches (step n i takes 0 none) me)
  detaches_as n i id k takes g o notes past c me there takes_is is = subst (λ (z : Seated J D × ℕ × ℕ). Allows (Kept letter limit) n id z.0 z.1 (λ x. (x + (2 ^ 64 - z.2)) % 2 ^ 64) (Detaches (step n z.1 z.2 0 none) z.0)) (λ j. (sym is j, sym there j, sym takes_is j))
      (gate.detaches letter limit n id k o g notes past c)

  pub quits_as : (n i id adds : ℕ) (d : RosterView D) (why : Reason) (me : Seated J D) → i ≡ child_slots n → adds ≡ quit_step d.noticed why → MayQuit d.noticed why → me ≡ (Postmaster d, []) → Allows (Kept letter limit) n id me i (λ x. (x + adds) % 2 ^ 64) (Quits (step n i adds 0 none) me)
  quits_as n i id adds d why me there adds_is may is = subst (λ (z : Seated J D × ℕ × ℕ). Allows (Kept letter limit) n id z.0 z.1 (λ x. (x + z.2) % 2 ^ 64) (Quits (step n z.1 z.2 0 none) z.0)) (λ j. (sym is j, sym there j, sym adds_is j)) (gate.quits letter limit n id d why may)

  pub readies_as : (n i id adds : ℕ) (d : RosterView D) (me : Seated J D) → i ≡ child_slots n → adds ≡ ready_step d.noticed → MayOpen d → me ≡ (Postmaster d, []) → Allows (Kept letter limit) n id me i (λ x. (x + adds) % 2 ^ 64) (Readies (step n i adds 0 none) me)
  readies_as n i id adds d me there adds_is may is = subst (λ (z : Seated J D × ℕ × ℕ). Allows (Kept letter limit) n id z.0 z.1 (λ x. (x + z.2) % 2 ^ 64) (Readies (step n z.1 z.2 0 none) z.0)) (λ j. (sym is j, sym there j, sym adds_is j)) (gate.readies letter limit n id d may.0 may.1)

  pub resets_as : (n i id word : ℕ) (d : RosterView D) (me : Seated J D) → i ≡ child_slots n → word ≡ new_gate (d.generation + 1) → MayReset d → me ≡ (Postmaster d, []) → Allows (Kept letter limit) n id me i (λ _. word) (λ _. Resets (step n i word 0 none) me word)
  resets_as n i id word d me there word_is may is = subst (λ (z : Seated J D × ℕ × ℕ). Allows (Kept letter limit) n id z.0 z.1 (λ _. z.2) (λ _. Resets (step n z.1 z.2 0 none) z.0 z.2)) (λ j. (sym is j, sym there j, sym word_is j))
      (gate.resets letter limit n id d may.0 (let l : d.generation < 4294967295 = may.1 in omega arith))

-- the steps at latches and cancels

module _ {J D : Type 0} (letter : Letter.Ghosts J D) (limit : SessionLimit) where
  pub arms_as : (n i id k word pid : ℕ) (d : RosterView D) (me : Seated J D) → i ≡ latch_place (child_slots n) k → word ≡ armed_word pid → me ≡ (Postmaster d, []) → k < child_slots n → pid < 2147483648 → (slot_at d k).sight ≡ Unused → Allows (Kept letter limit) n id me i (λ _. word) (Arms (step n i word 0 none) me)
  arms_as n i id k word pid d me there word_is is near low sight = subst (λ (z : Seated J D × ℕ × ℕ). Allows (Kept letter limit) n id z.0 z.1 (λ _. z.2) (Arms (step n z.1 z.2 0 none) z.0)) (λ j. (sym is j, sym there j, sym word_is j))
      (latch.arms letter limit n id k pid d near low sight)

  pub sends_as : (n i id k bits : ℕ) (d : RosterView D) (o : Offer D) (sig : Signal) (me : Seated J D) → i ≡ latch_place (child_slots n) k → bits ≡ 2 ^ signal_number sig → me ≡ (Postmaster d, []) → k < child_slots n → (slot_at d k).sight ≡ Assigned o → Allows (Kept letter limit) n id me i (λ w. bit_or w bits) (Sends (step n i bits 0 none) me)
  sends_as n i id k bits d o sig me there bits_are is near sight = subst (λ (z : Seated J D × ℕ × ℕ). Allows (Kept letter limit) n id z.0 z.1 (λ w. bit_or w z.2) (Sends (step n z.1 z.2 0 none) z.0)) (λ j. (sym is j, sym there j, sym bits_are j))
      (latch.sends letter limit n id k d o sig near sight)

  pub takes_as : (n i id k : ℕ) (o : Offer D) (w : PostView D) (c : List (ℕ × Option J)) (me : Seated J D) → i ≡ latch_place (child_slots n) k → me ≡ (Worker k w, c) → child_in w.work ≡ Some o → Allows (Kept letter limit) n id me i (λ x. bit_and x 18446744073709551584) (Takes (step n i 18446744073709551584 0 none) me)
  takes_as n i id k o w c me there is runs = subst (λ (z : Seated J D × ℕ). Allows (Kept letter limit) n id z.0 z.1 (λ x. bit_and x 18446744073709551584) (Takes (step n z.1 18446744073709551584 0 none) z.0)) (λ j. (sym is j, sym there j)) (latch.takes_signals letter limit n id k o w c runs)

  pub heeds_as : (n i id k pid : ℕ) (o : Offer D) (w : PostView D) (c : List (ℕ × Option J)) (me : Seated J D) → i ≡ cancel_place (child_slots n) k → pid ≡ o.pid → me ≡ (Worker k w, c) → child_in w.work ≡ Some o → Allows (Kept letter limit) n id me i (λ x. either (eqb x pid) 0 x) (Heeds (step n i pid 0 none) me)
  heeds_as n i id k pid o w c me there pid_is is runs = subst (λ (z : Seated J D × ℕ × ℕ). Allows (Kept letter limit) n id z.0 z.1 (λ x. either (eqb x z.2) 0 x) (Heeds (step n z.1 z.2 0 none) z.0)) (λ j. (sym is j, sym there j, sym pid_is j)) (latch.heeds letter limit n id k o w c runs)

  pub peeks_as : (n i id k j : ℕ) (w : PostView D) (c : List (ℕ × Option J)) (me : Seated J D) → i ≡ latch_place (child_slots n) j → me ≡ (Worker k w, c) → j < child_slots n → Allows (Kept letter limit) n id me i (λ x. x) (LooksAtLatch (step n i 0 0 none) me)
  peeks_as n i id k j w c me there is near = subst (λ (z : Seated J D × ℕ). Allows (Kept letter limit) n id z.0 z.1 (λ x. x) (LooksAtLatch (step n z.1 0 0 none) z.0)) (λ u. (sym is u, sym there u)) (latch.peeks letter limit n id k j w c near)

  pub cancels_as : (n i id k pid : ℕ) (x : Cancel) (w : PostView D) (c : List (ℕ × Option J)) (me : Seated J D) → i ≡ cancel_place (child_slots n) x.slot → pid ≡ x.pid → me ≡ (Worker k w, c) → x.slot < child_slots n → x.key ≡ cancel_key x.seed x.pid → Allows (Kept letter limit) n id me i (λ z. max z pid) (Cancels x (step n i pid 0 none) me)
  cancels_as n i id k pid x w c me there pid_is is near key = subst (λ (z : Seated J D × ℕ × ℕ). Allows (Kept letter limit) n id z.0 z.1 (λ y. max y z.2) (Cancels x (step n z.1 z.2 0 none) z.0)) (λ u. (sym is u, sym there u, sym pid_is u)) (latch.cancels letter limit n id k x w c near key)

-- the index of the word of a latch, and of the cancels of a slot
pub latch_in : (i n k : ℕ) (t t' : TableId) → n ≡ t.slots → i ≡ n + 1 + k → k < child_slots t.slots → t.words ≡ 3 * child_slots t.slots + 1 → t' ≡ t → (i < t'.words) × (i ≡ latch_place (child_slots t'.slots) k)
latch_in i n k t t' is e near w f = let c : t'.words ≡ t.words = ap (λ z. z.words) f in let d : t'.slots ≡ t.slots = ap (λ z. z.slots) f in let x : child_slots t.slots ≡ t.slots = all_slots t.slots in let y : child_slots t'.slots ≡ t'.slots = all_slots t'.slots in (omega arith, omega arith)

pub cancels_in : (i n k : ℕ) (t t' : TableId) → n ≡ t.slots → i ≡ n + 1 + n + k → k < child_slots t.slots → t.words ≡ 3 * child_slots t.slots + 1 → t' ≡ t → (i < t'.words) × (i ≡ cancel_place (child_slots t'.slots) k)
cancels_in i n k t t' is e near w f = let c : t'.words ≡ t.words = ap (λ z. z.words) f in let d : t'.slots ≡ t.slots = ap (λ z. z.slots) f in let x : child_slots t.slots ≡ t.slots = all_slots t.slots in let y : child_slots t'.slots ≡ t'.slots = all_slots t'.slots in (omega arith, omega arith)

-- a worker's seat, as it is
pub seat_as : {J D : Type 0} (k : ℕ) (me : Seated J D) → me.0 ≡ Worker k (post_of me.0) → me ≡ (Worker k (post_of me.0), me.1)
seat_as k me is = λ i. (is i, me.1)

-- and after a step that changes its notes alone
pub noted_as : {J D : Type 0} (k : ℕ) (me me' : Seated J D) (notes : PostNotes) → me.0 ≡ Worker k (post_of me.0) → me' ≡ (reposted me.0 (with_notes (post_of me.0) notes), me.1) → me' ≡ (Worker k (with_notes (post_of me.0) notes), me.1)
noted_as k me me' notes is did = did ∙ (λ i. (reposted (is i) (with_notes (post_of me.0) notes), me.1))

-- the pid that the post has at hand is that of its child
pub pid_is : {D : Type 0} (pid : ℕ) (w : Work D) (o : Offer D) → child_in w ≡ Some o → RunsPid pid w → pid ≡ o.pid
pid_is pid Idle o is runs = absurd (cc)
pid_is pid (Sees word) o is runs = absurd (cc)
pid_is pid (Inactive p) o is runs = let it : p ≡ o = cc in runs ∙ ap (λ z. z.pid) it
pid_is pid (Active p) o is runs = let it : p ≡ o = cc in runs ∙ ap (λ z. z.pid) it
pid_is pid (Refused p g) o is runs = let it : p ≡ o = cc in runs ∙ ap (λ z. z.pid) it
pid_is pid (Attached p g) o is runs = let it : p ≡ o = cc in runs ∙ ap (λ z. z.pid) it

-- the index of the gate's word
pub gate_in : (i : ℕ) (t t' : TableId) → i ≡ t.slots → t.words ≡ 3 * child_slots t.slots + 1 → t' ≡ t → (i < t'.words) × (i ≡ child_slots t'.slots)
gate_in i t t' is w e = let c : t'.words ≡ t.words = ap (λ z. z.words) e in let d : t'.slots ≡ t.slots = ap (λ z. z.slots) e in let x : child_slots t.slots ≡ t.slots = all_slots t.slots in let y : child_slots t'.slots ≡ t'.slots = all_slots t'.slots in (omega arith, omega arith)

-- a worker's seat after a step that leaves its mail slot
pub reposted_as : {J D : Type 0} (k : ℕ) (me me' : Seated J D) (w : PostView D) (c : List (ℕ × Option J)) → me.0 ≡ Worker k (post_of me.0) → me.1 ≡ c → me' ≡ (reposted me.0 w, me.1) → me' ≡ (Worker k w, c)
reposted_as k me me' w c is has did = did ∙ (λ i. (reposted (is i) w, has i))

-- the supervisor's seat after a step at the gate
pub turned_as : {J D : Type 0} (me me' : Seated J D) (d : RosterView D) → me ≡ (Postmaster (roster_of me.0), []) → me' ≡ (Postmaster d, me.1) → me' ≡ (Postmaster d, [])
turned_as {J} {D} me me' d is did = did ∙ ap (λ (m : Seated J D). (Postmaster d, m.1)) is

-- an index of a slot is one of a word
pub in_words : (k : ℕ) (t t' : TableId) → k < child_slots t.slots → t.words ≡ 3 * child_slots t.slots + 1 → t' ≡ t → k < t'.words
in_words k t t' near w e = let c : t'.words ≡ t.words = ap (λ z. z.words) e in omega arith

pub in_table : {D : Type 0} (k : ℕ) (d d' : RosterView D) (t t' : TableId) → d ≡ d' → length d.slots ≡ child_slots t.slots → t.words ≡ 3 * child_slots t.slots + 1 → t' ≡ t → k < length d'.slots → (k < t'.words) × (k < child_slots t'.slots)
in_table k d d' t t' e l w f near = let a : length d.slots ≡ length d'.slots = ap (λ z. length z.slots) e in let b : child_slots t'.slots ≡ child_slots t.slots = ap (λ z. child_slots z.slots) f in let c : t'.words ≡ t.words = ap (λ z. z.words) f in (omega arith, omega arith)

-- the roster is whole again
pub sealed : {J D : Type 0} (b t t' : TableId) (u g : ℕ) (cs : List (Option (ℕ × Kind))) (q : Option Reason) (me : Seated J D) (d : RosterView D) → b ≡ t → t' ≡ t → t.words ≡ 3 * child_slots t.slots + 1 → t.slots ≤ 407 → me ≡ (Postmaster d, []) → length d.slots ≡ child_slots t.slots → u ≡ used_in d.slots → g ≡ d.generation → q ≡ d.noticed → cs ≡ children_of d.slots
    → IsWholeRoster b t' u cs g q me
sealed {J} {D} b t t' u g cs q me d e f w few is l used now noticed all = (
  e ∙ sym f,
  is ∙ (λ i. (Postmaster (roster_of (sym is i).0), [])),
  ap (λ z. z.words) f ∙ (w ∙ ap (λ z. 3 * child_slots z.slots + 1) (sym f)),
  ap (λ (z : Seated J D). length (roster_of z.0).slots) is ∙ (l ∙ ap (λ z. child_slots z.slots) (sym f)),
  subst (λ (z : TableId). z.slots ≤ 407) (sym f) few,
  used ∙ ap (λ (z : Seated J D). used_in (roster_of z.0).slots) (sym is),
  now ∙ ap (λ (z : Seated J D). (roster_of z.0).generation) (sym is),
  noticed ∙ ap (λ (z : Seated J D). (roster_of z.0).noticed) (sym is),
  all ∙ ap (λ (z : Seated J D). children_of (roster_of z.0).slots) (sym is),
)

module _ {J D : Type 0} where
  pub doing_at : (k : ℕ) (me : Seated J D) (w : Work D) (c : List (ℕ × Option J)) → me.0 ≡ Worker k (post_of me.0) → (post_of me.0).work ≡ w → me.1 ≡ c → me ≡ (Worker k (post_view (post_of me.0).notes (post_of me.0).past w), c)
  doing_at k me w c is does has = λ i. ((is ∙ (λ j. Worker k (post_view (post_of me.0).notes (post_of me.0).past (does j)))) i, has i)

  -- the post is whole again
  pub post_sealed : (b t t' : TableId) (k : ℕ) (limit : SessionLimit) (kind : Kind) (pid : ℕ) (me : Seated J D) (w : PostView D) (c : List (ℕ × Option J)) → b ≡ t → t' ≡ t → t.words ≡ 3 * child_slots t.slots + 1 → k < child_slots t.slots → me ≡ (Worker k w, c) → HoldsMail k w.work c → RunsKind kind w.work → limit ≡ w.notes.session_limit → RunsPid pid w.work → t.slots ≤ 407
      → IsWholePost b t' k kind pid limit me
  post_sealed b t t' k limit kind pid me w c e f ws l is has runs most named few = (
    e ∙ sym f,
    ap (λ (z : Seated J D). z.0) is ∙ ap (λ (z : Seated J D). Worker k (post_of z.0)) (sym is),
    ap (λ z. z.words) f ∙ (ws ∙ ap (λ z. 3 * child_slots z.slots + 1) (sym f)),
    subst (λ (z : TableId). k < child_slots z.slots) (sym f) l,
    subst (λ (z : Seated J D). HoldsMail k (post_of z.0).work z.1) (sym is) has,
    subst (λ (z : Seated J D). RunsKind kind (post_of z.0).work) (sym is) runs,
    most ∙ ap (λ (z : Seated J D). (post_of z.0).notes.session_limit) (sym is),
    subst (λ (z : Seated J D). RunsPid pid (post_of z.0).work) (sym is) named,
    subst (λ (z : TableId). z.slots ≤ 407) (sym f) few,
  )

  -- and after a try at the gate, whatever the answer
  pub tried_sealed : (b t t' : TableId) (k : ℕ) (limit : SessionLimit) (kind : Kind) (pid : ℕ) (me : Seated J D) (w : PostView D) (o : Offer D) (is_ordinary : Bool) (word : ℕ) (c : List (ℕ × Option J)) → b ≡ t → t' ≡ t → t.words ≡ 3 * child_slots t.slots + 1 → k < child_slots t.slots → me ≡ (Worker k (tried w o is_ordinary word), c) → c ≡ (k, None) ∷ [] → kind ≡ o.kind → limit ≡ w.notes.session_limit → pid ≡ o.pid → t.slots ≤ 407
      → IsWholePost b t' k kind pid limit me
  tried_sealed b t t' k limit kind pid me w o is_ordinary word c e f ws l is has runs most named few = go (gate_answer o.kind is_ordinary w.notes.session_limit word) is
    where
      go : (a : Result ℕ GateNo) → me ≡ (Worker k (tried_by w o word (attempt is_ordinary a)), c) → IsWholePost b t' k kind pid limit me
      go (Ok g) at = post_sealed b t t' k limit kind pid me (tried_by w o word (attempt is_ordinary (Ok g))) c e f ws l at has runs most named few
      go (Err refusal) at = post_sealed b t t' k limit kind pid me (tried_by w o word (attempt is_ordinary (Err refusal))) c e f ws l at has runs most named few

  -- a worker whose child may end holds its empty mail slot
  pub holds_none : (k : ℕ) (w : Work D) (c : List (ℕ × Option J)) (o : Offer D) (a : Bool) → HoldsMail k w c → MayEnd w o a → c ≡ (k, None) ∷ []
  holds_none k Idle c o a has may = absurd may
  holds_none k (Sees word) c o a has may = absurd may
  holds_none k (Inactive p) c o a has may = has
  holds_none k (Active p) c o a has may = has
  holds_none k (Refused p g) c o a has may = has
  holds_none k (Attached p g) c o a has may = has

  -- a seat that holds one slot
  pub holds_one : (k : ℕ) (me : Seated J D) (v : View D) (x : Option J) → me ≡ (v, (k, x) ∷ []) → (y : Option J) × (me.1 ≡ (k, y) ∷ rest me.1)
  holds_one k me v x e = (x, ap (λ (m : Seated J D). m.1) e ∙ ap (λ (m : Seated J D). (k, x) ∷ rest m.1) (sym e))

  -- and after an exchange
  pub exchanged : (k : ℕ) (me me' : Seated J D) (v : View D) (x y : Option J) → me ≡ (v, (k, x) ∷ []) → me' ≡ (me.0, (k, y) ∷ rest me.1) → me' ≡ (v, (k, y) ∷ [])
  exchanged k me me' v x y e did = did ∙ ap (λ (m : Seated J D). (m.0, (k, y) ∷ rest m.1)) e

  -- the value that came out
  pub came_out : (k : ℕ) (me : Seated J D) (v : View D) (x y : Option J) → me ≡ (v, (k, x) ∷ []) → me.1 ≡ (k, y) ∷ rest me.1 → x ≡ y
  came_out k me v x y e has = ap (out x) (sym (ap (λ (m : Seated J D). m.1) e) ∙ has)
    where
      out : Option J → List (ℕ × Option J) → Option J
      out d [] = d
      out d (z ∷ zs) = z.1

  -- the roster after a look
  pub looked_as : (n k word : ℕ) (me me' : Seated J D) (d : RosterView D) (o : Offer D) → me ≡ (Postmaster d, []) → (slot_at d k).sight ≡ Assigned o → Looks (step n k 0 0 none) me word me'
      → (stage_in word ≡ 3
      → (me' ≡ (Postmaster (with_slot d k (exited_slot (slot_at d k) o (status_in word) (active_in word)) (noted_look d.notes word)), []))
      × (word ≡ child_word 3 o (status_in word) (active_in word)) × EndsWell o.kind (status_in word) (active_in word))
      × (stage_in word ≢ 3 → me' ≡ (Postmaster (with_slot d k (running_slot (slot_at d k) o d.notes.last_connection) (noted_look d.notes word)), []))
  looked_as n k word me me' d o is sight did = subst (λ (m : Seated J D). Looks (step n k 0 0 none) m word me') is did o sight

  pub looked_seal : (b t t' : TableId) (u g : ℕ) (cs : List (Option (ℕ × Kind))) (q : Option Reason) (n k word : ℕ) (me me' : Seated J D) (d : RosterView D) (o : Offer D) → b ≡ t → t' ≡ t → t.words ≡ 3 * child_slots t.slots + 1 → t.slots ≤ 407 → me ≡ (Postmaster d, []) → length d.slots ≡ child_slots t.slots → k < length d.slots → u ≡ used_in d.slots → g ≡ d.generation → q ≡ d.noticed → cs ≡ children_of d.slots → (slot_at d k).sight ≡ Assigned o
      → Looks (step n k 0 0 none) me word me' → IsWholeRoster b t' u cs g q me'
  looked_seal b t t' u g cs q n k word me me' d o e f w few is l near used now noticed all sight did = let h = looked_as n k word me me' d o is sight did in let notes : RosterNotes = noted_look d.notes word in
      let x : SlotView D = exited_slot (slot_at d k) o (status_in word) (active_in word) in let y : SlotView D = running_slot (slot_at d k) o d.notes.last_connection in
      dite (ℕ_discrete (stage_in word) 3)
      (λ three. sealed b t t' u g cs q me' (with_slot d k x notes) e f w few (h.0 three).0 (length-set d.slots k x ∙ l) (used ∙ sym (used_same d k x notes (Assigned o) near sight refl)) now noticed (children_same cs d k x notes (Assigned o) near sight refl all))
      (λ no_. sealed b t t' u g cs q me' (with_slot d k y notes) e f w few (h.1 no_) (length-set d.slots k y ∙ l) (used ∙ sym (used_same d k y notes (Assigned o) near sight refl)) now noticed (children_same cs d k y notes (Assigned o) near sight refl all))

  -- what a look tells, by the word that it met
  pub looked_met : (n k word : ℕ) (found : Look) (me me' : Seated J D) (d : RosterView D) (o : Offer D) → me ≡ (Postmaster d, []) → k < length d.slots → (slot_at d k).sight ≡ Assigned o → Looks (step n k 0 0 none) me word me'
      → ((stage_in word ≡ 3) × (found ≡ look.Exited (status_in word) (active_in word))) ⊎ ((stage_in word ≢ 3) × (found ≡ look.Running)) → LookMet k o word found d (roster_of me'.0)
  looked_met n k word found me me' d o is near sight did tells =
      let h = looked_as n k word me me' d o is sight did in
      ⊎_elim
      (λ (f : (stage_in word ≡ 3) × (found ≡ look.Exited (status_in word) (active_in word))).
      let t = h.0 f.0 in subst (λ (z : Look). LookMet k o word z d (roster_of me'.0)) (sym f.1) (t.1, became d (roster_of me'.0) k _ _ near (ap (λ (m : Seated J D). roster_of m.0) t.0), t.2))
      (λ (f : (stage_in word ≢ 3) × (found ≡ look.Running)).
      subst (λ (z : Look). LookMet k o word z d (roster_of me'.0)) (sym f.1) (f.0, became d (roster_of me'.0) k _ _ near (ap (λ (m : Seated J D). roster_of m.0) (h.1 f.0))))
      tells

  -- a look leaves the children that the supervisor sees
  pub looked_children : (n k word : ℕ) (me me' : Seated J D) (d : RosterView D) (o : Offer D) → me ≡ (Postmaster d, []) → k < length d.slots → (slot_at d k).sight ≡ Assigned o → Looks (step n k 0 0 none) me word me' → children_of (roster_of me'.0).slots ≡ children_of d.slots
  looked_children n k word me me' d o is near sight did = let h = looked_as n k word me me' d o is sight did in let notes : RosterNotes = noted_look d.notes word in
      let x : SlotView D = exited_slot (slot_at d k) o (status_in word) (active_in word) in let y : SlotView D = running_slot (slot_at d k) o d.notes.last_connection in
      dite (ℕ_discrete (stage_in word) 3)
      (λ three. ap (λ (m : Seated J D). children_of (roster_of m.0).slots) (h.0 three).0 ∙ sym (children_same (children_of d.slots) d k x notes (Assigned o) near sight refl refl))
      (λ no_. ap (λ (m : Seated J D). children_of (roster_of m.0).slots) (h.1 no_) ∙ sym (children_same (children_of d.slots) d k y notes (Assigned o) near sight refl refl))

module _ {J D : Type 0} (letter : Letter.Ghosts J D) where
  pub assigned_as : (n k word : ℕ) (o : Offer D) (me me' : Seated J D) (d : RosterView D) (j : J) → me ≡ (Postmaster (with_sight d k (Opened o.pid)), (k, Some j) ∷ []) → word ≡ offer_word o → k < length d.slots → o.generation ≡ d.generation → o.given ≡ letter.told j → Assigns letter (step n k word 0 none) me word me'
      → me' ≡ (Postmaster (with_slot d k (assigned_slot (slot_at d k) o) (noted_assign d.notes k o)), [])
  assigned_as n k word o me me' d j is w near now gave did =
      subst (λ (m : Seated J D). Assigns letter (step n k word 0 none) m word me') is did j o refl w now gave
      ∙ (λ i. (Postmaster (with_slot (with_sight d k (Opened o.pid)) k (assigned_slot (slot_set d k (slot_view (slot_at d k).past (Opened o.pid)) d.notes near i) o) (noted_assign d.notes k o)), []))
      ∙ (λ i. (Postmaster (twice d k (slot_view (slot_at d k).past (Opened o.pid)) (assigned_slot (slot_at d k) o) d.notes (noted_assign d.notes k o) i), []))

  pub released_as : (n k word : ℕ) (t : Status) (a : Bool) (me me' : Seated J D) (d : RosterView D) (o : Offer D) → me ≡ (Postmaster d, []) → (slot_at d k).sight ≡ Exited o t a → Releases letter (step n k 1 0 none) me word me'
      → (word ≡ child_word 3 o t a) × (o.pid < 2147483648) × (status_number t < 256)
      × ((j : J) × (me' ≡ (Postmaster (with_slot d k (slot_view ((slot_at d k).past ++ past_child o t a (letter.told j) ∷ []) (Collected o t a)) (noted_release d.notes o)), (k, Some j) ∷ [])) × letter.comes_back j o.kind t a)
  released_as n k word t a me me' d o is sight did = subst (λ (m : Seated J D). Releases letter (step n k 1 0 none) m word me') is did o t a sight

  pub ended_as : (n k word add : ℕ) (t : Status) (a : Bool) (me me' : Seated J D) (notes : PostNotes) (past : List (PastChild D)) (w : Work D) (o : Offer D) (j : J) → me ≡ (Worker k (post_view notes past w), (k, Some j) ∷ []) → add ≡ exit_step t → MayEnd w o a → Ends letter (step n k add 0 none) me word me'
      → me' ≡ (Worker k (post_view (noted_exit notes o) (past ++ past_child o t a (letter.told j) ∷ []) Idle), [])
  ended_as n k word add t a me me' notes past w o j is e may did = subst (λ (m : Seated J D). Ends letter (step n k add 0 none) m word me') is did j o t a refl may e

module _ {D : Type 0} where
  -- the roster after a release
  pub cleared : (d : RosterView D) (k : ℕ) (x : SlotView D) (notes : RosterNotes) → k < length d.slots → with_sight (with_slot d k x notes) k Unused ≡ with_slot d k (slot_view x.past Unused) notes
  cleared d k x notes near = ap (λ (y : SlotView D). with_slot (with_slot d k x notes) k (slot_view y.past Unused) notes) (slot_set d k x notes near) ∙ twice d k x (slot_view x.past Unused) notes notes

pub one_less : (a b c : ℕ) → a ≡ c → b + 1 ≡ c → a - 1 ≡ b
one_less a b c e h = omega arith

-- each post has its number, and one more
module _ {A : Type 0} where
  pub last_or_before : (l : List A) (a b : A) (k : ℕ) → slice_get (l ++ a ∷ []) k ≡ Some b → (slice_get l k ≡ Some b) ⊎ ((k ≡ length l) × (a ≡ b))
  last_or_before [] a b zero e = inr (refl, same_Some a b e)
  last_or_before [] a b (suc k) e = absurd (cc)
  last_or_before (x ∷ xs) a b zero e = inl e
  last_or_before (x ∷ xs) a b (suc k) e = ⊎_elim (λ t. inl t) (λ (t : (k ≡ length xs) × (a ≡ b)). inr (ap suc t.0, t.1)) (last_or_before xs a b k e)

  pub one_more : (F : ℕ → A) (l : List A) (a : A) → a ≡ F (length l) → ((k : ℕ) (p : A) → slice_get l k ≡ Some p → p ≡ F k) → (k : ℕ) (p : A) → slice_get (l ++ a ∷ []) k ≡ Some p → p ≡ F k
  one_more F l a is all k p e = ⊎_elim (λ t. all k p t) (λ (t : (k ≡ length l) × (a ≡ p)). sym t.1 ∙ (is ∙ ap F (sym t.0))) (last_or_before l a p k e)
