-- What the steps of a supervisor leave of who was offered a connection.
use Rattle.std.{proofs.{Common.{◌≡◌, ◌⊎◌, inl, inr, ℕ, zero, suc, ◌+◌, ◌<◌, List, [], ◌∷◌, ◌++◌, refl, sym, ap, subst, ◌∙◌, length, get_or, arith, nat_eq, append-nil}, lemmas.{List.{nil_from_length, Concat.flat_map-append, Elements.{Contains-append_left, Contains-push}}, Option.same_Some}}, specs.{Prelude.{Bool, Some, slice_get}, List.Contains}}
use Rattle.pm_server.specs.{pm_facts.Bools.by_test, pm_admit.declared.Cac.Cac, pm_exit.declared.child.{Kind.Kind, Status.Status}, pm_state.declared.event.PmEvent.PmEvent}
use Rattle.pm_board_acts.specs.{pm_board.{pm_board_words.declared.views.{Offer.Offer, PastChild.PastChild, RosterNotes.RosterNotes, RosterView.RosterView, Sight.TheVariants.{Assigned, Unused}, SlotView.SlotView}, Models.{HasAssigned, SlotBecame}, Places.{slot_at, slot_view}, Told.{assigned_slot, past_child, released_slot, running_slot}}, Chained.pids_accepted, Sitting.HasFoundNone, pm_worker.declared.mail.MailTold.MailTold}
use Rattle.pm_server.specs.pm_state.declared.event.PmEvent.TheVariants as entry
use Rattle.pm_postmaster.specs.Links.{AcceptedConnection, AreAnswered, AreServed, HasOffer, IsOffered, KeepsServed, Serves, accepted_in, connection_of}

-- ---- the connections of a journal

pub accepted_more : (xs ys : List PmEvent) → accepted_in (xs ++ ys) ≡ accepted_in xs ++ accepted_in ys
accepted_more xs ys = flat_map-append connection_of xs ys

-- there are as many as pids
pub as_many_accepted : (journal : List PmEvent) → length (accepted_in journal) ≡ length (pids_accepted journal)
as_many_accepted [] = refl
as_many_accepted (entry.Accepted pid decision ∷ journal) = ap suc (as_many_accepted journal)
as_many_accepted (entry.Started pid kind ∷ journal) = as_many_accepted journal
as_many_accepted (entry.Exited pid kind status was_active at ∷ journal) = as_many_accepted journal
as_many_accepted (entry.Asked mode at ∷ journal) = as_many_accepted journal
as_many_accepted (entry.KillAsked pid ∷ journal) = as_many_accepted journal
as_many_accepted (entry.QuitSent why ∷ journal) = as_many_accepted journal
as_many_accepted (entry.TerminateSent ∷ journal) = as_many_accepted journal
as_many_accepted (entry.KillSent at ∷ journal) = as_many_accepted journal
as_many_accepted (entry.CheckpointAsked ∷ journal) = as_many_accepted journal
as_many_accepted (entry.RedoEnded generation kept ∷ journal) = as_many_accepted journal
as_many_accepted (entry.Ready generation ∷ journal) = as_many_accepted journal
as_many_accepted (entry.Reset generation ∷ journal) = as_many_accepted journal
as_many_accepted (entry.Said line ∷ journal) = as_many_accepted journal
as_many_accepted (entry.Ended how ∷ journal) = as_many_accepted journal

none_accepted : (journal : List PmEvent) → pids_accepted journal ≡ [] → accepted_in journal ≡ []
none_accepted journal none = nil_from_length (accepted_in journal) (as_many_accepted journal ∙ ap length none)

-- what is found in a list that has one more at its end
got_end : {A : Type 0} (xs : List A) (y x : A) (n : ℕ) → slice_get (xs ++ y ∷ []) n ≡ Some x → (slice_get xs n ≡ Some x) ⊎ ((n ≡ length xs) × (y ≡ x))
got_end [] y x zero is = inr (refl, same_Some y x is)
got_end [] y x (suc n) is = absurd (cc)
got_end (z ∷ zs) y x zero is = inl is
got_end (z ∷ zs) y x (suc n) is = more (got_end zs y x n is)
  where
    more : (slice_get zs n ≡ Some x) ⊎ ((n ≡ length zs) × (y ≡ x)) → (slice_get (z ∷ zs) (suc n) ≡ Some x) ⊎ ((suc n ≡ length (z ∷ zs)) × (y ≡ x))
    more (inl old) = inl old
    more (inr new) = inr (ap suc new.0, new.1)

pub got_some : {A : Type 0} (xs : List A) (n : ℕ) → n < length xs → (x : A) × (slice_get xs n ≡ Some x)
got_some [] n less = absurd (omega arith)
got_some (x ∷ xs) zero less = (x, refl)
got_some (x ∷ xs) (suc n) less = got_some xs n (omega arith)

-- ---- steps of the board

-- steps that change no slot
pub served_same : (d e : RosterView MailTold) → e.slots ≡ d.slots → KeepsServed d e
served_same d e same numbered connections was n c is =
    let had = was n c is in
    (had.0, subst (HasOffer (IsOffered numbered (n + 1) c)) (ap (λ (xs : List (SlotView MailTold)). get_or xs had.0 (slot_view [] Unused)) (sym same)) had.1)

pub served_both : (d e f : RosterView MailTold) → KeepsServed d e → KeepsServed e f → KeepsServed d f
served_both d e f one two numbered connections was = two numbered connections (one numbered connections was)

module _ (k : ℕ) (d e : RosterView MailTold) where
  -- each slot keeps an offer where that one does
  each_slot : (x : SlotView MailTold) (notes : RosterNotes) → SlotBecame k x notes d e → (P : Offer MailTold → Type 0) (j : ℕ) → HasOffer P (slot_at d j)
      → (HasOffer P (slot_at d k) → HasOffer P x) → HasOffer P (slot_at e j)
  each_slot x notes became P j has here = by_test (nat_eq j k)
      (λ is. (let same : j ≡ k = grind (arith, is) in
      subst (λ (m : ℕ). HasOffer P (slot_at e m)) (sym same)
      (subst (HasOffer P) (sym became.here) (here (subst (λ (m : ℕ). HasOffer P (slot_at d m)) same has)))))
      (λ isnt. subst (HasOffer P) (sym (became.others j (grind (arith, isnt)))) has)

  served_by : (x : SlotView MailTold) (notes : RosterNotes) → SlotBecame k x notes d e
      → ((numbered : Bool) (n : ℕ) (c : AcceptedConnection) → HasOffer (IsOffered numbered n c) (slot_at d k) → HasOffer (IsOffered numbered n c) x) → KeepsServed d e
  served_by x notes became here numbered connections was n c is =
      let had = was n c is in
      (had.0, each_slot x notes became (IsOffered numbered (n + 1) c) had.0 had.1 (here numbered (n + 1) c))

  -- its child was found running
  pub served_running : (o : Offer MailTold) (last : ℕ) (notes : RosterNotes) → (slot_at d k).sight ≡ Assigned o → SlotBecame k (running_slot (slot_at d k) o last) notes d e
      → KeepsServed d e
  served_running o last notes sight became =
      served_by (running_slot (slot_at d k) o last) notes became (λ numbered n c. still (IsOffered numbered n c))
    where
      still : (P : Offer MailTold → Type 0) → HasOffer P (slot_at d k) → HasOffer P (running_slot (slot_at d k) o last)
      still P (inl sits) = inl (sits.0, sym sight ∙ sits.1, sits.2)
      still P (inr gone) = inr gone

  -- its child was found ended
  pub served_released : (o : Offer MailTold) (status : Status) (active : Bool) (back : MailTold) (notes : RosterNotes) → (slot_at d k).sight ≡ Assigned o
      → SlotBecame k (released_slot (slot_at d k) (past_child o status active back)) notes d e → KeepsServed d e
  served_released o status active back notes sight became =
      served_by (released_slot (slot_at d k) (past_child o status active back)) notes became (λ numbered n c. gone (IsOffered numbered n c))
    where
      gone : (P : Offer MailTold → Type 0) → HasOffer P (slot_at d k) → HasOffer P (released_slot (slot_at d k) (past_child o status active back))
      gone P (inl sits) = inr (
        past_child o status active back,
        Contains-push (slot_at d k).past _,
        (let same : sits.0 ≡ o = (let both : Assigned sits.0 ≡ Assigned o = sym sits.1 ∙ sight in cc) in subst P same sits.2),
      )
      gone P (inr past) = inr (past.0, Contains-append_left (slot_at d k).past _ past.0 past.1, past.2)

  module _ (pid : ℕ) (kind : Kind) (given : MailTold) (free : (slot_at d k).sight ≡ Unused) (has : HasAssigned k pid kind given d e) where
    abbrev offer : Offer MailTold
    offer = has.0

    sits_too : (P : Offer MailTold → Type 0) → HasOffer P (slot_at d k) → HasOffer P (assigned_slot (slot_at d k) offer)
    sits_too P (inl sits) = absurd (let both : Unused ≡ Assigned sits.0 = sym free ∙ sits.1 in cc)
    sits_too P (inr gone) = inr gone

    -- a child sat down there
    pub served_started : KeepsServed d e
    served_started = served_by (assigned_slot (slot_at d k) offer) _ has.2 (λ numbered n c. sits_too (IsOffered numbered n c))

    -- a child sat down that was offered the next connection
    pub served_accepted : (numbered : Bool) (connections : List AcceptedConnection) (decision : Cac) → Serves numbered (length connections + 1) decision given
        → AreServed numbered connections d → AreServed numbered (connections ++ record { pid = pid; decision = decision } ∷ []) e
    served_accepted numbered connections decision serves was n c is =
        elim (got_end connections (record { pid = pid; decision = decision }) c n is) [
          | inl old ↦ served_started numbered connections was n c old
          | inr new ↦ subst (λ (m : ℕ). (j : ℕ) × HasOffer (IsOffered numbered (m + 1) c) (slot_at e j)) (sym new.0)
              (subst (λ (x : AcceptedConnection). (j : ℕ) × HasOffer (IsOffered numbered (length connections + 1) x) (slot_at e j)) new.1 sits_here)
        ]
      where
        sits_here : (j : ℕ) × HasOffer (IsOffered numbered (length connections + 1) (record { pid = pid; decision = decision })) (slot_at e j)
        sits_here = (
          k,
          subst (HasOffer (IsOffered numbered (length connections + 1) (record { pid = pid; decision = decision }))) (sym has.2.here)
              (inl (offer, refl, (ap (λ (o : Offer MailTold). o.pid) has.1, subst (λ (o : Offer MailTold). Serves numbered (length connections + 1) decision o.given) (sym has.1) serves))),
        )

-- a look that found no end
pub served_found : (k : ℕ) (d e : RosterView MailTold) → HasFoundNone k d e → KeepsServed d e
served_found k d e (inl same) = served_same d e (ap (λ (x : RosterView MailTold). x.slots) same)
served_found k d e (inr still) = served_running k d e still.1.sits.offer d.notes.last_connection _ still.1.sits.sight still.1.became

-- ---- moments

-- so it is after entries that tell of no connection
pub served_on : (numbered : Bool) (journal more : List PmEvent) (d e : RosterView MailTold) → pids_accepted more ≡ [] → KeepsServed d e
    → AreServed numbered (accepted_in journal) d → AreServed numbered (accepted_in (journal ++ more)) e
served_on numbered journal more d e none keeps was =
    subst (λ (cs : List AcceptedConnection). AreServed numbered cs e) (sym (accepted_more journal more ∙ (ap (λ (cs : List AcceptedConnection). accepted_in journal ++ cs) (none_accepted more none)
    ∙ append-nil (accepted_in journal)))) (keeps numbered (accepted_in journal) was)

-- once nobody sits anywhere, each was released
pub answered_by : (numbered : Bool) (connections : List AcceptedConnection) (d e : RosterView MailTold) → ((k : ℕ) → (slot_at d k).sight ≡ Unused)
    → ((k : ℕ) → (others : List (PastChild MailTold)) × ((slot_at e k).past ≡ (slot_at d k).past ++ others)) → AreServed numbered connections d → AreAnswered numbered connections e
answered_by numbered connections d e free more was n c is = by (was n c is)
  where
    by : (k : ℕ) × HasOffer (IsOffered numbered (n + 1) c) (slot_at d k)
        → (k : ℕ) × (child : PastChild MailTold) × Contains (slot_at e k).past child × IsOffered numbered (n + 1) c child.offer
    by (k, inl sits) = absurd (let both : Unused ≡ Assigned sits.0 = sym (free k) ∙ sits.1 in cc)
    by (k, inr (child, there, offered)) =
        (k, child, subst (λ (xs : List (PastChild MailTold)). Contains xs child) (sym (more k).1) (Contains-append_left (slot_at d k).past (more k).0 child there), offered)
