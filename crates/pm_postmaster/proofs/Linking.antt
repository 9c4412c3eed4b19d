-- What the steps of a supervisor leave of the links that are out.
use Rattle.std.{proofs.{Common.{◌≡◌, ◌⊎◌, inl, inr, ℕ, ◌+◌, ◌<◌, ◌≤◌, List, [], ◌∷◌, refl, sym, ap, subst, ◌∙◌, length, set, get_or, arith, nat_eq}, lemmas.List.{get_or-map, length-map, length_push, map-set, set-get_or, Elements.{Contains-append_left, Contains-push, Contains-push_cases}}}, specs.{Prelude.{Bool, false, Option, None}, List.Contains}}
use Rattle.pm_server.specs.{pm_facts.Bools.by_test, pm_exit.declared.child.{Kind.Kind, Status.Status}, pm_outside.Visits.{Visit, Visits}}
use Rattle.pm_board.{specs.{pm_board_words.{declared.views.{Offer.Offer, PastChild.PastChild, RosterNotes.RosterNotes, RosterStep.RosterStep, RosterView.RosterView, Sight.TheVariants.{Assigned, Unused}, SlotView.SlotView}, Words.bit}, Children.{CountsChildren, child_in_slot, child_seen, children_of, count_of}, Models.{HasAssigned, SlotBecame}, Places.{is_connection, slot_at, slot_view}, Told.{after_step, past_child, released_slot, running_slot}}, proofs.BoardLaws.bit_small}
use Rattle.pm_board_acts.specs.{Board.after_steps, pm_worker.{declared.mail.{LinkTold.LinkTold, MailTold.MailTold}, Mails.ComesBack}}
use Rattle.pm_board_acts.specs.pm_worker.declared.mail.MailTold.TheVariants as mail
use Rattle.pm_postmaster.specs.{Links.{BackIn, HasLinks, IsBackIn}, Looking.opened}

abbrev Slots : Type 0
Slots = List (SlotView MailTold)

-- steps that change no slot
pub same_slots : (d : RosterView MailTold) (ss : List RosterStep) → (after_steps d ss).slots ≡ d.slots
same_slots d [] = refl
same_slots d (s ∷ ss) = same_slots (after_step d s) ss

pub same_limit : (d : RosterView MailTold) (ss : List RosterStep) → (after_steps d ss).session_limit ≡ d.session_limit
same_limit d [] = refl
same_limit d (s ∷ ss) = same_limit (after_step d s) ss

-- the slots are the same
pub links_same : (n : ℕ) (d e : RosterView MailTold) (visits : Visits) → e.slots ≡ d.slots → HasLinks n d visits → HasLinks n e visits
links_same n d e visits same was =
    let at : (k : ℕ) → slot_at d k ≡ slot_at e k = (λ k. ap (λ (xs : Slots). get_or xs k (slot_view [] Unused)) (sym same)) in
    record {
      given = was.given;
      out = subst (λ (xs : Slots). length visits.back + count_of is_connection (children_of xs) ≤ length visits.given) (sym same) was.out;
      back = λ k child has. was.back k child (subst (λ (x : SlotView MailTold). Contains x.past child) (sym (at k)) has);
    }

-- ---- one slot

abbrev counted : RosterView MailTold → ℕ
counted d = count_of is_connection (children_of d.slots)

-- a visit that came back is still back
opened_more : (back m : MailTold) (visits : Visits) → IsBackIn visits m → IsBackIn (opened back visits) m
opened_more (mail.Served link) (mail.Served other) visits has = (has.0, Contains-append_left visits.back _ has.0 has.1, has.2, has.3)
opened_more (mail.Serve link decision) m visits has = has
opened_more mail.Startup m visits has = has
opened_more mail.Checkpointer m visits has = has
opened_more mail.Writer m visits has = has
opened_more mail.Close m visits has = has
opened_more (mail.Aux fault kept) m visits has = has
opened_more (mail.Served link) (mail.Serve other decision) visits has = has
opened_more (mail.Served link) mail.Startup visits has = has
opened_more (mail.Served link) mail.Checkpointer visits has = has
opened_more (mail.Served link) mail.Writer visits has = has
opened_more (mail.Served link) mail.Close visits has = has
opened_more (mail.Served link) (mail.Aux fault kept) visits has = has

opened_itself : (back : MailTold) (visits : Visits) → IsBackIn (opened back visits) back
opened_itself (mail.Served link) visits = (_, Contains-push visits.back _, refl, refl)
opened_itself (mail.Serve link decision) visits = tt
opened_itself mail.Startup visits = tt
opened_itself mail.Checkpointer visits = tt
opened_itself mail.Writer visits = tt
opened_itself mail.Close visits = tt
opened_itself (mail.Aux fault kept) visits = tt

opened_given : (back : MailTold) (visits : Visits) → (opened back visits).given ≡ visits.given
opened_given (mail.Served link) visits = refl
opened_given (mail.Serve link decision) visits = refl
opened_given mail.Startup visits = refl
opened_given mail.Checkpointer visits = refl
opened_given mail.Writer visits = refl
opened_given mail.Close visits = refl
opened_given (mail.Aux fault kept) visits = refl

-- a link goes back only of a child that answers a connection
opened_few : (back : MailTold) (kind : Kind) (status : _) (visits : Visits) → ComesBack back kind status
    → length (opened back visits).back ≤ length visits.back + bit (is_connection kind)
opened_few (mail.Served link) kind status visits comes =
    let one : bit (is_connection kind) ≡ 1 = ap bit comes in
    let long : length (opened (mail.Served link) visits).back ≡ length visits.back + 1 = length_push visits.back _ in
    omega (arith, one, long)
opened_few (mail.Serve link decision) kind status visits comes = omega arith
opened_few mail.Startup kind status visits comes = omega arith
opened_few mail.Checkpointer kind status visits comes = omega arith
opened_few mail.Writer kind status visits comes = omega arith
opened_few mail.Close kind status visits comes = omega arith
opened_few (mail.Aux fault kept) kind status visits comes = omega arith

module _ (k : ℕ) (d e : RosterView MailTold) where
  -- the children that are seen, where one slot became another
  seen_set : (x : SlotView MailTold) (notes : RosterNotes) → SlotBecame k x notes d e → children_of e.slots ≡ set (children_of d.slots) k (child_in_slot x)
  seen_set x notes became = ap (λ (v : RosterView MailTold). children_of v.slots) became.whole ∙ map-set child_in_slot d.slots k x

  -- what the slot has
  seen_at : k < length d.slots → get_or (children_of d.slots) k None ≡ child_in_slot (slot_at d k)
  seen_at near = get_or-map child_in_slot d.slots k (slot_view [] Unused) None near

  module _ (x : SlotView MailTold) (notes : RosterNotes) (became : SlotBecame k x notes d e) where
    -- whoever is in a slot's past was there, or is in that one's
    past_in : (j : ℕ) (child : PastChild MailTold) → Contains (slot_at e j).past child → Contains (slot_at d j).past child ⊎ Contains x.past child
    past_in j child has = by_test (nat_eq j k)
        (λ is. inr (subst (λ (y : SlotView MailTold). Contains y.past child) became.here (subst (λ (m : ℕ). Contains (slot_at e m).past child) (let same : j ≡ k = grind (arith, is) in same) has)))
        (λ isnt. inl (subst (λ (y : SlotView MailTold). Contains y.past child) (became.others j (grind (arith, isnt))) has))

  -- its child was found running
  pub links_running : (n : ℕ) (o : Offer MailTold) (last : ℕ) (notes : RosterNotes) (visits : Visits) → k < length d.slots → (slot_at d k).sight ≡ Assigned o
      → SlotBecame k (running_slot (slot_at d k) o last) notes d e → HasLinks n d visits → HasLinks n e visits
  links_running n o last notes visits near sight became was =
      let same : children_of e.slots ≡ children_of d.slots =
      seen_set _ notes became ∙ (ap (λ (c : Option (ℕ × Kind)). set (children_of d.slots) k c) (ap child_seen (sym sight) ∙ sym (seen_at near)) ∙ set-get_or (children_of d.slots) k None) in
      record {
        given = was.given;
        out = subst (λ (cs : List (Option (ℕ × Kind))). length visits.back + count_of is_connection cs ≤ length visits.given) (sym same) was.out;
        back = λ j child has. elim (past_in _ notes became j child has) [ inl old ↦ was.back j child old | inr old ↦ was.back k child old ];
      }

  -- a child that answers a connection sits there
  pub is_out : CountsChildren → (o : Offer MailTold) (link : LinkTold) (status : Status) → k < length d.slots → (slot_at d k).sight ≡ Assigned o
      → ComesBack (mail.Served link) o.kind status → 1 ≤ counted d
  is_out counts o link status near sight comes =
      let less = counts.released is_connection (children_of d.slots) k (o.pid, o.kind) (seen_at near ∙ ap child_seen sight) in
      let one : bit (is_connection o.kind) ≡ 1 = ap bit comes in
      omega (arith, less, one)

  -- its child was found ended, and its mail was opened
  pub links_released : CountsChildren → (n : ℕ) (o : Offer MailTold) (status : Status) (active : Bool) (back : MailTold) (notes : RosterNotes) (visits : Visits) → k < length d.slots
      → (slot_at d k).sight ≡ Assigned o → SlotBecame k (released_slot (slot_at d k) (past_child o status active back)) notes d e → ComesBack back o.kind status
      → HasLinks n d visits → HasLinks n e (opened back visits)
  links_released counts n o status active back notes visits near sight became comes was =
      let less : counted e + bit (is_connection o.kind) ≡ counted d =
      ap (λ (cs : List (Option (ℕ × Kind))). count_of is_connection cs + bit (is_connection o.kind)) (seen_set _ notes became)
      ∙ counts.released is_connection (children_of d.slots) k (o.pid, o.kind) (seen_at near ∙ ap child_seen sight) in
      let few = opened_few back o.kind status visits comes in
      let out = was.out in
      let long : length (opened back visits).given ≡ length visits.given = ap length (opened_given back visits) in
      record {
        given = long ∙ was.given;
        out = omega (arith, less, few, out, long);
        back = λ j child has. elim (past_in _ notes became j child has) [
          | inl old ↦ opened_more back child.back visits (was.back j child old)
          | inr new ↦ elim (Contains-push_cases (slot_at d k).past (past_child o status active back) child new) [
            | inl old ↦ opened_more back child.back visits (was.back k child old)
            | inr is ↦ subst (λ (c : PastChild MailTold). IsBackIn (opened back visits) c.back) is (opened_itself back visits)
          ]
        ];
      }

  module _ (pid : ℕ) (kind : Kind) (given : MailTold) (near : k < length d.slots) (free : (slot_at d k).sight ≡ Unused) (has : HasAssigned k pid kind given d e) where
    abbrev offer : Offer MailTold
    offer = has.0

    more : CountsChildren → counted e ≡ counted d + bit (is_connection kind)
    more counts =
        ap (count_of is_connection) (seen_set _ _ has.2)
        ∙ counts.assigned is_connection (children_of d.slots) k (offer.pid, offer.kind) (subst (λ (m : ℕ). k < m) (sym (length-map d.slots child_in_slot)) near) (seen_at near ∙ ap child_seen free)
        ∙ ap (λ (o : Offer MailTold). counted d + bit (is_connection o.kind)) has.1

    -- a child sat down that answers no connection
    pub links_started : CountsChildren → (n : ℕ) (visits : Visits) → is_connection kind ≡ false → HasLinks n d visits → HasLinks n e visits
    links_started counts n visits none was =
        let one : bit (is_connection kind) ≡ 0 = ap bit none in
        let up = more counts in
        let out = was.out in
        record {
          given = was.given;
          out = omega (arith, one, up, out);
          back = λ j child there. elim (past_in _ _ has.2 j child there) [ inl old ↦ was.back j child old | inr old ↦ was.back k child old ];
        }

    -- a child sat down with the next link
    pub links_accepted : CountsChildren → (n : ℕ) (visits now : Visits) → now.back ≡ visits.back → length now.given ≡ length visits.given + 1
        → HasLinks n d visits → HasLinks (n + 1) e now
    links_accepted counts n visits now same longer was =
        let most : bit (is_connection kind) ≤ 1 = bit_small (is_connection kind) in
        let up = more counts in
        let out = was.out in
        let as_long : length now.back ≡ length visits.back = ap length same in
        let all = was.given in
        record {
          given = omega (arith, longer, all);
          out = omega (arith, most, up, out, longer, as_long);
          back = λ j child there. subst (λ (vs : List Visit). BackIn vs child.back) (sym same)
              (elim (past_in _ _ has.2 j child there) [ inl old ↦ was.back j child old | inr old ↦ was.back k child old ]);
        }
