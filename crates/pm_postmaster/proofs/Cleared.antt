-- The clearing of a board.
use Rattle.std.{proofs.{Common.{◌≡◌, ℕ, ◌<◌, List, [], ◌++◌, refl, sym, ap, subst, ◌∙◌, length, get_or, append-nil, append_assoc, arith, nat_eq}, lemmas.List.length-map}, specs.Prelude.{Bool, Option, None, Some, IfSome, is_some, option_map}}
use Rattle.atomic_table.specs.Seated.{TableId}
use Rattle.pm_server.specs.{pm_facts.Bools.by_test, pm_exit.declared.child.{Kind.Kind, Status.Status}, pm_supervisor_journal.declared.roll.Enrolled.Enrolled, pm_outside.Visits.Visits}
use Rattle.pm_board_acts.specs.{pm_board.{pm_board_words.declared.views.{PastChild.PastChild, RosterView.RosterView, SlotView.SlotView, Sight.TheVariants.Unused}, Children.{CountsChildren, child_in_slot, children_of}, Places.{slot_at, slot_view}}, Board.{enrolled, seats_of}, Final.KeepsEnding, Sitting.{HasFoundNone, StillRuns}, pm_worker.declared.mail.MailTold.MailTold}
use Rattle.pm_postmaster.{specs.{Clearing.{Clears, MayClear}, Links.HasLinks, Looking.opened, Requests.ended_in}, proofs.{Asked.ended_opened, Linking.links_same, Offers.{served_both, served_found, served_same}, Reaped.{Leaving, limit_back, limit_found, links_back, links_still, numbered_back, past_more, served_back, slots_found}}}

-- slots that are the same
pub clears_same : (t u : TableId) (d e : RosterView MailTold) (visits now : Option Visits) → u ≡ t → KeepsEnding d e → e.slots ≡ d.slots → e.session_limit ≡ d.session_limit → now ≡ visits → Clears t d visits u e now
clears_same t u d e visits now table ending slots limit is = record {
  table = table;
  slots = ap length slots;
  limit = limit;
  ending = ending;
  links = λ n had. subst (λ (v : Option Visits). IfSome v (HasLinks n e)) (sym is) (by n visits had);
  served = served_same d e slots;
  numbered = ap is_some is;
  ended = ap ended_in is;
  past = λ k. ([], ap (λ (xs : List (SlotView MailTold)). (get_or xs k (slot_view [] Unused)).past) slots ∙ sym (append-nil (slot_at d k).past));
}
  where
    by : (n : ℕ) (v : Option Visits) → IfSome v (HasLinks n d) → IfSome v (HasLinks n e)
    by n None had = tt
    by n (Some its) had = links_same n d e its slots had

-- a look that found no end
pub clears_found : (k : ℕ) (t u : TableId) (d e : RosterView MailTold) (visits now : Option Visits) → u ≡ t → KeepsEnding d e → k < length d.slots → HasFoundNone k d e
    → ((j : ℕ) → (slot_at e j).past ≡ (slot_at d j).past) → now ≡ visits → Clears t d visits u e now
clears_found k t u d e visits now table ending near found past is = record {
  table = table;
  slots = slots_found k d e found;
  limit = limit_found k d e found;
  ending = ending;
  links = λ n had. links_still n n k d e visits now near found is refl had;
  served = served_found k d e found;
  numbered = ap is_some is;
  ended = ap ended_in is;
  past = λ j. ([], past j ∙ sym (append-nil (slot_at d j).past));
}

-- a child was released
pub clears_released : CountsChildren → (k : ℕ) (kind : Kind) (status : Status) (active : Bool) (back : MailTold) (t u : TableId) (d e : RosterView MailTold) (visits now : Option Visits) → u ≡ t
    → KeepsEnding d e → Leaving k kind status active back d e → now ≡ option_map (opened back) visits → Clears t d visits u e now
clears_released counts k kind status active back t u d e visits now table ending has is = record {
  table = table;
  slots = has.became.count;
  limit = limit_back k kind status active back d e has;
  ending = ending;
  links = λ n had. links_back counts n n k kind status active back d e visits now has is refl had;
  served = served_back k kind status active back d e has;
  numbered = ap is_some is ∙ numbered_back back visits;
  ended = ap ended_in is ∙ ended_opened back visits;
  past = past_more k kind status active back d e has;
}

pub clears_none : (t : TableId) (d : RosterView MailTold) (visits : Option Visits) → Clears t d visits t d visits
clears_none t d visits = record {
  table = refl;
  slots = refl;
  limit = refl;
  ending = record { ending = λ count moves was. was; last_pid = refl };
  links = λ n had. had;
  served = λ numbered connections was. was;
  numbered = refl;
  ended = refl;
  past = λ k. ([], sym (append-nil (slot_at d k).past));
}

pub clears_both : (t u w : TableId) (d e f : RosterView MailTold) (a b c : Option Visits) → Clears t d a u e b → Clears u e b w f c → Clears t d a w f c
clears_both t u w d e f a b c one two = record {
  table = two.table ∙ one.table;
  slots = two.slots ∙ one.slots;
  limit = two.limit ∙ one.limit;
  ending = record {
    ending = λ count moves was. two.ending.ending count moves (one.ending.ending count moves was);
    last_pid = two.ending.last_pid ∙ one.ending.last_pid;
  };
  links = λ n had. two.links n (one.links n had);
  served = served_both d e f one.served two.served;
  numbered = two.numbered ∙ one.numbered;
  ended = two.ended ∙ one.ended;
  past = λ k. (let p = one.past k in let q = two.past k in
      (p.0 ++ q.0, q.1 ∙ (ap (λ (xs : List (PastChild MailTold)). xs ++ q.0) p.1 ∙ append_assoc (slot_at d k).past p.0 q.0)));
}

pub may_still : (t u : TableId) (d e : RosterView MailTold) (a b : Option Visits) → Clears t d a u e b → MayClear d a → MayClear e b
may_still t u d e a b clears may = record {
  count = may.count;
  moves = may.moves;
  ending = clears.ending.ending may.count may.moves may.ending;
  accepted = may.accepted;
  links = clears.links may.accepted may.links;
}

-- ---- of one slot

pub as_many_seats : (d : RosterView MailTold) → length (seats_of d) ≡ length d.slots
as_many_seats d = length-map (children_of d.slots) enrolled ∙ length-map d.slots child_in_slot

pub near_slots : (k : ℕ) (d : RosterView MailTold) → k < length (seats_of d) → k < length d.slots
near_slots k d near = subst (λ (n : ℕ). k < n) (as_many_seats d) near

pub past_still : (k : ℕ) (c : Enrolled) (d e : RosterView MailTold) → StillRuns k c d e → (j : ℕ) → (slot_at e j).past ≡ (slot_at d j).past
past_still k c d e still j = by_test (nat_eq j k)
    (λ is. (let same : j ≡ k = grind (arith, is) in
    ap (λ (i : ℕ). (slot_at e i).past) same ∙ (ap (λ (x : SlotView MailTold). x.past) still.became.here ∙ ap (λ (i : ℕ). (slot_at d i).past) (sym same))))
    (λ isnt. ap (λ (x : SlotView MailTold). x.past) (still.became.others j (grind (arith, isnt))))
