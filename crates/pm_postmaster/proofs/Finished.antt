-- What a run leaves, by its parts.
use Rattle.std.{proofs.{Common.{◌≡◌, ◌⊎◌, inl, inr, ℕ, ◌<◌, ◌≤◌, List, [], ◌∷◌, ◌++◌, refl, sym, ap, subst, ◌∙◌, length, map, arith, append-nil, append_assoc}, lemmas.List.get_or_past}, specs.Prelude.{Bool, true, false, Option, None, Some, IfSome, is_some, nat_lt}}
use Rattle.pm_server.specs.{pm_facts.Bools.by_test, pm_exit.declared.child.Kind.Kind, pm_outside.{Added.Added, Visits.Visits}, pm_query.declared.book.BookEntry.{BookEntry, TheVariants.Opened}, pm_record.OnDisk.GoesOn, pm_segment.{Moment.moment, MovesLaws.time_still, Unread.has_break}, pm_supervisor_journal.Stands.{any_moment, highest_pid}, declared.end.{ServerEnd.{ServerEnd, TheVariants.{Clean, Abnormal, NoThread, NoMemory}}, Why.TheVariants.{AfterCrash, StartupFailed, RestartOff, GenerationsSpent}}, pm_state.{Journal.IsLegal, declared.event.PmEvent.PmEvent}, pm_supervisor.{declared.Limits.Limits, Children.{is_checkpointer, is_startup_child}}}
use Rattle.pm_server.specs.pm_disk.declared.disk.Disk as Disk
use Rattle.pm_server.specs.pm_outside.declared.chronicle.Chronicle as Chronicle
use Rattle.pm_serve_pool.{specs.{Given.{IsGivenBack, IsOpenedAlone}, pm_serve_crew.{Left.{AreLeft, Manner}, Pids.AreUsedOnce}, Closing.HasHadLast, pm_store_shared.declared.views.Noted.Noted}, proofs.pm_serve_crew.PidsLaws.{drawn_by, used_once}}
use Rattle.pm_server_lines.{specs.Log.{HasLogged, HasPrinted, LogView}, proofs.LogLaws.{logged_by, printed_more}}
use Rattle.pm_board_acts.specs.{pm_board.{pm_board_words.declared.views.{PastChild.PastChild, RosterView.RosterView, Sight.TheVariants.Unused, SlotView.SlotView}, Places.{slot_at, slot_view}}, Chained.{LinksCameBack, pids_accepted}, Final.{EndsWithNobody, IsEndingAt, NobodySits}, Seating.{Move, journal_of}, pm_worker.declared.mail.MailTold.MailTold}
use Rattle.pm_postmaster.{specs.{Links.{AreBackIn, AreServed, HasLinks, accepted_in}, Requests.IsAsked, Serving.{IsCausedBehind, last_pid_in, HasComeOut}, Served.IsEnded, declared.came.Came.Came}, proofs.{Closing.still_once, Home.{back_home, links_home}}}

-- these entries were added to a new journal
pub adds_new : (journal : List PmEvent) (before now : Option (List PmEvent)) → IfSome before (λ entries. entries ≡ []) → is_some now ≡ is_some before
    → IfSome now (λ entries. entries ≡ journal) → Added journal before now
adds_new journal None None new same is = refl
adds_new journal None (Some its) new same is = absurd (let no_ : true ≡ false = same in cc)
adds_new journal (Some first) None new same is = absurd (let no_ : false ≡ true = same in cc)
adds_new journal (Some first) (Some its) new same is = ap (λ (l : List PmEvent). Some l) (is ∙ ap (λ (l : List PmEvent). l ++ journal) (sym new))

-- the lines of the journal and of the end were logged
pub logged_all : (text line : List ℕ) (first last : LogView) (written : Option (List ℕ)) (faults : ℕ) → HasPrinted text first last → IsEnded line last written faults
    → HasLogged (text ++ line) first.written written first.faults faults
logged_all text line first last written faults printed ended =
    subst (λ (w : Option (List ℕ)). HasLogged (text ++ line) first.written w first.faults faults) ended.2
    (subst (λ (n : ℕ). HasLogged (text ++ line) first.written ended.0.written first.faults n) ended.3 (logged_by (text ++ line) first ended.0 (printed_more text line first last ended.0 printed ended.1)))

-- the same, of a log that began so
pub logged_whole : (text line : List ℕ) (first last start : LogView) (written : Option (List ℕ)) (faults : ℕ) → first ≡ start → HasPrinted text first last → IsEnded line last written faults
    → HasLogged (text ++ line) start.written written start.faults faults
logged_whole text line first last start written faults is printed ended =
    subst (λ (l : LogView). HasLogged (text ++ line) l.written written l.faults faults) is (logged_all text line first last written faults printed ended)

-- the journal tells these entries
pub told_at : (was now : Option (List PmEvent)) (journal : List PmEvent) → now ≡ was → IfSome was (λ its. its ≡ journal) → IfSome now (λ its. its ≡ journal)
told_at was now journal is told = subst (λ (t : Option (List PmEvent)). IfSome t (λ its. its ≡ journal)) (sym is) told

-- ---- the whole

-- a store that has noted nothing but its first generation
pub opened_alone : {D B : Type 0} (g : Disk.Ghosts D) (h : Chronicle.Ghosts B BookEntry) (first disk : D) (book : B) → IsOpenedAlone g h first disk book
    → (IfSome (h.entries book) (λ its. its ≡ Opened 1 ∷ [])) × (g.seen disk ≡ g.seen first) × GoesOn (g.ticks first) (g.ticks disk) (g.images first) (g.images disk)
opened_alone g h first disk book alone =
    let behind = alone.1 in
    let files : (moment alone.0).files ≡ g.seen first = unread (behind.unread refl).1 in (
      subst (λ (b : _). IfSome (h.entries b) (λ its. its ≡ Opened 1 ∷ [])) (sym alone.3) behind.told,
      ap g.seen alone.2 ∙ files,
      subst (λ (d : _). GoesOn (g.ticks first) (g.ticks d) (g.images first) (g.images d)) (sym alone.2) behind.time,
    )
  where
    unread : {X : Type 0} → (has_break (Opened 1 ∷ []) ≡ true) ⊎ X → X
    unread (inl broke) = absurd (let no_ : false ≡ true = broke in cc)
    unread (inr same) = same

-- disk and book where no pool was made
pub given_back : {D B : Type 0} (g : Disk.Ghosts D) (h : Chronicle.Ghosts B BookEntry) (first disk : D) (given book : B) → IsGivenBack g h first given disk book
    → ((h.entries book ≡ h.entries given) ⊎ IfSome (h.entries book) (λ its. its ≡ Opened 1 ∷ [])) × (g.seen disk ≡ g.seen first)
    × GoesOn (g.ticks first) (g.ticks disk) (g.images first) (g.images disk)
given_back g h first disk given book (inl same) =
    (inl same.1, ap g.seen same.0, subst (λ (d : _). GoesOn (g.ticks first) (g.ticks d) (g.images first) (g.images d)) (sym same.0) (time_still (g.ticks first) (g.images first)))
given_back g h first disk given book (inr alone) = let it = opened_alone g h first disk book alone in (inr it.0, it.1, it.2)

-- how the last child came out stays so after children that were released later
out_more : (is_it : Kind → Bool) (k : ℕ) (moves : List Move) (came : Option Came) (past more now : List (PastChild MailTold)) → now ≡ past ++ more → HasComeOut is_it past k moves came
    → HasComeOut is_it now k moves came
out_more is_it k moves came past more now is out = record {
  front = out.front;
  others = out.others ++ more;
  past_is = is ∙ (ap (λ (l : List (PastChild MailTold)). l ++ more) out.past_is ∙ append_assoc out.front out.others more);
  told = out.told;
  came_is = out.came_is;
}

-- and a cause stays one
pub caused_more : (end : ServerEnd) (moves : List Move) (d e : RosterView MailTold) → ((k : ℕ) → (others : List (PastChild MailTold)) × ((slot_at e k).past ≡ (slot_at d k).past ++ others))
    → IsCausedBehind end moves d → IsCausedBehind end moves e
caused_more (Abnormal (StartupFailed reason)) moves d e more cause = record {
  came = cause.came;
  out = out_more is_startup_child 0 moves (Some cause.came) (slot_at d 0).past (more 0).0 (slot_at e 0).past (more 0).1 cause.out;
  reason_is = cause.reason_is;
}
caused_more (Abnormal AfterCrash) moves d e more cause = record {
  came = cause.came;
  out = out_more is_checkpointer 1 moves cause.came (slot_at d 1).past (more 1).0 (slot_at e 1).past (more 1).1 cause.out;
  other = cause.other;
}
caused_more (Abnormal RestartOff) moves d e more cause = tt
caused_more (Abnormal GenerationsSpent) moves d e more cause = tt
caused_more Clean moves d e more cause = tt
caused_more NoThread moves d e more cause = absurd cause
caused_more NoMemory moves d e more cause = tt

-- what was asked of a server stays so while its children are cleared
pub asked_behind : (end : ServerEnd) (moves : List Move) (lines : Option (List (List ℕ))) (before now : Option (Option ℕ)) (last_pid : ℕ) → now ≡ before → IsAsked end moves lines before last_pid
    → IsAsked end moves lines now last_pid
asked_behind end moves lines before now last_pid is asked = subst (λ (o : Option (Option ℕ)). IsAsked end moves lines o last_pid) (sym is) asked

-- after all slots there is nobody
pub none_behind : (d : RosterView MailTold) (k : ℕ) → length d.slots ≤ k → (slot_at d k).past ≡ []
none_behind d k far = ap (λ (x : SlotView MailTold). x.past) (get_or_past d.slots k (slot_view [] Unused) far)

module _ (limits : Limits) (count : ℕ) (moves : List Move) (board after : RosterView MailTold) (nobody : EndsWithNobody MailTold)
    (ending : IsEndingAt count moves board) (sits : NobodySits board) (slots : length board.slots ≡ count) (slots_after : length after.slots ≡ count)
    (legal : IsLegal limits any_moment (journal_of count moves)) (drawn : last_pid_in limits (journal_of count moves) ≤ highest_pid)
    (last : (k : ℕ) → k < count → HasHadLast k board after) where
  pub once_after : AreUsedOnce after
  once_after =
      still_once count board after (used_once limits any_moment count moves board legal (nobody.exact count moves board ending sits))
      (λ k pid there. (let low = drawn_by limits any_moment count moves board legal (nobody.exact count moves board ending sits) k pid there in omega (arith, low, drawn)))
      last (λ k far. ap (λ (l : List (PastChild MailTold)). map (λ child. child.offer.pid) l) (none_behind after k (subst (λ (n : ℕ). n ≤ k) (sym slots_after) far)))

  pub past_after : (k : ℕ) → (others : List (PastChild MailTold)) × ((slot_at after k).past ≡ (slot_at board k).past ++ others)
  past_after k = by_test (nat_lt k count)
      (λ is. (let one : HasHadLast k board after = last k (grind (arith, is)) in (one.child ∷ [], one.past)))
      (λ isnt. (let far : count ≤ k = grind (arith, isnt) in (
        [],
        none_behind after k (subst (λ (n : ℕ). n ≤ k) (sym slots_after) far)
            ∙ (sym (none_behind board k (subst (λ (n : ℕ). n ≤ k) (sym slots) far)) ∙ sym (append-nil (slot_at board k).past)),
      )))

-- links, where the port tells them
pub home_if : (manner : Manner) (count : ℕ) (before after : RosterView MailTold) (own : List Noted) (book : List BookEntry) → AreLeft manner count after own book
    → ((k : ℕ) → (slot_at before k).sight ≡ Unused) → ((k : ℕ) → k < count → (others : List (PastChild MailTold)) × ((slot_at after k).past ≡ (slot_at before k).past ++ others))
    → ((k : ℕ) → count ≤ k → (slot_at before k).past ≡ []) → (journal : List PmEvent) (visits : Option Visits)
    → IfSome visits (HasLinks (length (pids_accepted journal)) before) → AreServed (is_some visits) (accepted_in journal) before → IfSome visits (LinksCameBack journal)
home_if manner count before after own book left free more wide journal None was served = tt
home_if manner count before after own book left free more wide journal (Some visits) was served = links_home manner count before after own book left free more wide journal visits was served

-- and what came back to it
pub back_if : (manner : Manner) (count : ℕ) (before after : RosterView MailTold) (own : List Noted) (book : List BookEntry) → AreLeft manner count after own book
    → ((k : ℕ) → k < count → HasHadLast k before after) → (visits : Option Visits) (accepted : ℕ) → IfSome visits (HasLinks accepted before)
    → IfSome visits (AreBackIn after)
back_if manner count before after own book left last None accepted was = tt
back_if manner count before after own book left last (Some visits) accepted was =
    back_home manner count before after own book left last (λ k far. none_behind after k (subst (λ (n : ℕ). n ≤ k) (sym left.slots) far)) visits was.back
