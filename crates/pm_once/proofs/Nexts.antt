-- The next act that is due is done.
use Rattle.std.{proofs.{Common.{◌≡◌, ◌⊎◌, inl, inr, ℕ, ◌+◌, nat_eq, cond, List, [], ◌∷◌, ◌++◌, length, Option, None, Some, Result, Ok, Err, refl, sym, ◌∙◌, ap, subst, arith, append_assoc, append-nil}, lemmas.{Bool.Decides.nat_tests, List.Sums.sum_by-cons}}, specs.{Prelude.{◌&&◌, nat_lt, is_some, Bool, true, false, map, IfSome, IfErr, OnOk}, List.last_or}}
use Rattle.pm_server.{specs.{pm_state.{declared.{action.Action.Action, event.PmEvent.PmEvent}, Journal.without_first}, pm_supervisor.declared.Ending.Ending, pm_query.declared.book.BookEntry.{BookEntry, TheVariants.{Gone, Opened}}, pm_segment.{Children.{AreOthers, once, times_in}, Moves.{Moves, Spans}, Redos.is_broken}, pm_outside.Added.Added, Acted.LogBehind, Journal.{IsMoment, asked_in}, pm_server_lines.Log.HasSaid, declared.end.ServerEnd.{ServerEnd, TheVariants.NoMemory}, Renewed.HasRenewed}, proofs.{ActedLaws.said_acted, JournalLaws.asked_in-append, RenewedLaws.spans_renewal}}
use Rattle.pm_server.specs.pm_state.declared.action.Action.TheVariants as act
use Rattle.pm_server.specs.pm_state.declared.event.PmEvent.TheVariants as entry
use Rattle.pm_server.specs.pm_supervisor.declared.Ending.TheVariants as endings
use Rattle.pm_once_acts.{specs.{pm_supervisor_chain.{Laws.StepsGoOn, Steps.{Step, Notes, Renews, MayFollow, book_of, journal_of}}, Acts.AsksAsDue, Steps.IsFree, Loop.answer_of}, proofs.{ActsLaws.{asks_acted, due_kept, not_accepted, not_asked, ours_tail}, RunsLaws.{notes_follow, stands_by_itself}, StepsLaws.serves_nothing, NextsLaws.{no_moment, moment_kept, entry_free, says_tail, says_owes, keeps_done, same_told, still_keeps, IsLine}}}
use Rattle.pm_supervisor_journal.{specs.{Laws.GoesOnOverItsJournal, Standing.{Standing, act_for, done, entry_for, first_due}, Stands.{AtWork, IsSettled, Stands}, Due.{AreSays, AreOurs}}, proofs.{NextsLaws.{first_is, shorter, generation_kept, ended_kept, same_work}, ToldLaws.told_more}}
use Rattle.pm_once.{specs.{Calls.{DoesNext, Performs, end_by, outcome}, Knows.Knows, Goes.{Does, Goes, IsAt, IsEndOf, IsOpen, IsRunning, Outset, StaysOpen}, View.View}, proofs.{Going.{goes_none, stays_none}, Knowing.known_still, Undisturbed.{GoesOnDisk, acted_disturbed, renewed_disturbed}}}
use Rattle.pm_once_children.{specs.{Outcomes.{Stays, end_in, HasComeTo}, Auxiliaries.{AreThere, auxiliaries_after, heard_of}, declared.{checkpointer.Closed.TheVariants.{Made, Crashed, Full, Short}, outcome.Outcome.{Outcome, TheVariants.{Closed, Refused}}}}, proofs.{AuxiliariesLaws.auxiliaries_acted, CausesLaws.{acted_heard, caused_entry, caused_renewal}, CalmLaws.shutdown_done}}

-- ---- its entry

-- the store goes on with no entry, and what is known of it stays
pub record KeepsStore (before now : View) : Type 0 where
  pub outcome : (now.outcome ≡ before.outcome) ⊎ (now.outcome ≡ None)
  pub lost : now.lost ≡ before.lost
  pub store : Moves [] before.store now.store
  pub knows : (from : ℕ) → Knows from before → Knows from now

-- it is as it was
pub same_store : (before now : View) → (now.outcome ≡ before.outcome) × (now.lost ≡ before.lost) × Stays before.store now.store → KeepsStore before now
same_store before now same = record { outcome = inl same.0; lost = same.1; store = same.2.moves; knows = λ from known. known_still from before now same.0 same.2 known }

-- a renewal was refused
pub kept_store : (before now : View) → (now.outcome ≡ None) × (now.lost ≡ before.lost) × Moves [] before.store now.store → KeepsStore before now
kept_store before now kept = record {
  outcome = inr kept.0;
  lost = kept.1;
  store = kept.2;
  knows = λ from known. record {
    counted = (kept.2.spans.counts from known.counted).counted;
    come = subst (λ (o : Option Outcome). HasComeTo o from now.store) (sym kept.0) tt;
  };
}

-- what an act and its entry leave, but for store and lost children
pub record IsActed (a : Action) (before now : View) : Type 0 where
  pub first : first_due before.work.standing.due ≡ Some a
  pub standing : now.work.standing ≡ done a before.work.standing
  pub told : Added (entry_for a before.work.standing ∷ []) before.work.told now.work.told
  pub auxiliaries : now.auxiliaries ≡ auxiliaries_after (act_for a before.work.standing) before.auxiliaries
  pub log : LogBehind (act_for a before.work.standing) before.log now.log
  pub listens : now.listens ≡ before.listens

-- its disk has gone on
moved_disk : (from : ℕ) (before now : View) → Moves [] before.store now.store → GoesOnDisk from before now
moved_disk from before now moves = record { later = moves.spans.later; counts = λ counted. (moves.spans.counts from counted).counted }

-- the steps after the entry
pub at_entry : StepsGoOn → GoesOnOverItsJournal → (a : Action) (before now : View) → IsActed a before now → now.lost ≡ before.lost → (now.outcome ≡ before.outcome) ⊎ (now.outcome ≡ None) → ((from : ℕ) → GoesOnDisk from before now)
    → (outset : Outset) (earlier : List Step) → IsAt outset earlier before → IsOpen earlier before → IsAt outset (earlier ++ Notes (entry_for a before.work.standing) ∷ []) now
at_entry goes work a before now acted lost came disk outset earlier at opened =
    let s = before.work.standing in
    let e = entry_for a s in
    let j : journal_of earlier ++ e ∷ [] ≡ journal_of (earlier ++ Notes e ∷ []) = sym (goes.journal earlier (Notes e)) in
    let ours : AreOurs (is_some s.machine.shutdown) (a ∷ without_first s.due) = subst (AreOurs (is_some s.machine.shutdown)) (first_is s.due a acted.first) at.acts in
    record {
      past = at.past;
      stands = subst (λ (t : Standing). Stands outset.limits (Some (journal_of (earlier ++ Notes e ∷ []))) t at.past) (sym acted.standing)
          (subst (λ (l : List PmEvent). Stands outset.limits (Some l) (done a s) at.past) j (work.acts outset.limits (journal_of earlier) s at.past a at.stands acted.first));
      told = subst (λ (l : List PmEvent). IfSome now.work.told (λ es. es ≡ l)) j (told_more before.work.told now.work.told (journal_of earlier) (e ∷ []) at.told acted.told);
      are_steps = goes.step outset.limits earlier (Notes e) at.are_steps (record { follows = notes_follow e (last_or None earlier) opened.free; fits = stands_by_itself a s });
      lost_is = lost ∙ at.lost_is ∙ sym (goes.lost earlier (Notes e));
      said = subst (λ (l : List PmEvent). HasSaid l outset.log now.log) j (said_acted a s (journal_of earlier) outset.log before.log now.log acted.log at.said);
      auxiliaries = subst (λ (t : Standing). AreThere now.auxiliaries t) (sym acted.standing) (auxiliaries_acted a s before.auxiliaries now.auxiliaries acted.auxiliaries at.auxiliaries);
      asks = subst (λ (t : Standing). AsksAsDue (asked_in (journal_of (earlier ++ Notes e ∷ []))) now.listens t) (sym acted.standing)
          (subst (λ (b : Bool). AsksAsDue (asked_in (journal_of (earlier ++ Notes e ∷ []))) b (done a s)) (sym acted.listens)
          (subst (λ (l : List _). AsksAsDue l before.listens (done a s))
          (sym (ap asked_in (sym j) ∙ asked_in-append (journal_of earlier) (e ∷ []) ∙ ap (λ l. asked_in (journal_of earlier) ++ l) (not_asked a s) ∙ append-nil (asked_in (journal_of earlier))))
          (asks_acted a s (asked_in (journal_of earlier)) before.listens at.asks)));
      acts = subst (AreOurs (is_some now.work.standing.machine.shutdown)) (sym (ap (λ (t : Standing). t.due) acted.standing ∙ due_kept a s))
          (subst (λ (b : Bool). AreOurs b (without_first s.due)) (sym (ap (λ (t : Standing). is_some t.machine.shutdown) acted.standing ∙ ap is_some (shutdown_done a s)))
          (ours_tail (is_some s.machine.shutdown) a (without_first s.due) ours));
      causes = caused_entry earlier e before.auxiliaries now.auxiliaries before.outcome now.outcome (ap heard_of acted.auxiliaries ∙ acted_heard a s before.auxiliaries) came at.causes;
      disturbed = acted_disturbed outset.faults earlier a before now (disk outset.faults) acted.first acted.standing acted.auxiliaries ours at.disturbed;
    }

-- ---- the whole

same_outcome : (result : Result (Unit {0}) ServerEnd) → outcome (answer_of result) ≡ result
same_outcome (Ok done) = refl
same_outcome (Err end) = refl

no_false : (result : Result (Unit {0}) ServerEnd) → answer_of result ≡ Ok false → ⊥
no_false (Ok done) is = cc
no_false (Err end) is = cc

-- one entry alone
pub does_one : StepsGoOn → GoesOnOverItsJournal → (a : Action) (result : Result (Unit {0}) ServerEnd) (before now : View) → IsRunning before → IsActed a before now
    → KeepsStore before now → (IsSettled before.work.standing → IsSettled now.work.standing)
    → OnOk result ((a ≡ act.Reset → ⊥) × ((how : Ending) → a ≡ act.End how → ⊥))
    → IfErr result (λ end. IsEndOf end (Notes (entry_for a before.work.standing) ∷ []) now)
    → DoesNext (answer_of result) (Notes (entry_for a before.work.standing) ∷ []) before now
does_one goes work a result before now running acted kept settled on ends =
    let s = before.work.standing in
    let e = entry_for a s in
    let steps : List Step = Notes e ∷ [] in
    let rest = without_first s.due in
    let asked = is_some s.machine.shutdown in
    let ours : AreOurs asked (a ∷ rest) = subst (AreOurs asked) (first_is s.due a acted.first) running.2.acts in
    let same_moment : now.work.standing.moment ≡ s.moment = ap (λ (t : Standing). t.moment) acted.standing ∙ moment_kept asked a s rest ours in
    let goes_so : Goes (λ at. ⊥) steps before now = record {
      at = λ outset earlier at opened. at_entry goes work a before now acted kept.lost kept.outcome (λ from. moved_disk from before now kept.store) outset earlier at opened;
      journal = acted.told;
      times = record { each = no_moment asked a s rest (IsMoment (λ at. ⊥) s.moment) ours; last = inl same_moment };
      store = kept.store.spans;
      still = λ none. kept.store.generation;
      unread = λ none. kept.store.unread;
      knows = kept.knows;
    } in
    record {
      does = subst (λ (r : Result (Unit {0}) ServerEnd). Does (λ at. ⊥) r steps before now) (sym (same_outcome result)) (record {
        goes = goes_so;
        stays = elim result as (λ r. OnOk r ((a ≡ act.Reset → ⊥) × ((how : Ending) → a ≡ act.End how → ⊥)) → OnOk r (StaysOpen steps before now)) [
          | Ok done ↦ λ fine. λ earlier opened. record {
            free = subst IsFree (sym (goes.last earlier (Notes e))) (entry_free a s fine.0);
            same = kept.store.generation ∙ opened.same ∙ sym (ap (λ (t : Standing). t.generation) acted.standing ∙ generation_kept a s fine.0);
            inside = λ pid. kept.store.attends pid ∙ opened.inside pid ∙ ap (times_in pid) (sym kept.lost);
          }
          | Err end ↦ λ fine. tt
        ] on;
        ends = ends;
        serves = record { accepted = not_accepted a s; sessions = refl };
      });
      keeps = keeps_done a s now.work.standing acted.standing settled;
      fewer = λ is. ap (λ (t : Standing). length t.due + 1) acted.standing ∙ ap (λ (l : List Action). length l + 1) (due_kept a s) ∙ shorter s.due a acted.first;
      none_due = λ is. absurd (no_false result is);
      ended = elim result as (λ r. OnOk r ((a ≡ act.Reset → ⊥) × ((how : Ending) → a ≡ act.End how → ⊥)) → OnOk (answer_of r) (now.work.standing.ended ≡ s.ended)) [
        | Ok done ↦ λ fine. ap (λ (t : Standing). t.ended) acted.standing ∙ ended_kept a s fine.1
        | Err end ↦ λ fine. tt
      ] on;
      says = λ says. (subst AreSays (sym (ap (λ (t : Standing). t.due) acted.standing ∙ due_kept a s)) (says_tail a rest (subst AreSays (first_is s.due a acted.first) says)), ap (λ (t : Standing). t.owes_smart) acted.standing ∙ says_owes a rest s (subst AreSays (first_is s.due a acted.first) says));
      listens = acted.listens;
    }

-- ---- a renewal

once_self : (pid : ℕ) → once pid pid ≡ 1
once_self pid = grind (arith, nat_tests)

times_first : (pid : ℕ) (pids : List ℕ) → times_in pid (pid ∷ pids) ≡ once pid pid + times_in pid pids
times_first pid pids = sum_by-cons (once pid) pid pids

none_at_all : (pids : List ℕ) → ((pid : ℕ) → times_in pid pids ≡ 0) → pids ≡ []
none_at_all [] none = refl
none_at_all (pid ∷ pids) none = absurd (omega (arith, none pid, once_self pid, times_first pid pids))

abbrev one_or_none : Bool → ℕ
one_or_none b = cond b 1 0

both_or_none : (n m : ℕ) → n ≡ m → one_or_none (nat_lt 0 n && nat_eq 0 m) ≡ 0
both_or_none n m same = ap one_or_none (never_both n m same)
  where
    never_both : (n m : ℕ) → n ≡ m → (nat_lt 0 n && nat_eq 0 m) ≡ false
    never_both n m same = grind (arith, nat_tests)

no_others : (inside lost others : List ℕ) → AreOthers inside lost others → ((pid : ℕ) → times_in pid inside ≡ times_in pid lost) → others ≡ []
no_others inside lost others are same = none_at_all others (λ pid. are pid ∙ both_or_none (times_in pid inside) (times_in pid lost) (same pid))

pub does_reset : StepsGoOn → GoesOnOverItsJournal → (before now : View) (others : List ℕ) → IsRunning before → IsActed act.Reset before now
    → now.lost ≡ [] → HasRenewed (before.work.standing.generation + 1) before.lost others before.store now.store → now.outcome ≡ None
    → (IsSettled before.work.standing → IsSettled now.work.standing)
    → DoesNext (Ok true) (Notes (entry.Reset (before.work.standing.generation + 1)) ∷ Renews (before.work.standing.generation + 1) before.lost ∷ []) before now
does_reset goes work before now others running acted empty renewed forgotten settled =
    let s = before.work.standing in
    let g = s.generation + 1 in
    let e = entry.Reset g in
    let steps : List Step = Notes e ∷ Renews g before.lost ∷ [] in
    let mid : View = record now { store = before.store; lost = before.lost } in
    let acted_mid : IsActed act.Reset before mid = record { first = acted.first; standing = acted.standing; told = acted.told; auxiliaries = acted.auxiliaries; log = acted.log; listens = acted.listens } in
    let none : others ≡ [] = no_others before.store.inside before.lost others renewed.others_are running.3.inside in
    let book_is : map Gone (before.lost ++ others) ++ Opened g ∷ [] ≡ book_of steps =
    ap (λ (l : List ℕ). map Gone (before.lost ++ l) ++ Opened g ∷ []) none ∙ ap (λ (l : List ℕ). map Gone l ++ Opened g ∷ []) (append-nil before.lost)
    ∙ sym (append-nil (map Gone before.lost ++ Opened g ∷ [])) in
    record {
      does = record {
        goes = record {
          at = λ outset earlier at opened.
              let l = earlier ++ Notes e ∷ [] in
              let m = at_entry goes work act.Reset before mid acted_mid refl (inr forgotten) (λ from. record { later = omega arith; counts = λ counted. counted }) outset earlier at opened in
              let j : journal_of l ≡ journal_of (l ++ Renews g before.lost ∷ []) = sym (goes.journal l (Renews g before.lost) ∙ append-nil (journal_of l)) in
              subst (λ (x : List Step). IsAt outset x now) (append_assoc earlier (Notes e ∷ []) (Renews g before.lost ∷ [])) (record {
                past = m.past;
                stands = subst (λ (x : List PmEvent). Stands outset.limits (Some x) now.work.standing m.past) j m.stands;
                told = subst (λ (x : List PmEvent). IfSome now.work.told (λ es. es ≡ x)) j m.told;
                are_steps = goes.step outset.limits l (Renews g before.lost) m.are_steps
                    (record { follows = subst (λ x. MayFollow x (Renews g before.lost)) (sym (goes.last earlier (Notes e))) refl; fits = m.lost_is });
                lost_is = empty ∙ sym (goes.lost l (Renews g before.lost));
                said = subst (λ (x : List PmEvent). HasSaid x outset.log now.log) j m.said;
                auxiliaries = m.auxiliaries;
                asks = subst (λ (x : List PmEvent). AsksAsDue (asked_in x) now.listens now.work.standing) j m.asks;
                acts = m.acts;
                causes = caused_renewal l g before.lost now.auxiliaries now.outcome now.outcome (inl refl) m.causes;
                disturbed = renewed_disturbed outset.faults l g before.lost mid now (record { later = renewed.later; counts = renewed.renews.counts outset.faults }) refl refl m.disturbed;
              });
          journal = acted.told;
          times = record { each = (tt, tt); last = inl (ap (λ (t : Standing). t.moment) acted.standing) };
          store = subst (λ (x : List BookEntry). Spans x before.store now.store) book_is (spans_renewal g before.lost others before.store now.store renewed);
          still = λ none. absurd none.1.0;
          unread = λ none. absurd none.1.0;
          knows = λ from known. record {
            counted = renewed.renews.counts from known.counted;
            come = subst (λ (o : Option Outcome). HasComeTo o from now.store) (sym forgotten) tt;
          };
        };
        stays = λ earlier opened. record {
          free = subst IsFree (sym (ap (last_or None) (sym (append_assoc earlier (Notes e ∷ []) (Renews g before.lost ∷ []))) ∙ goes.last (earlier ++ Notes e ∷ []) (Renews g before.lost))) tt;
          same = renewed.renews.generation ∙ ap (λ (n : ℕ). n + 1) opened.same ∙ sym (ap (λ (t : Standing). t.generation) acted.standing);
          inside = λ pid. ap (times_in pid) renewed.renews.inside ∙ ap (times_in pid) (sym empty);
        };
        ends = tt;
        serves = record { accepted = refl; sessions = refl };
      };
      keeps = keeps_done act.Reset s now.work.standing acted.standing settled;
      fewer = λ is. ap (λ (t : Standing). length t.due + 1) acted.standing ∙ shorter s.due act.Reset acted.first;
      none_due = λ is. absurd (no_false (Ok tt) is);
      ended = ap (λ (t : Standing). t.ended) acted.standing ∙ ended_kept act.Reset s (λ how is. no_end how is);
      says = λ says. absurd (subst AreSays (first_is s.due act.Reset acted.first) says);
      listens = acted.listens;
    }
  where
    no_end : (how : Ending) → act.Reset ≡ act.End how → ⊥
    no_end how is = cc

-- how the server ends where its machine does
ended_so : (how : Ending) (o : Option Outcome) (broken : Bool) (now : View) → now.outcome ≡ o → is_broken now.store.live ≡ broken → IsEndOf (end_in how o broken) (Notes (entry.Ended how) ∷ []) now
ended_so endings.Clean None broken now is at = tt
ended_so endings.Clean (Some (Refused why)) broken now is at = tt
ended_so endings.Clean (Some (Closed Made)) broken now is at = (([], refl), is)
ended_so endings.Clean (Some (Closed Crashed)) broken now is at = tt
ended_so endings.Clean (Some (Closed Full)) broken now is at = tt
ended_so endings.Clean (Some (Closed Short)) broken now is at = tt
ended_so endings.AfterCrash None true now is at = (([], refl), inr at)
ended_so endings.AfterCrash None false now is at = tt
ended_so endings.AfterCrash (Some (Refused why)) true now is at = (([], refl), inr at)
ended_so endings.AfterCrash (Some (Refused why)) false now is at = tt
ended_so endings.AfterCrash (Some (Closed Made)) true now is at = (([], refl), inr at)
ended_so endings.AfterCrash (Some (Closed Made)) false now is at = tt
ended_so endings.AfterCrash (Some (Closed Crashed)) true now is at = (([], refl), inr at)
ended_so endings.AfterCrash (Some (Closed Crashed)) false now is at = tt
ended_so endings.AfterCrash (Some (Closed Full)) broken now is at = (([], refl), inl is)
ended_so endings.AfterCrash (Some (Closed Short)) true now is at = (([], refl), inr at)
ended_so endings.AfterCrash (Some (Closed Short)) false now is at = tt
ended_so endings.StartupFailed None broken now is at = tt
ended_so endings.StartupFailed (Some (Refused why)) broken now is at = (([], refl), is)
ended_so endings.StartupFailed (Some (Closed closed)) broken now is at = tt
ended_so endings.RestartOff o broken now is at = ([], refl)

pub end_noted : (how : Ending) (before now : View) → (now.outcome ≡ before.outcome) × (now.lost ≡ before.lost) × Stays before.store now.store → IsEndOf (end_by how before) (Notes (entry.Ended how) ∷ []) now
end_noted how before now same = ended_so how before.outcome (is_broken before.store.live) now same.0 (ap is_broken same.2.live)

-- ---- what is done of an act that was given

-- the entry of the act leaves the store alone
kept_of : {before : View} {w : AtWork} {now : View} → KeepsStore (record before { work = w }) now → KeepsStore before now
kept_of kept = record {
  outcome = kept.outcome;
  lost = kept.lost;
  store = kept.store;
  knows = λ from known. kept.knows from (record { counted = known.counted; come = known.come });
}

acted_of : (a : Action) (result : Result (Unit {0}) ServerEnd) (before now : View) (w : AtWork) → first_due before.work.standing.due ≡ Some a → w.standing ≡ done a before.work.standing
    → Added (entry_for a before.work.standing ∷ []) before.work.told w.told → now.work ≡ w → Performs (act_for a before.work.standing) result (record before { work = w }) now → IsActed a before now
acted_of a result before now w first standing told is performs = record {
  first = first;
  standing = ap (λ (x : AtWork). x.standing) is ∙ standing;
  told = subst (λ (x : AtWork). Added (entry_for a before.work.standing ∷ []) before.work.told x.told) (sym is) told;
  auxiliaries = performs.auxiliaries;
  log = performs.log;
  listens = performs.listens;
}

pub performed : StepsGoOn → GoesOnOverItsJournal → (a : Action) (result : Result (Unit {0}) ServerEnd) (before now : View) (w : AtWork) → IsRunning before
    → first_due before.work.standing.due ≡ Some a → w.standing ≡ done a before.work.standing → Added (entry_for a before.work.standing ∷ []) before.work.told w.told
    → now.work ≡ w → Performs (act_for a before.work.standing) result (record before { work = w }) now → (IsSettled before.work.standing → IsSettled w.standing)
    → (steps : List Step) × DoesNext (answer_of result) steps before now
performed goes work (act.Start k) result before now w running first standing told is performs settled =
    let end : result ≡ Ok tt = performs.ends in (
      Notes (entry_for (act.Start k) before.work.standing) ∷ [],
      subst (λ (r : Result (Unit {0}) ServerEnd). DoesNext (answer_of r) (Notes (entry_for (act.Start k) before.work.standing) ∷ []) before now) (sym end)
          (does_one goes work (act.Start k) (Ok tt) before now running (acted_of (act.Start k) result before now w first standing told is performs) (kept_of (same_store (record before { work = w }) now performs.store))
          (λ was. subst (λ (x : AtWork). IsSettled x.standing) (sym is) (settled was)) ((λ e. cc), (λ how e. cc)) tt),
    )
performed goes work (act.Quit why) result before now w running first standing told is performs settled =
    let end : result ≡ Ok tt = performs.ends in (
      Notes (entry_for (act.Quit why) before.work.standing) ∷ [],
      subst (λ (r : Result (Unit {0}) ServerEnd). DoesNext (answer_of r) (Notes (entry_for (act.Quit why) before.work.standing) ∷ []) before now) (sym end)
          (does_one goes work (act.Quit why) (Ok tt) before now running (acted_of (act.Quit why) result before now w first standing told is performs) (kept_of (same_store (record before { work = w }) now performs.store))
          (λ was. subst (λ (x : AtWork). IsSettled x.standing) (sym is) (settled was)) ((λ e. cc), (λ how e. cc)) tt),
    )
performed goes work act.Terminate result before now w running first standing told is performs settled =
    let end : result ≡ Ok tt = performs.ends in (
      Notes (entry_for act.Terminate before.work.standing) ∷ [],
      subst (λ (r : Result (Unit {0}) ServerEnd). DoesNext (answer_of r) (Notes (entry_for act.Terminate before.work.standing) ∷ []) before now) (sym end)
          (does_one goes work act.Terminate (Ok tt) before now running (acted_of act.Terminate result before now w first standing told is performs) (kept_of (same_store (record before { work = w }) now performs.store))
          (λ was. subst (λ (x : AtWork). IsSettled x.standing) (sym is) (settled was)) ((λ e. cc), (λ how e. cc)) tt),
    )
performed goes work act.KillAll result before now w running first standing told is performs settled =
    let end : result ≡ Ok tt = performs.ends in (
      Notes (entry_for act.KillAll before.work.standing) ∷ [],
      subst (λ (r : Result (Unit {0}) ServerEnd). DoesNext (answer_of r) (Notes (entry_for act.KillAll before.work.standing) ∷ []) before now) (sym end)
          (does_one goes work act.KillAll (Ok tt) before now running (acted_of act.KillAll result before now w first standing told is performs) (kept_of (same_store (record before { work = w }) now performs.store))
          (λ was. subst (λ (x : AtWork). IsSettled x.standing) (sym is) (settled was)) ((λ e. cc), (λ how e. cc)) tt),
    )
performed goes work act.AskCheckpoint result before now w running first standing told is performs settled =
    let end : result ≡ Ok tt = performs.ends in (
      Notes (entry_for act.AskCheckpoint before.work.standing) ∷ [],
      subst (λ (r : Result (Unit {0}) ServerEnd). DoesNext (answer_of r) (Notes (entry_for act.AskCheckpoint before.work.standing) ∷ []) before now) (sym end)
          (does_one goes work act.AskCheckpoint (Ok tt) before now running (acted_of act.AskCheckpoint result before now w first standing told is performs) (kept_of (same_store (record before { work = w }) now performs.store))
          (λ was. subst (λ (x : AtWork). IsSettled x.standing) (sym is) (settled was)) ((λ e. cc), (λ how e. cc)) tt),
    )
performed goes work act.Ready result before now w running first standing told is performs settled =
    let end : result ≡ Ok tt = performs.ends in (
      Notes (entry_for act.Ready before.work.standing) ∷ [],
      subst (λ (r : Result (Unit {0}) ServerEnd). DoesNext (answer_of r) (Notes (entry_for act.Ready before.work.standing) ∷ []) before now) (sym end)
          (does_one goes work act.Ready (Ok tt) before now running (acted_of act.Ready result before now w first standing told is performs) (kept_of (same_store (record before { work = w }) now performs.store))
          (λ was. subst (λ (x : AtWork). IsSettled x.standing) (sym is) (settled was)) ((λ e. cc), (λ how e. cc)) tt),
    )
performed goes work act.Reset (Ok done) before now w running first standing told is performs settled = (
  _,
  does_reset goes work before now performs.store.2 running (acted_of act.Reset (Ok done) before now w first standing told is performs) performs.store.1 performs.store.3 performs.store.0
      (λ was. subst (λ (x : AtWork). IsSettled x.standing) (sym is) (settled was)),
)
performed goes work act.Reset (Err end) before now w running first standing told is performs settled = (
  Notes (entry_for act.Reset before.work.standing) ∷ [],
  does_one goes work act.Reset (Err end) before now running (acted_of act.Reset (Err end) before now w first standing told is performs) (kept_of (kept_store (record before { work = w }) now performs.store))
      (λ was. subst (λ (x : AtWork). IsSettled x.standing) (sym is) (settled was)) tt (short_end end performs.ends),
)
  where
    short_end : (e : ServerEnd) → e ≡ NoMemory → IsEndOf e (Notes (entry_for act.Reset before.work.standing) ∷ []) now
    short_end e is = subst (λ (x : ServerEnd). IsEndOf x (Notes (entry_for act.Reset before.work.standing) ∷ []) now) (sym is) tt
performed goes work (act.Say line) result before now w running first standing told is performs settled =
    let end : result ≡ Ok tt = performs.ends in (
      Notes (entry_for (act.Say line) before.work.standing) ∷ [],
      subst (λ (r : Result (Unit {0}) ServerEnd). DoesNext (answer_of r) (Notes (entry_for (act.Say line) before.work.standing) ∷ []) before now) (sym end)
          (does_one goes work (act.Say line) (Ok tt) before now running (acted_of (act.Say line) result before now w first standing told is performs) (kept_of (same_store (record before { work = w }) now performs.store))
          (λ was. subst (λ (x : AtWork). IsSettled x.standing) (sym is) (settled was)) ((λ e. cc), (λ how e. cc)) tt),
    )
performed goes work (act.End how) result before now w running first standing told is performs settled =
    let v : View = record before { work = w } in
    let end : result ≡ Err (end_by how v) = performs.ends in (
      Notes (entry.Ended how) ∷ [],
      subst (λ (r : Result (Unit {0}) ServerEnd). DoesNext (answer_of r) (Notes (entry.Ended how) ∷ []) before now) (sym end)
          (does_one goes work (act.End how) (Err (end_by how v)) before now running (acted_of (act.End how) result before now w first standing told is performs) (kept_of (same_store (record before { work = w }) now performs.store))
          (λ was. subst (λ (x : AtWork). IsSettled x.standing) (sym is) (settled was)) tt (end_noted how v now performs.store)),
    )

-- ---- nothing is done

pub waits : (before : View) (w : AtWork) (r : Result Bool ServerEnd) → w.standing ≡ before.work.standing → Added [] before.work.told w.told → IfErr (outcome r) (λ end. IsEndOf end [] before)
    → (r ≡ Ok false → before.work.standing.due ≡ []) → (r ≡ Ok true → ⊥) → DoesNext r [] before (record before { work = w })
waits before w r standing told ends none never =
    subst (λ (x : AtWork). DoesNext r [] before (record before { work = x })) (sym (same_work before.work w standing (same_told before.work.told w.told told))) (record {
      does = record {
        goes = goes_none (λ at. ⊥) before;
        stays = elim (outcome r) as (λ o. OnOk o (StaysOpen [] before before)) [ Ok done ↦ stays_none before | Err end ↦ tt ];
        ends = ends;
        serves = serves_nothing;
      };
      keeps = still_keeps before.work.standing;
      fewer = λ is. absurd (never is);
      none_due = none;
      ended = elim r as (λ o. OnOk o (before.work.standing.ended ≡ before.work.standing.ended)) [ Ok on ↦ refl | Err end ↦ tt ];
      says = λ says. (says, refl);
      listens = refl;
    })

pub said_well : (a : Action) (s : Standing) (result : Result (Unit {0}) ServerEnd) (before now : View) → IsLine a → Performs (act_for a s) result before now → result ≡ Ok tt
said_well a s result before now line performs =
    let by_line : Performs (act_for (act.Say line.line) s) result before now = subst (λ (x : Action). Performs (act_for x s) result before now) line.is performs in
    by_line.ends
