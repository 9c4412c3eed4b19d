-- The calls of the supervisor, and their entries.
use Rattle.std.{proofs.{Common.{◌≡◌, ◌⊎◌, inl, inr, ℕ, ◌+◌, ◌<◌, ◌≤◌, List, [], ◌∷◌, ◌++◌, Option, None, Some, Ok, refl, sym, ◌∙◌, ap, subst, arith, append-nil, length-append}, lemmas.{Bool.Decides.nat_tests, List.Elements.All-push}}, specs.{Prelude.{Bool, true, false, is_some, max, nat_le, IfSome}, List.last_or}}
use Rattle.pm_server.{specs.{pm_modes.{declared.Mode.{Mode, TheVariants.Smart}, Strength.strengthen_of}, pm_state.{Requests.asked_with, TurnRules.turned_of, declared.event.PmEvent.PmEvent}, pm_supervisor.Children.one_if, Journal.{IsMoment, asked_in}, pm_segment.MovesLaws.{moves_none, spans_none}}, proofs.JournalLaws.asked_in-append}
use Rattle.pm_server.specs.pm_state.declared.event.PmEvent.TheVariants as entry
use Rattle.pm_once_acts.{specs.{pm_supervisor_chain.{Laws.StepsGoOn, Steps.{Step, Notes, journal_of}}, Acts.AsksAsDue, Steps.IsFree}, proofs.{RunsLaws.notes_follow, StepsLaws.serves_nothing}}
use Rattle.pm_supervisor_journal.{specs.{Laws.GoesOnOverItsJournal, Standing.{IsAtRest, Standing, asking, later, made, turning}, Stands.{AtWork, Stands, behind}, Due.{AreOurs, IsIdle, is_last_drawn}}, proofs.{ToldLaws.told_more, RulesLaws.{ask_says, says_ours, turn_rule}}}
use Rattle.pm_outside.{specs.Added.Added, proofs.AddedLaws.added_none}
use Rattle.pm_once.{specs.{Goes.{Does, IsAt, IsOpen}, View.View}, proofs.Undisturbed.{asked_disturbed, turned_disturbed}}
use Rattle.pm_once_children.{specs.Auxiliaries.AreThere, proofs.{CausesLaws.caused_entry, CalmLaws.{asked_stands, goes_on_so}, AuxiliariesLaws.auxiliaries_still}}
use Rattle.pm_server_lines.{specs.Log.HasSaid, proofs.LogLaws.said_same}

-- ---- moments

pub later_moment : (gives : ℕ → Type 0) (at before : ℕ) → gives at → IsMoment gives before (max at before)
later_moment gives at before given =
    elim (nat_le before at) as (λ (b : Bool). nat_le before at ≡ b → IsMoment gives before (max at before)) [
      | true ↦ λ is. inl (subst gives (at_least at before is) given)
      | false ↦ λ is. inr (at_most at before is, above at before is)
    ] refl
  where
    at_least : (at before : ℕ) → nat_le before at ≡ true → at ≡ max at before
    at_least at before is = grind (arith, nat_tests)

    at_most : (at before : ℕ) → nat_le before at ≡ false → max at before ≡ before
    at_most at before is = grind (arith, nat_tests)

    above : (at before : ℕ) → nat_le before at ≡ false → 0 < before
    above at before is = grind (arith, nat_tests)

pub as_last : (gives : ℕ → Type 0) (before at : ℕ) → IsMoment gives before at → (at ≡ before) ⊎ gives at
as_last gives before at (inl given) = inr given
as_last gives before at (inr old) = inl old.0

-- ---- a request

-- no further link is asked for
abbrev pub deaf : View → AtWork → View
deaf v w = record v { work = w; listens = false }

asks_more : (asked : List Mode) (listens : Bool) (s t : Standing) → (listens ≡ true) ⊎ (s.owes_smart ≡ true) → t.last_pid ≡ s.last_pid → t.owes_smart ≡ false
    → AsksAsDue asked listens s → AsksAsDue (asked ++ Smart ∷ []) false t
asks_more asked listens s t due pid unowed asks = record {
  smart = All-push (λ (m : Mode). m ≡ Smart) asked Smart asks.smart refl;
  few = omega (arith, asks.few, length-append asked (Smart ∷ []), ap one_if unowed, ap (λ (n : ℕ). one_if (is_last_drawn n)) pid, one_at_least due);
}
  where
    one_at_least : (listens ≡ true) ⊎ (s.owes_smart ≡ true) → 1 ≤ one_if s.owes_smart + one_if listens
    one_at_least (inl is) = omega (arith, ap one_if is)
    one_at_least (inr is) = omega (arith, ap one_if is)

pub asked : StepsGoOn → GoesOnOverItsJournal → (gives : ℕ → Type 0) (at : ℕ) (before : View) (w : AtWork) → gives at → IsAtRest before.work.standing
    → (before.listens ≡ true) ⊎ (before.work.standing.owes_smart ≡ true) → w.standing ≡ made (asking Smart at before.work.standing) before.work.standing
    → Added (asking Smart at before.work.standing).entries before.work.told w.told
    → Does gives (Ok tt) (Notes (entry.Asked Smart (later at before.work.standing)) ∷ []) before (deaf before w)
asked goes work gives at before w given rests due standing told =
    let s = before.work.standing in
    let e = entry.Asked Smart (later at s) in
    let moment : IsMoment gives s.moment (later at s) = later_moment gives at s.moment given in
    record {
      goes = record {
        at = λ outset earlier is opened.
            let j : journal_of earlier ++ e ∷ [] ≡ journal_of (earlier ++ Notes e ∷ []) = sym (goes.journal earlier (Notes e)) in
            let stood = work.asks outset.limits (journal_of earlier) s is.past Smart at is.stands rests tt in
            record {
              past = behind s.machine (asking Smart at s).call is.past;
              stands = subst (λ (t : Standing). Stands outset.limits (Some (journal_of (earlier ++ Notes e ∷ []))) t (behind s.machine (asking Smart at s).call is.past)) (sym standing)
                  (subst (λ (l : List PmEvent). Stands outset.limits (Some l) (made (asking Smart at s) s) (behind s.machine (asking Smart at s).call is.past)) j stood);
              told = subst (λ (l : List PmEvent). IfSome w.told (λ es. es ≡ l)) j (told_more before.work.told w.told (journal_of earlier) (e ∷ []) is.told told);
              are_steps = goes.step outset.limits earlier (Notes e) is.are_steps (record { follows = notes_follow e (last_or None earlier) opened.free; fits = tt });
              lost_is = is.lost_is ∙ sym (goes.lost earlier (Notes e));
              said = subst (λ (l : List PmEvent). HasSaid l outset.log before.log) j (said_same (journal_of earlier) (e ∷ []) outset.log before.log refl is.said);
              auxiliaries = subst (λ (t : Standing). AreThere before.auxiliaries t) (sym standing) (auxiliaries_still before.auxiliaries s (made (asking Smart at s) s) refl refl is.auxiliaries);
              asks = subst (λ (t : Standing). AsksAsDue (asked_in (journal_of (earlier ++ Notes e ∷ []))) false t) (sym standing)
                  (subst (λ (l : List Mode). AsksAsDue l false (made (asking Smart at s) s)) (sym (ap asked_in (sym j) ∙ asked_in-append (journal_of earlier) (e ∷ [])))
                  (asks_more (asked_in (journal_of earlier)) before.listens s (made (asking Smart at s) s) due refl refl is.asks));
              acts = subst (AreOurs (is_some w.standing.machine.shutdown)) (sym (ap (λ (t : Standing). t.due) standing)) (says_ours (is_some w.standing.machine.shutdown) (asked_with (strengthen_of s.machine.shutdown Smart) s.machine (later at s)).acts (ask_says s.machine (later at s)));
              causes = caused_entry earlier e before.auxiliaries before.auxiliaries before.outcome before.outcome refl (inl refl) is.causes;
              disturbed = asked_disturbed outset.faults earlier Smart (later at s) before (deaf before w) refl (ap (λ (t : Standing). is_some t.machine.shutdown) standing ∙ asked_stands s.machine (later at s)) is.disturbed;
            };
        journal = told;
        times = record {
          each = (moment, tt);
          last = subst (λ (t : Standing). (t.moment ≡ s.moment) ⊎ gives t.moment) (sym standing) (as_last gives s.moment (later at s) moment);
        };
        store = spans_none before.store;
        still = λ none. refl;
        unread = λ none. (moves_none before.store).unread;
        knows = λ from known. record { counted = known.counted; come = known.come };
      };
      stays = λ earlier opened. record {
        free = subst IsFree (sym (goes.last earlier (Notes e))) tt;
        same = opened.same ∙ sym (ap (λ (t : Standing). t.generation) standing);
        inside = opened.inside;
      };
      ends = tt;
      serves = record { accepted = refl; sessions = refl };
    }

-- ---- a turn

pub turned : GoesOnOverItsJournal → (gives : ℕ → Type 0) (before : View) (w : AtWork) → IsIdle before.work.standing
    → w.standing ≡ made turning before.work.standing → w.told ≡ before.work.told
    → Does gives (Ok tt) [] before (record before { work = w })
turned work gives before w idle standing told =
    let s = before.work.standing in
    record {
      goes = record {
        at = λ outset earlier is opened.
            let stood = work.turns outset.limits (journal_of earlier) s is.past is.stands idle.rests idle.unowed in
            let rule = turn_rule (is_some s.machine.shutdown) s.machine refl in
            subst (λ (l : List Step). IsAt outset l (record before { work = w })) (sym (append-nil earlier)) (record {
              past = behind s.machine turning.call is.past;
              stands = subst (λ (t : Standing). Stands outset.limits (Some (journal_of earlier)) t (behind s.machine turning.call is.past)) (sym standing) stood;
              told = subst (λ (t : Option (List PmEvent)). IfSome t (λ es. es ≡ journal_of earlier)) (sym told) is.told;
              are_steps = is.are_steps;
              lost_is = is.lost_is;
              said = is.said;
              auxiliaries = subst (λ (t : Standing). AreThere before.auxiliaries t) (sym standing) (auxiliaries_still before.auxiliaries s (made turning s) refl refl is.auxiliaries);
              asks = subst (λ (t : Standing). AsksAsDue (asked_in (journal_of earlier)) before.listens t) (sym standing) (record { smart = is.asks.smart; few = is.asks.few });
              acts = subst (AreOurs (is_some w.standing.machine.shutdown)) (sym (ap (λ (t : Standing). t.due) standing))
                  (subst (λ (b : Bool). AreOurs b (turned_of s.machine).acts) (sym (ap (λ (t : Standing). is_some t.machine.shutdown) standing ∙ ap is_some rule.shutdown_is)) rule.acts);
              causes = is.causes;
              disturbed = turned_disturbed outset.faults earlier before (record before { work = w }) refl refl (goes_on_so s outset.limits (journal_of earlier) is.past is.stands idle.rests)
                  (ap (λ (t : Standing). t.machine) standing) (ap (λ (t : Standing). t.due) standing) rule.shutdown_is is.disturbed;
            });
        journal = subst (λ (t : Option (List PmEvent)). Added [] before.work.told t) (sym told) (added_none before.work.told);
        times = record { each = tt; last = inl (ap (λ (t : Standing). t.moment) standing) };
        store = spans_none before.store;
        still = λ none. refl;
        unread = λ none. (moves_none before.store).unread;
        knows = λ from known. record { counted = known.counted; come = known.come };
      };
      stays = λ earlier opened. subst (λ (l : List Step). IsOpen l (record before { work = w })) (sym (append-nil earlier)) (record {
        free = opened.free;
        same = opened.same ∙ sym (ap (λ (t : Standing). t.generation) standing);
        inside = opened.inside;
      });
      ends = tt;
      serves = serves_nothing;
    }
