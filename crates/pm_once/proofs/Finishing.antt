-- A shutdown is asked for, and all that is due is done.
use Rattle.std.{proofs.{Common.{◌≡◌, ◌⊎◌, inl, inr, ℕ, ◌≤◌, List, [], ◌∷◌, ◌++◌, Some, Result, Ok, Err, refl, sym, ◌∙◌, ap, subst, arith, append-nil}, lemmas.Bool.Decides.nat_tests}, specs.Prelude.{Bool, true, false, IfErr, IsOk, OnOk}}
use Rattle.pm_server.{specs.{pm_modes.declared.Mode.{Mode, TheVariants.Smart}, pm_state.Journal.last_pid, Journal.asked_in, declared.end.ServerEnd.{ServerEnd, TheVariants.NoMemory}, pm_segment.MovesLaws.{moves_none, spans_none}}, proofs.JournalLaws.times_none}
use Rattle.pm_server.specs.pm_state.declared.event.PmEvent.TheVariants as entry
use Rattle.pm_once_acts.{specs.{pm_supervisor_chain.{Laws.StepsGoOn, Steps.{Step, Notes, journal_of}}, Acts.AsksAsDue}, proofs.StepsLaws.serves_nothing}
use Rattle.pm_supervisor_journal.{specs.{Laws.GoesOnOverItsJournal, Standing.{IsAtRest, Standing, asking, later, made}, Stands.AtWork, Due.{AreSays, IsIdle, is_last_drawn}}, proofs.{NextsLaws.same_work, RulesLaws.ask_says}}
use Rattle.pm_outside.{specs.Added.Added, proofs.AddedLaws.added_none}
use Rattle.pm_once.{specs.{Calls.{Acts, Asks, Finishes}, Goes.{IsAt, IsOpen, IsRunning, StaysOpen}, View.View}, proofs.{Calling.{asked, deaf}, Going.{does_any, does_then}, Undisturbed.{disturbed_on, less_follows}}}
use Rattle.pm_once_children.proofs.{AuxiliariesLaws.auxiliary_still, CalmLaws.{no_more, still_less}}

never_err : {E : Type 0} (e : E) (r : Result (Unit {0}) E) → r ≡ Err e → IsOk r → ⊥
never_err e (Ok done) is ok = cc
never_err e (Err other) is ok = cc

-- the request was noted, and its acts were done
pub asks_ok : StepsGoOn → GoesOnOverItsJournal → (gives : ℕ → Type 0) (at : ℕ) (before : View) (w : AtWork) (result : Result (Unit {0}) ServerEnd) (steps : List Step) (now : View) → gives at
    → IsAtRest before.work.standing → (before.listens ≡ true) ⊎ (before.work.standing.owes_smart ≡ true) → w.standing ≡ made (asking Smart at before.work.standing) before.work.standing
    → Added (asking Smart at before.work.standing).entries before.work.told w.told → Acts result steps (deaf before w) now → (AreSays w.standing.due → IsOk result)
    → Asks gives result ((Notes (entry.Asked Smart (later at before.work.standing)) ∷ []) ++ steps) before now
asks_ok goes work gives at before w result steps now given rests due standing told acts fine =
    let s = before.work.standing in
    let first = asked goes work gives at before w given rests due standing told in
    let says : AreSays w.standing.due = subst (λ (t : Standing). AreSays t.due) (sym standing) (ask_says s.machine (later at s)) in
    let same_children : w.standing.children ≡ s.children = ap (λ (t : Standing). t.children) standing in
    let same_pid : w.standing.last_pid ≡ s.last_pid = ap (λ (t : Standing). t.last_pid) standing in
    record {
      does = does_then gives result (Notes (entry.Asked Smart (later at s)) ∷ []) steps before (deaf before w) now first (does_any gives result steps (deaf before w) now acts.does);
      auxiliaries = λ pid k there. acts.keeps.auxiliaries pid k (auxiliary_still (Some pid) k s w.standing same_children same_pid there);
      idle = elim result as (λ r. OnOk r (now.work.standing.due ≡ []) → OnOk r (now.work.standing.ended ≡ w.standing.ended) → OnOk r (IsIdle now.work.standing)) [
        | Ok done ↦ λ none ended. record {
          rests = record { none_due = none; goes_on = ended ∙ ap (λ (t : Standing). t.ended) standing ∙ rests.goes_on };
          unowed = acts.says says ∙ ap (λ (t : Standing). t.owes_smart) standing;
        }
        | Err end ↦ λ none ended. tt
      ] acts.none_due acts.ended;
      opened = elim result as (λ r. IsOk r → OnOk r (StaysOpen ((Notes (entry.Asked Smart (later at s)) ∷ []) ++ steps) before now) → StaysOpen ((Notes (entry.Asked Smart (later at s)) ∷ []) ++ steps) before now) [
        | Ok done ↦ λ ok stays. stays
        | Err end ↦ λ ok stays. absurd (never_err end (Err end) refl ok)
      ] (fine says) (does_then gives result (Notes (entry.Asked Smart (later at s)) ∷ []) steps before (deaf before w) now first (does_any gives result steps (deaf before w) now acts.does)).stays;
      rests = elim result as (λ r. IsOk r → OnOk r (now.work.standing.due ≡ []) → OnOk r (now.work.standing.ended ≡ w.standing.ended) → IsAtRest now.work.standing) [
        | Ok done ↦ λ ok none ended. record { none_due = none; goes_on = ended ∙ ap (λ (t : Standing). t.ended) standing ∙ rests.goes_on }
        | Err end ↦ λ ok none ended. absurd (never_err end (Err end) refl ok)
      ] (fine says) acts.none_due acts.ended;
      drawn = λ drawn. acts.keeps.drawn (subst (λ (n : ℕ). is_last_drawn n ≡ true) (sym same_pid) drawn);
      deaf = acts.listens;
      asked = inl (omega arith);
      short = elim result as (λ r. IsOk r → IfErr r (λ end. end ≡ NoMemory)) [ Ok done ↦ λ ok. tt | Err end ↦ λ ok. absurd (never_err end (Err end) refl ok) ] (fine says);
    }

fewer_asks : (asked : List Mode) (listens : Bool) (s : Standing) → AsksAsDue asked listens s → AsksAsDue asked false s
fewer_asks asked true s asks = record { smart = asks.smart; few = omega (arith, asks.few) }
fewer_asks asked false s asks = asks

-- it wasn't, for want of memory
pub asks_err : (gives : ℕ → Type 0) (before : View) (w : AtWork) → IsAtRest before.work.standing → w.standing ≡ before.work.standing → w.told ≡ before.work.told → Asks gives (Err NoMemory) [] before (deaf before w)
asks_err gives before w rests standing told =
    subst (λ (x : AtWork). Asks gives (Err NoMemory) [] before (deaf before x)) (sym (same_work before.work w standing told)) (record {
      does = record {
        goes = record {
          at = λ outset earlier is opened. subst (λ (l : List Step). IsAt outset l (deaf before before.work)) (sym (append-nil earlier)) (record {
            past = is.past;
            stands = is.stands;
            told = is.told;
            are_steps = is.are_steps;
            lost_is = is.lost_is;
            said = is.said;
            auxiliaries = is.auxiliaries;
            asks = fewer_asks (asked_in (journal_of earlier)) before.listens before.work.standing is.asks;
            acts = is.acts;
            causes = is.causes;
            disturbed = disturbed_on outset.faults earlier earlier before (deaf before before.work) (record { later = omega arith; counts = λ counted. counted }) (no_more earlier)
                (less_follows before (deaf before before.work) refl (still_less before.auxiliaries)) is.disturbed;
          });
          journal = added_none before.work.told;
          times = times_none gives before.work.standing.moment;
          store = spans_none before.store;
          still = λ none. refl;
          unread = λ none. (moves_none before.store).unread;
          knows = λ from known. record { counted = known.counted; come = known.come };
        };
        stays = tt;
        ends = tt;
        serves = serves_nothing;
      };
      auxiliaries = λ pid k there. there;
      idle = tt;
      opened = λ earlier opened. subst (λ (l : List Step). IsOpen l (deaf before before.work)) (sym (append-nil earlier)) (record { free = opened.free; same = opened.same; inside = opened.inside });
      rests = rests;
      drawn = λ drawn. drawn;
      deaf = refl;
      short = refl;
      asked = inr refl;
    })

-- ---- all that is due

pub finishes_err : (gives : ℕ → Type 0) (end : ServerEnd) (steps : List Step) (before now : View) → Acts (Err end) steps before now → Finishes gives (Err end) steps before now
finishes_err gives end steps before now acts = record { does = does_any gives (Err end) steps before now acts.does; idle = tt; deaf = inl acts.listens; drawn = acts.keeps.drawn }

pub finishes_ok : (gives : ℕ → Type 0) (steps : List Step) (before now : View) → before.work.standing.ended ≡ false → Acts (Ok tt) steps before now → now.work.standing.owes_smart ≡ false → Finishes gives (Ok tt) steps before now
finishes_ok gives steps before now goes_on acts unowed = record {
  does = does_any gives (Ok tt) steps before now acts.does;
  idle = record { rests = record { none_due = acts.none_due; goes_on = acts.ended ∙ goes_on }; unowed = unowed };
  deaf = inl acts.listens;
  drawn = acts.keeps.drawn;
}

owed_drawn : (n : ℕ) → last_pid ≤ n → is_last_drawn n ≡ true
owed_drawn n le = grind (arith, nat_tests)

-- a request is owed only after the last pid
pub is_drawn : (v : View) → IsRunning v → v.work.standing.owes_smart ≡ true → is_last_drawn v.work.standing.last_pid ≡ true
is_drawn v running owes = owed_drawn v.work.standing.last_pid (running.2.stands.pids.owed owes)

pub finishes_asked : (gives : ℕ → Type 0) (result : Result (Unit {0}) ServerEnd) (one two : List Step) (before mid now : View) → Acts (Ok tt) one before mid → IsRunning mid → mid.work.standing.owes_smart ≡ true
    → Asks gives result two mid now → Finishes gives result (one ++ two) before now
finishes_asked gives result one two before mid now acts running owes asks = record {
  does = does_then gives result one two before mid now (does_any gives (Ok tt) one before mid acts.does) asks.does;
  idle = asks.idle;
  deaf = inr (asks.deaf, asks.drawn (is_drawn mid running owes));
  drawn = λ drawn. asks.drawn (acts.keeps.drawn drawn);
}
