-- A turn of the machine, and what is done after it.
use Rattle.std.{proofs.{Common.{◌≡◌, inl, inr, ℕ, List, [], ◌++◌, Option, Result, Ok, Err, refl, sym, ◌∙◌, ap, subst}, lemmas.Bool.false≢true}, specs.Prelude.{Bool, true, false, OnOk}}
use Rattle.pm_server.specs.{pm_outside.Visits.Visits, declared.end.ServerEnd.{ServerEnd, TheVariants.NoMemory}}
use Rattle.pm_once_acts.{specs.pm_supervisor_chain.Steps.Step, proofs.StepsLaws.serves_nothing}
use Rattle.pm_supervisor_journal.{specs.{Laws.GoesOnOverItsJournal, Standing.{IsAtRest, Standing, made, turning}, Stands.{AtWork, IsSettled}, Due.{IsIdle, is_last_drawn}}, proofs.NextsLaws.same_work}
use Rattle.pm_once.{specs.{Calls.{Acts, Asks, Finishes, Turns}, Goes.IsRunning, Serves.{HasServed, Serves}, Service.Connection, View.View}, proofs.{Alls.running_on, Calling.turned, Finishing.is_drawn, Going.{does_any, does_then, goes_none}, Serving.{finishes_serves, nothing_served, served_on, serves_on}}}

pub turn_running : GoesOnOverItsJournal → (before : View) (w : AtWork) → IsRunning before → IsIdle before.work.standing → w.standing ≡ made turning before.work.standing → w.told ≡ before.work.told → IsRunning (record before { work = w })
turn_running work before w running idle standing told =
    let one = turned work (λ at. ⊥) before w idle standing told in
    running_on (λ at. ⊥) [] before (record before { work = w }) running one.goes one.stays

pub turns_ok : GoesOnOverItsJournal → (before : View) (w : AtWork) (result : Result (Unit {0}) ServerEnd) (steps : List Step) (now : View) → IsIdle before.work.standing
    → w.standing ≡ made turning before.work.standing → w.told ≡ before.work.told → IsSettled w.standing → Acts result steps (record before { work = w }) now → Turns result steps before now
turns_ok work before w result steps now idle standing told settled acts =
    let one = turned work (λ at. ⊥) before w idle standing told in
    record {
      does = does_then (λ at. ⊥) result [] steps before (record before { work = w }) now one acts.does;
      rests = elim result as (λ r. OnOk r (now.work.standing.due ≡ []) → OnOk r (now.work.standing.ended ≡ w.standing.ended) → OnOk r (IsAtRest now.work.standing)) [
        | Ok done ↦ λ none ended. record { none_due = none; goes_on = ended ∙ ap (λ (t : Standing). t.ended) standing ∙ idle.rests.goes_on }
        | Err end ↦ λ none ended. tt
      ] acts.none_due acts.ended;
      settled = elim result as (λ r. OnOk r (IsSettled now.work.standing)) [ Ok done ↦ acts.keeps.settled settled | Err end ↦ tt ];
      drawn = λ drawn. acts.keeps.drawn (subst (λ (t : Standing). is_last_drawn t.last_pid ≡ true) (sym standing) drawn);
      listens = acts.listens;
    }

pub turns_err : (before : View) (w : AtWork) → w.standing ≡ before.work.standing → w.told ≡ before.work.told → Turns (Err NoMemory) [] before (record before { work = w })
turns_err before w standing told = subst (λ (x : AtWork). Turns (Err NoMemory) [] before (record before { work = x })) (sym (same_work before.work w standing told)) (record {
  does = record { goes = goes_none (λ at. ⊥) before; stays = tt; ends = tt; serves = serves_nothing };
  rests = tt;
  settled = tt;
  drawn = λ drawn. drawn;
  listens = refl;
})

-- it ended the server, or what is done after it serves nobody yet
pub turn_finishes : (gives : ℕ → Type 0) (result : Result (Unit {0}) ServerEnd) (steps : List Step) (before now : View) → Turns result steps before now → OnOk result (IsIdle now.work.standing) → Finishes gives result steps before now
turn_finishes gives result steps before now turns idle = record { does = does_any gives result steps before now turns.does; idle = idle; deaf = inl turns.listens; drawn = turns.drawn }

-- a request was owed after it
pub turn_asks : (gives : ℕ → Type 0) (result : Result (Unit {0}) ServerEnd) (one two : List Step) (before mid now : View) → Turns (Ok tt) one before mid → IsRunning mid → mid.work.standing.owes_smart ≡ true
    → Asks gives result two mid now → Finishes gives result (one ++ two) before now
turn_asks gives result one two before mid now turns running owes asks = record {
  does = does_then gives result one two before mid now (does_any gives (Ok tt) one before mid turns.does) asks.does;
  idle = asks.idle;
  deaf = inr (asks.deaf, asks.drawn (is_drawn mid running owes));
  drawn = λ drawn. asks.drawn (turns.drawn drawn);
}

-- and then others were served
pub turn_serves : (gives : ℕ → Type 0) (result : Result (Unit {0}) ServerEnd) (ys : List Connection) (y : Bool) (one two : List Step) (before mid now : View) → Turns (Ok tt) one before mid → IsIdle mid.work.standing
    → Serves gives result ys y two mid now → Serves gives result ys y (one ++ two) before now
turn_serves gives result ys y one two before mid now turns idle second =
    serves_on gives result [] ys false y one two before mid now (finishes_serves gives (Ok tt) one before mid (turn_finishes gives (Ok tt) one before mid turns idle)) second

pub turn_served : (seed : List ℕ) (limit : ℕ) (gives : ℕ → Type 0) (ys : List Connection) (y : Bool) (one two : List Step) (before mid : View) (u w : Option Visits) → Turns (Ok tt) one before mid
    → HasServed seed limit gives ys y two u w → HasServed seed limit gives ys y (one ++ two) u w
turn_served seed limit gives ys y one two before mid u w turns second =
    served_on seed limit gives [] ys false y one two u u w (λ never. absurd (false≢true never)) (nothing_served seed limit gives one u turns.does.serves) second
