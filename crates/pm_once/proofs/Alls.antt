-- All acts that are due are done.
use Rattle.std.{proofs.Common.{◌≡◌, ℕ, List, [], ◌∷◌, ◌++◌, Result, Ok, Err, refl, ◌∙◌}, specs.Prelude.{Bool, true, false, IsOk}}
use Rattle.pm_once_acts.{specs.{pm_supervisor_chain.Steps.Step, Acts.Keeps, Loop.{IsDoneThrough, last_answer}}, proofs.ActsLaws.keeps_on}
use Rattle.pm_server.specs.{pm_supervisor_journal.Due.AreSays, declared.end.ServerEnd.ServerEnd}
use Rattle.pm_once.{specs.{Calls.{Acts, DoesNext, DoesOne}, Goes.{Does, Goes, IsRunning, StaysOpen}, View.View}, proofs.Going.{does_nothing, does_then}}

pub running_on : (gives : ℕ → Type 0) (steps : List Step) (a b : View) → IsRunning a → Goes gives steps a b → StaysOpen steps a b → IsRunning b
running_on gives steps a b running goes stays = (running.0, running.1 ++ steps, goes.at running.0 running.1 running.2 running.3, stays running.1 running.3)

-- some of them were, and others may be due
record ActsSoFar (steps : List Step) (before now : View) : Type 0 where
  does : Does (λ at. ⊥) (Ok tt) steps before now
  keeps : Keeps before.work.standing now.work.standing
  ended : now.work.standing.ended ≡ before.work.standing.ended
  says : AreSays before.work.standing.due → AreSays now.work.standing.due × (now.work.standing.owes_smart ≡ before.work.standing.owes_smart)
  listens : now.listens ≡ before.listens

none_yet : (v : View) → ActsSoFar [] v v
none_yet v = record {
  does = does_nothing (λ at. ⊥) v;
  keeps = record { auxiliaries = λ pid kind there. there; settled = λ was. was; drawn = λ drawn. drawn; unowed = λ drawn unowed. unowed };
  ended = refl;
  says = λ says. (says, refl);
  listens = refl;
}

one_more_act : (steps next : List Step) (a b c : View) → ActsSoFar steps a b → DoesNext (Ok true) next b c → ActsSoFar (steps ++ next) a c
one_more_act steps next a b c so_far one = record {
  does = does_then (λ at. ⊥) (Ok tt) steps next a b c so_far.does one.does;
  keeps = keeps_on a.work.standing b.work.standing c.work.standing so_far.keeps one.keeps;
  ended = one.ended ∙ so_far.ended;
  says = λ says. ((one.says (so_far.says says).0).0, (one.says (so_far.says says).0).1 ∙ (so_far.says says).1);
  listens = one.listens ∙ so_far.listens;
}

all_done : (steps next : List Step) (a b c : View) → ActsSoFar steps a b → DoesNext (Ok false) next b c → Acts (Ok tt) (steps ++ next) a c
all_done steps next a b c so_far one = record {
  does = does_then (λ at. ⊥) (Ok tt) steps next a b c so_far.does one.does;
  keeps = keeps_on a.work.standing b.work.standing c.work.standing so_far.keeps one.keeps;
  none_due = one.none_due refl;
  says = λ says. (one.says (so_far.says says).0).1 ∙ (so_far.says says).1;
  ended = one.ended ∙ so_far.ended;
  listens = one.listens ∙ so_far.listens;
}

ended_in : (end : ServerEnd) (steps next : List Step) (a b c : View) → ActsSoFar steps a b → DoesNext (Err end) next b c → Acts (Err end) (steps ++ next) a c
ended_in end steps next a b c so_far one = record {
  does = does_then (λ at. ⊥) (Err end) steps next a b c so_far.does one.does;
  keeps = keeps_on a.work.standing b.work.standing c.work.standing so_far.keeps one.keeps;
  none_due = tt;
  says = λ says. (one.says (so_far.says says).0).1 ∙ (so_far.says says).1;
  ended = tt;
  listens = one.listens ∙ so_far.listens;
}

-- one after the other
abbrev AllDone : {S X : Type 0} → (view : S → View) → (store : S → X) → Result (Unit {0}) ServerEnd → (before now : S) → Type 0
AllDone view store result before now =
    (steps : List Step) × Acts result steps (view before) (view now) × (AreSays (view before).work.standing.due → IsOk result × (store now ≡ store before))

through : {S X : Type 0} (view : S → View) (store : S → X) (result : Result (Unit {0}) ServerEnd) (passed : List S) (steps : List Step) (a b c : S)
    → ActsSoFar steps (view a) (view b) → (AreSays (view a).work.standing.due → store b ≡ store a) → IsDoneThrough (DoesOne view store) passed (last_answer result) b c
    → AllDone view store result a c
through view store (Ok tt) [] steps a b c so_far same one =
    (steps ++ one.0, all_done steps one.0 (view a) (view b) (view c) so_far one.1, λ says. (refl, (one.2 (so_far.says says).0).1 ∙ same says))
through view store (Err end) [] steps a b c so_far same one =
    (steps ++ one.0, ended_in end steps one.0 (view a) (view b) (view c) so_far one.1, λ says. absurd (not_ok end (one.2 (so_far.says says).0).0))
  where
    not_ok : (e : ServerEnd) → (let r : Result Bool ServerEnd = Err e in IsOk r) → ⊥
    not_ok e is = cc
through view store result (next ∷ passed) steps a b c so_far same each =
    let one = each.0 in
    through view store result passed (steps ++ one.0) a next c (one_more_act steps one.0 (view a) (view b) (view next) so_far one.1)
    (λ says. (one.2 (so_far.says says).0).1 ∙ same says) each.1

pub acts_through : {S X : Type 0} (view : S → View) (store : S → X) (result : Result (Unit {0}) ServerEnd) (passed : List S) (before now : S)
    → IsDoneThrough (DoesOne view store) passed (last_answer result) before now → AllDone view store result before now
acts_through view store result passed before now each = through view store result passed [] before before now (none_yet (view before)) (λ says. refl) each
