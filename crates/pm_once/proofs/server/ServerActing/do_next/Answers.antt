use Rattle.std.{proofs.Common.{◌≡◌, ℕ, ◌+◌, List, [], Ok, Err, refl, sym, ap, subst, ◌∙◌}, specs.Prelude.{Bool, Result, true, false}}
use Rattle.pm_server.specs.{pm_state.declared.event.PmEvent.PmEvent, pm_outside.Added.Added, declared.end.{ServerEnd.{ServerEnd, TheVariants.Abnormal}, Why.TheVariants.GenerationsSpent}}
use Rattle.pm_supervisor_journal.{specs.{Standing.{act_for, standing_of}, Supervision.at_work, declared.act.Act.Act}, proofs.NextsLaws.{next_given, next_none, next_spent, reset_number}}
use Rattle.pm_once.{specs.{Calls.Performs, View.{View, view_of}}, proofs.{Alls.running_on, Nexts.{performed, said_well, waits}, Past.past_of}}
use Rattle.pm_once_acts.proofs.NextsLaws.{first_says, says_unspent}
use Rattle.pm_once.proofs.server.ServerActing.do_next.Goals as goal

never : (e : ServerEnd) (r : Result (Unit {0}) ServerEnd) → r ≡ Err e → r ≡ Ok tt → ⊥
never e r one two = cc

false_true : (r : Result Bool ServerEnd) → r ≡ Ok false → r ≡ Ok true → ⊥
false_true r one two = cc

no_ok : (b : Bool) (e : ServerEnd) (r : Result Bool ServerEnd) → r ≡ Err e → r ≡ Ok b → ⊥
no_ok b e r one two = cc

pub next-requires : goal.next-requires
next-requires g c = record { stands = past_of (view_of c.args.self.now) c.requires }

pub perform-requires : goal.perform-requires
perform-requires g c = λ generation is.
    let s = standing_of c.args.self.now.supervision.memory in
    let given = next_given s c.in-Ok-Some.act (sym (rw c.in-Ok-Some.field-0-is at c.in-Ok-Some.ensures.act)) in
    reset_number given.0 s generation (sym given.1.act_is ∙ is) ∙ ap (λ (n : ℕ). n + 1) (sym c.requires.3.same)

pub returns-in-Ok-clause-does : goal.returns-in-Ok-clause-does
returns-in-Ok-clause-does g c =
    let v : View = view_of c.args.self.now in
    let now : View = view_of c.perform.new.self in
    let s = standing_of c.args.self.now.supervision.memory in
    let given = next_given s c.in-Ok-Some.act (sym (rw c.in-Ok-Some.field-0-is at c.in-Ok-Some.ensures.act)) in
    let w = at_work c.next.new.self in
    let one = performed c.laws.ensures.steps c.laws.ensures.work given.0 (Ok tt) v now w c.requires given.1.first
    (c.in-Ok-Some.ensures.standing ∙ given.1.after)
    (subst (λ (es : List PmEvent). Added es v.work.told w.told) given.1.entries c.in-Ok-Some.ensures.told)
    (ap at_work c.in-Ok.ensures.supervision)
    (subst (λ (a : Act). Performs a (Ok tt) (record v { work = w }) now) given.1.act_is c.in-Ok.ensures.performs)
    c.in-Ok-Some.ensures.settled in (
      one.0,
      one.1,
      λ says.
          let line = first_says s.due given.0 says given.1.first in
          (refl, c.in-Ok.ensures.said line.line (given.1.act_is ∙ ap (λ a. act_for a s) line.is)),
    )

pub returns-in-Ok-clause-goes_on : goal.returns-in-Ok-clause-goes_on
returns-in-Ok-clause-goes_on g c = λ is.
    let one = returns-in-Ok-clause-does g c in
    running_on (λ at. ⊥) one.0 _ _ c.requires one.1.does.goes one.1.does.stays

pub returns-in-Ok-clause-fewer : goal.returns-in-Ok-clause-fewer
returns-in-Ok-clause-fewer g c = λ is. (returns-in-Ok-clause-does g c).1.fewer refl

pub returns-in-Err-perform-clause-does : goal.returns-in-Err-perform-clause-does
returns-in-Err-perform-clause-does g c =
    let v : View = view_of c.args.self.now in
    let now : View = view_of c.perform.new.self in
    let s = standing_of c.args.self.now.supervision.memory in
    let given = next_given s c.in-Ok-Some.act (sym (rw c.in-Ok-Some.field-0-is at c.in-Ok-Some.ensures.act)) in
    let w = at_work c.next.new.self in
    let performs = subst (λ (a : Act). Performs a (Err c.in-Err-perform.end) (record v { work = w }) now) given.1.act_is c.in-Err-perform.ensures.performs in
    let one = performed c.laws.ensures.steps c.laws.ensures.work given.0 (Err c.in-Err-perform.end) v now w c.requires given.1.first
    (c.in-Ok-Some.ensures.standing ∙ given.1.after)
    (subst (λ (es : List PmEvent). Added es v.work.told w.told) given.1.entries c.in-Ok-Some.ensures.told)
    (ap at_work c.in-Err-perform.ensures.supervision)
    performs
    c.in-Ok-Some.ensures.settled in (
      one.0,
      one.1,
      λ says.
          absurd (never c.in-Err-perform.end _ refl
          (said_well given.0 s (Err c.in-Err-perform.end) (record v { work = w }) now (first_says s.due given.0 says given.1.first) performs)),
    )

pub returns-in-Ok-None-clause-does : goal.returns-in-Ok-None-clause-does
returns-in-Ok-None-clause-does g c =
    let v : View = view_of c.args.self.now in
    let s = standing_of c.args.self.now.supervision.memory in
    let none = next_none s (sym (rw c.in-Ok-None.field-0-is at c.in-Ok-None.ensures.act)) in
    let w = at_work c.next.new.self in
    ([], waits v w (Ok false) (c.in-Ok-None.ensures.standing ∙ none.after) (subst (λ (es : List PmEvent). Added es v.work.told w.told) none.entries c.in-Ok-None.ensures.told) tt (λ is. none.none_due) (λ is. false_true _ refl is), λ says. (refl, refl))

pub returns-in-Err-clause-does : goal.returns-in-Err-clause-does
returns-in-Err-clause-does g c =
    let v : View = view_of c.args.self.now in
    let s = standing_of c.args.self.now.supervision.memory in
    let spent = next_spent s (record {}) (sym c.in-Err.ensures.act) in
    let w = at_work c.next.new.self in (
      [],
      waits v w (Err (Abnormal GenerationsSpent)) (c.in-Err.ensures.standing ∙ spent.after) (subst (λ (es : List PmEvent). Added es v.work.told w.told) spent.entries c.in-Err.ensures.told) (spent.generation, spent.reset) (λ is. absurd (no_ok false _ _ refl is)) (λ is. no_ok true _ _ refl is),
      λ says. absurd (says_unspent s.due s (record {}) says (sym c.in-Err.ensures.act)),
    )
