use Rattle.std.proofs.{Common.{◌≡◌, [], sym, subst, arith}, lemmas.List.nil_from_length}
use Rattle.pm_top_words.{specs.{Options.{CanReserve, choice_of, chosen_of}, Begins.{BeginsOptions, IsOptionMisfit}}, proofs.Fronts.{at-last, at-not-chosen, ends, further, none-further}}
use Rattle.pm_top_words.proofs.fitting.«+option_misfit».Goals as goal

pub returns-then-is_empty-clause-none : goal.returns-then-is_empty-clause-none
returns-then-is_empty-clause-none t c =
    let none : c.args.words.now ≡ [] = nil_from_length c.args.words.now (grind (arith, c.is_empty.ensures, c.if-is_empty.true)) in
    subst (λ words. BeginsOptions c.args.verb (chosen_of c.args.before) words) (sym none) (ends c.args.verb (chosen_of c.args.before) c.requires)

pub returns-then-not-may_take-clause-found : goal.returns-then-not-may_take-clause-found
returns-then-not-may_take-clause-found t c =
    let next = c.in-Some.next in
    at-not-chosen c.args.verb (chosen_of c.args.before) c.args.words.now (choice_of next.setting) next.behind.now c.requires c.in-Some.ensures.found
    (λ may. let takes = c.may_take.ensures.1 may in grind (arith, takes, c.if-not-may_take.true))

pub returns-in-Some-option_misfit-clause-found : goal.returns-in-Some-option_misfit-clause-found
returns-in-Some-option_misfit-clause-found t c =
    let next = c.in-Some.next in
    further c.args.verb (chosen_of c.args.before) c.args.words.now next.behind.now (choice_of next.setting) c.in-Some-option_misfit.at
    c.in-Some.ensures.found (c.may_take.ensures.0 (grind (arith, c.if-not-may_take.false)))
    (subst (λ before. IsOptionMisfit c.args.verb before next.behind.now c.in-Some-option_misfit.at) c.with-chosen.ensures
    c.in-Some-option_misfit.ensures.found)

pub returns-in-None-clause-none : goal.returns-in-None-clause-none
returns-in-None-clause-none t c =
    let next = c.in-Some.next in
    none-further c.args.verb (chosen_of c.args.before) c.args.words.now next.behind.now (choice_of next.setting) c.in-Some.ensures.found
    (c.may_take.ensures.0 (grind (arith, c.if-not-may_take.false)))
    (subst (λ before. BeginsOptions c.args.verb before next.behind.now) c.with-chosen.ensures c.in-None.ensures.none)

pub returns-then-not-can_reserve-clause-found : goal.returns-then-not-can_reserve-clause-found
returns-then-not-can_reserve-clause-found t c =
    let next = c.in-Some.next in
    at-last c.args.verb (chosen_of c.args.before) c.args.words.now (choice_of next.setting) next.behind.now c.requires c.in-Some.ensures.found
    (c.may_take.ensures.0 (grind (arith, c.if-not-may_take.false)))
    (λ can. let holds = c.can_reserve.ensures.1 (subst (λ chosen. CanReserve c.args.verb chosen) (sym c.with-chosen.ensures) can) in grind (arith, holds, c.if-not-can_reserve.true))
