use Rattle.std.proofs.{Common.{◌≡◌, ◌-◌, [], ◌∷◌, length, take, drop, sym, ◌∙◌, ap, subst, arith}, lemmas.List.nil_from_length}
use Rattle.pm_top_words.{specs.Begins.{BeginsLine, BeginsOptions, IsOptionMisfit}, proofs.{Fronts.{at-option, at-verb, none-fit, options-fit-too}, Givens.cons_words}}
use Rattle.pm_top_words.proofs.fitting.misfit.Goals as goal

pub returns-in_default-clause-none : goal.returns-in_default-clause-none
returns-in_default-clause-none c =
    let none : c.args.words.now ≡ [] = nil_from_length c.args.words.now (omega (arith, c.in_default.len_below)) in
    subst (λ words. BeginsLine words) (sym none) none-fit

pub returns-in_default-verb_named-clause-found : goal.returns-in_default-verb_named-clause-found
returns-in_default-verb_named-clause-found c =
    let words = cons_words c.args.words.now c.first-item.result c.as_str.result.now c.in-len1-up.len_at_least c.first-item.is c.as_str.ensures.bytes in
    at-verb c.args.words.now c.as_str.result.now _ words c.in_default-verb_named.ensures.none

pub returns-in-Some-option_misfit-clause-found : goal.returns-in-Some-option_misfit-clause-found
returns-in-Some-option_misfit-clause-found c =
    let words = cons_words c.args.words.now c.first-item.result c.as_str.result.now c.in-len1-up.len_at_least c.first-item.is c.as_str.ensures.bytes
    ∙ ap (λ w. w ∷ take (length c.args.words.now - 1) (drop 1 c.args.words.now)) c.in-Some.ensures.found in
    at-option c.args.words.now c.in-Some.verb _ words c.in-Some-option_misfit.at
    (subst (λ before. IsOptionMisfit c.in-Some.verb before (take (length c.args.words.now - 1) (drop 1 c.args.words.now)) c.in-Some-option_misfit.at)
    c.new.ensures c.in-Some-option_misfit.ensures.found)

pub returns-in-None-clause-none : goal.returns-in-None-clause-none
returns-in-None-clause-none c =
    let words = cons_words c.args.words.now c.first-item.result c.as_str.result.now c.in-len1-up.len_at_least c.first-item.is c.as_str.ensures.bytes
    ∙ ap (λ w. w ∷ take (length c.args.words.now - 1) (drop 1 c.args.words.now)) c.in-Some.ensures.found in
    options-fit-too c.args.words.now c.in-Some.verb _ words
    (subst (λ before. BeginsOptions c.in-Some.verb before (take (length c.args.words.now - 1) (drop 1 c.args.words.now))) c.new.ensures
    c.in-None.ensures.none)
