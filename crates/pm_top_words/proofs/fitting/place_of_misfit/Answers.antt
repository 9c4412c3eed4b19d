use Rattle.std.proofs.Common.{arith}
use Rattle.pm_top_words.{specs.Options.chosen_of, proofs.{Fronts.{at-no-name, at-value, one-name}, Givens.cons_words}}
use Rattle.pm_top_words.proofs.fitting.place_of_misfit.Goals as goal

pub returns-then-not-may_name-clause-found : goal.returns-then-not-may_name-clause-found
returns-then-not-may_name-clause-found c =
    let words = cons_words c.args.words.now c.index-words-0.result c.as_str.result.now c.requires.some c.index-words-0.is c.as_str.ensures.bytes in
    at-no-name c.args.verb (chosen_of c.args.before.now) c.requires.can c.args.words.now c.as_str.result.now _ words c.requires.none
    (λ open_name. let may = c.may_name.ensures.1 open_name in grind (arith, may, c.if-not-may_name.true))

pub returns-then-words-eq1-clause-none : goal.returns-then-words-eq1-clause-none
returns-then-words-eq1-clause-none c =
    let words = cons_words c.args.words.now c.index-words-0.result c.as_str.result.now c.requires.some c.index-words-0.is c.as_str.ensures.bytes in
    one-name c.args.verb (chosen_of c.args.before.now) c.requires.can c.args.words.now c.as_str.result.now _ words c.if-words-eq1.true
    (c.may_name.ensures.0 (grind (arith, c.if-not-may_name.false)))

pub returns-else-words-eq1-clause-found : goal.returns-else-words-eq1-clause-found
returns-else-words-eq1-clause-found c =
    let words = cons_words c.args.words.now c.index-words-0.result c.as_str.result.now c.requires.some c.index-words-0.is c.as_str.ensures.bytes in
    at-value c.args.verb (chosen_of c.args.before.now) c.requires.can c.args.words.now c.as_str.result.now _ words c.if-words-eq1.false c.requires.none
    (c.may_name.ensures.0 (grind (arith, c.if-not-may_name.false)))
