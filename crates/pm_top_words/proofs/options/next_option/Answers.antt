use Rattle.pm_top_words.{specs.Words.option_name, proofs.Givens.{option-begins, says-none}}
use Rattle.pm_top_words.proofs.options.next_option.Goals as goal

pub returns-in_default-clause-none : goal.returns-in_default-clause-none
returns-in_default-clause-none c = λ choice behind is. c.in_default.ensures.none (option_name choice) is.spells.0 behind (option-begins c.args.words.now choice behind is)

pub returns-in-None-clause-none : goal.returns-in-None-clause-none
returns-in-None-clause-none c =
    says-none c.args.words.now c.in-Some.given.name.now c.in-Some.given.value.now c.in-Some.given.behind.now c.in-Some.ensures.found c.in-None.ensures.none
