use Rattle.std.proofs.Common.{sym, ◌∙◌, true, false}
use Rattle.pm_settings.{specs.Reading.{phrase, mode_in}, proofs.ModeForms.{flagged_here, flagged_else}}
use Rattle.pm_settings.proofs.modes.mode_in.Goals as goal

pub returns-in-Some : goal.returns-in-Some
unfolding mode_in
returns-in-Some c = sym (flagged_here (phrase "read only") true c.args.lexemes.now _ c.in-Some.rest.now c.in-Some.ensures)

pub returns-in-Some-after_words : goal.returns-in-Some-after_words
unfolding mode_in
returns-in-Some-after_words c =
    sym (flagged_else (phrase "read only") true c.args.lexemes.now _ c.in_default.ensures
    ∙ flagged_here (phrase "read write") false c.args.lexemes.now _ c.in-Some-after_words.rest.now c.in-Some-after_words.ensures)

pub returns-in-Some-after_words-2 : goal.returns-in-Some-after_words-2
unfolding mode_in
returns-in-Some-after_words-2 c =
    sym (flagged_else (phrase "read only") true c.args.lexemes.now _ c.in_default.ensures
    ∙ flagged_else (phrase "read write") false c.args.lexemes.now _ c.in_default-after_words.ensures
    ∙ flagged_here (phrase "isolation level serializable") false c.args.lexemes.now _ c.in-Some-after_words-2.rest.now c.in-Some-after_words-2.ensures)

pub returns-in-Some-after_words-3 : goal.returns-in-Some-after_words-3
unfolding mode_in
returns-in-Some-after_words-3 c =
    sym (flagged_else (phrase "read only") true c.args.lexemes.now _ c.in_default.ensures
    ∙ flagged_else (phrase "read write") false c.args.lexemes.now _ c.in_default-after_words.ensures
    ∙ flagged_else (phrase "isolation level serializable") false c.args.lexemes.now _ c.in_default-after_words-2.ensures
    ∙ flagged_here (phrase "isolation level repeatable read") false c.args.lexemes.now _ c.in-Some-after_words-3.rest.now c.in-Some-after_words-3.ensures)

pub returns-in-Some-after_words-4 : goal.returns-in-Some-after_words-4
unfolding mode_in
returns-in-Some-after_words-4 c =
    sym (flagged_else (phrase "read only") true c.args.lexemes.now _ c.in_default.ensures
    ∙ flagged_else (phrase "read write") false c.args.lexemes.now _ c.in_default-after_words.ensures
    ∙ flagged_else (phrase "isolation level serializable") false c.args.lexemes.now _ c.in_default-after_words-2.ensures
    ∙ flagged_else (phrase "isolation level repeatable read") false c.args.lexemes.now _ c.in_default-after_words-3.ensures
    ∙ flagged_here (phrase "isolation level read committed") false c.args.lexemes.now _ c.in-Some-after_words-4.rest.now c.in-Some-after_words-4.ensures)

pub returns-in-Some-after_words-5 : goal.returns-in-Some-after_words-5
unfolding mode_in
returns-in-Some-after_words-5 c =
    sym (flagged_else (phrase "read only") true c.args.lexemes.now _ c.in_default.ensures
    ∙ flagged_else (phrase "read write") false c.args.lexemes.now _ c.in_default-after_words.ensures
    ∙ flagged_else (phrase "isolation level serializable") false c.args.lexemes.now _ c.in_default-after_words-2.ensures
    ∙ flagged_else (phrase "isolation level repeatable read") false c.args.lexemes.now _ c.in_default-after_words-3.ensures
    ∙ flagged_else (phrase "isolation level read committed") false c.args.lexemes.now _ c.in_default-after_words-4.ensures
    ∙ flagged_here (phrase "isolation level read uncommitted") false c.args.lexemes.now _ c.in-Some-after_words-5.rest.now c.in-Some-after_words-5.ensures)

pub returns-in_default-after_words-5 : goal.returns-in_default-after_words-5
unfolding mode_in
returns-in_default-after_words-5 c =
    sym (flagged_else (phrase "read only") true c.args.lexemes.now _ c.in_default.ensures
    ∙ flagged_else (phrase "read write") false c.args.lexemes.now _ c.in_default-after_words.ensures
    ∙ flagged_else (phrase "isolation level serializable") false c.args.lexemes.now _ c.in_default-after_words-2.ensures
    ∙ flagged_else (phrase "isolation level repeatable read") false c.args.lexemes.now _ c.in_default-after_words-3.ensures
    ∙ flagged_else (phrase "isolation level read committed") false c.args.lexemes.now _ c.in_default-after_words-4.ensures
    ∙ flagged_else (phrase "isolation level read uncommitted") false c.args.lexemes.now _ c.in_default-after_words-5.ensures)
