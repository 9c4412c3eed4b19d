use Rattle.std.{proofs.Common.{sym, ap, ◌∙◌, subst, arith}, specs.Option.option_map}
use Rattle.pm_settings.{specs.{Lexing.AreLexemes, Reading.statements_in}, proofs.Apart.{none_read, empty_read, text_read, empty_list, filled_list}}
use Rattle.pm_settings.proofs.reading.read.Goals as goal

pub returns-in_default-clause-none : goal.returns-in_default-clause-none
returns-in_default-clause-none c = λ statements is. subst (AreLexemes c.args.text.now) c.in_default.is c.in_ok-lexemes.ensures is.0 is.1

pub returns-in_default-2-clause-none : goal.returns-in_default-2-clause-none
returns-in_default-2-clause-none c = λ statements is.
    none_read c.args.text.now c.in-Some.lexemes.items statements (subst (AreLexemes c.args.text.now) c.in-Some.is c.in_ok-lexemes.ensures)
    (ap statements_in (sym c.deref.ensures.value) ∙ sym c.in_ok-statements.ensures ∙ ap (option_map (λ found. found.items)) c.in_default-2.is) is

pub returns-then-is_empty-clause-none : goal.returns-then-is_empty-clause-none
returns-then-is_empty-clause-none c = λ statements is.
    empty_read c.args.text.now c.in-Some.lexemes.items c.in-Some-2.statements.items statements (subst (AreLexemes c.args.text.now) c.in-Some.is c.in_ok-lexemes.ensures)
    (ap statements_in (sym c.deref.ensures.value) ∙ sym c.in_ok-statements.ensures ∙ ap (option_map (λ found. found.items)) c.in-Some-2.is)
    (empty_list c.in-Some-2.statements.items c.in-Some-2.statements.len (omega (arith, c.in-Some-2.statements.ok.0)) c.if-is_empty.ensures) is

pub returns-clause-text : goal.returns-clause-text
returns-clause-text c =
    text_read c.args.text.now c.in-Some.lexemes.items c.in-Some-2.statements.items (subst (AreLexemes c.args.text.now) c.in-Some.is c.in_ok-lexemes.ensures)
    (ap statements_in (sym c.deref.ensures.value) ∙ sym c.in_ok-statements.ensures ∙ ap (option_map (λ found. found.items)) c.in-Some-2.is)
    (filled_list c.in-Some-2.statements.items c.in-Some-2.statements.len (omega (arith, c.in-Some-2.statements.ok.0)) c.if-is_empty.ensures)
