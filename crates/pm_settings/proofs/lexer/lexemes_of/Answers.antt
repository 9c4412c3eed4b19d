use Rattle.std.proofs.Common.{List, sym, ap, ◌∙◌, subst, rules}
use Rattle.pm_settings.{specs.{declared.lexeme.Lexeme.Lexeme, Lexing.{lexeme_at, token_at, shown}, pm_sql.Tokens.skipped}, proofs.Lexings.{Goes, at_start, one_more, at_end, none_there, shorter, nothing_left, something_left}}
use Rattle.pm_settings.proofs.lexer.lexemes_of.Goals as goal

pub lexemes-init : goal.lexemes-init
lexemes-init c = (c.utf8.text, subst (λ (done : List Lexeme). Goes c.args.text.now done c.args.text.now) (sym c.new-lexemes.ensures.items) (at_start c.args.text.now))

pub returns-then-is_empty : goal.returns-then-is_empty
returns-then-is_empty c =
    at_end c.args.text.now c.lexemes.lexemes.items c.lexemes.rest.now c.lexemes.invariant.1
    (nothing_left c.skipped-here.result.now (skipped c.lexemes.rest.now) c.skipped-here.ensures c.if-is_empty.ensures)

pub lexemes-smaller : goal.lexemes-smaller
lexemes-smaller c =
    shorter c.lexemes.rest.now c.in-Some.lexeme c.in-Some.after.now
    (ap (λ here. lexeme_at (token_at here)) (sym c.skipped-here.ensures) ∙ sym c.in_ok-lexeme.ensures ∙ ap shown c.in-Some.is)

pub lexemes-preserved : goal.lexemes-preserved
lexemes-preserved c = (
  search rules,
  subst (λ (done : List Lexeme). Goes c.args.text.now done c.in-Some.after.now) (sym c.in_ok-push-in-Some.ensures.items)
      (one_more c.args.text.now c.lexemes.lexemes.items c.lexemes.rest.now c.in-Some.lexeme c.in-Some.after.now c.lexemes.invariant.1
      (ap (λ here. lexeme_at (token_at here)) (sym c.skipped-here.ensures) ∙ sym c.in_ok-lexeme.ensures ∙ ap shown c.in-Some.is)),
)

pub returns-in-None : goal.returns-in-None
returns-in-None c = λ lexemes lexed.
    none_there c.args.text.now c.lexemes.lexemes.items c.lexemes.rest.now lexemes c.lexemes.invariant.1
    (something_left c.skipped-here.result.now (skipped c.lexemes.rest.now) c.skipped-here.ensures c.if-is_empty.ensures)
    (ap (λ here. lexeme_at (token_at here)) (sym c.skipped-here.ensures) ∙ sym c.in_ok-lexeme.ensures ∙ ap shown c.in-None.is) lexed
