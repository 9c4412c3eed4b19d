use Rattle.std.proofs.Common.{List, ℕ, Some, sym, ap, ◌∙◌}
use Rattle.pm_settings.{specs.{declared.statement.Statement.TheVariants.Show, Reading.{phrase, only_word, are_words, show_in}}, proofs.Words.{chose_some, chose_none, when_true, when_false}}
use Rattle.pm_settings.proofs.grammar.show_in.Goals as goal

pub returns-in_ok-name : goal.returns-in_ok-name
unfolding show_in
returns-in_ok-name c = ap (λ (name : List ℕ). Some (Show name)) c.in_ok-name.ensures ∙ sym (chose_some (only_word c.args.lexemes.now) c.in-Some.name.now _ _ c.in-Some.ensures)

pub returns-in_ok-name-2 : goal.returns-in_ok-name-2
unfolding show_in
returns-in_ok-name-2 c =
    ap (λ (name : List ℕ). Some (Show name)) c.in_ok-name-2.ensures
    ∙ sym (chose_none (only_word c.args.lexemes.now) _ _ c.in_default.ensures ∙ when_true (are_words (phrase "time zone") c.args.lexemes.now) _ _ c.if-are_words.ensures)

pub returns-in_ok-name-3 : goal.returns-in_ok-name-3
unfolding show_in
returns-in_ok-name-3 c =
    ap (λ (name : List ℕ). Some (Show name)) c.in_ok-name-3.ensures
    ∙ sym (chose_none (only_word c.args.lexemes.now) _ _ c.in_default.ensures
    ∙ when_false (are_words (phrase "time zone") c.args.lexemes.now) _ _ c.if-are_words.ensures
    ∙ when_true (are_words (phrase "transaction isolation level") c.args.lexemes.now) _ _ c.if-are_words-2.ensures)

pub returns-else-are_words-2 : goal.returns-else-are_words-2
unfolding show_in
returns-else-are_words-2 c =
    sym (chose_none (only_word c.args.lexemes.now) _ _ c.in_default.ensures
    ∙ when_false (are_words (phrase "time zone") c.args.lexemes.now) _ _ c.if-are_words.ensures
    ∙ when_false (are_words (phrase "transaction isolation level") c.args.lexemes.now) _ _ c.if-are_words-2.ensures)
