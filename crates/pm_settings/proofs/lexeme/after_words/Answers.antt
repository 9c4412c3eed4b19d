use Rattle.std.{proofs.{Common.{◌≡◌, ◌+◌, None, sym, ap, ◌∙◌, drop, length, arith, lit<}, lemmas.{List.{length_push, at_drop_all}, Iterator.{Splits.YieldsList-from_str_split, Consumers.{YieldsList-turn, YieldsList-end}}}}, specs.Option.option_copied}
use Rattle.pm_settings.{specs.{Lexemes.words_in, Reading.{choose, after_words}}, proofs.Words.{word_there}}
use Rattle.pm_settings.proofs.lexeme.after_words.Goals as goal

pub returns-in_err-rest : goal.returns-in_err-rest
returns-in_err-rest c =
    let words = words_in c.args.words.now in
    let n = length c.loop-word.yielded in
    let there = YieldsList-turn (YieldsList-from_str_split 32 c.args.words.now (lit< tt) (cc) (cc) (cc)) c.loop-word.yielded _ c.loop-word.yielded_by _ _ c.in-Some.word c.in-Some.is c.next.ensures.steps in
    let none : after_words words c.args.lexemes.now ≡ None =
    c.loop-word.invariant ∙ word_there words n c.in-Some.word.now c.loop-word.rest.now there
    ∙ ap (λ found. choose found (after_words (drop (n + 1) words)) None) (sym c.in_err-rest.ensures) in
    ap option_copied c.from_residual.ensures ∙ sym none

pub loop-word-preserved : goal.loop-word-preserved
loop-word-preserved c =
    let words = words_in c.args.words.now in
    let n = length c.loop-word.yielded in
    let there = YieldsList-turn (YieldsList-from_str_split 32 c.args.words.now (lit< tt) (cc) (cc) (cc)) c.loop-word.yielded _ c.loop-word.yielded_by _ _ c.in-Some.word c.in-Some.is c.next.ensures.steps in
    c.loop-word.invariant ∙ word_there words n c.in-Some.word.now c.loop-word.rest.now there
    ∙ ap (λ found. choose found (after_words (drop (n + 1) words)) None) (sym c.in_ok-rest.ensures)
    ∙ ap (λ i. after_words (drop i words) c.in_ok-rest.rest.now) (sym (length_push c.loop-word.yielded c.in-Some.word))

pub returns : goal.returns
returns c =
    let end = YieldsList-end (YieldsList-from_str_split 32 c.args.words.now (lit< tt) (cc) (cc) (cc)) c.loop-word.yielded _ c.loop-word.yielded_by _ _ c.in-None.is c.next.ensures.steps in
    sym (c.loop-word.invariant ∙ at_drop_all (λ ws. after_words ws c.loop-word.rest.now) (words_in c.args.words.now) (length c.loop-word.yielded) (omega (arith, end.1)))
