use Rattle.std.{proofs.{Common.{List, [], ◌∷◌, Some, map, Bor, length, sym, ap, ◌∙◌, rules, tests}, lemmas.{List.map-append, Iterator.{Splits.YieldsList-from_slice_split, Consumers.{YieldsList-turn, YieldsList-end}}}}, specs.List.{slice_split, filter}}
use Rattle.pm_settings.{specs.{declared.lexeme.Lexeme.Lexeme, Statements.{is_semicolon, is_filled}, Reading.{all_of, statement_in, statements_in}}, proofs.Parts.{filled-push, filled-none}}
use Rattle.pm_settings.proofs.grammar.statements_in.Goals as goal

pub loop-piece-preserved : goal.loop-piece-preserved
loop-piece-preserved c =
    let shown = λ (x : Bor (List Lexeme)). x.now in
    ap (λ parts. all_of statement_in (filter is_filled parts)) (map-append shown c.loop-piece.yielded (c.in-Some.piece ∷ []))
    ∙ filled-push statement_in (map shown c.loop-piece.yielded) c.loop-piece.statements.items c.in-Some.piece.now c.in-Some-2.statement c.loop-piece.invariant (sym c.if-is_empty.ensures) (sym c.in_ok-statement.ensures ∙ c.in-Some-2.is)
    ∙ ap Some (sym c.in_ok-push-in-Some-2.ensures.items)

pub returns-in-None-2 : goal.returns-in-None-2
unfolding statements_in
returns-in-None-2 c =
    let there = YieldsList-turn (YieldsList-from_slice_split _ is_semicolon c.args.lexemes.now (cc) (cc) (cc) (λ x r q k. search (rules, tests))) c.loop-piece.yielded _ c.loop-piece.yielded_by _ _ c.in-Some.piece c.in-Some.is c.next.ensures.steps in
    sym (filled-none statement_in (slice_split is_semicolon c.args.lexemes.now) (length c.loop-piece.yielded) c.in-Some.piece.now there.0 there.1 (sym c.if-is_empty.ensures) (sym c.in_ok-statement.ensures ∙ c.in-None-2.is))

pub returns : goal.returns
unfolding statements_in
returns c =
    let end = YieldsList-end (YieldsList-from_slice_split _ is_semicolon c.args.lexemes.now (cc) (cc) (cc) (λ x r q k. search (rules, tests))) c.loop-piece.yielded _ c.loop-piece.yielded_by _ _ c.in-None.is c.next.ensures.steps in
    sym c.loop-piece.invariant ∙ ap (λ parts. all_of statement_in (filter is_filled parts)) end.0
