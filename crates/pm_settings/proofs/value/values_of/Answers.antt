use Rattle.std.{proofs.{Common.{List, [], ◌∷◌, Some, map, Bor, length, sym, ap, ◌∙◌, rules, tests}, lemmas.{List.map-append, Iterator.{Splits.YieldsList-from_slice_split, Consumers.{YieldsList-turn, YieldsList-end}}}}, specs.List.slice_split}
use Rattle.pm_settings.{specs.{declared.lexeme.Lexeme.Lexeme, Statements.is_comma, Reading.{all_of, value_in}}, proofs.Parts.{all_of-push, all_of-none}}
use Rattle.pm_settings.proofs.value.values_of.Goals as goal

pub loop-piece-preserved : goal.loop-piece-preserved
loop-piece-preserved c =
    let shown = λ (x : Bor (List Lexeme)). x.now in
    ap (all_of value_in) (map-append shown c.loop-piece.yielded (c.in-Some.piece ∷ []))
    ∙ all_of-push value_in (map shown c.loop-piece.yielded) c.loop-piece.values.items c.in-Some.piece.now c.in-Some-2.value c.loop-piece.invariant (sym c.in_ok-value.ensures ∙ c.in-Some-2.is)
    ∙ ap Some (sym c.in_ok-push-in-Some-2.ensures.items)

pub returns-in-None-2 : goal.returns-in-None-2
returns-in-None-2 c =
    let there = YieldsList-turn (YieldsList-from_slice_split _ is_comma c.args.lexemes.now (cc) (cc) (cc) (λ x r q k. search (rules, tests))) c.loop-piece.yielded _ c.loop-piece.yielded_by _ _ c.in-Some.piece c.in-Some.is c.next.ensures.steps in
    sym (all_of-none value_in (slice_split is_comma c.args.lexemes.now) (length c.loop-piece.yielded) c.in-Some.piece.now there.0 there.1 (sym c.in_ok-value.ensures ∙ c.in-None-2.is))

pub returns : goal.returns
returns c =
    let end = YieldsList-end (YieldsList-from_slice_split _ is_comma c.args.lexemes.now (cc) (cc) (cc) (λ x r q k. search (rules, tests))) c.loop-piece.yielded _ c.loop-piece.yielded_by _ _ c.in-None.is c.next.ensures.steps in
    sym c.loop-piece.invariant ∙ ap (all_of value_in) end.0
