use Rattle.std.{proofs.Common.{rules, ◌≡◌, ◌∙◌, [], None, Some, Option, ap, sym, subst}, specs.Prelude.{Ok, Err}}
use Rattle.pm_segment.specs.{Passes.view_of, pm_query.{Calls.{StepNotes, user_of}, declared.store.Stepping.Stepping}}
use Rattle.pm_store_shared.{specs.Piecewise.MakesOrNot, proofs.{Flushing.grew_then, Makings.step_whole}}
use Rattle.pm_store_shared.proofs.token.Token.checkpoint_step.Goals as goal

pub returns-in-Some-More-clause-notes : goal.returns-in-Some-More-clause-notes
returns-in-Some-More-clause-notes g c =
    let user = user_of None (view_of c.args.pass.now) in
    let first = c.in_ok-make_piece.ensures.notes in
    let is = c.in-Some-More.is ∙ ap (λ s. Some s) c.in-Some-More.field-0-is in
    let none : first.0 ≡ [] = subst (λ (o : Option Stepping). MakesOrNot user (Ok o) first.0) is first.2 in
    let second = c.make_another.ensures.notes in
    (second.0, grew_then first.0 second.0 _ _ _ first.1 none second.1, second.2)

pub returns-in_err-begin_pieces-clause-notes : goal.returns-in_err-begin_pieces-clause-notes
returns-in_err-begin_pieces-clause-notes g c =
    let user = user_of None (view_of c.args.pass.now) in
    let first = c.in_ok-make_piece.ensures.notes in
    let none : first.0 ≡ [] = subst (λ (o : Option Stepping). MakesOrNot user (Ok o) first.0) c.in-None.is first.2 in
    let second = c.in_err-begin_pieces.ensures.notes in
    let is : c.from_residual-in_err-begin_pieces.result ≡ Err c.in_err-begin_pieces.field-0.0 = search rules in
    (second.0, grew_then first.0 second.0 _ _ _ first.1 none second.1, subst (λ r. StepNotes user r second.0) (sym is) second.2)

pub returns-then-branch-clause-notes : goal.returns-then-branch-clause-notes
returns-then-branch-clause-notes g c =
    let user = user_of None (view_of c.args.pass.now) in
    let first = c.in_ok-make_piece.ensures.notes in
    let none : first.0 ≡ [] = subst (λ (o : Option Stepping). MakesOrNot user (Ok o) first.0) c.in-None.is first.2 in
    let second = c.in_ok-begin_pieces.ensures.notes in
    (second.0, grew_then first.0 second.0 _ _ _ first.1 none second.1, second.2)

pub returns-in_err-checkpoint-clause-notes : goal.returns-in_err-checkpoint-clause-notes
returns-in_err-checkpoint-clause-notes g c =
    let user = user_of None (view_of c.args.pass.now) in
    let first = c.in_ok-make_piece.ensures.notes in
    let none : first.0 ≡ [] = subst (λ (o : Option Stepping). MakesOrNot user (Ok o) first.0) c.in-None.is first.2 in
    let second = c.in_ok-begin_pieces.ensures.notes in
    let third = c.in_err-checkpoint.ensures.notes in
    let is : c.from_residual-in_err-checkpoint.result ≡ Err c.in_err-checkpoint.field-0.0 = search rules in
    (third.0, grew_then first.0 third.0 _ _ _ first.1 none (grew_then second.0 third.0 _ _ _ second.1 second.2 third.1), subst (λ r. StepNotes user r third.0) (sym is) third.2)

pub returns-clause-notes : goal.returns-clause-notes
returns-clause-notes g c =
    let user = user_of None (view_of c.args.pass.now) in
    let first = c.in_ok-make_piece.ensures.notes in
    let none : first.0 ≡ [] = subst (λ (o : Option Stepping). MakesOrNot user (Ok o) first.0) c.in-None.is first.2 in
    let second = c.in_ok-begin_pieces.ensures.notes in
    let third = c.in_ok-checkpoint.ensures.notes in
    (third.0, grew_then first.0 third.0 _ _ _ first.1 none (grew_then second.0 third.0 _ _ _ second.1 second.2 third.1), step_whole user c.in_ok-checkpoint.field-0 c.of.result third.0 c.of.ensures third.2)
