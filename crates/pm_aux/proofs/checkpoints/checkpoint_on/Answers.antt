use Rattle.std.proofs.Common.{◌≡◌, ◌≢◌, ◌∙◌, [], None, Some, Err, ap, refl, sym, subst, rules}
use Rattle.pm_exit.specs.declared.child.Kind.TheVariants.{Checkpointer}
use Rattle.pm_child_life.proofs.AttentionLaws.{attentive_still}
use Rattle.pm_query.{specs.{declared.store.{StoreNo.TheVariants.NoMemory, Stepping.Stepping}, Calls.{user_of, StepNotes}}, proofs.NotedLaws.same_user}
use Rattle.pm_aux.{specs.{Signals.ends_of, Work.IsPassing}, proofs.{Listening.{listens_fewer, listens_both, listens_still}, Noting.{closes, closes_refused, passes_more, passes_still, met_later}, Reasons.{closes_at_once, refused_inside}}}
use Rattle.pm_aux.proofs.checkpoints.checkpoint_on.Goals as goal

pub returns-in-Some-ends-clause-notes : goal.returns-in-Some-ends-clause-notes
returns-in-Some-ends-clause-notes g c =
    let before = c.loop.invariant.notes in
    let is = sym c.ends.ensures ∙ c.in-Some-ends.is ∙ ap Some (sym c.give_up.ensures.cause) in
    closes g.W.Store.notes _ _ c.give_up.result _ _ _ g.met.W.Store.in_turn (same_user _ _ _ _ (g.met.W.Store.stays _ _ _ before.1) c.loop.invariant.view) before
    ([], c.give_up.ensures.notes, closes_at_once _ _ _ _ is)

pub returns-then-standing-clause-notes : goal.returns-then-standing-clause-notes
returns-then-standing-clause-notes g c =
    let before = c.loop.invariant.notes in
    closes g.W.Store.notes _ _ c.drop_and_close.result _ _ _ g.met.W.Store.in_turn (same_user _ _ _ _ (g.met.W.Store.stays _ _ _ before.1) c.loop.invariant.view) before c.drop_and_close.ensures.notes

pub returns-in-Some-ends-clause-listens : goal.returns-in-Some-ends-clause-listens
returns-in-Some-ends-clause-listens g c = listens_still 0 _ _ _ _ _ _ c.give_up.ensures.life c.loop.invariant.listens

pub returns-then-standing-clause-listens : goal.returns-then-standing-clause-listens
returns-then-standing-clause-listens g c = listens_still 0 _ _ _ _ _ _ c.drop_and_close.ensures.life c.loop.invariant.listens

pub breathe-requires : goal.breathe-requires
breathe-requires g c = attentive_still _ _ _ _ _ c.checkpoint_step.ensures.life c.loop.invariant.listens.attentive

pub rest-requires : goal.rest-requires
rest-requires g c = attentive_still _ _ _ _ _ c.checkpoint_step.ensures.life c.loop.invariant.listens.attentive

pub rest-requires-in-Err-NoMemory : goal.rest-requires-in-Err-NoMemory
rest-requires-in-Err-NoMemory g c = attentive_still _ _ _ _ _ c.checkpoint_step.ensures.life c.loop.invariant.listens.attentive

pub returns-in-Err : goal.returns-in-Err
returns-in-Err g c =
    let none : ends_of c.loop.standing ≡ None = search rules in
    let other : c.in-Err.no ≢ NoMemory = search rules in
    let before = c.loop.invariant.notes in
    record {
      admits = c.checkpoint_step.ensures.admits;
      view = c.checkpoint_step.ensures.view ∙ c.loop.invariant.view;
      notes = closes_refused g.W.Store.notes _ _ c.in-Err.no _ _ _ g.met.W.Store.in_turn (same_user _ _ _ _ (g.met.W.Store.stays _ _ _ before.1) c.loop.invariant.view) before c.in-Err.ensures.notes;
      listens = listens_still 0 _ _ _ _ _ _ c.checkpoint_step.ensures.life c.loop.invariant.listens;
      ends = refused_inside Checkpointer c.in-Err.no c.loop.standing none other;
      met = met_later Stepping _ _ c.in-Err.no c.in-Err.ensures.stale;
    }

pub loop-preserved-in-Ok-More : goal.loop-preserved-in-Ok-More
loop-preserved-in-Ok-More g c =
    let before = c.loop.invariant.notes in
    record {
      notes = passes_still g.W.Store.notes (IsPassing (g.W.Store.view c.args.pass.now).pid) _ _ _ g.met.W.Store.in_turn (passes_more g.W.Store.notes _ _ c.in-Ok-More.field-0 _ _ _ g.met.W.Store.in_turn (same_user _ _ _ _ (g.met.W.Store.stays _ _ _ before.1) c.loop.invariant.view) before c.in-Ok-More.ensures.notes) ([], g.met.W.Store.apart _ _ c.breathe.ensures.rests, refl);
      admits = g.met.W.Store.admits_still _ _ _ c.breathe.ensures.rests c.checkpoint_step.ensures.admits;
      view = c.checkpoint_step.ensures.view ∙ c.loop.invariant.view;
      listens = listens_fewer 0 1 _ _ (listens_both 0 1 _ _ _ (listens_still 0 _ _ _ _ _ _ c.checkpoint_step.ensures.life c.loop.invariant.listens) c.breathe.ensures.listens);
    }

pub loop-preserved-in-Ok : goal.loop-preserved-in-Ok
loop-preserved-in-Ok g c =
    let before = c.loop.invariant.notes in
    record {
      notes = passes_still g.W.Store.notes (IsPassing (g.W.Store.view c.args.pass.now).pid) _ _ _ g.met.W.Store.in_turn (passes_more g.W.Store.notes _ _ c.in-Ok.field-0 _ _ _ g.met.W.Store.in_turn (same_user _ _ _ _ (g.met.W.Store.stays _ _ _ before.1) c.loop.invariant.view) before c.in-Ok.ensures.notes) ([], g.met.W.Store.apart _ _ c.rest.ensures.rests, refl);
      admits = g.met.W.Store.admits_still _ _ _ c.rest.ensures.rests c.checkpoint_step.ensures.admits;
      view = c.checkpoint_step.ensures.view ∙ c.loop.invariant.view;
      listens = listens_fewer 0 1 _ _ (listens_both 0 1 _ _ _ (listens_still 0 _ _ _ _ _ _ c.checkpoint_step.ensures.life c.loop.invariant.listens) c.rest.ensures.listens);
    }

pub loop-preserved : goal.loop-preserved
loop-preserved g c =
    let call = c.checkpoint_step.ensures.notes in
    let is : c.checkpoint_step.result ≡ Err NoMemory = search rules in
    let none : call.0 ≡ [] = subst (λ r. StepNotes (user_of (g.W.Store.stamp c.loop.work) (g.W.Store.view c.loop.pass)) r call.0) is call.2 in
    record {
      notes = passes_still g.W.Store.notes (IsPassing (g.W.Store.view c.args.pass.now).pid) _ _ _ g.met.W.Store.in_turn (passes_still g.W.Store.notes (IsPassing (g.W.Store.view c.args.pass.now).pid) _ _ _ g.met.W.Store.in_turn c.loop.invariant.notes (call.0, call.1, none)) ([], g.met.W.Store.apart _ _ c.rest-in-Err-NoMemory.ensures.rests, refl);
      admits = g.met.W.Store.admits_still _ _ _ c.rest-in-Err-NoMemory.ensures.rests c.checkpoint_step.ensures.admits;
      view = c.checkpoint_step.ensures.view ∙ c.loop.invariant.view;
      listens = listens_fewer 0 1 _ _ (listens_both 0 1 _ _ _ (listens_still 0 _ _ _ _ _ _ c.checkpoint_step.ensures.life c.loop.invariant.listens) c.rest-in-Err-NoMemory.ensures.listens);
    }
