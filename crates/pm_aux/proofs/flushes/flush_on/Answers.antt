use Rattle.std.proofs.Common.{◌≡◌, ◌≢◌, ◌∙◌, ℕ, [], None, Err, refl, subst, rules}
use Rattle.pm_child_life.proofs.AttentionLaws.{attentive_still}
use Rattle.pm_query.{specs.{declared.store.StoreNo.TheVariants.NoMemory, Calls.{User, user_of, FlushNotes}}, proofs.NotedLaws.{behind_as, none_behind, none_none, same_user}}
use Rattle.pm_aux.{specs.Signals.ends_of, proofs.{Listening.{listens_more, listens_fewer, listens_both, listens_still}, Noting.{met_later}, Reasons.refused_inside}}
use Rattle.pm_exit.specs.declared.child.Kind.TheVariants.{Writer}
use Rattle.pm_aux.proofs.flushes.flush_on.Goals as goal

pub returns-then-eq-clause-notes : goal.returns-then-eq-clause-notes
returns-then-eq-clause-notes g c = ([], none_behind g.W.Store.notes _ _ _ g.met.W.Store.in_turn c.loop.invariant.notes c.in-Ok.ensures.notes, refl)

pub loop-preserved-then-standing : goal.loop-preserved-then-standing
loop-preserved-then-standing g c = record {
  notes = none_none g.W.Store.notes _ _ _ g.met.W.Store.in_turn (none_behind g.W.Store.notes _ _ _ g.met.W.Store.in_turn c.loop.invariant.notes c.in-Ok.ensures.notes) (g.met.W.Store.apart _ _ c.listen.ensures.rests);
  admits = g.met.W.Store.admits_still _ _ _ c.listen.ensures.rests c.flush.ensures.admits;
  view = c.flush.ensures.view ∙ c.loop.invariant.view;
  listens = listens_more _ _ _ (listens_still 0 _ _ _ _ _ _ c.flush.ensures.life c.loop.invariant.listens) c.listen.ensures.hears c.listen.ensures.attentive;
}

pub returns-in-Err : goal.returns-in-Err
returns-in-Err g c =
    let none : ends_of c.loop.standing ≡ None = search rules in
    let other : c.in-Err.no ≢ NoMemory = search rules in
    record {
      admits = c.flush.ensures.admits;
      view = c.flush.ensures.view ∙ c.loop.invariant.view;
      notes = behind_as g.W.Store.notes (λ (user : User). FlushNotes user (Err c.in-Err.no)) _ _ _ _ _ g.met.W.Store.in_turn
          (same_user _ _ _ _ (g.met.W.Store.stays _ _ _ c.loop.invariant.notes) c.loop.invariant.view) c.loop.invariant.notes c.in-Err.ensures.notes;
      listens = listens_still 0 _ _ _ _ _ _ c.flush.ensures.life c.loop.invariant.listens;
      ends = refused_inside Writer c.in-Err.no c.loop.standing none other;
      met = met_later ℕ _ _ c.in-Err.no c.in-Err.ensures.stale;
    }

pub loop-preserved-in-Ok-2 : goal.loop-preserved-in-Ok-2
loop-preserved-in-Ok-2 g c = record {
  notes = none_none g.W.Store.notes _ _ _ g.met.W.Store.in_turn (none_behind g.W.Store.notes _ _ _ g.met.W.Store.in_turn c.loop.invariant.notes c.in-Ok-2.ensures.notes) (g.met.W.Store.apart _ _ c.rest.ensures.rests);
  admits = g.met.W.Store.admits_still _ _ _ c.rest.ensures.rests c.flush.ensures.admits;
  view = c.flush.ensures.view ∙ c.loop.invariant.view;
  listens = listens_fewer 0 1 _ _ (listens_both 0 1 _ _ _ (listens_still 0 _ _ _ _ _ _ c.flush.ensures.life c.loop.invariant.listens) c.rest.ensures.listens);
}

pub loop-preserved : goal.loop-preserved
loop-preserved g c =
    let call = c.flush.ensures.notes in
    let is : c.flush.result ≡ Err NoMemory = search rules in
    let none : call.0 ≡ [] = subst (λ r. FlushNotes (user_of (g.W.Store.stamp c.loop.work) (g.W.Store.view c.loop.pass)) r call.0) is call.2 in
    record {
      notes = none_none g.W.Store.notes _ _ _ g.met.W.Store.in_turn (none_behind g.W.Store.notes _ _ _ g.met.W.Store.in_turn c.loop.invariant.notes (call.0, call.1, none)) (g.met.W.Store.apart _ _ c.rest-in-Err-NoMemory.ensures.rests);
      admits = g.met.W.Store.admits_still _ _ _ c.rest-in-Err-NoMemory.ensures.rests c.flush.ensures.admits;
      view = c.flush.ensures.view ∙ c.loop.invariant.view;
      listens = listens_fewer 0 1 _ _ (listens_both 0 1 _ _ _ (listens_still 0 _ _ _ _ _ _ c.flush.ensures.life c.loop.invariant.listens) c.rest-in-Err-NoMemory.ensures.listens);
    }

pub returns-then-eq-clause-listens : goal.returns-then-eq-clause-listens
returns-then-eq-clause-listens g c = listens_still 0 _ _ _ _ _ _ c.flush.ensures.life c.loop.invariant.listens

pub listen-requires : goal.listen-requires
listen-requires g c = attentive_still _ _ _ _ _ c.flush.ensures.life c.loop.invariant.listens.attentive

pub rest-requires : goal.rest-requires
rest-requires g c = attentive_still _ _ _ _ _ c.flush.ensures.life c.loop.invariant.listens.attentive

pub rest-requires-in-Err-NoMemory : goal.rest-requires-in-Err-NoMemory
rest-requires-in-Err-NoMemory g c = attentive_still _ _ _ _ _ c.flush.ensures.life c.loop.invariant.listens.attentive
