use Rattle.std.proofs.Common.{◌≡◌, ◌∙◌, ◌∷◌, [], Err, ap, sym, subst, rules}
use Rattle.pm_child_life.{specs.Life.Child, proofs.AttentionLaws.attentive_still}
use Rattle.pm_query.{specs.{declared.{book.BookEntry.TheVariants.Attached, store.StoreNo.{StoreNo, TheVariants.NoMemory}}, Calls.{User, newcomer, EnterNotes}}, proofs.NotedLaws.{behind_as, none_behind, none_none}}
use Rattle.pm_aux.proofs.{Listening.{listens_fewer, listens_both, listens_still}, Noting.{kept_out, same_newcomer}}
use Rattle.pm_aux.proofs.tending.come_in.Goals as goal

pub returns-in-Ok-clause-notes : goal.returns-in-Ok-clause-notes
returns-in-Ok-clause-notes g c =
    let pid = c.pid-pid.ensures ∙ ap (λ (who : Child). who.pid) c.loop.invariant.listens.child in
    let call = c.in-Ok.ensures.notes in
    (call.0, g.met.W.Store.in_turn _ _ _ [] call.0 c.loop.invariant.notes call.1, call.2 ∙ ap (λ (p : _). Attached p c.args.generation ∷ []) pid)

pub loop-preserved : goal.loop-preserved
loop-preserved g c =
    let call = c.enter.ensures.notes in
    let is : c.enter.result ≡ Err NoMemory = search rules in
    let none : call.0 ≡ [] = subst (λ r. EnterNotes {P = g.row.W-Pass.Denot} (newcomer (g.W.Store.stamp c.loop.work) c.pid-pid.result c.args.generation) r call.0) is call.2 in
    record {
      notes = none_none g.W.Store.notes _ _ _ g.met.W.Store.in_turn (none_behind g.W.Store.notes _ _ _ g.met.W.Store.in_turn c.loop.invariant.notes (call.0, call.1, none)) (g.met.W.Store.apart _ _ c.rest.ensures.rests);
      listens = listens_fewer 0 1 _ _ (listens_both 0 1 _ _ _ (listens_still 0 _ _ _ _ _ _ c.enter.ensures.life c.loop.invariant.listens) c.rest.ensures.listens);
    }

pub returns-in-Err-clause-notes : goal.returns-in-Err-clause-notes
returns-in-Err-clause-notes g c =
    let pid = c.pid-pid.ensures ∙ ap (λ (who : Child). who.pid) c.loop.invariant.listens.child in
    let who = newcomer (g.W.Store.stamp c.loop.work) c.pid-pid.result c.args.generation in
    let user = newcomer (g.W.Store.stamp c.args.work.now) (g.W.Seat.child c.args.work.now).pid c.args.generation in
    let call = c.in-Err.ensures.notes in
    let noted = behind_as g.W.Store.notes (λ (it : User). EnterNotes {P = Unit {0}} it (Err c.in-Err.no)) who user _ _ _ g.met.W.Store.in_turn
    (same_newcomer _ _ _ _ c.args.generation (g.met.W.Store.stays _ _ _ c.loop.invariant.notes) pid) c.loop.invariant.notes (call.0, call.1, kept_out g.row.W-Pass.Denot who c.in-Err.no call.0 call.2) in
    (noted.0, noted.1, subst (λ (refusal : StoreNo). EnterNotes {P = Unit {0}} user (Err refusal) noted.0) (sym c.in-Err.no-is) noted.2)

pub returns-in-Ok-clause-listens : goal.returns-in-Ok-clause-listens
returns-in-Ok-clause-listens g c = listens_still 0 _ _ _ _ _ _ c.enter.ensures.life c.loop.invariant.listens

pub returns-in-Err-clause-listens : goal.returns-in-Err-clause-listens
returns-in-Err-clause-listens g c = listens_still 0 _ _ _ _ _ _ c.enter.ensures.life c.loop.invariant.listens

pub rest-requires : goal.rest-requires
rest-requires g c = attentive_still _ _ _ _ _ c.enter.ensures.life c.loop.invariant.listens.attentive
