use Rattle.std.proofs.Common.{subst}
use Rattle.pm_query.{specs.{Calls.{User, user_of}, declared.store.Staged.Staged}, proofs.NotedLaws.same_user_at}
use Rattle.pm_child_life.proofs.AttentionLaws.{hears_fewer, hears_none}
use Rattle.pm_session_exchange.{specs.Answers.OvertakesBy, proofs.{Attentions.{hears_as, hears_from}, Noted.{run_can, run_refused, ran, released_fits}, OvertakingLaws.run_overtaken}}
use Rattle.pm_session_exchange.proofs.ear.Ear.run.Goals as goal

pub returns-in-Ok-clause-notes : goal.returns-in-Ok-clause-notes
returns-in-Ok-clause-notes g c =
    let user = same_user_at c.in-Ok.staged.front _ _ (g.W.Store.view c.args.pass.now) _ (g.met.W.Store.stays _ _ _ c.in-Ok.ensures.notes.1) c.in-Ok.ensures.view in
    ran _ _ _ _ c.in-Ok.staged _ _ _ _ g.met.W.Store.in_turn user c.in-Ok.ensures.notes c.release.ensures.notes

pub returns-in-Ok-clause-overtaken : goal.returns-in-Ok-clause-overtaken
returns-in-Ok-clause-overtaken g c =
    let user = same_user_at c.in-Ok.staged.front _ _ (g.W.Store.view c.args.pass.now) _ (g.met.W.Store.stays _ _ _ c.in-Ok.ensures.notes.1) c.in-Ok.ensures.view in
    subst (λ (u : User). OvertakesBy (g.W.Store.met c.release.new.self.work) u.generation c.release.result) user c.release.ensures.overtaken

pub returns-in-Ok-clause-fit : goal.returns-in-Ok-clause-fit
returns-in-Ok-clause-fit g c = released_fits _ c.in-Ok.staged _ _ c.args.script.now _ _ c.release.ensures.notes.2 c.in-Ok.ensures.short

pub returns-in-Ok-clause-hears : goal.returns-in-Ok-clause-hears
returns-in-Ok-clause-hears g c = hears_from _ _ _ _ c.ask_run.ensures.child (hears_fewer 0 1 _ _ c.release.ensures.hears)

pub returns-in-Err-clause-hears : goal.returns-in-Err-clause-hears
returns-in-Err-clause-hears g c = hears_as _ _ _ _ c.ask_run.ensures.child (hears_none _)

pub refusal_of-requires : goal.refusal_of-requires
refusal_of-requires g c = run_can (user_of (g.W.Store.stamp c.args.self.now.work) (g.W.Store.view c.args.pass.now)) c.args.script.now c.in-Err.no c.in-Err.ensures.notes.0 c.in-Err.ensures.notes.2

pub returns-in-Err-clause-notes : goal.returns-in-Err-clause-notes
returns-in-Err-clause-notes g c = rw c.refusal_of.ensures (run_refused g.W.Store.notes (user_of (g.W.Store.stamp c.args.self.now.work) (g.W.Store.view c.args.pass.now)) c.args.script.now c.in-Err.no _ _ c.in-Err.ensures.notes)

pub returns-in-Err-clause-overtaken : goal.returns-in-Err-clause-overtaken
returns-in-Err-clause-overtaken g c = rw c.refusal_of.ensures (run_overtaken Staged (g.W.Store.met c.ask_run.new.self.work) _ c.in-Err.no c.in-Err.ensures.stale)
