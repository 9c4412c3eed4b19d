use Rattle.std.proofs.{Common.{◌∙◌, [], refl}, lemmas.Result.err_from_is_err_and}
use Rattle.pm_query.{specs.Calls.User, proofs.NotedLaws.{behind_as, same_user}}
use Rattle.pm_child_life.proofs.AttentionLaws.{hears_both, hears_fewer}
use Rattle.pm_session_exchange.{specs.Answers.ScriptNotes, proofs.{Signals.slept_uncancelled, Sleeping.all_slept, Noted.{fits_earlier, signalled}}}
use Rattle.pm_session_exchange.proofs.ear.Ear.script_answer.Goals as goal

pub returns-in-Whole-clause-fit : goal.returns-in-Whole-clause-fit
returns-in-Whole-clause-fit g c = fits_earlier 1 c.args.script.now c.run.result _ _ _ c.sleep.ensures.hears.asked c.run.ensures.fit

pub returns-in-Whole-clause-hears : goal.returns-in-Whole-clause-hears
returns-in-Whole-clause-hears g c = hears_fewer 0 1 _ _ (hears_both 1 0 _ _ _ c.sleep.ensures.hears c.run.ensures.hears)

pub returns-in-Whole-clause-slept : goal.returns-in-Whole-clause-slept
returns-in-Whole-clause-slept g c =
    let goes = rw (c.in-Whole.is, c.sleep_seconds.ensures) at c.in_ok-sleep.ensures.goes in
    all_slept _ c.args.script.now c.run.result goes.0

pub returns-in-Whole-clause-uncancelled : goal.returns-in-Whole-clause-uncancelled
returns-in-Whole-clause-uncancelled g c =
    let goes = rw c.in-Whole.is at c.in_ok-sleep.ensures.goes in
    slept_uncancelled c.run.result _ _ _ c.sleep.ensures.hears goes.1 c.run.ensures.hears

pub run-requires : goal.run-requires
run-requires g c = record { admits = g.met.W.Store.admits_still _ _ _ c.sleep.ensures.rests c.requires.admits }

pub returns-in-Whole-clause-notes : goal.returns-in-Whole-clause-notes
returns-in-Whole-clause-notes g c =
    let rest = g.met.W.Store.apart _ _ c.sleep.ensures.rests in
    behind_as g.W.Store.notes (λ (user : User). ScriptNotes user c.args.script.now c.run.result) _ _ _ _ _ g.met.W.Store.in_turn (same_user _ _ (g.W.Store.view c.args.pass.now) (g.W.Store.view c.args.pass.now) (g.met.W.Store.stays _ _ _ rest) refl) rest c.run.ensures.notes

pub returns-in-Whole-clause-user : goal.returns-in-Whole-clause-user
returns-in-Whole-clause-user g c = c.run.ensures.user ∙ same_user _ _ (g.W.Store.view c.args.pass.now) (g.W.Store.view c.args.pass.now) (g.met.W.Store.stays _ _ _ (g.met.W.Store.apart _ _ c.sleep.ensures.rests)) refl

pub returns-in-Cancelled-clause-notes : goal.returns-in-Cancelled-clause-notes
returns-in-Cancelled-clause-notes g c = ([], g.met.W.Store.apart _ _ c.sleep.ensures.rests, λ text is. refl)

pub returns-in-Cancelled-clause-admits : goal.returns-in-Cancelled-clause-admits
returns-in-Cancelled-clause-admits g c = g.met.W.Store.admits_still _ _ _ c.sleep.ensures.rests c.requires.admits

pub returns-in-Cancelled-clause-user : goal.returns-in-Cancelled-clause-user
returns-in-Cancelled-clause-user g c = same_user _ _ (g.W.Store.view c.args.pass.now) (g.W.Store.view c.args.pass.now) (g.met.W.Store.stays _ _ _ (g.met.W.Store.apart _ _ c.sleep.ensures.rests)) refl

pub returns-in_err-sleep-clause-notes : goal.returns-in_err-sleep-clause-notes
returns-in_err-sleep-clause-notes g c =
    let p = err_from_is_err_and c.from_residual.result c.from_residual.ensures.1 in
    rw (p.1, p.2) ([], g.met.W.Store.apart _ _ c.sleep.ensures.rests, λ text is. signalled _ text _ c.in_err-sleep.ensures.goes.0)

pub returns-in_err-sleep-clause-admits : goal.returns-in_err-sleep-clause-admits
returns-in_err-sleep-clause-admits g c = g.met.W.Store.admits_still _ _ _ c.sleep.ensures.rests c.requires.admits

pub returns-in_err-sleep-clause-user : goal.returns-in_err-sleep-clause-user
returns-in_err-sleep-clause-user g c = same_user _ _ (g.W.Store.view c.args.pass.now) (g.W.Store.view c.args.pass.now) (g.met.W.Store.stays _ _ _ (g.met.W.Store.apart _ _ c.sleep.ensures.rests)) refl
