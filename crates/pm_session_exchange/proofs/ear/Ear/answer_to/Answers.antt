use Rattle.std.proofs.Common.{ℕ, List, [], subst, sym}
use Rattle.pm_session_exchange.{specs.{Queries.{Sleeps, TurnNotes}, Answers.turn_of}, proofs.{Attentions.hears_dropped, Sleeping.{fit_as, unnoted, sleeps_unnoted, all_spelled}}}
use Rattle.pm_child_life.proofs.AttentionLaws.{hears_both}
use Rattle.pm_session_exchange.proofs.ear.Ear.answer_to.Goals as goal

pub returns-in-Err-clause-fit : goal.returns-in-Err-clause-fit
returns-in-Err-clause-fit g c = fit_as _ _ _ c.in-Ok.ensures.cases.0 c.faulted.ensures.fit _ _

pub returns-in_default-clause-hears : goal.returns-in_default-clause-hears
returns-in_default-clause-hears g c = rw c.drop_cancel.ensures.child (hears_dropped _ _ _)

pub returns-in-Err-clause-hears : goal.returns-in-Err-clause-hears
returns-in-Err-clause-hears g c = rw c.drop_cancel.ensures.child (hears_dropped _ _ _)

pub returns-in-Ok-parse-clause-hears : goal.returns-in-Ok-parse-clause-hears
returns-in-Ok-parse-clause-hears g c = hears_both 0 0 _ _ _ (hears_dropped _ _ _) (rw c.drop_cancel.ensures.child at c.script_answer.ensures.hears)

pub returns-in-Err-clause-slept : goal.returns-in-Err-clause-slept
returns-in-Err-clause-slept g c =
    subst (λ (bytes : List ℕ). Sleeps (g.C.Clock.gives c.args.means.now.clock.now) bytes (turn_of c.faulted.result)) c.in-Ok.ensures.cases.0 (sleeps_unnoted _ 0 _ _ (c.faulted.ensures.notes 0))

pub returns-in-Ok-parse-clause-slept : goal.returns-in-Ok-parse-clause-slept
returns-in-Ok-parse-clause-slept g c = all_spelled _ _ _ c.in-Ok-parse.script c.script_answer.result c.in-Ok.ensures.cases.0 c.in-Ok-parse.ensures.script c.script_answer.ensures.slept

pub returns-in-Err-clause-uncancelled : goal.returns-in-Err-clause-uncancelled
returns-in-Err-clause-uncancelled g c = λ whole. absurd (unnoted 0 _ _ (c.faulted.ensures.notes 0) whole)

pub returns-in-Ok-parse-clause-uncancelled : goal.returns-in-Ok-parse-clause-uncancelled
returns-in-Ok-parse-clause-uncancelled g c = rw c.drop_cancel.ensures.child at c.script_answer.ensures.uncancelled

pub returns-in-Err-clause-notes : goal.returns-in-Err-clause-notes
returns-in-Err-clause-notes g c =
    let rests = subst (λ work. g.W.Store.notes [] c.args.self.now.work work) (sym c.drop_cancel.ensures.work) (g.met.W.Store.at_rest c.args.self.now.work) in (
      [],
      rests,
      subst (λ (bytes : List ℕ). TurnNotes (g.W.Store.view c.args.pass.now).pid bytes (turn_of c.faulted.result) []) c.in-Ok.ensures.cases.0 (c.faulted.ensures.notes (g.W.Store.view c.args.pass.now).pid),
    )
