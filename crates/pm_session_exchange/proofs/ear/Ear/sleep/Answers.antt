use Rattle.std.proofs.{Common.{◌≡◌, ◌∙◌, false, sym, rules}, lemmas.Result.err_from_is_err_and}
use Rattle.pm_child_life.{specs.Life.Cancel, proofs.AttentionLaws.{hears_none, hears_both, hears_fewer, no_more_none, no_more_then}}
use Rattle.pm_session_exchange.proofs.Signals.{cancel_since}
use Rattle.pm_session_exchange.proofs.ear.Ear.sleep.Goals as goal

pub loop-init : goal.loop-init
loop-init g c = record { hears = hears_none _; uncancelled = no_more_none Cancel _; rests = g.met.W.Life.stands_still _ }

pub returns-in_err-heed : goal.returns-in_err-heed
returns-in_err-heed g c =
    let p = err_from_is_err_and c.from_residual.result c.from_residual.ensures.1 in
    record { goes = rw (p.1, p.2) c.in_err-heed.ensures.stops; hears = hears_both 0 1 _ _ _ c.loop.invariant.hears c.heed.ensures.hears; rests = g.met.W.Life.rests_on _ _ _ c.loop.invariant.rests c.heed.ensures.rests }

pub returns-then-is_cancelled : goal.returns-then-is_cancelled
returns-then-is_cancelled g c =
    let heard = hears_both 0 1 _ _ _ c.loop.invariant.hears c.heed.ensures.hears in
    record { goes = cancel_since _ _ 1 c.requires.idle heard (sym c.is_cancelled.ensures ∙ c.if-is_cancelled.true); hears = heard; rests = g.met.W.Life.rests_on _ _ _ c.loop.invariant.rests c.heed.ensures.rests }

pub returns-then-end-now-clause-hears : goal.returns-then-end-now-clause-hears
returns-then-end-now-clause-hears g c = hears_both 0 1 _ _ _ c.loop.invariant.hears c.heed.ensures.hears

pub returns-then-end-now-clause-goes : goal.returns-then-end-now-clause-goes
returns-then-end-now-clause-goes g c =
    let none : c.heed.new.self.child.standing.cancel ≡ false = search rules in
    (search rules, no_more_then Cancel _ _ _ c.loop.invariant.uncancelled (c.heed.ensures.cancel none))

pub loop-preserved : goal.loop-preserved
loop-preserved g c =
    let none : c.heed.new.self.child.standing.cancel ≡ false = search rules in
    record {
      hears = hears_fewer 0 1 _ _ (hears_both 0 1 _ _ _ c.loop.invariant.hears c.heed.ensures.hears);
      uncancelled = no_more_then Cancel _ _ _ c.loop.invariant.uncancelled (c.heed.ensures.cancel none);
      rests = g.met.W.Life.rests_on _ _ _ c.loop.invariant.rests c.heed.ensures.rests;
    }

pub returns-then-end-now-clause-rests : goal.returns-then-end-now-clause-rests
returns-then-end-now-clause-rests g c = g.met.W.Life.rests_on _ _ _ c.loop.invariant.rests c.heed.ensures.rests
