use Rattle.std.proofs.Common.{◌∙◌, ◌++◌, [], ℕ, List, ap, append_assoc}
use Rattle.pm_child_life.proofs.AttentionLaws.{hears_both, hears_fewer}
use Rattle.pm_session_exchange.proofs.LinkLaws.{passes_both}
use Rattle.pm_session_exchange.proofs.line.Line.await_bytes.Goals as goal

pub returns-in-Err-clause-hears : goal.returns-in-Err-clause-hears
returns-in-Err-clause-hears g c = hears_fewer 0 1 _ _ (hears_both 0 1 _ _ _ c.loop-self.invariant.hears c.receive.ensures.hears)

pub loop-self-preserved : goal.loop-self-preserved
loop-self-preserved g c =
    let before = c.loop-self.invariant.came in
    let more = c.in_default.ensures.came in
    record {
      came = (
        before.0 ++ more.came,
        more.unread ∙ ap (λ (l : List ℕ). l ++ more.came) before.1 ∙ append_assoc _ before.0 more.came,
        passes_both before.0 [] more.came [] _ _ _ before.2 more.passes,
      );
      sound = λ sound. c.in_default.ensures.holds (c.loop-self.invariant.sound sound);
      hears = hears_fewer 0 1 _ _ (hears_both 0 1 _ _ _ c.loop-self.invariant.hears c.receive.ensures.hears);
      rests = g.met.W.Life.rests_on _ _ _ c.loop-self.invariant.rests c.receive.ensures.rests;
    }

pub returns-in-Err-clause-holds : goal.returns-in-Err-clause-holds
returns-in-Err-clause-holds g c = λ sound. c.in-Err.ensures.holds (c.loop-self.invariant.sound sound)

pub returns-in-Err-clause-rests : goal.returns-in-Err-clause-rests
returns-in-Err-clause-rests g c = g.met.W.Life.rests_on _ _ _ c.loop-self.invariant.rests c.receive.ensures.rests
