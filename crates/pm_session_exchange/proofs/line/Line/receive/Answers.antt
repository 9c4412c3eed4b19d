use Rattle.std.proofs.Common.{refl}
use Rattle.pm_child_life.proofs.AttentionLaws.{hears_none, hears_both, hears_fewer}
use Rattle.pm_session_exchange.proofs.{MomentLaws.shows_since, LinkLaws.passes_none, Links.{received_then, nothing_then}}
use Rattle.pm_session_exchange.proofs.line.Line.receive.Goals as goal

pub loop-init : goal.loop-init
loop-init g c = record { came = record { unread = refl; passes = passes_none _ }; sound = λ sound. sound; hears = hears_none _; rests = g.met.W.Life.stands_still _ }

pub loop-preserved : goal.loop-preserved
loop-preserved g c =
    let looked = rw c.in-Ok-false.field-0-test at c.in-Ok-false.ensures.came in
    record {
      came = nothing_then _ _ _ _ _ _ c.loop.invariant.came looked.0;
      sound = λ sound. c.in-Ok-false.ensures.holds (c.loop.invariant.sound sound);
      hears = hears_fewer 0 1 _ _ (hears_both 0 1 _ _ _ c.loop.invariant.hears c.look.ensures.hears);
      rests = g.met.W.Life.rests_on _ _ _ c.loop.invariant.rests c.look.ensures.rests;
    }

pub returns-in-Ok-true : goal.returns-in-Ok-true
returns-in-Ok-true g c =
    let looked = rw c.in-Ok-true.field-0-test at c.in-Ok-true.ensures.came in
    record {
      came = received_then _ _ _ _ _ _ c.loop.invariant.came looked;
      hears = hears_both 0 1 _ _ _ c.loop.invariant.hears c.look.ensures.hears;
      rests = g.met.W.Life.rests_on _ _ _ c.loop.invariant.rests c.look.ensures.rests;
      cause = tt;
      holds = λ sound. c.in-Ok-true.ensures.holds (c.loop.invariant.sound sound);
    }

pub returns-in-Err : goal.returns-in-Err
returns-in-Err g c =
    let shows = c.in-Err.ensures.cause in
    record {
      came = nothing_then _ _ _ _ _ _ c.loop.invariant.came c.in-Err.ensures.came;
      hears = hears_both 0 1 _ _ _ c.loop.invariant.hears c.look.ensures.hears;
      rests = g.met.W.Life.rests_on _ _ _ c.loop.invariant.rests c.look.ensures.rests;
      cause = (shows.0, shows_since c.in-Err.cause _ _ _ _ c.loop.invariant.came.passes.later shows.1);
      holds = λ sound. c.in-Err.ensures.holds (c.loop.invariant.sound sound);
    }
