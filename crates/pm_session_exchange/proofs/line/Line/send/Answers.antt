use Rattle.std.proofs.Common.{sym, subst}
use Rattle.pm_session_exchange.{specs.{declared.ending.Cause.TheVariants.Killed, Exchange.IsSound}, proofs.{LinkLaws.sound_left, Links.{not_yet_sound, sends_more, sends_on, sent_as, wrote, wrote_nothing_yet, wrote_sound, write_left}}}
use Rattle.pm_child_life.proofs.AttentionLaws.{hears_both, hears_fewer}
use Rattle.pm_query.specs.pm_facts.Lists.{rest_of}
use Rattle.pm_session_exchange.proofs.line.Line.send.Goals as goal

pub loop-rest-preserved : goal.loop-rest-preserved
loop-rest-preserved g c =
    let sent = sent_as _ _ _ _ _ _ _ _ _ c.hurry_where.ensures.traffic c.hurry_where.ensures.number c.hurry_where.ensures.faults c.loop-rest.invariant.sent in
    record {
      sent = sends_on _ _ _ _ _ sent (wrote_nothing_yet _ _ c.loop-rest.rest.now c.in-NotYet.ensures.traffic c.in-NotYet.ensures.number c.in-NotYet.ensures.cause.later);
      hears = hears_fewer 0 1 _ _ (hears_both 0 1 _ _ _ c.loop-rest.invariant.hears c.listen.ensures.hears);
      rests = g.met.W.Life.rests_on _ _ _ c.loop-rest.invariant.rests c.listen.ensures.rests;
      sound = λ ended sound. not_yet_sound ended _ _ c.loop-rest.rest.now c.in-NotYet.ensures.traffic (subst (IsSound ended) (sym c.hurry_where.ensures.traffic) (c.loop-rest.invariant.sound ended sound));
    }

pub loop-rest-preserved-in-Count : goal.loop-rest-preserved-in-Count
loop-rest-preserved-in-Count g c =
    let sent = sent_as _ _ _ _ _ _ _ _ _ c.hurry_where.ensures.traffic c.hurry_where.ensures.number c.hurry_where.ensures.faults c.loop-rest.invariant.sent in
    record {
      sent = sends_more _ _ _ c.in-Count.count _ _ _ (rest_of c.loop-rest.rest.now c.in-Count.count) sent (wrote _ _ c.in-Count.count c.loop-rest.rest.now c.in-Count.ensures.traffic c.in-Count.ensures.number c.in-Count.ensures.cause.later);
      hears = hears_fewer 0 1 _ _ (hears_both 0 1 _ _ _ c.loop-rest.invariant.hears c.listen.ensures.hears);
      rests = g.met.W.Life.rests_on _ _ _ c.loop-rest.invariant.rests c.listen.ensures.rests;
      sound = λ ended sound. wrote_sound ended _ _ c.in-Count.count c.loop-rest.rest.now c.in-Count.ensures.traffic (subst (IsSound ended) (sym c.hurry_where.ensures.traffic) (c.loop-rest.invariant.sound ended sound));
    }

pub returns-then-is_killed-clause-holds : goal.returns-then-is_killed-clause-holds
returns-then-is_killed-clause-holds g c = λ ended sound. sound_left ended Killed _ (c.loop-rest.invariant.sound ended sound)

pub returns-in-Failed-clause-holds : goal.returns-in-Failed-clause-holds
returns-in-Failed-clause-holds g c = λ ended sound.
    write_left ended _ _ c.loop-rest.rest.now c.in-Failed.ensures.traffic (subst (IsSound ended) (sym c.hurry_where.ensures.traffic) (c.loop-rest.invariant.sound ended sound))

pub returns-then-is_killed-clause-hears : goal.returns-then-is_killed-clause-hears
returns-then-is_killed-clause-hears g c = hears_fewer 0 1 _ _ (hears_both 0 1 _ _ _ c.loop-rest.invariant.hears c.listen.ensures.hears)

pub returns-in-Failed-clause-hears : goal.returns-in-Failed-clause-hears
returns-in-Failed-clause-hears g c = hears_fewer 0 1 _ _ (hears_both 0 1 _ _ _ c.loop-rest.invariant.hears c.listen.ensures.hears)

pub returns-then-is_killed-clause-rests : goal.returns-then-is_killed-clause-rests
returns-then-is_killed-clause-rests g c = g.met.W.Life.rests_on _ _ _ c.loop-rest.invariant.rests c.listen.ensures.rests

pub returns-in-Failed-clause-rests : goal.returns-in-Failed-clause-rests
returns-in-Failed-clause-rests g c = g.met.W.Life.rests_on _ _ _ c.loop-rest.invariant.rests c.listen.ensures.rests
