use Rattle.pm_wire.specs.pm_facts.Lists.{rest_of}
use Rattle.pm_client.proofs.Links.{sent_more, sent_on, wrote, wrote_nothing_yet}
use Rattle.pm_client.proofs.exchange.send.Goals as goal

pub loop-rest-preserved : goal.loop-rest-preserved
loop-rest-preserved g c = record {
  sent = sent_on _ _ _ _ _ c.loop-rest.invariant.sent (wrote_nothing_yet _ _ c.loop-rest.rest.now c.in-NotYet.ensures.traffic c.in-NotYet.ensures.cause.later);
}

pub loop-rest-preserved-in-Count : goal.loop-rest-preserved-in-Count
loop-rest-preserved-in-Count g c = record {
  sent = sent_more _ _ _ c.in-Count.count _ _ _ (rest_of c.loop-rest.rest.now c.in-Count.count) c.loop-rest.invariant.sent (wrote _ _ c.in-Count.count c.loop-rest.rest.now c.in-Count.ensures.traffic c.in-Count.ensures.cause.later);
}
