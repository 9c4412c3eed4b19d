use Rattle.pm_wire.specs.pm_facts.Lists.{rest_of}
use Rattle.pm_client.proofs.Links.{printed, shown_more}
use Rattle.pm_client.proofs.exchange.show.Goals as goal

pub loop-rest-preserved : goal.loop-rest-preserved
loop-rest-preserved g c = record {
  shown = shown_more _ _ _ c.in-Count.count _ _ _ (rest_of c.loop-rest.rest.now c.in-Count.count) c.loop-rest.invariant.shown (printed _ _ c.in-Count.count c.loop-rest.rest.now c.in-Count.ensures.written c.in-Count.ensures.cause.later);
}
