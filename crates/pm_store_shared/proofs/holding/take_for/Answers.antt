use Rattle.pm_store_shared.{specs.Stands.{Knows, Stands}, proofs.Unchanged.{may_rest, took_for}}
use Rattle.pm_store_shared.proofs.holding.take_for.Goals as goal

pub for_pass-requires-clause-may : goal.for_pass-requires-clause-may
for_pass-requires-clause-may g c =
    let t = c.take-place.ensures.taken in may_rest Stands Knows _ _ _ _ t.0 c.take-place.result _ _ _ c.requires.seat.1 t.1 t.2

pub returns-clause-taken : goal.returns-clause-taken
returns-clause-taken g c =
    let t = c.take-place.ensures.taken in took_for Stands Knows (λ place. place.apart.generation) c.args.pass.now c.for_pass.result t.0 c.take-place.result c.args.seat.now.me c.take-place.new.seat.me c.for_pass.new.seat.me t.1 t.2 c.for_pass.ensures.taken
