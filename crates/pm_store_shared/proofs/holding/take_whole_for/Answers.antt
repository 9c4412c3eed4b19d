use Rattle.pm_store_shared.{specs.Stands.{Knows, Stands}, proofs.{Moving.for_whole, Unchanged.{may_rest, took_for}}}
use Rattle.pm_store_shared.proofs.holding.take_whole_for.Goals as goal

pub for_pass-result-requires-clause-may : goal.for_pass-result-requires-clause-may
for_pass-result-requires-clause-may g c =
    let t = c.take_whole-place.ensures.taken in may_rest Stands Knows _ _ _ _ t.0 c.take_whole-place.result _ _ _ c.requires.seat.1 t.1 t.2

pub returns-then-is_err-clause-taken : goal.returns-then-is_err-clause-taken
returns-then-is_err-clause-taken g c =
    let t = c.take_whole-place.ensures.taken in took_for Stands Knows (λ place. place.apart.generation) c.args.pass.now c.for_pass-result.result t.0 c.take_whole-place.result c.args.seat.now.me c.take_whole-place.new.seat.me c.for_pass-result.new.seat.me t.1 t.2 c.for_pass-result.ensures.taken

pub returns-then-is_err-clause-whole : goal.returns-then-is_err-clause-whole
returns-then-is_err-clause-whole g c = for_whole (λ place. place.apart.generation) c.args.pass.now c.take_whole-place.result c.take_whole-place.new.seat.me c.for_pass-result.result c.for_pass-result.new.seat.me c.for_pass-result.ensures.taken c.take_whole-place.ensures.whole

pub returns-else-is_err-clause-taken : goal.returns-else-is_err-clause-taken
returns-else-is_err-clause-taken g c =
    let t = c.take_whole-place.ensures.taken in took_for Stands Knows (λ place. place.apart.generation) c.args.pass.now c.for_pass-result.result t.0 c.take_whole-place.result c.args.seat.now.me c.take_whole-place.new.seat.me c.for_pass-result.new.seat.me t.1 t.2 c.for_pass-result.ensures.taken

pub returns-else-is_err-clause-whole : goal.returns-else-is_err-clause-whole
returns-else-is_err-clause-whole g c = for_whole (λ place. place.apart.generation) c.args.pass.now c.take_whole-place.result c.take_whole-place.new.seat.me c.for_pass-result.result c.for_pass-result.new.seat.me c.for_pass-result.ensures.taken c.take_whole-place.ensures.whole
