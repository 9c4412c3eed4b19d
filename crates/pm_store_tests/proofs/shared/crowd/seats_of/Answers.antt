use Rattle.std.proofs.Common.{sym, subst}
use Rattle.pm_store_tests.{specs.Seats.AreParted, proofs.Parts.{goes_out, none_out}}
use Rattle.pm_store_tests.proofs.shared.crowd.seats_of.Goals as goal

pub loop-token-init : goal.loop-token-init
loop-token-init c = subst (AreParted c.args.shared.now.table c.args.shared.now.tokens c.args.tokens.now) (sym c.new-seats.ensures.items) (none_out _ _ _ c.requires)

pub loop-token-preserved : goal.loop-token-preserved
loop-token-preserved c = goes_out _ _ _ _ _ _ _ c.in-Some.ensures c.in_ok-push.ensures.items c.loop-token.invariant
