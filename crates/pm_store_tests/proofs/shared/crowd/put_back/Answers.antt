use Rattle.pm_store_tests.proofs.Parts.{comes_back}
use Rattle.pm_store_tests.proofs.shared.crowd.put_back.Goals as goal

pub loop-token-preserved : goal.loop-token-preserved
loop-token-preserved c = comes_back _ _ _ _ _ _ _ c.in-Some.ensures.items c.in_ok-put.ensures c.loop-token.invariant
