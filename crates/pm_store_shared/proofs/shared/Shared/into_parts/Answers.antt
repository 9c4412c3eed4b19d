use Rattle.pm_store_shared.{specs.{Log.IsShuffle, Places.EachOnce, Told.{AllContinue, known_by, owns, pasts}}, proofs.Ending.ends}
use Rattle.pm_store_shared.proofs.shared.Shared.into_parts.Goals as goal

pub returns : goal.returns
returns g c =
    ends (λ first log. IsShuffle c.args.self.tokens (owns (known_by c.args.tokens)) c.args.self.own log) (λ first log. EachOnce (owns (known_by c.args.tokens)) c.args.self.own log)
    (λ first log. AllContinue (pasts (known_by c.args.tokens)) log)
    c.args.self.first c.into_store-store.result c.into_parts.result.0 c.into_parts.result.1 c.into_store-store.ensures.behind c.keeps_its_run.ensures.replay c.keeps_its_run.ensures.run c.into_parts.ensures.0 c.into_parts.ensures.1
