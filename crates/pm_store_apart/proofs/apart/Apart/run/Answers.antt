use Rattle.std.proofs.Common.{Ok, subst}
use Rattle.pm_store_apart.{specs.{declared.{commit.Begun.Begun, commits.Commits.TheVariants.Staged}, Begun.HasBegun}, proofs.WaitingLaws.never_both}
use Rattle.pm_store_apart.proofs.apart.Apart.run.Goals as goal

pub unreachable-requires : goal.unreachable-requires
unreachable-requires g c =
    let is = subst (λ (begun : Begun). HasBegun Staged c.args.self.now c.begin.new.self c.args.pass.now c.begin.new.pass c.args.script.now (Ok begun)) c.in-Commits.is c.in_ok-begun.ensures.begun in
    never_both is.2
