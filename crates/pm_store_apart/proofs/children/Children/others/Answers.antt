use Rattle.std.proofs.Common.{ℕ, List, ap, subst, arith}
use Rattle.pm_store_apart.{specs.Children.{AreOthers, times_in}, proofs.Others.others_whole}
use Rattle.pm_store_apart.proofs.children.Children.others.Goals as goal

pub loop-at-init : goal.loop-at-init
loop-at-init c = λ pid. ap (times_in pid) c.new-others.ensures.items

pub returns : goal.returns
returns c =
    subst (λ (l : List ℕ). AreOthers l c.args.gone.now c.loop-at.others.items) c.self.view_is
    (others_whole c.self.inside.pids.items c.args.gone.now c.loop-at.others.items c.loop-at.at (omega (arith, c.loop-at-test.false, c.len-at-end.ensures)) c.loop-at.invariant)
