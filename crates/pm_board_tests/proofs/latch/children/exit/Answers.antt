use Rattle.std.{proofs.Common.{refl, sym, ap, subst}, specs.Prelude.false}
use Rattle.pm_board.specs.Told.{MayEnd}
use Rattle.pm_board_tests.proofs.latch.children.exit.Goals as goal

pub returns : goal.returns
returns c =
    let may = subst (λ w. MayEnd w c.requires.0 false) (sym c.requires.1) (refl, refl) in
    ap (λ p. p.work) (c.exit.ensures.knows c.requires.0 false may)
