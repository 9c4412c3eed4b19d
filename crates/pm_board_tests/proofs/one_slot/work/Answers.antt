use Rattle.std.{proofs.Common.{refl, sym, ap, subst}, specs.Prelude.false}
use Rattle.pm_board.specs.Told.{MayEnd}
use Rattle.pm_board_tests.proofs.one_slot.work.Goals as goal

pub loop-preserved : goal.loop-preserved
loop-preserved g c =
    let met = c.in-Job.ensures.met.1 in
    let may = subst (λ w. MayEnd w met.0 false) (sym (ap (λ p. p.work) met.5)) (refl, refl) in
    (tt, tt, ap (λ p. p.work) (c.exit.ensures.knows met.0 false may))
