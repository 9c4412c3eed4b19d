use Rattle.std.{proofs.Common.{refl, sym, ap, ◌∙◌, subst}, specs.Prelude.false}
use Rattle.pm_board.specs.Told.{MayEnd}
use Rattle.pm_board_tests.proofs.GateBoards as boards
use Rattle.pm_board_tests.proofs.gate.death.leave_both.Goals as goal

pub returns-clause-board : goal.returns-clause-board
returns-clause-board c = boards.stepped _ _ _ _ _ _ c.requires.board c.quit.ensures.knows

pub returns-clause-idle : goal.returns-clause-idle
returns-clause-idle c =
    let runs = c.requires.leaving in
    let still = c.try_once-behind_the_notice.ensures ∙ (c.try_once-behind_its_death.ensures ∙ (c.try_once-beside_it.ensures ∙ runs.1)) in
    let may = subst (λ w. MayEnd w runs.0 false) (sym still) (refl, refl) in
    ap (λ p. p.work) (c.exit-2.ensures.knows runs.0 false may)
