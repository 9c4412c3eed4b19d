use Rattle.std.proofs.Common.{ap, sym, ◌∙◌, subst, arith, ◌<◌}
use Rattle.pm_board_tests.proofs.GateBoards as boards
use Rattle.pm_board_tests.proofs.gate.death.release_both.Goals as goal

pub reset-next-requires-clause-may : goal.reset-next-requires-clause-may
reset-next-requires-clause-may c =
    let one = boards.left 3 5 2 _ _ c.requires.board (omega arith) c.in_ok-first.ensures in
    let none = boards.left 4 5 2 _ _ one (omega arith) c.in_ok-second.ensures in
    let same = ap (λ g. g.generation) (c.in_ok-second.ensures.0.gate ∙ c.in_ok-first.ensures.0.gate) ∙ c.requires.gate in
    boards.may_reset _ 2 (boards.empty_of 5 2 _ none) (subst (λ n. n < 4294967295) (sym same) (omega arith))
