use Rattle.std.proofs.Common.{arith}
use Rattle.pm_board_tests.proofs.GateBoards as boards
use Rattle.pm_board_tests.proofs.gate.death.begin_both.Goals as goal

pub returns-clause-board : goal.returns-clause-board
returns-clause-board c _ =
    let none = boards.empty_at 3 0 _ (boards.empty_new _ c.requires.board.0) in
    let one = boards.begun 3 3 0 1 _ _ none (omega arith) c.begin.ensures.roster in
    let two = boards.begun 3 4 1 2 _ _ one (omega arith) c.begin-2.ensures.roster in
    boards.stepped _ _ _ _ _ _ two c.ready.ensures.knows
