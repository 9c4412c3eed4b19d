use Rattle.pm_board_tests.proofs.GateBoards as boards
use Rattle.pm_board_tests.proofs.gate.crowd.all_generations.Goals as goal

pub reap_all-requires-clause-children : goal.reap_all-requires-clause-children
reap_all-requires-clause-children g c = boards.stepped _ _ _ _ _ _ c.fill.ensures.children c.open.ensures
