use Rattle.std.proofs.Common.{◌+◌, refl, arith}
use Rattle.pm_board_tests.proofs.GateBoards as boards
use Rattle.pm_board_tests.proofs.gate.worker.come.Goals as goal

pub returns-then-not-begin : goal.returns-then-not-begin
returns-then-not-begin c = boards.offered _ _ c.args.place _ (c.args.last_pid + (c.args.place + 1)) _ _ c.requires.board refl (omega arith) c.begin.ensures.roster

pub returns-in-Ok : goal.returns-in-Ok
returns-in-Ok c = boards.offered _ _ c.args.place _ (c.args.last_pid + (c.args.place + 1)) _ _ c.requires.board refl (omega arith) c.begin.ensures.roster

pub returns : goal.returns
returns c = boards.offered _ _ c.args.place _ (c.args.last_pid + (c.args.place + 1)) _ _ c.requires.board refl (omega arith) c.begin.ensures.roster
