use Rattle.pm_board_tests.proofs.GatePosts as posts
use Rattle.pm_board_tests.proofs.gate.worker.serve.Goals as goal

pub returns-then-is_done : goal.returns-then-is_done
returns-then-is_done g c = let runs = c.in-Some-go_once.ensures.stays in posts.exits _ _ runs.0 _ _ runs.1 c.exit.ensures.knows
