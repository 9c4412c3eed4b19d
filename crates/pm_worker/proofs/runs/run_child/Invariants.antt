use Rattle.std.proofs.Common.{Some}
use Rattle.pm_board_life.specs.Lives.{beginning}
use Rattle.pm_worker.proofs.runs.run_child.Given as goal

abbrev pub ghosts-serve_one : goal.ghosts-serve_one
ghosts-serve_one g a = record { begun = Some (beginning a.post a.tools.now.seed) }

abbrev pub ghosts-tend_one : goal.ghosts-tend_one
ghosts-tend_one g a = record { begun = Some (beginning a.post a.tools.now.seed) }
