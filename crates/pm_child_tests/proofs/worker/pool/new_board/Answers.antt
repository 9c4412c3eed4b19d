use Rattle.std.{proofs.{Common.{◌≡◌, ap}, lemmas.Result.IfOk-weaker}, specs.Prelude.false}
use Rattle.pm_board.specs.Told.{new_roster}
use Rattle.pm_child_tests.specs.Crew.{IsFresh}
use Rattle.pm_child_tests.proofs.Crews as crews
use Rattle.pm_child_tests.proofs.worker.pool.new_board.Goals as goal

pub returns-clause-roster : goal.returns-clause-roster
returns-clause-roster c =
    IfOk-weaker c.new.result (λ made. made.0.knows ≡ new_roster 47 (record { most = 200; reserved = 0 }) 47) (λ made. IsFresh made.0.knows 0 × (made.0.knows.is_open ≡ false))
    (λ made is. (crews.new_fresh _ _ _ is, ap (λ z. z.is_open) is)) c.new.ensures.roster
