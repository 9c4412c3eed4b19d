-- What the promises don't let through.
use Rattle.std.proofs.Common.{◌≤◌, List, [], ◌∷◌, ap, arith}
use Rattle.pm_server.specs.pm_rows.{Standing.Standing, declared.commit.Change.Change}
use Rattle.pm_session_answers.specs.{pm_query.{Answer.commit_of, History.number}, Replies.with_changes}
use Rattle.pm_promises.specs.Laws.{NoneBeyond}

grows : (changes : List Change) (s : Standing) → s.count ≤ (with_changes changes s).count
grows [] s = omega arith
grows (change ∷ changes) s = omega arith

pub none_beyond : NoneBeyond
none_beyond history seen text reply above (front, right, rest) =
    omega (
      arith,
      above,
      right.no_older,
      right.released,
      ap (λ (s : Standing). s.count) right.commit_is,
      grows (commit_of (number history right.n).rows right.script) (number history right.n),
    )
