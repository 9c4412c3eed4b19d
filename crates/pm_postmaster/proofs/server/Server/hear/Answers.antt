use Rattle.std.proofs.lemmas.Result.{err_from_is_err_and}
use Rattle.pm_postmaster.proofs.server.Server.hear.Goals as goal

pub heed-requires-clause-read : goal.heed-requires-clause-read
heed-requires-clause-read g c = record {
  line = _;
  lines = _;
  given = rw c.in-Line.is at c.next.ensures.lines;
  asked = c.read_request.ensures;
  alive = c.requires.alive;
}

pub returns-in_err-heed-in-Line-clause-goes : goal.returns-in_err-heed-in-Line-clause-goes
returns-in_err-heed-in-Line-clause-goes g c =
    let p = err_from_is_err_and c.from_residual.result c.from_residual.ensures.1 in
    rw (p.1, p.2) (c.in_err-heed-in-Line.ensures.heeds _ _ (rw c.in-Line.is at c.next.ensures.lines) c.read_request.ensures)

pub returns-in_ok-heed-in-Line-clause-goes : goal.returns-in_ok-heed-in-Line-clause-goes
returns-in_ok-heed-in-Line-clause-goes g c =
    c.in_ok-heed-in-Line.ensures.heeds _ _ (rw c.in-Line.is at c.next.ensures.lines) c.read_request.ensures
