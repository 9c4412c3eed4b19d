use Rattle.std.proofs.lemmas.Result.{err_from_is_err_and}
use Rattle.pm_postmaster.{specs.View.view_of, proofs.Going.{alive_on, none_done, stops_on}}
use Rattle.pm_postmaster.proofs.server.Server.read_line.Goals as goal

pub returns-then-not-self-clause-goes : goal.returns-then-not-self-clause-goes
returns-then-not-self-clause-goes g c =
    none_done g.C.Clock.gives (view_of c.args.self.now)

pub settle-requires-clause-alive : goal.settle-requires-clause-alive
settle-requires-clause-alive g c =
    alive_on g.C.Clock.gives _ _ c.in_ok-hear.ensures.goes c.requires.alive

pub returns-in_err-settle-clause-goes : goal.returns-in_err-settle-clause-goes
returns-in_err-settle-clause-goes g c =
    let p = err_from_is_err_and c.from_residual-in_err-settle.result c.from_residual-in_err-settle.ensures.1 in
    rw (p.1, p.2) (stops_on g.C.Clock.gives _ _ _ _ (c.in_ok-hear.ensures.goes) c.in_err-settle.ensures.goes)

pub returns-clause-goes : goal.returns-clause-goes
returns-clause-goes g c =
    λ outset was. c.in_ok-settle.ensures.goes outset (c.in_ok-hear.ensures.goes outset was)
