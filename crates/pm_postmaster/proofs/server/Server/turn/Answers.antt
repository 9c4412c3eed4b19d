use Rattle.std.proofs.{Common.{◌<◌, ◌∙◌, subst, sym}, lemmas.Result.err_from_is_err_and}
use Rattle.pm_postmaster.{specs.View.view_of, proofs.{Cleared.as_many_seats, Going.{alive_on, both_done, slots_kept, stops_on}}}
use Rattle.pm_postmaster.proofs.server.Server.turn.Goals as goal

pub read_line-requires-clause-alive : goal.read_line-requires-clause-alive
read_line-requires-clause-alive g c =
    alive_on g.C.Clock.gives _ _ c.in_ok-ended.ensures.goes c.requires.alive

pub returns-in_err-read-clause-goes : goal.returns-in_err-read-clause-goes
returns-in_err-read-clause-goes g c =
    let p = err_from_is_err_and c.from_residual-in_err-read.result c.from_residual-in_err-read.ensures.1 in
    rw (p.1, p.2) (stops_on g.C.Clock.gives _ _ _ _ (c.in_ok-ended.ensures.goes) c.in_err-read.ensures.goes)

pub go_on-requires-clause-alive : goal.go_on-requires-clause-alive
go_on-requires-clause-alive g c =
    alive_on g.C.Clock.gives _ _ c.in_ok-read.ensures.goes (alive_on g.C.Clock.gives _ _ c.in_ok-ended.ensures.goes c.requires.alive)

pub returns-in_err-acted-clause-goes : goal.returns-in_err-acted-clause-goes
returns-in_err-acted-clause-goes g c =
    let p = err_from_is_err_and c.from_residual-in_err-acted.result c.from_residual-in_err-acted.ensures.1 in
    rw (p.1, p.2) (stops_on g.C.Clock.gives _ _ _ _ (both_done g.C.Clock.gives _ _ _ c.in_ok-ended.ensures.goes c.in_ok-read.ensures.goes) c.in_err-acted.ensures.goes)

pub accept-requires-clause-alive : goal.accept-requires-clause-alive
accept-requires-clause-alive g c =
    alive_on g.C.Clock.gives _ _ c.in_ok-acted.ensures.goes (alive_on g.C.Clock.gives _ _ c.in_ok-read.ensures.goes (alive_on g.C.Clock.gives _ _ c.in_ok-ended.ensures.goes c.requires.alive))

pub accept-requires-clause-reaped : goal.accept-requires-clause-reaped
accept-requires-clause-reaped g c =
    λ k near.
    c.in_ok-acted.ensures.reaped _ (c.in_ok-read.ensures.reaped _ c.in_ok-ended.ensures.reaped) k
    (subst (λ n. k < n) (slots_kept g.C.Clock.gives (view_of c.args.self.now) _ (both_done g.C.Clock.gives _ _ _ (both_done g.C.Clock.gives _ _ _ c.in_ok-ended.ensures.goes c.in_ok-read.ensures.goes) c.in_ok-acted.ensures.goes) c.requires.alive
    ∙ sym (as_many_seats (view_of c.args.self.now).board)) near)

pub returns-in_err-accepted-clause-goes : goal.returns-in_err-accepted-clause-goes
returns-in_err-accepted-clause-goes g c =
    let p = err_from_is_err_and c.from_residual-in_err-accepted.result c.from_residual-in_err-accepted.ensures.1 in
    rw (p.1, p.2) (stops_on g.C.Clock.gives _ _ _ _ (both_done g.C.Clock.gives _ _ _ (both_done g.C.Clock.gives _ _ _ c.in_ok-ended.ensures.goes c.in_ok-read.ensures.goes) c.in_ok-acted.ensures.goes) c.in_err-accepted.ensures.goes)

pub returns-then-acted-clause-goes : goal.returns-then-acted-clause-goes
returns-then-acted-clause-goes g c =
    λ outset was. c.in_ok-accepted.ensures.goes outset (c.in_ok-acted.ensures.goes outset (c.in_ok-read.ensures.goes outset (c.in_ok-ended.ensures.goes outset was)))

pub returns-else-acted-clause-goes : goal.returns-else-acted-clause-goes
returns-else-acted-clause-goes g c =
    λ outset was. c.in_ok-accepted.ensures.goes outset (c.in_ok-acted.ensures.goes outset (c.in_ok-read.ensures.goes outset (c.in_ok-ended.ensures.goes outset was)))
