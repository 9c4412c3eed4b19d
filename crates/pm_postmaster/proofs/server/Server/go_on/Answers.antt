use Rattle.std.proofs.lemmas.Result.{err_from_is_err_and}
use Rattle.pm_postmaster.proofs.Going.{alive_on, both_done, stops_on}
use Rattle.pm_postmaster.proofs.server.Server.go_on.Goals as goal

pub settle-requires-clause-alive : goal.settle-requires-clause-alive
settle-requires-clause-alive g c =
    alive_on g.C.Clock.gives _ _ c.in_ok-tick.ensures.goes c.requires.alive

pub returns-in_err-killed-clause-goes : goal.returns-in_err-killed-clause-goes
returns-in_err-killed-clause-goes g c =
    let p = err_from_is_err_and c.from_residual-in_err-killed.result c.from_residual-in_err-killed.ensures.1 in
    rw (p.1, p.2) (stops_on g.C.Clock.gives _ _ _ _ (c.in_ok-tick.ensures.goes) c.in_err-killed.ensures.goes)

pub step-requires-clause-alive : goal.step-requires-clause-alive
step-requires-clause-alive g c =
    alive_on g.C.Clock.gives _ _ c.in_ok-killed.ensures.goes (alive_on g.C.Clock.gives _ _ c.in_ok-tick.ensures.goes c.requires.alive)

pub returns-in_err-step-clause-goes : goal.returns-in_err-step-clause-goes
returns-in_err-step-clause-goes g c =
    let p = err_from_is_err_and c.from_residual-in_err-step.result c.from_residual-in_err-step.ensures.1 in
    rw (p.1, p.2) (stops_on g.C.Clock.gives _ _ _ _ (both_done g.C.Clock.gives _ _ _ c.in_ok-tick.ensures.goes c.in_ok-killed.ensures.goes) c.in_err-step.ensures.goes)

pub returns-in_err-step-clause-reaped : goal.returns-in_err-step-clause-reaped
returns-in_err-step-clause-reaped g c =
    λ n were. c.in_err-step.ensures.reaped n (c.in_ok-killed.ensures.reaped n (c.in_ok-tick.ensures.reaped n were))

pub settle-requires-2-clause-alive : goal.settle-requires-2-clause-alive
settle-requires-2-clause-alive g c =
    alive_on g.C.Clock.gives _ _ c.in_ok-step.ensures.goes (alive_on g.C.Clock.gives _ _ c.in_ok-killed.ensures.goes (alive_on g.C.Clock.gives _ _ c.in_ok-tick.ensures.goes c.requires.alive))

pub returns-in_err-done-clause-goes : goal.returns-in_err-done-clause-goes
returns-in_err-done-clause-goes g c =
    let p = err_from_is_err_and c.from_residual-in_err-done.result c.from_residual-in_err-done.ensures.1 in
    rw (p.1, p.2) (stops_on g.C.Clock.gives _ _ _ _ (both_done g.C.Clock.gives _ _ _ (both_done g.C.Clock.gives _ _ _ c.in_ok-tick.ensures.goes c.in_ok-killed.ensures.goes) c.in_ok-step.ensures.goes) c.in_err-done.ensures.goes)

pub returns-in_err-done-clause-reaped : goal.returns-in_err-done-clause-reaped
returns-in_err-done-clause-reaped g c =
    λ n were. c.in_err-done.ensures.reaped n (c.in_ok-step.ensures.reaped n (c.in_ok-killed.ensures.reaped n (c.in_ok-tick.ensures.reaped n were)))

pub returns-then-killed-clause-goes : goal.returns-then-killed-clause-goes
returns-then-killed-clause-goes g c =
    λ outset was. c.in_ok-done.ensures.goes outset (c.in_ok-step.ensures.goes outset (c.in_ok-killed.ensures.goes outset (c.in_ok-tick.ensures.goes outset was)))

pub returns-then-killed-clause-reaped : goal.returns-then-killed-clause-reaped
returns-then-killed-clause-reaped g c =
    λ n were. c.in_ok-done.ensures.reaped n (c.in_ok-step.ensures.reaped n (c.in_ok-killed.ensures.reaped n (c.in_ok-tick.ensures.reaped n were)))

pub returns-else-killed-clause-goes : goal.returns-else-killed-clause-goes
returns-else-killed-clause-goes g c =
    λ outset was. c.in_ok-done.ensures.goes outset (c.in_ok-step.ensures.goes outset (c.in_ok-killed.ensures.goes outset (c.in_ok-tick.ensures.goes outset was)))

pub returns-else-killed-clause-reaped : goal.returns-else-killed-clause-reaped
returns-else-killed-clause-reaped g c =
    λ n were. c.in_ok-done.ensures.reaped n (c.in_ok-step.ensures.reaped n (c.in_ok-killed.ensures.reaped n (c.in_ok-tick.ensures.reaped n were)))
