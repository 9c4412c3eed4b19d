use Rattle.std.proofs.Common.{refl}
use Rattle.pm_postmaster.{specs.View.view_of, proofs.{Calling.{IsBeside, leaves, leaves_store, same_past, short}, Steps.ticked_on}}
use Rattle.pm_postmaster.proofs.server.Server.tick.Goals as goal

pub returns-in-Ok-clause-goes : goal.returns-in-Ok-clause-goes
returns-in-Ok-clause-goes g c =
    let beside : IsBeside g.C.Clock.gives (view_of c.args.self.now) _ = record { table = c.tick.ensures.table; shared = refl; clock = refl; log = refl; lost = refl; came = refl; tells = c.tick.ensures.tells } in
    let made = c.in-Ok.ensures.ticks in
    λ outset was.
    ticked_on g.C.Clock.gives outset (view_of c.args.self.now) _ (leaves g.C.Clock.gives _ _ beside) refl refl (refl, λ n has. has)
    (leaves_store g.C.Clock.gives _ _ beside (same_past g.C.Clock.gives _ _ beside made.2)) c.now.result c.now.ensures (record { lines = refl; ended = refl; listens = refl }) c.requires.idle.unowed made.0 made.1 made.2 was

pub returns-in-Err-clause-goes : goal.returns-in-Err-clause-goes
returns-in-Err-clause-goes g c =
    let beside : IsBeside g.C.Clock.gives (view_of c.args.self.now) _ = record { table = c.tick.ensures.table; shared = refl; clock = refl; log = refl; lost = refl; came = refl; tells = c.tick.ensures.tells } in
    let made = c.in-Err.ensures.ticks in
    short g.C.Clock.gives (view_of c.args.self.now) _ beside c.laws.ensures.may_end c.laws.ensures.journal made.0 made.1 made.2 (record { visits = refl; lines = refl; listens = refl })
