use Rattle.std.proofs.Common.{◌∙◌, ap, refl}
use Rattle.pm_board_acts.specs.{pm_supervisor_journal.{Standing.Standing, Supervision.at_work}, Seating.Kill}
use Rattle.pm_postmaster.{specs.View.view_of, proofs.{Asked.owes_same, Calling.{IsBeside, asks_line, leaves, leaves_store, short_line}, Steps.killed_on}}
use Rattle.pm_postmaster.proofs.server.Server.kill.Goals as goal

pub returns-in-Ok-clause-heeds : goal.returns-in-Ok-clause-heeds
returns-in-Ok-clause-heeds g c = λ line lines given asked.
    let v = view_of c.args.self.now in
    let before = record v { lines = lines } in
    let now = record v { work = at_work c.kill.new.self.supervision; table = c.kill.new.self.roster.table; board = c.kill.new.self.roster.knows } in
    let at = v.work.standing.moment in
    let beside : IsBeside g.C.Clock.gives before now = record { table = c.kill.ensures.table; shared = refl; clock = refl; log = refl; lost = refl; came = refl; tells = c.kill.ensures.tells } in
    λ outset was.
    killed_on g.C.Clock.gives outset before now (leaves g.C.Clock.gives _ _ beside) refl refl (refl, λ n has. has) (leaves_store g.C.Clock.gives _ _ beside c.kill.ensures.past)
    line c.args.pid at (asks_line g.C.Clock.gives outset now v line lines (Kill c.args.pid) at given asked (record { lines = refl; ended = refl; listens = refl }) (owes_same _ _ c.kill.ensures.standing))
    (c.in-Ok.ensures.kills line at) c.kill.ensures.standing c.kill.ensures.slots c.kill.ensures.limit was

pub returns-in-Err-clause-heeds : goal.returns-in-Err-clause-heeds
returns-in-Err-clause-heeds g c = λ line lines given asked.
    let v = view_of c.args.self.now in
    let before = record v { lines = lines } in
    let now = record v { work = at_work c.kill.new.self.supervision; table = c.kill.new.self.roster.table; board = c.kill.new.self.roster.knows } in
    let beside : IsBeside g.C.Clock.gives before now = record { table = c.kill.ensures.table; shared = refl; clock = refl; log = refl; lost = refl; came = refl; tells = c.kill.ensures.tells } in
    let made = c.in-Err.ensures.refused in
    short_line g.C.Clock.gives before now beside c.laws.ensures.may_end c.laws.ensures.journal made.0 made.1 made.2 line given refl (ap (λ (s : Standing). s.owes_smart) made.0 ∙ c.requires.idle.unowed)
