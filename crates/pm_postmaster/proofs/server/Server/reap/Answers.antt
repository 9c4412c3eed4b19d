use Rattle.std.proofs.Common.{refl}
use Rattle.pm_postmaster.{specs.View.view_of, proofs.{Calling.{IsBeside, leaves, leaves_store, short}, Cleared.near_slots, Reaped.{ended_on, found_on, may_come, released_by, short_on}}}
use Rattle.pm_postmaster.proofs.server.Server.reap.Goals as goal

pub returns-in-Nothing-clause-goes : goal.returns-in-Nothing-clause-goes
returns-in-Nothing-clause-goes g c =
    let before = view_of c.args.self.now in
    let looks = c.in-Nothing.ensures.looks in
    let beside : IsBeside g.C.Clock.gives before _ = record { table = c.look_at.ensures.table; shared = refl; clock = refl; log = refl; lost = c.reserve.ensures.items; came = refl; tells = c.look_at.ensures.tells } in
    λ outset was.
    found_on g.C.Clock.gives c.laws.ensures.counts outset before _ (leaves g.C.Clock.gives _ _ beside) refl refl c.args.slot (near_slots c.args.slot before.board c.requires.slot)
    looks.0 looks.1 looks.3 refl (leaves_store g.C.Clock.gives _ _ beside looks.2) (record { lines = refl; ended = refl; listens = refl }) was

pub take_in-requires-clause-back : goal.take_in-requires-clause-back
take_in-requires-clause-back g c =
    let before = view_of c.args.self.now in
    let looks = c.in-Ended.ensures.looks in
    may_come c.laws.ensures.counts _ c.args.slot _ _ _ _ before.board _ _
    (released_by _ c.args.slot looks.0 c.in-Ended.released before.board _ (near_slots c.args.slot before.board c.requires.slot) looks.1 looks.1.back) c.requires.alive.1.holds.links

pub returns-in-Ended-clause-goes : goal.returns-in-Ended-clause-goes
returns-in-Ended-clause-goes g c =
    let before = view_of c.args.self.now in
    let looks = c.in-Ended.ensures.looks in
    let beside : IsBeside g.C.Clock.gives before _ = record { table = c.look_at.ensures.table; shared = refl; clock = refl; log = refl; lost = c.reserve.ensures.items; came = refl; tells = c.look_at.ensures.tells } in
    λ outset was.
    ended_on g.C.Clock.gives c.laws.ensures.counts _ c.args.slot looks.0 c.in-Ended.released before _ _ (near_slots c.args.slot before.board c.requires.slot) beside looks.1 looks.1.back
    c.take_in.ensures.takes (record { visits = refl; lines = refl; listens = refl }) outset c.now.result c.now.ensures looks.2 looks.3 c.requires.idle.unowed was

pub returns-in-ShortOfMemory-clause-goes : goal.returns-in-ShortOfMemory-clause-goes
returns-in-ShortOfMemory-clause-goes g c =
    let before = view_of c.args.self.now in
    let looks = c.in-ShortOfMemory.ensures.looks in
    let beside : IsBeside g.C.Clock.gives before _ = record { table = c.look_at.ensures.table; shared = refl; clock = refl; log = refl; lost = c.reserve.ensures.items; came = refl; tells = c.look_at.ensures.tells } in
    λ outset was.
    short_on g.C.Clock.gives c.laws.ensures.counts _ c.args.slot looks.0 c.in-ShortOfMemory.released before _ _ (near_slots c.args.slot before.board c.requires.slot) beside looks.1 looks.1.back
    c.take_in-in-ShortOfMemory.ensures.takes (record { visits = refl; lines = refl; listens = refl }) outset c.laws.ensures.may_end c.laws.ensures.journal looks.2 was

pub returns-then-is_err-clause-goes : goal.returns-then-is_err-clause-goes
returns-then-is_err-clause-goes g c =
    let before = view_of c.args.self.now in
    let beside : IsBeside g.C.Clock.gives before _ = record { table = refl; shared = refl; clock = refl; log = refl; lost = c.reserve.ensures.items; came = refl; tells = refl } in
    short g.C.Clock.gives before _ beside c.laws.ensures.may_end c.laws.ensures.journal refl refl refl (record { visits = refl; lines = refl; listens = refl })

pub take_in-requires-in-ShortOfMemory-clause-back : goal.take_in-requires-in-ShortOfMemory-clause-back
take_in-requires-in-ShortOfMemory-clause-back g c =
    let before = view_of c.args.self.now in
    let looks = c.in-ShortOfMemory.ensures.looks in
    may_come c.laws.ensures.counts _ c.args.slot _ _ _ _ before.board _ _
    (released_by _ c.args.slot looks.0 c.in-ShortOfMemory.released before.board _ (near_slots c.args.slot before.board c.requires.slot) looks.1 looks.1.back) c.requires.alive.1.holds.links
