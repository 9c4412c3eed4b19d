use Rattle.std.proofs.Common.{length, sym, ap, ◌∙◌, subst}
use Rattle.atomic_table.specs.Seated.{TableId}
use Rattle.pm_board.specs.{Rooms.{RoomModel, AreShares}, Models.AreNewPosts}
use Rattle.pm_board.proofs.room.Room.bare.Goals as goal

pub posted-requires-clause-each : goal.posted-requires-clause-each
posted-requires-clause-each g c =
    let inv = c.self.invariant in
    subst (λ (t : TableId). AreShares t (length c.self.inside.shares.items) c.self.inside.shares.items) (sym (c.seated-roster.ensures.table ∙ inv.0.0)) inv.3

pub returns-clause-posts : goal.returns-clause-posts
returns-clause-posts g c = subst (λ (z : RoomModel). AreNewPosts z.slots z.session_limit c.posted.result.0.table c.posted.result.1.left.items) c.self.view_is c.posted.ensures.posts
