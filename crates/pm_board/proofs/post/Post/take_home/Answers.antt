use Rattle.std.proofs.Common.{◌≡◌, ◌<◌, ◌≤◌, ℕ, arith, sym, ap, ◌∙◌}
use Rattle.pm_board_home.proofs.HomeLaws as laws
use Rattle.pm_board.specs.{Slots.is_slot, Told.post_of}
use Rattle.pm_board.proofs.Ties as ties
use Rattle.pm_board.proofs.HomeSteps as steps
use Rattle.pm_board.proofs.post.Post.take_home.Goals as goal

pub take-requires : goal.take-requires
take-requires g c =
    let inv = c.self.invariant.0 in
    let mine = c.self.invariant.1 in
    let t = ap (λ b. b.table) c.deref.ensures ∙ inv.0 in
    let free = ap (λ v. g.H.Home.has v.home.knows) c.self.view_is ∙ c.requires.free in
    let does = ap (λ v. v.knows.work) c.self.view_is ∙ c.requires.attached.2 in
    record {
      table = sym t;
      may = (omega arith, laws.takes_as g.H.Home.rule g.H.Home.has g.H.Home.numbered g.H.Home.takes g.met.H.Home.take _ c.self.inside.index c.self.inside.seat.more.0 mine.0 free, laws.is_take g.H.Home.takes c.self.inside.seat.more.0);
      ties = ties.worker_takes g.J.Letter g.H.Home g.met.H.Home.alone c.deref.result.now c.self.inside.seat c.self.inside.index c.requires.attached.1 (post_of c.self.inside.seat.me.0) c.requires.attached.0 _ inv.1 does;
    }

pub overflow_add-to : goal.overflow_add-to
overflow_add-to g c =
    let inv = c.self.invariant.0 in
    let few : c.self.inside.seat.table.slots ≤ 407 = inv.8 in
    let near : c.self.inside.index < c.self.inside.seat.table.slots = is_slot _ _ inv.3 in
    omega arith
