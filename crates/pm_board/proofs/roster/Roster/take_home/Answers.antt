use Rattle.std.proofs.Common.{rules, ◌≡◌, ◌<◌, ℕ, arith, sym, ap, ◌∙◌, subst}
use Rattle.pm_board_home.proofs.HomeLaws as laws
use Rattle.pm_board.specs.{Told.roster_of, Ties.TellsStamp}
use Rattle.pm_board.proofs.Homing as homing
use Rattle.pm_board.proofs.Ties as ties
use Rattle.pm_board.proofs.HomeSteps as steps
use Rattle.pm_board.proofs.roster.Roster.take_home.Goals as goal

pub take-requires : goal.take-requires
take-requires g c =
    let inv = c.self.invariant.0 in
    let mine = c.self.invariant.1 in
    let t = ap (λ b. b.table) c.deref.ensures ∙ inv.0 in
    let free = ap (λ v. g.H.Home.has v.home.knows) c.self.view_is ∙ c.requires.free in
    let same : c.from-to.result ≡ c.self.inside.dealt = search rules in
    let lends = ap (λ v. g.H.Home.lends v.home.knows) c.self.view_is ∙ c.requires.lends in
    record {
      table = sym t;
      may = (omega arith, laws.takes_as g.H.Home.rule g.H.Home.has g.H.Home.numbered g.H.Home.takes g.met.H.Home.take _ c.from-to.result c.self.inside.seat.more.0 (subst (λ (n : ℕ). g.H.Home.numbered c.self.inside.seat.more.0.knows n) (sym same) mine.1.0) free, laws.is_take g.H.Home.takes c.self.inside.seat.more.0);
      ties = ties.master_steps g.J.Letter g.H.Home (TellsStamp g.H.Home) c.deref.result.now c.self.inside.seat (roster_of c.self.inside.seat.me.0) _ (homing.desk _ _ _ inv.1)
          (λ found now told was. steps.desk_takes g.H.Home g.met.H.Home.taken g.met.H.Home.taken_stamp c.self.inside.seat.more.0 (roster_of c.self.inside.seat.me.0) free lends found now told was);
    }
