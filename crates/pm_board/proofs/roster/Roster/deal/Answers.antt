use Rattle.std.proofs.Common.{◌≡◌, ◌<◌, ◌≤◌, ℕ, length, arith, sym, ap, ◌∙◌, subst}
use Rattle.pm_board_home.proofs.HomeLaws as laws
use Rattle.pm_board_words.specs.declared.views.RosterView.{RosterView}
use Rattle.pm_board.specs.{Slots.all_slots, Told.{dealt_more, next_post, with_post, roster_of}, Rule.idle_post}
use Rattle.pm_board.proofs.Steps as steps
use Rattle.pm_board.proofs.Ties as ties
use Rattle.pm_board.proofs.Homing as homing
use Rattle.pm_board.proofs.roster.Roster.deal.Goals as goal

pub split_seat-seat-requires : goal.split_seat-seat-requires
split_seat-seat-requires g c =
    let inv = c.self.invariant.0 in
    let t = ap (λ b. b.table) c.deref.ensures ∙ inv.0 in
    let e = ap (λ v. v.knows) c.self.view_is in
    let less = subst (λ z. z.dealt < length z.slots) (sym e) c.requires.more in
    let free = ap (λ v. g.H.Home.has v.home.knows) c.self.view_is ∙ c.requires.free in
    let dealt = g.met.H.Home.dealt_as c.self.inside.seat.more.0.knows in
    let master = ap (λ m. m.0) inv.1 in (
      sym t,
      steps.deals_as g.J.Letter _ _ _ _ (ap (λ m. m.0) inv.1) less,
      laws.split_as g.H.Home.rule _ c.self.inside.seat.more.0 _ _ (g.met.H.Home.deal _ _ c.self.invariant.1.2 free),
      ties.dealt_tied g.H.Home _ _ _ _ (roster_of c.self.inside.seat.me.0) _ _ _ _ _ _ master (λ i. dealt_more (master i)) (λ i. next_post (master i)) (λ was. (dealt.1 ∙ was.0, (λ lent. dealt.3 ∙ was.1 (sym dealt.2 ∙ lent)))) dealt.4,
    )

pub overflow_add-self : goal.overflow_add-self
overflow_add-self g c =
    let inv = c.self.invariant.0 in
    let d : RosterView g.row.J-Told.Denot = roster_of c.self.inside.seat.me.0 in
    let less : d.dealt < length d.slots = subst (λ (z : RosterView g.row.J-Told.Denot). z.dealt < length z.slots) (sym (ap (λ v. v.knows) c.self.view_is)) c.requires.more in
    let few : length d.slots ≤ 407 = subst (λ (z : ℕ). z ≤ 407) (sym (inv.3 ∙ all_slots _)) inv.4 in
    let same : c.self.inside.dealt ≡ d.dealt = c.self.invariant.1.0 in
    omega arith
