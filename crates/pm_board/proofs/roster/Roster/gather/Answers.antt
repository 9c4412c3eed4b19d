use Rattle.std.proofs.Common.{◌<◌, ℕ, [], length, arith, refl, sym, ap, ◌∙◌, subst, length-set}
use Rattle.pm_board_home.specs.{declared.views.HomeView.HomeView, Views.with_knows}
use Rattle.pm_board_words.specs.declared.views.{View.TheVariants.Postmaster, RosterView.RosterView, PostView.PostView, Sight.TheVariants.Gathered}
use Rattle.pm_board.specs.{Slots.child_slots, Places.{slot_view, slot_at}, Children.children_of, Told.{roster_of, post_of, taken_in}, Models.HoldsMail, Ties.HoldsHome}
use Rattle.pm_board.proofs.Children as children
use Rattle.pm_board_home.proofs.HomeLaws as laws
use Rattle.pm_board.proofs.Steps as steps
use Rattle.pm_board.proofs.Ties as ties
use Rattle.pm_board.proofs.Homing as homing
use Rattle.pm_board.proofs.roster.Roster.gather.Goals as goal

pub join_seat-requires : goal.join_seat-requires
join_seat-requires g c =
    let inv = c.self.invariant.0 in
    let inv' = c.post.invariant.0 in
    let t = ap (λ b. b.table) c.deref.ensures ∙ inv.0 in
    let both = ap (λ v. v.table) c.post.view_is ∙ c.requires.post.0 ∙ sym (ap (λ v. v.table) c.self.view_is) in
    let idle = ap (λ v. v.knows.work) c.post.view_is ∙ c.requires.post.1 in
    let has = subst (λ w. HoldsMail c.post.inside.index w c.post.inside.seat.me.1) idle inv'.4 in
    let d : RosterView g.row.J-Told.Denot = roster_of c.self.inside.seat.me.0 in
    let near : c.post.inside.index < length d.slots = subst (λ n. c.post.inside.index < n) (ap (λ z. child_slots z.slots) both ∙ sym inv.3) inv'.3 in
    let there : c.post.inside.index < c.deref.result.now.table.words = steps.in_words _ _ _ (subst (λ n. c.post.inside.index < n) (ap (λ z. child_slots z.slots) both) inv'.3) inv.2 t in
    let sight = ap (λ v. (slot_at v.knows c.post.inside.index).sight) c.self.view_is ∙ ap (λ v. (slot_at c.args.self.now.knows v.slot).sight) c.post.view_is ∙ c.requires.slot in
    let free = ap (λ v. g.H.Home.has v.home.knows) c.post.view_is ∙ c.requires.home.0 in
    let none = subst (λ b. HoldsHome b c.post.inside.seat.more.1) free c.post.invariant.1.1 in
    let joins = subst (λ (z : HomeView g.row.H-Knows.Denot × HomeView g.row.H-Knows.Denot). g.H.Home.joins z.0.knows z.1.knows) (λ i. ((sym c.self.view_is i).home, (sym c.post.view_is i).home)) c.requires.home.1 in
    let gathered = g.met.H.Home.gathered_as c.self.inside.seat.more.0.knows c.post.inside.seat.more.0.knows in
    let master = ap (λ m. m.0) inv.1 in (
      sym t,
      both ∙ sym t,
      has,
      none,
      steps.gathers_as g.J.Letter _ _ _ _ _ _ _ _ (ap (λ m. m.0) inv.1) inv'.1 near sight,
      laws.join_as g.H.Home.rule _ _ c.self.inside.seat.more.0 c.post.inside.seat.more.0 _ _ (g.met.H.Home.gather _ _ _ _ c.self.invariant.1.2 joins),
      ties.gathered_tied g.H.Home _ _ c.post.inside.index _ _ _ d _ (post_of c.post.inside.seat.me.0) _ _ _ _ master (λ i. taken_in (master i) (inv'.1 i)) inv'.1
          (λ was. (gathered.1 ∙ was.0, (λ lent. gathered.3 ∙ was.1 (sym gathered.2 ∙ lent)))) gathered.4,
    )

pub load-requires : goal.load-requires
load-requires g c =
    let inv = c.self.invariant.0 in
    let inv' = c.post.invariant.0 in
    let t = ap (λ b. b.table) c.deref-2.ensures ∙ inv.0 in
    let both = ap (λ v. v.table) c.post.view_is ∙ c.requires.post.0 ∙ sym (ap (λ v. v.table) c.self.view_is) in
    let near = subst (λ n. c.post.inside.index < n) (ap (λ z. child_slots z.slots) both) inv'.3 in
    let is = c.join_seat.ensures.2 ∙ ap (λ z. (taken_in z.0 c.post.inside.seat.me.0, z.1)) inv.1 ∙ ap (λ z. (taken_in (Postmaster (roster_of c.self.inside.seat.me.0)) z, [])) inv'.1 in
    record {
      may = (c.join_seat.ensures.0 ∙ sym t, steps.in_words _ _ _ near inv.2 t, steps.compares_as g.J.Letter _ _ _ _ _ _ is (subst (λ z. c.post.inside.index < child_slots z.slots) (sym t) near));
      ties = ties.master_tied g.J.Letter g.H.Home c.deref-2.result.now c.join_seat.new.seat (roster_of c.join_seat.new.seat.me.0) _ (homing.desk _ _ _ is) (λ found me told. (_, ap (λ m. m.0) told.0 ∙ homing.desk _ _ _ is, (λ _. refl)));
    }

pub invariant_of-self : goal.invariant_of-self
invariant_of-self g c =
    let inv = c.self.invariant.0 in
    let inv' = c.post.invariant.0 in
    let both = ap (λ v. v.table) c.post.view_is ∙ c.requires.post.0 ∙ sym (ap (λ v. v.table) c.self.view_is) in
    let d : RosterView g.row.J-Told.Denot = roster_of c.self.inside.seat.me.0 in
    let near : c.post.inside.index < length d.slots = subst (λ n. c.post.inside.index < n) (ap (λ z. child_slots z.slots) both ∙ sym inv.3) inv'.3 in
    let sight = ap (λ v. (slot_at v.knows c.post.inside.index).sight) c.self.view_is ∙ ap (λ v. (slot_at c.args.self.now.knows v.slot).sight) c.post.view_is ∙ c.requires.slot in
    let is = c.join_seat.ensures.2 ∙ ap (λ z. (taken_in z.0 c.post.inside.seat.me.0, z.1)) inv.1 ∙ ap (λ z. (taken_in (Postmaster (roster_of c.self.inside.seat.me.0)) z, [])) inv'.1 in
    let gathered = g.met.H.Home.gathered_as c.self.inside.seat.more.0.knows c.post.inside.seat.more.0.knows in
    let mine = c.self.invariant.1 in (
      steps.sealed _ _ _ _ _ _ _ _ _ inv.0 (c.load.ensures.told.0 ∙ c.join_seat.ensures.0) inv.2 inv.4 (c.load.ensures.told.2.0 ∙ is) (length-set d.slots _ _ ∙ inv.3) (inv.5 ∙ sym (steps.used_same d _ _ d.notes _ near sight refl)) inv.6 inv.7 (children.children_same _ d _ _ d.notes _ near sight refl inv.8),
      homing.roster_knows g.H.Home _ c.load.new.seat.me _ c.self.inside.seat.more _ _ (ap (λ m. m.0) (c.load.ensures.told.2.0 ∙ is)) mine.0 (c.load.ensures.more ∙ c.join_seat.ensures.3) gathered.0 (gathered.1 ∙ mine.2) (g.met.H.Home.gathered_number _ _ _ mine.1.0) mine.1.1,
    )

pub returns-clause-children : goal.returns-clause-children
returns-clause-children g c =
    let inv = c.self.invariant.0 in
    let inv' = c.post.invariant.0 in
    let both = ap (λ v. v.table) c.post.view_is ∙ c.requires.post.0 ∙ sym (ap (λ v. v.table) c.self.view_is) in
    let d : RosterView g.row.J-Told.Denot = roster_of c.self.inside.seat.me.0 in
    let w : PostView g.row.J-Told.Denot = post_of c.post.inside.seat.me.0 in
    let k : ℕ = c.post.inside.index in
    let near : k < length d.slots = subst (λ n. k < n) (ap (λ z. child_slots z.slots) both ∙ sym inv.3) inv'.3 in
    let sight = ap (λ v. (slot_at v.knows k).sight) c.self.view_is ∙ ap (λ v. (slot_at c.args.self.now.knows v.slot).sight) c.post.view_is ∙ c.requires.slot in
    let is = c.load.ensures.told.2.0 ∙ c.join_seat.ensures.2 ∙ ap (λ z. (taken_in z.0 c.post.inside.seat.me.0, z.1)) inv.1 ∙ ap (λ z. (taken_in (Postmaster (roster_of c.self.inside.seat.me.0)) z, [])) inv'.1 in
    ap (λ m. children_of (roster_of m.0).slots) is
    ∙ sym (children.children_same (children_of d.slots) d k (slot_view (slot_at d k).past (Gathered w.past w.notes)) d.notes _ near sight refl refl)
    ∙ ap (λ v. children_of v.knows.slots) c.self.view_is

pub returns-clause-home : goal.returns-clause-home
returns-clause-home g c =
    ap (λ m. m.0) (c.load.ensures.more ∙ c.join_seat.ensures.3) ∙ (λ i. with_knows (c.self.view_is i).home (g.H.Home.taken_in (c.self.view_is i).home.knows (c.post.view_is i).home.knows))
