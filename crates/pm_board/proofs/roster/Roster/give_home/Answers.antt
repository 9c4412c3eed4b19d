use Rattle.std.{proofs.Common.{◌≡◌, ◌<◌, ℕ, arith, refl, sym, ap, ◌∙◌, subst, length}, specs.Prelude.{None, slice_get}}
use Rattle.pm_board_home.specs.{declared.views.HomeView.HomeView, Views.MayGiveIt}
use Rattle.pm_board_home.proofs.HomeLaws as laws
use Rattle.pm_board.specs.{Told.roster_of, Ties.HasGivenHome}
use Rattle.pm_board.proofs.Homing as homing
use Rattle.pm_board.proofs.Ties as ties
use Rattle.pm_board.proofs.HomeSteps as steps
use Rattle.pm_board.proofs.roster.Roster.give_home.Goals as goal

pub give-requires : goal.give-requires
give-requires g c =
    let inv = c.self.invariant.0 in
    let mine = c.self.invariant.1 in
    let t = ap (λ b. b.table) c.deref.ensures ∙ inv.0 in
    let held = ap (λ v. g.H.Home.has v.home.knows) c.self.view_is ∙ c.requires.held in
    let may = subst (λ (u : HomeView g.row.H-Knows.Denot). MayGiveIt g.H.Home.gives g.C.Given.then u.knows c.args.home) (ap (λ v. v.home) (sym c.self.view_is)) c.requires.may in
    let now_ = c.requires.stamp ∙ ap (λ v. v.knows.generation) (sym c.self.view_is) in
    let one = steps.one_held g.H.Home c.self.inside.dealt c.self.inside.seat.more mine.1 held in
    record {
      table = sym t;
      held = (ap (λ m. length m.1) inv.1, ap length one, (None, ap (λ l. slice_get l 0) one));
      may = (omega arith, laws.gives_as g.H.Home.rule g.H.Home.has g.H.Home.gives g.met.H.Home.give g.C.Given.then _ c.self.inside.seat.more.0 c.args.home held may, laws.is_give g.H.Home.gives g.C.Given.then c.self.inside.seat.more.0 c.args.home);
      ties = ties.master_steps g.J.Letter g.H.Home (λ _ _ _. Unit {0}) c.deref.result.now c.self.inside.seat (roster_of c.self.inside.seat.me.0) _ (homing.desk _ _ _ inv.1)
          (λ found now told was. (steps.desk_gives g.H.Home g.met.H.Home.given g.met.H.Home.given_stamp g.C.Given.then c.self.inside.seat.more.0 c.args.home (roster_of c.self.inside.seat.me.0) now_ now told was, tt));
    }

pub invariant_of-self : goal.invariant_of-self
invariant_of-self g c =
    let mine = c.self.invariant.1 in
    let held = ap (λ v. g.H.Home.has v.home.knows) c.self.view_is ∙ c.requires.held in
    let given = c.give.ensures.given in
    let gave = steps.gave g.H.Home g.met.H.Home.given g.met.H.Home.given_number c.self.inside.dealt g.C.Given.then c.args.home c.self.inside.seat.more c.give.new.seat.more mine.1 held given.1 given.3 in (
      steps.roster_same _ _ _ _ _ _ _ _ _ c.give.ensures.first.0 c.give.ensures.first.2 c.self.invariant.0,
      (mine.0 ∙ ap (λ m. (roster_of m.0).dealt) (sym c.give.ensures.first.2), gave.1, gave.2 ∙ mine.2),
    )

pub returns-clause-given : goal.returns-clause-given
returns-clause-given g c =
    let mine = c.self.invariant.1 in
    let held = ap (λ v. g.H.Home.has v.home.knows) c.self.view_is ∙ c.requires.held in
    let given = c.give.ensures.given in
    let gave = steps.gave g.H.Home g.met.H.Home.given g.met.H.Home.given_number c.self.inside.dealt g.C.Given.then c.args.home c.self.inside.seat.more c.give.new.seat.more mine.1 held given.1 given.3 in
    subst (λ (u : HomeView g.row.H-Knows.Denot). HasGivenHome g.H.Home g.C.Given.then c.args.home u c.give.new.seat.more.0) (ap (λ v. v.home) c.self.view_is) gave.0

pub returns-clause-lends : goal.returns-clause-lends
returns-clause-lends g c =
    let mine = c.self.invariant.1 in
    let held = ap (λ v. g.H.Home.has v.home.knows) c.self.view_is ∙ c.requires.held in
    let given = c.give.ensures.given in
    let gave = steps.gave g.H.Home g.met.H.Home.given g.met.H.Home.given_number c.self.inside.dealt g.C.Given.then c.args.home c.self.inside.seat.more c.give.new.seat.more mine.1 held given.1 given.3 in
    gave.3 mine.2
