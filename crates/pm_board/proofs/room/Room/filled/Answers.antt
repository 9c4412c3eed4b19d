use Rattle.std.{proofs.{Common.{◌≡◌, ◌<◌, ℕ, ◌+◌, ◌*◌, [], length, arith, sym, ap, ◌∙◌, subst}, lemmas.List.length-replicate}, specs.Prelude.None}
use Rattle.atomic_table.specs.Seated.{TableId}
use Rattle.pm_board_home.specs.{Views.{no_takes, with_knows, dealt_by, MayGiveIt}, declared.views.HomeView.HomeView}
use Rattle.pm_board_home.proofs.HomeLaws as laws
use Rattle.pm_board_words.specs.declared.views.View.TheVariants.{Postmaster}
use Rattle.pm_board.specs.{Told.new_roster, Rooms.{RoomModel, AreShares}, Models.AreNewPosts}
use Rattle.pm_board.proofs.Ties as ties
use Rattle.pm_board.proofs.HomeSteps as steps
use Rattle.pm_board.proofs.room.Room.filled.Goals as goal

pub take-requires-clause-may : goal.take-requires-clause-may
take-requires-clause-may g c = steps.may_found g.H.Home (g.met.H.Home.founds c.requires.empty) c.deref.result.now.key c.self.inside.seat.id c.self.inside.seat.more.0 (ap (λ m. m.0) c.self.invariant.1)

pub take-requires-clause-ties : goal.take-requires-clause-ties
take-requires-clause-ties g c =
    let d = new_roster (length c.self.inside.shares.items) c.self.inside.session_limit 0 in
    ties.master_steps g.J.Letter g.H.Home (λ _ _ _. Unit {0}) c.deref.result.now c.self.inside.seat d _ (ap (λ m. m.0) c.self.invariant.0.3)
    (λ found now told was. (steps.desk_founds g.H.Home (g.met.H.Home.founded c.requires.empty) c.self.inside.seat.more.0 d found now told, tt))

pub give-requires-clause-may : goal.give-requires-clause-may
give-requires-clause-may g c =
    let u = c.take.new.seat.more.0 in
    let knows = steps.founding g.H.Home c.self.inside.seat.more.0 u c.in-Some.field-0 c.in-Some.ensures.taken.0 in
    let has = ap g.H.Home.has knows ∙ (g.met.H.Home.founded c.requires.empty).0 in
    let may = subst (λ (w : g.row.H-Knows.Denot). MayGiveIt g.H.Home.gives g.C.Given.then w c.args.home) (sym knows) c.requires.may in
    (omega arith, laws.gives_as g.H.Home.rule g.H.Home.has g.H.Home.gives g.met.H.Home.give g.C.Given.then _ u c.args.home has may, laws.is_give g.H.Home.gives g.C.Given.then u c.args.home)

pub give-requires-clause-ties : goal.give-requires-clause-ties
give-requires-clause-ties g c =
    let d = new_roster (length c.self.inside.shares.items) c.self.inside.session_limit 0 in
    ties.master_steps g.J.Letter g.H.Home (λ _ _ _. Unit {0}) c.deref-2.result.now c.take.new.seat d _ (ap (λ m. m.0) (c.in-Some.ensures.first.2 ∙ c.self.invariant.0.3))
    (λ found now told was. (steps.desk_gives g.H.Home g.met.H.Home.given g.met.H.Home.given_stamp g.C.Given.then c.take.new.seat.more.0 c.args.home d c.requires.stamp now told was, tt))

pub seated-roster-requires-clause-seat : goal.seated-roster-requires-clause-seat
seated-roster-requires-clause-seat g c =
    let inv = c.self.invariant in
    let same = c.into_words-words.ensures in
    let count = ap length inv.5 ∙ length-replicate (length c.self.inside.shares.items) _ in (
      c.self.inside.session_limit,
      (
        c.give.ensures.first.0 ∙ c.in-Some.ensures.first.0 ∙ inv.0.0 ∙ sym same,
        ap (λ (t : TableId). t.words) same ∙ inv.0.1 ∙ ap (λ (m : ℕ). 3 * m + 1) (sym count),
        ap (λ (t : TableId). t.slots) same ∙ inv.0.2 ∙ sym count,
        c.give.ensures.first.2 ∙ c.in-Some.ensures.first.2 ∙ inv.0.3 ∙ ap (λ (m : ℕ). (Postmaster (new_roster m c.self.inside.session_limit 0), [])) (sym count),
      ),
    )

pub seated-roster-requires-clause-home : goal.seated-roster-requires-clause-home
seated-roster-requires-clause-home g c =
    let t = c.in-Some.ensures.taken in
    let v = c.give.ensures.given in
    let laid = steps.laid_first g.H.Home (g.met.H.Home.founded c.requires.empty) g.met.H.Home.given g.met.H.Home.given_number g.C.Given.then c.args.home c.self.inside.seat.more c.take.new.seat.more c.give.new.seat.more c.in-Some.field-0 c.self.invariant.1 t.0 t.2 v.1 v.3 in
    (laid.0, laid.1)

pub posted-requires-clause-each : goal.posted-requires-clause-each
posted-requires-clause-each g c =
    let inv = c.self.invariant in
    subst (λ (t : TableId). AreShares t (length c.self.inside.shares.items) c.self.inside.shares.items) (sym (c.seated-roster.ensures.table ∙ c.give.ensures.first.0 ∙ c.in-Some.ensures.first.0 ∙ inv.0.0)) inv.3

pub posted-requires-clause-free : goal.posted-requires-clause-free
posted-requires-clause-free g c =
    let t = c.in-Some.ensures.taken in
    let v = c.give.ensures.given in
    let laid = steps.laid_first g.H.Home (g.met.H.Home.founded c.requires.empty) g.met.H.Home.given g.met.H.Home.given_number g.C.Given.then c.args.home c.self.inside.seat.more c.take.new.seat.more c.give.new.seat.more c.in-Some.field-0 c.self.invariant.1 t.0 t.2 v.1 v.3 in
    ap (λ (u : HomeView g.row.H-Knows.Denot). g.H.Home.has u.knows) c.seated-roster.ensures.home ∙ laid.2

pub returns-clause-posts : goal.returns-clause-posts
returns-clause-posts g c = subst (λ (z : RoomModel). AreNewPosts z.slots z.session_limit c.posted.result.0.table c.posted.result.1.left.items) c.self.view_is c.posted.ensures.posts

pub returns-clause-home : goal.returns-clause-home
returns-clause-home g c =
    let t = c.in-Some.ensures.taken in
    let v = c.give.ensures.given in
    let laid = steps.laid_first g.H.Home (g.met.H.Home.founded c.requires.empty) g.met.H.Home.given g.met.H.Home.given_number g.C.Given.then c.args.home c.self.inside.seat.more c.take.new.seat.more c.give.new.seat.more c.in-Some.field-0 c.self.invariant.1 t.0 t.2 v.1 v.3 in
    let w : g.row.H-Knows.Denot = laid.3.0 in
    let home_is = c.seated-roster.ensures.home ∙ laid.3.3 in (
      w,
      laid.3.1,
      laid.3.2,
      c.posted.ensures.home ∙ ap (λ (u : HomeView g.row.H-Knows.Denot). with_knows u (dealt_by g.H.Home.dealt (length c.self.inside.shares.items) u.knows)) home_is ∙ ap (λ (z : RoomModel). no_takes (dealt_by g.H.Home.dealt z.slots w)) c.self.view_is,
    )
