use Rattle.std.proofs.Common.{sym, ap, ◌∙◌, refl, subst}
use Rattle.pm_board.specs.Told.{MayEnd}
use Rattle.pm_board.proofs.Steps as steps
use Rattle.pm_board.proofs.Ties as ties
use Rattle.pm_board.proofs.Homing as homing
use Rattle.pm_board.proofs.post.Post.exit.Goals as goal

pub fetch_add-requires : goal.fetch_add-requires
fetch_add-requires g c =
    let inv = c.self.invariant.0 in
    let t = ap (λ b. b.table) c.deref-2.ensures ∙ inv.0 in
    let runs = c.requires.runs in
    let may = subst (λ v. MayEnd v.knows.work runs.0 runs.1) (sym c.self.view_is) runs.2 in
    let has = steps.holds_none _ _ _ _ _ inv.4 may in
    let is = steps.exchanged _ _ _ _ _ _ (steps.doing_at c.self.inside.index c.self.inside.seat.me _ _ inv.1 refl has) c.exchange.ensures.new in
    let free = ap (λ m. g.H.Home.has m.0.knows) c.exchange.ensures.more ∙ (ap (λ v. g.H.Home.has v.home.knows) c.self.view_is ∙ c.requires.free) in
    record {
      may = (c.exchange.ensures.same.0 ∙ sym t, steps.in_words _ _ _ inv.3 inv.2 t, steps.ends_as g.J.Letter _ _ _ _ _ c.args.status runs.1 runs.0 _ _ _ c.args.job _ is c.ended-step.ensures c.requires.status may runs.3 (c.requires.back runs.0 runs.1 runs.2));
      ties = ties.worker_tied g.J.Letter g.H.Home c.deref-2.result.now c.exchange.new.seat c.self.inside.index _ _ (ap (λ m. m.0) is)
          (λ found me told. (_, ap (λ m. m.0) (steps.ended_as g.J.Letter 0 _ found _ c.args.status runs.1 _ me _ _ _ runs.0 c.args.job is c.ended-step.ensures may told), (λ yes_. homing.hasnt _ free yes_)));
    }

pub invariant_of-self : goal.invariant_of-self
invariant_of-self g c =
    let inv = c.self.invariant.0 in
    let runs = c.requires.runs in
    let may = subst (λ v. MayEnd v.knows.work runs.0 runs.1) (sym c.self.view_is) runs.2 in
    let has = steps.holds_none _ _ _ _ _ inv.4 may in
    let is = steps.exchanged _ _ _ _ _ _ (steps.doing_at c.self.inside.index c.self.inside.seat.me _ _ inv.1 refl has) c.exchange.ensures.new in
    let end = steps.ended_as g.J.Letter 0 _ 0 _ c.args.status runs.1 _ _ _ _ _ runs.0 c.args.job is c.ended-step.ensures may c.fetch_add.ensures.told.2 in (
      steps.post_sealed _ _ _ _ _ _ _ _ _ _ inv.0 (c.fetch_add.ensures.told.0 ∙ c.exchange.ensures.same.0) inv.2 inv.3 end refl tt inv.6 tt inv.8,
      homing.post_home g.H.Home _ _ _ (c.fetch_add.ensures.more ∙ c.exchange.ensures.more) c.self.invariant.1,
    )

pub returns-clause-home : goal.returns-clause-home
returns-clause-home g c = ap (λ m. m.0) (c.fetch_add.ensures.more ∙ c.exchange.ensures.more) ∙ ap (λ v. v.home) c.self.view_is
