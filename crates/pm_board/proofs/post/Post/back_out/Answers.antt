use Rattle.std.proofs.Common.{refl, sym, ap, ◌∙◌, subst}
use Rattle.pm_supervisor.specs.Children.{is_session}
use Rattle.pm_board_words.specs.{declared.views.Work.TheVariants.Active, GateWords.place_of}
use Rattle.pm_board.specs.{Told.{post_of, with_work, reposted}, Models.{HoldsMail, RunsKind, RunsPid}}
use Rattle.pm_board.proofs.Steps as steps
use Rattle.pm_board.proofs.Ties as ties
use Rattle.pm_board.proofs.Homing as homing
use Rattle.pm_board.proofs.post.Post.back_out.Goals as goal

pub fetch_sub-requires : goal.fetch_sub-requires
fetch_sub-requires g c =
    let inv = c.self.invariant.0 in
    let first = ap (λ b. b.table) c.deref.ensures ∙ inv.0 in
    let t = ap (λ b. b.table) c.deref-2.ensures ∙ inv.0 in
    let does = ap (λ v. v.knows.work) c.self.view_is ∙ c.requires.2 in
    let has = subst (λ w. HoldsMail c.self.inside.index w c.self.inside.seat.me.1) does inv.4 in
    let runs = subst (RunsKind c.self.inside.kind) does inv.5 in
    let gate = steps.gate_in _ _ _ (c.slot_count-gate.ensures ∙ ap (λ z. z.slots) first) inv.2 t in
    record {
      may = (sym t, gate.0, steps.backs_out_as g.J.Letter _ _ _ _ _ _ c.requires.1 c.requires.0 _ _ _ _ gate.1 (c.place-takes.ensures ∙ ap (λ k. place_of (is_session k)) runs) (steps.doing_at c.self.inside.index c.self.inside.seat.me _ _ inv.1 does has));
      ties = ties.worker_tied g.J.Letter g.H.Home c.deref-2.result.now c.self.inside.seat c.self.inside.index (post_of c.self.inside.seat.me.0) _ inv.1 (λ found me told. (_, homing.reposted_to _ _ _ _ inv.1 (told c.requires.0 c.requires.1 does), (λ _ at. absurd (homing.refused _ _ _ does at))));
    }

pub invariant_of-self : goal.invariant_of-self
invariant_of-self g c =
    let inv = c.self.invariant.0 in
    let does = ap (λ v. v.knows.work) c.self.view_is ∙ c.requires.2 in
    let has = subst (λ w. HoldsMail c.self.inside.index w c.self.inside.seat.me.1) does inv.4 in
    let runs = subst (RunsKind c.self.inside.kind) does inv.5 in
    let named = subst (RunsPid c.self.inside.pid) does inv.7 in
    let is = steps.reposted_as c.self.inside.index c.self.inside.seat.me _ _ _ inv.1 has (c.fetch_sub.ensures.told.2 c.requires.0 c.requires.1 does) in (
      steps.post_sealed _ _ _ _ _ _ _ _ _ _ inv.0 c.fetch_sub.ensures.told.0 inv.2 inv.3 is refl runs inv.6 named inv.8,
      homing.post_home g.H.Home _ _ _ c.fetch_sub.ensures.more c.self.invariant.1,
    )

pub returns-clause-knows : goal.returns-clause-knows
returns-clause-knows g c o generation does =
    let inv = c.self.invariant.0 in
    let did = c.fetch_sub.ensures.told.2 o generation (ap (λ v. v.knows.work) c.self.view_is ∙ does) in
    ap (λ m. post_of m.0) did ∙ ap (λ z. post_of (reposted z (with_work (post_of c.self.inside.seat.me.0) (Active o)))) inv.1 ∙ ap (λ v. with_work v.knows (Active o)) c.self.view_is

pub returns-clause-home : goal.returns-clause-home
returns-clause-home g c = ap (λ m. m.0) c.fetch_sub.ensures.more ∙ ap (λ v. v.home) c.self.view_is
