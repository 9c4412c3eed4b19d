use Rattle.std.{proofs.{Common.{ℕ, arith, sym, ap, ◌∙◌, subst}, lemmas.Option.same_Some}, specs.Prelude.false}
use Rattle.pm_exit.specs.declared.child.{Status.TheVariants.Code, Kind.Kind}
use Rattle.pm_board_words.specs.declared.views.Work.TheVariants.{Inactive}
use Rattle.pm_board.specs.{Told.{post_of, post_view, noted_start, noted_load}, Models.HoldsMail}
use Rattle.pm_board.proofs.Steps as steps
use Rattle.pm_board.proofs.Ties as ties
use Rattle.pm_board.proofs.Homing as homing
use Rattle.pm_board.proofs.post.Post.start.Goals as goal

pub load-found-requires : goal.load-found-requires
load-found-requires g c =
    let inv = c.self.invariant.0 in
    let t = ap (λ b. b.table) c.deref.ensures ∙ inv.0 in
    let idle = ap (λ v. v.knows.work) c.self.view_is ∙ c.requires in
    let has = subst (λ w. HoldsMail c.self.inside.index w c.self.inside.seat.me.1) idle inv.4 in
    record {
      may = (sym t, steps.in_words _ _ _ inv.3 inv.2 t, steps.loads_as g.J.Letter _ _ _ _ _ _ _ (steps.doing_at c.self.inside.index c.self.inside.seat.me _ _ inv.1 idle has));
      ties = ties.worker_tied g.J.Letter g.H.Home c.deref.result.now c.self.inside.seat c.self.inside.index (post_of c.self.inside.seat.me.0) _ inv.1 (λ found me told. let at = homing.loaded c.deref.result.now.table.slots c.self.inside.index found c.self.inside.seat.me me told in (at.0, at.1, (λ _ now. absurd (homing.no_child (post_of c.self.inside.seat.me.0).work idle now))));
    }

pub fetch_add-requires : goal.fetch_add-requires
fetch_add-requires g c =
    let inv = c.self.invariant.0 in
    let t = ap (λ b. b.table) c.deref-2.ensures ∙ inv.0 in
    let saw = c.load-found.ensures.told.2.0 (sym c.stage-found_stage.ensures ∙ c.if-found_stage-ne-OFFERED.false) in
    record {
      may = (c.load-found.ensures.told.0 ∙ sym t, steps.in_words _ _ _ inv.3 inv.2 t, steps.starts_as g.J.Letter _ _ _ _ _ _ _ _ saw);
      ties = ties.worker_tied g.J.Letter g.H.Home c.deref-2.result.now c.load-found.new.seat c.self.inside.index _ _ (ap (λ m. m.0) saw) (λ found me told. let got = told _ (ap (λ m. (post_of m.0).work) saw) in (_, ap (λ m. m.0) got.5, (λ _ now. absurd now)));
    }

pub exchange-mail-requires : goal.exchange-mail-requires
exchange-mail-requires g c =
    let inv = c.self.invariant.0 in
    let t = ap (λ b. b.table) c.deref-3.ensures ∙ inv.0 in
    let saw = c.load-found.ensures.told.2.0 (sym c.stage-found_stage.ensures ∙ c.if-found_stage-ne-OFFERED.false) in
    let got = c.fetch_add.ensures.told.2 _ (ap (λ m. (post_of m.0).work) saw) in
    record { table = c.fetch_add.ensures.told.0 ∙ c.load-found.ensures.told.0 ∙ sym t; last = steps.holds_one _ _ _ _ got.5 }

pub returns-clause-met : goal.returns-clause-met
returns-clause-met g c =
    let saw = c.load-found.ensures.told.2.0 (sym c.stage-found_stage.ensures ∙ c.if-found_stage-ne-OFFERED.false) in
    let got = c.fetch_add.ensures.told.2 _ (ap (λ m. (post_of m.0).work) saw) in
    let o = got.0 in
    let word : ℕ = c.load-found.result in
    let read = steps.reads word 1 o (Code 0) false got.2 (omega arith) got.3 (omega arith) in
    let out = steps.came_out _ _ _ _ _ got.5 c.exchange-mail.ensures.old ∙ c.unwrap-job.ensures in
    let is = steps.exchanged _ _ _ _ _ _ got.5 c.exchange-mail.ensures.new in (
      word,
      (
        o,
        got.2,
        sym read.0 ∙ sym c.pid-pid.ensures,
        sym read.1 ∙ sym c.kind-kind.ensures,
        sym got.4 ∙ ap g.J.Letter.told (same_Some _ _ out),
        ap (λ m. post_of m.0) is
            ∙ ap (λ m. post_view (noted_start (post_of m.0).notes) (post_of m.0).past (Inactive o)) saw
            ∙ ap (λ v. post_view (noted_start (noted_load v.knows.notes word)) v.knows.past (Inactive o)) c.self.view_is,
        subst (λ (z : g.row.J.Denot × Kind). g.J.Letter.fits z.0 z.1) {x = (got.1, o.kind)} {y = (c.unwrap-job.result, c.kind-kind.result)}
            (λ i. (same_Some _ _ out i, (sym read.1 ∙ sym c.kind-kind.ensures) i)) got.6,
      ),
    )
