use Rattle.std.proofs.Common.{refl, sym, ap, ◌∙◌, subst}
use Rattle.pm_supervisor.specs.Children.{is_session}
use Rattle.pm_board_words.specs.GateWords.{place_of, gate_answer}
use Rattle.pm_board.specs.{Told.{post_of, tried, reposted}, Models.{HoldsMail, RunsKind, RunsPid}}
use Rattle.pm_board.proofs.Steps as steps
use Rattle.pm_board.proofs.Ties as ties
use Rattle.pm_board.proofs.Homing as homing
use Rattle.pm_board.proofs.post.Post.take_place.Goals as goal

pub fetch_add-found-requires : goal.fetch_add-found-requires
fetch_add-found-requires g c =
    let inv = c.self.invariant.0 in
    let first = ap (λ b. b.table) c.deref.ensures ∙ inv.0 in
    let t = ap (λ b. b.table) c.deref-2.ensures ∙ inv.0 in
    let does = ap (λ v. v.knows.work) c.self.view_is ∙ c.requires.may.1 in
    let has = subst (λ w. HoldsMail c.self.inside.index w c.self.inside.seat.me.1) does inv.4 in
    let runs = subst (RunsKind c.self.inside.kind) does inv.5 in
    let gate = steps.gate_in _ _ _ (c.slot_count-gate.ensures ∙ ap (λ z. z.slots) first) inv.2 t in
    record {
      may = (sym t, gate.0, steps.tries_as g.J.Letter _ g.C.Comes.is_ordinary _ _ _ _ _ c.requires.may.0 _ _ _ _ gate.1 (c.place-adds.ensures ∙ ap (λ k. place_of (is_session k)) runs) c.requires.may.2 (steps.doing_at c.self.inside.index c.self.inside.seat.me _ _ inv.1 does has));
      ties = ties.worker_tied g.J.Letter g.H.Home c.deref-2.result.now c.self.inside.seat c.self.inside.index (post_of c.self.inside.seat.me.0) _ inv.1 (λ found me told. (_, homing.reposted_to _ _ _ _ inv.1 (told c.requires.may.0 does).0, (λ _ at. absurd (homing.active _ _ does at))));
    }

pub answer_at-requires : goal.answer_at-requires
answer_at-requires g c =
    let does = ap (λ v. v.knows.work) c.self.view_is ∙ c.requires.may.1 in
    (c.fetch_add-found.ensures.told.2 c.requires.may.0 does).1

pub invariant_of-self : goal.invariant_of-self
invariant_of-self g c =
    let inv = c.self.invariant.0 in
    let does = ap (λ v. v.knows.work) c.self.view_is ∙ c.requires.may.1 in
    let has = subst (λ w. HoldsMail c.self.inside.index w c.self.inside.seat.me.1) does inv.4 in
    let runs = subst (RunsKind c.self.inside.kind) does inv.5 in
    let named = subst (RunsPid c.self.inside.pid) does inv.7 in
    let is = steps.reposted_as c.self.inside.index c.self.inside.seat.me _ _ _ inv.1 has (c.fetch_add-found.ensures.told.2 c.requires.may.0 does).0 in (
      steps.tried_sealed _ _ _ _ _ _ _ _ (post_of c.self.inside.seat.me.0) c.requires.may.0 g.C.Comes.is_ordinary c.fetch_add-found.result _ inv.0 c.fetch_add-found.ensures.told.0 inv.2 inv.3 is refl runs inv.6 named inv.8,
      homing.post_home g.H.Home _ _ _ c.fetch_add-found.ensures.more c.self.invariant.1,
    )

pub returns-clause-met : goal.returns-clause-met
returns-clause-met g c o does =
    let inv = c.self.invariant.0 in
    let mine = ap (λ v. v.knows.work) c.self.view_is ∙ does in
    let did = (c.fetch_add-found.ensures.told.2 o mine).0 in
    let runs = subst (RunsKind c.self.inside.kind) mine inv.5 in
    let answer = c.answer_at.ensures ∙ (λ i. gate_answer (runs i) c.args.is_ordinary (inv.6 i) c.fetch_add-found.result) ∙ ap (λ v. gate_answer o.kind c.args.is_ordinary v.knows.notes.session_limit c.fetch_add-found.result) c.self.view_is in (
      c.fetch_add-found.result,
      answer,
      ap (λ m. post_of m.0) did ∙ ap (λ z. post_of (reposted z (tried (post_of c.self.inside.seat.me.0) o g.C.Comes.is_ordinary c.fetch_add-found.result))) inv.1 ∙ (λ i. tried (c.self.view_is i).knows o (c.requires.comes i) c.fetch_add-found.result),
      (c.fetch_add-found.ensures.told.2 o mine).2,
    )

pub returns-clause-home : goal.returns-clause-home
returns-clause-home g c = ap (λ m. m.0) c.fetch_add-found.ensures.more ∙ ap (λ v. v.home) c.self.view_is
