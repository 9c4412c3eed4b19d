use Rattle.std.proofs.{Common.{◌≡◌, ◌∙◌, [], ℕ, List, None, Some, Ok, Err, ap, sym, subst, refl, arith}, lemmas.Bool.true≢false}
use Rattle.pm_admit.specs.declared.Cac.TheVariants as decisions
use Rattle.pm_session_exchange.{specs.{pm_query.Calls.{User, newcomer}, declared.ending.Cause.{Cause, TheVariants.{DecisionRefused, GateRefused}}, Ends.LetsGo, Sent.Turn, Moments.moment, Answers.IsOvertakenBy}, proofs.OvertakingLaws.overtaken_not_told}
use Rattle.pm_child_life.{specs.Life.{Child, attempt, attached_in}, proofs.AttentionLaws.{cancels_then, hears_both}}
use Rattle.pm_session.{specs.{Session.HasAskedFor, Entry.{Serves, IsTextBehind, HasComeAs}}, proofs.{Attentions.{cancels_at_gate, untried_still, come_now, come_still, come_untried}, Overtaking.ending_overtaken, Sessions.{at_outside, told_away, turned_away, asked_for, asked_at_gate, met_now, met_still, served_among, served_since, lets_go_by, attached_outside, attached_inside, out_untried, out_refused}}}
use Rattle.pm_session.proofs.desk.Desk.admit.Goals as goal

pub returns-in_default : goal.returns-in_default
returns-in_default g c =
    let l0 = c.args.self.now.link in
    let at0 = c.args.self.now.child in
    let user : User = newcomer (g.W.Store.stamp c.args.self.now.work) at0.child.pid 0 in
    let gives = g.C.Clock.gives c.args.means.now.clock.now in
    let l2 = c.close.new.self.link in
    let at2 = c.close.new.self.child in
    let closes = c.close.ensures.closes in
    let decision = c.args.admission.decision in
    let stands = at_outside decision user closes.0 0 at2.told closes.1 in
    record {
      serves = (
        closes.0,
        0,
        closes.2,
        attached_outside closes.0.stage _ _ closes.1 (ap (λ (child : Child). child.attached) (closes.3.hears.child) ∙ c.requires.free),
        turned_away g.W.Store.notes decision user c.args.admission.key 0 gives DecisionRefused closes.0 l0 l2 c.args.inbox.now c.args.inbox.now c.args.self.now.work c.close.new.self.work at0 at0 at2 [] (λ e. absurd cc) (λ phase packet start. start) (λ beyond. tt) stands.0 stands.1
            (g.met.W.Store.apart _ _ c.close.ensures.rests) (asked_for 1 [] at0.told at2.told (omega arith) closes.3.hears.asked) closes.3 (λ limit. c.in_default.not-Ok) stands.2
            (out_untried closes.0.stage DecisionRefused at2.told closes.1 (untried_still 1 at0.told at2.told closes.3.hears.asked c.requires.untried)) closes.3.hears.cancels,
        ending_overtaken (g.W.Store.met c.close.new.self.work) 0 DecisionRefused closes.0 at2 closes.3.ends (λ e. absurd cc),
        come_untried c.args.is_ordinary at2.told (untried_still 1 at0.told at2.told closes.3.hears.asked c.requires.untried),
      );
    }

pub returns-in-Err : goal.returns-in-Err
returns-in-Err g c =
    let l0 = c.self.inside.line.link in
    let w0 = c.self.inside.line.work in
    let at0 = c.self.inside.line.child in
    let user : User = newcomer (g.W.Store.stamp w0) at0.child.pid 0 in
    let gives = g.C.Clock.gives c.args.means.now.clock.now in
    let at1 = c.heed.new.self.child in
    let l2 = c.close-in-Err.new.self.link in
    let at2 = c.close-in-Err.new.self.child in
    let closes = rw c.heed.ensures.link at c.close-in-Err.ensures.closes in
    let free = rw (← c.self.view_is) at c.requires.free in
    let untried = rw (← c.self.view_is) at c.requires.untried in
    let stands = at_outside decisions.Ok user closes.0 0 at2.told closes.1 in
    record {
      serves = rw (c.in-Ok.is, ← c.self.view_is) (
        closes.0,
        0,
        closes.2,
        attached_outside closes.0.stage _ _ closes.1 (ap (λ (child : Child). child.attached) (closes.3.hears.child ∙ c.heed.ensures.hears.child) ∙ free),
        served_among g.W.Store.notes _ decisions.Ok 0 gives closes.0 l0 l2 _ _ w0 w0 w0 c.close-in-Err.new.self.work at0 at2 g.met.W.Store.in_turn (g.met.W.Store.at_rest _)
            (told_away g.W.Store.notes decisions.Ok user c.args.admission.key 0 gives c.in-Err.cause closes.0 l0 l2 c.args.inbox.now w0 at0 at1 at2 c.heed.ensures.attentive c.in-Err.ensures.ends (g.met.W.Store.at_rest _) stands
            (out_untried closes.0.stage c.in-Err.cause at2.told closes.1 (untried_still 2 at0.told at2.told (hears_both 1 1 at0 at1 at2 c.heed.ensures.hears closes.3.hears).asked untried)) c.heed.ensures.hears closes.3)
            (g.met.W.Store.apart _ _ (g.met.W.Life.rests_on _ _ _ c.heed.ensures.rests c.close-in-Err.ensures.rests)),
        ending_overtaken (g.W.Store.met c.close-in-Err.new.self.work) 0 c.in-Err.cause closes.0 at2 closes.3.ends (overtaken_not_told _ 0 c.in-Err.cause c.in-Err.ensures.stops.0),
        come_untried c.args.is_ordinary at2.told (untried_still 2 at0.told at2.told (hears_both 1 1 at0 at1 at2 c.heed.ensures.hears closes.3.hears).asked untried),
      );
    }

pub attach-requires-clause-once : goal.attach-requires-clause-once
attach-requires-clause-once g c =
    let untried = rw (← c.self.view_is) at c.requires.untried in
    untried_still 1 _ _ c.heed.ensures.hears.asked untried

pub attached-exit-requires-clause-met : goal.attached-exit-requires-clause-met
attached-exit-requires-clause-met g c = met_now c.args.is_ordinary (Ok c.in-Ok-attach.generation) _ _ c.in-Ok-attach.ensures.meets.told

pub returns-then-lets_go : goal.returns-then-lets_go
returns-then-lets_go g c =
    let l0 = c.self.inside.line.link in
    let w0 = c.self.inside.line.work in
    let at0 = c.self.inside.line.child in
    let user : User = newcomer (g.W.Store.stamp w0) at0.child.pid 0 in
    let gives = g.C.Clock.gives c.args.means.now.clock.now in
    let attached = rw (c.attach.ensures.link, c.heed.ensures.link) at c.attached-exit.ensures.serves in
    let at1 = c.attach.new.self.child in
    let generation = c.in-Ok-attach.generation in
    let child : at1.child ≡ attached_in generation c.heed.new.self.child.child = c.in-Ok-attach.ensures.meets.child in
    let pid_is : at1.child.pid ≡ at0.child.pid = ap (λ (child : Child). child.pid) child ∙ ap (λ (child : Child). child.pid) c.heed.ensures.hears.child in
    let l2 = c.attached-exit.new.self.link in
    let at2 = c.attached-exit.new.self.child in
    let w1 = c.attach.new.self.work in
    let w2 = c.attached-exit.new.self.work in
    let rest = g.met.W.Store.apart w0 w1 (g.met.W.Life.rests_on _ _ _ c.heed.ensures.rests c.attach.ensures.rests) in
    let serves : Serves g.W.Store.notes (IsTextBehind decisions.Ok (newcomer (g.W.Store.stamp w0) at0.child.pid generation) c.args.admission.key) decisions.Ok generation gives attached.0 (moment l0 c.args.inbox.now w1 at1)
    (moment l2 c.attached-exit.new.inbox w2 at2) =
    subst (λ (user : User). Serves g.W.Store.notes (IsTextBehind decisions.Ok user c.args.admission.key) decisions.Ok generation gives attached.0 (moment l0 c.args.inbox.now w1 at1) (moment l2 c.attached-exit.new.inbox w2 at2))
    (ap (λ (pid : ℕ). newcomer (g.W.Store.stamp w1) pid generation) pid_is ∙ ap (λ stamp. newcomer stamp at0.child.pid generation) (g.met.W.Store.stays _ _ _ rest)) attached.2 in
    let asked : (turns : List Turn) → HasAskedFor turns at1.told at2.told → HasAskedFor turns at0.told at2.told = λ turns asked. asked_at_gate (attempt c.args.is_ordinary (Ok generation)) turns at0.told c.heed.new.self.child.told at1.told at2.told c.heed.ensures.hears.asked c.in-Ok-attach.ensures.meets.told asked in
    let keeps = cancels_then at0.told c.heed.new.self.child.told at1.told c.heed.ensures.hears.cancels (cancels_at_gate (attempt c.args.is_ordinary (Ok generation)) c.heed.new.self.child.told at1.told c.in-Ok-attach.ensures.meets.told) in
    let over : IsOvertakenBy (g.W.Store.met c.attached-exit.new.self.work) generation attached.0.exit =
    subst (λ (exit : Cause). IsOvertakenBy (g.W.Store.met c.attached-exit.new.self.work) generation exit) (sym attached.1) c.attached-exit.ensures.overtaken in
    let gone = rw (← c.self-in-Ok-attach.view_is) at serves in
    let behind = c.detach.ensures.rests in
    let met_inside = rw (← c.self-in-Ok-attach.view_is) at over in
    let come : HasComeAs c.args.is_ordinary at2.told = come_still 0 c.args.is_ordinary at1.told at2.told c.attached-exit.ensures.gate (come_now c.args.is_ordinary (Ok generation) _ at1.told c.in-Ok-attach.ensures.meets.told) in
    let come_inside = rw (← c.self-in-Ok-attach.view_is) at come in
    record {
      serves = rw (c.in-Ok.is, ← c.self.view_is, c.detach.ensures.link) (
        attached.0,
        generation,
        attached.1,
        attached_inside attached.0.stage _ _ attached.3
            (subst (λ (exit : Cause). LetsGo exit (c.detach.new.self.child.child.attached ≡ None) (c.detach.new.self.child.child.attached ≡ Some generation)) (sym attached.1)
            (lets_go_by c.attached-exit.result c.lets_go.result _ _ c.lets_go.ensures (λ goes. ap (λ (child : Child). child.attached) c.detach.ensures.child) (λ stays. absurd (true≢false (sym c.if-lets_go.true ∙ stays))))),
        served_among g.W.Store.notes _ decisions.Ok generation gives attached.0 l0 _ _ _ w0 w1 _ c.detach.new.self.work at0 c.detach.new.self.child g.met.W.Store.in_turn rest
            (served_since g.W.Store.notes _ decisions.Ok generation gives attached.0 l0 _ _ _ _ _ at0 at1 c.self-in-Ok-attach.inside.line.child c.detach.new.self.child (rw (← c.self-in-Ok-attach.view_is) at asked) keeps c.detach.ensures.told gone)
            (g.met.W.Store.apart _ _ behind),
        subst (λ met. IsOvertakenBy met generation attached.0.exit) (sym (g.met.W.Store.met_still _ _ behind)) met_inside,
        subst (HasComeAs c.args.is_ordinary) (sym c.detach.ensures.told) come_inside,
      );
    }

pub returns-else-lets_go : goal.returns-else-lets_go
returns-else-lets_go g c =
    let l0 = c.self.inside.line.link in
    let w0 = c.self.inside.line.work in
    let at0 = c.self.inside.line.child in
    let user : User = newcomer (g.W.Store.stamp w0) at0.child.pid 0 in
    let gives = g.C.Clock.gives c.args.means.now.clock.now in
    let attached = rw (c.attach.ensures.link, c.heed.ensures.link) at c.attached-exit.ensures.serves in
    let at1 = c.attach.new.self.child in
    let generation = c.in-Ok-attach.generation in
    let child : at1.child ≡ attached_in generation c.heed.new.self.child.child = c.in-Ok-attach.ensures.meets.child in
    let pid_is : at1.child.pid ≡ at0.child.pid = ap (λ (child : Child). child.pid) child ∙ ap (λ (child : Child). child.pid) c.heed.ensures.hears.child in
    let l2 = c.attached-exit.new.self.link in
    let at2 = c.attached-exit.new.self.child in
    let w1 = c.attach.new.self.work in
    let w2 = c.attached-exit.new.self.work in
    let rest = g.met.W.Store.apart w0 w1 (g.met.W.Life.rests_on _ _ _ c.heed.ensures.rests c.attach.ensures.rests) in
    let serves : Serves g.W.Store.notes (IsTextBehind decisions.Ok (newcomer (g.W.Store.stamp w0) at0.child.pid generation) c.args.admission.key) decisions.Ok generation gives attached.0 (moment l0 c.args.inbox.now w1 at1)
    (moment l2 c.attached-exit.new.inbox w2 at2) =
    subst (λ (user : User). Serves g.W.Store.notes (IsTextBehind decisions.Ok user c.args.admission.key) decisions.Ok generation gives attached.0 (moment l0 c.args.inbox.now w1 at1) (moment l2 c.attached-exit.new.inbox w2 at2))
    (ap (λ (pid : ℕ). newcomer (g.W.Store.stamp w1) pid generation) pid_is ∙ ap (λ stamp. newcomer stamp at0.child.pid generation) (g.met.W.Store.stays _ _ _ rest)) attached.2 in
    let asked : (turns : List Turn) → HasAskedFor turns at1.told at2.told → HasAskedFor turns at0.told at2.told = λ turns asked. asked_at_gate (attempt c.args.is_ordinary (Ok generation)) turns at0.told c.heed.new.self.child.told at1.told at2.told c.heed.ensures.hears.asked c.in-Ok-attach.ensures.meets.told asked in
    let keeps = cancels_then at0.told c.heed.new.self.child.told at1.told c.heed.ensures.hears.cancels (cancels_at_gate (attempt c.args.is_ordinary (Ok generation)) c.heed.new.self.child.told at1.told c.in-Ok-attach.ensures.meets.told) in
    let over : IsOvertakenBy (g.W.Store.met c.attached-exit.new.self.work) generation attached.0.exit =
    subst (λ (exit : Cause). IsOvertakenBy (g.W.Store.met c.attached-exit.new.self.work) generation exit) (sym attached.1) c.attached-exit.ensures.overtaken in
    record {
      serves = rw (c.in-Ok.is, ← c.self.view_is) (
        attached.0,
        generation,
        attached.1,
        attached_inside attached.0.stage _ _ attached.3
            (subst (λ (exit : Cause). LetsGo exit (at2.child.attached ≡ None) (at2.child.attached ≡ Some generation)) (sym attached.1)
            (lets_go_by c.attached-exit.result c.lets_go.result _ _ c.lets_go.ensures (λ goes. absurd (true≢false (sym goes ∙ c.if-lets_go.false)))
            (λ stays. ap (λ (child : Child). child.attached) (c.attached-exit.ensures.child ∙ child)))),
        served_among g.W.Store.notes _ decisions.Ok generation gives attached.0 l0 l2 _ _ w0 w1 w2 w2 at0 at2 g.met.W.Store.in_turn rest
            (served_since g.W.Store.notes _ decisions.Ok generation gives attached.0 l0 l2 _ _ _ _ at0 at1 at2 at2 asked keeps refl serves)
            (g.met.W.Store.at_rest _),
        over,
        come_still 0 c.args.is_ordinary at1.told at2.told c.attached-exit.ensures.gate (come_now c.args.is_ordinary (Ok generation) _ at1.told c.in-Ok-attach.ensures.meets.told),
      );
    }

pub returns-in-Err-attach : goal.returns-in-Err-attach
returns-in-Err-attach g c =
    let l0 = c.self.inside.line.link in
    let w0 = c.self.inside.line.work in
    let at0 = c.self.inside.line.child in
    let user : User = newcomer (g.W.Store.stamp w0) at0.child.pid 0 in
    let gives = g.C.Clock.gives c.args.means.now.clock.now in
    let at1 = c.attach.new.self.child in
    let l2 = c.close-in-Err-attach.new.self.link in
    let at2 = c.close-in-Err-attach.new.self.child in
    let closes = rw (c.attach.ensures.link, c.heed.ensures.link) at c.close-in-Err-attach.ensures.closes in
    let free = rw (← c.self.view_is) at c.requires.free in
    let refusal = c.in-Err-attach.refusal in
    let told = c.in-Err-attach.ensures.meets.told in
    let child : at1.child ≡ c.heed.new.self.child.child = c.in-Err-attach.ensures.meets.child in
    let stands = at_outside decisions.Ok user closes.0 0 at2.told closes.1 in
    let met = met_still 1 (Err refusal) at1.told at2.told closes.3.hears.asked (met_now c.args.is_ordinary (Err refusal) _ at1.told told) in
    record {
      serves = rw (c.in-Ok.is, ← c.self.view_is) (
        closes.0,
        0,
        closes.2,
        attached_outside closes.0.stage _ _ closes.1 (ap (λ (child : Child). child.attached) (closes.3.hears.child ∙ child ∙ c.heed.ensures.hears.child) ∙ free),
        turned_away g.W.Store.notes decisions.Ok user c.args.admission.key 0 gives (GateRefused refusal) closes.0 l0 l2 c.args.inbox.now c.args.inbox.now w0 c.close-in-Err-attach.new.self.work at0 at1 at2 [] (λ e. absurd cc) (λ phase packet start. start) (λ beyond. tt) stands.0 stands.1
            (g.met.W.Store.apart _ _ (g.met.W.Life.rests_on _ _ _ (g.met.W.Life.rests_on _ _ _ c.heed.ensures.rests c.attach.ensures.rests) c.close-in-Err-attach.ensures.rests))
            (asked_at_gate (attempt c.args.is_ordinary (Err refusal)) [] at0.told c.heed.new.self.child.told at1.told at2.told c.heed.ensures.hears.asked told (asked_for 1 [] at1.told at2.told (omega arith) closes.3.hears.asked)) closes.3
            (λ limit. (refl, met)) stands.2 (out_refused closes.0.stage refusal at2.told closes.1 met)
            (cancels_then at0.told at1.told at2.told (cancels_then at0.told c.heed.new.self.child.told at1.told c.heed.ensures.hears.cancels (cancels_at_gate (attempt c.args.is_ordinary (Err refusal)) c.heed.new.self.child.told at1.told told)) closes.3.hears.cancels),
        ending_overtaken (g.W.Store.met c.close-in-Err-attach.new.self.work) 0 (GateRefused refusal) closes.0 at2 closes.3.ends (λ e. absurd cc),
        come_still 1 c.args.is_ordinary at1.told at2.told closes.3.hears.asked (come_now c.args.is_ordinary (Err refusal) _ at1.told told),
      );
    }
