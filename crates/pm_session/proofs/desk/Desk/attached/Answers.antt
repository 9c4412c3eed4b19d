use Rattle.std.proofs.{Common.{◌≡◌, ◌∙◌, ◌∷◌, [], ℕ, List, Ok, Err, true, false, ap, sym, subst, refl, arith}, lemmas.Bool.true≢false}
use Rattle.pm_admit.specs.declared.Cac.TheVariants as decisions
use Rattle.pm_session_exchange.{specs.{pm_query.{declared.book.BookEntry.{BookEntry, TheVariants.Attached}, Calls.{User, PassView, user_of, newcomer, EnterNotes, LeaveNotes}}, declared.ending.{Cause.Cause, Stage.TheVariants.Entering}, Ends.LetsGo, Moments.{moment, outside}, Answers.IsOvertakenBy}, proofs.OvertakingLaws.overtaken_not_told}
use Rattle.pm_child_life.{specs.Life.Child, proofs.AttentionLaws.hears_both}
use Rattle.pm_query.proofs.NotedLaws.{none_none}
use Rattle.pm_session.{specs.{Session.{Leaves, IsInside}, Entry.{Closes, Serves, IsTextInside, refusal_cause}}, proofs.{Attentions.asked_on, Overtaking.{closed_overtaken, entry_overtaken}, Sessions.{enter_can, at_entering, told_away, turned_away, refused_notes, refusal_fails, refusal_stops, refusal_over, refusal_caused, met_still, asked_for, user_is, served_among, served_left, lets_go_by, inside_at, out_inside}}}
use Rattle.pm_session.proofs.desk.Desk.attached.Goals as goal

pub returns-in-Err-clause-serves : goal.returns-in-Err-clause-serves
returns-in-Err-clause-serves g c =
    let l0 = c.self.inside.line.link in
    let w0 = c.self.inside.line.work in
    let at0 = c.self.inside.line.child in
    let at1 = c.heed.new.self.child in
    let user : User = newcomer (g.W.Store.stamp w0) at0.child.pid c.args.generation in
    let gives = g.C.Clock.gives c.args.means.now.clock.now in
    let l2 = c.close.new.self.link in
    let at2 = c.close.new.self.child in
    let closes = rw c.heed.ensures.link at c.close.ensures.closes in
    let inside : IsInside closes.0.stage = inside_at closes.0.stage Entering closes.1 tt in
    let hears = hears_both 1 1 at0 at1 at2 c.heed.ensures.hears closes.3.hears in
    let met = rw (← c.self.view_is) at c.requires.met in
    let stands = at_entering decisions.Ok user closes.0 c.args.generation at2.told closes.1 refl (met_still 2 (Ok c.args.generation) at0.told at2.told hears.asked met) in
    rw (← c.self.view_is) (
      closes.0,
      closes.2,
      served_among g.W.Store.notes _ decisions.Ok c.args.generation gives closes.0 l0 l2 _ _ w0 w0 w0 c.close.new.self.work at0 at2 g.met.W.Store.in_turn (g.met.W.Store.at_rest _)
          (told_away g.W.Store.notes decisions.Ok user c.args.key c.args.generation gives c.in-Err.cause closes.0 l0 l2 c.args.inbox.now w0 at0 at1 at2 c.heed.ensures.attentive c.in-Err.ensures.ends (g.met.W.Store.at_rest _) stands
          (out_inside closes.0.stage c.in-Err.cause at2.told inside) c.heed.ensures.hears closes.3)
          (g.met.W.Store.apart _ _ (g.met.W.Life.rests_on _ _ _ c.heed.ensures.rests c.close.ensures.rests)),
      inside,
    )

pub refusal_cause-requires : goal.refusal_cause-requires
refusal_cause-requires g c = enter_can g.row.W-Pass.Denot (newcomer (g.W.Store.stamp c.heed.new.self.work) c.pid-pid.result c.args.generation) c.in-Err-enter.no c.in-Err-enter.ensures.notes.0 c.in-Err-enter.ensures.notes.2

pub returns-in-Err-enter-clause-serves : goal.returns-in-Err-enter-clause-serves
returns-in-Err-enter-clause-serves g c =
    let l0 = c.self.inside.line.link in
    let w0 = c.self.inside.line.work in
    let at0 = c.self.inside.line.child in
    let at1 = c.heed.new.self.child in
    let user : User = newcomer (g.W.Store.stamp w0) at0.child.pid c.args.generation in
    let gives = g.C.Clock.gives c.args.means.now.clock.now in
    let l2 = c.close-in-Err-enter.new.self.link in
    let at2 = c.close-in-Err-enter.new.self.child in
    let closes = rw (c.enter.ensures.link, c.enter.ensures.child, c.heed.ensures.link) at c.close-in-Err-enter.ensures.closes in
    let inside : IsInside closes.0.stage = inside_at closes.0.stage Entering closes.1 tt in
    let hears = hears_both 1 1 at0 at1 at2 c.heed.ensures.hears closes.3.hears in
    let met = rw (← c.self.view_is) at c.requires.met in
    let stands = at_entering decisions.Ok user closes.0 c.args.generation at2.told closes.1 refl (met_still 2 (Ok c.args.generation) at0.told at2.told hears.asked met) in
    let w1 = c.heed.new.self.work in
    let heeded = g.met.W.Store.apart w0 w1 c.heed.ensures.rests in
    let refused : g.W.Store.notes [] w1 c.enter.new.self.work =
    subst (λ (entries : List BookEntry). g.W.Store.notes entries w1 c.enter.new.self.work) (refused_notes g.row.W-Pass.Denot (newcomer (g.W.Store.stamp w1) c.pid-pid.result c.args.generation) c.in-Err-enter.no _ c.in-Err-enter.ensures.notes.2) c.in-Err-enter.ensures.notes.1 in
    let rests : g.W.Store.notes [] w0 c.close-in-Err-enter.new.self.work =
    none_none g.W.Store.notes _ _ _ g.met.W.Store.in_turn (none_none g.W.Store.notes _ _ _ g.met.W.Store.in_turn heeded refused) (g.met.W.Store.apart _ _ c.close-in-Err-enter.ensures.rests) in
    let closed : Closes decisions.Ok (refusal_cause c.in-Err-enter.no) closes.0 (outside l0 [] at1) (outside l2 [] at2) =
    subst (λ (cause : Cause). Closes decisions.Ok cause closes.0 (outside l0 [] at1) (outside l2 [] at2)) c.refusal_cause.ensures closes.3 in
    rw (← c.self.view_is) (
      closes.0,
      closes.2,
      turned_away g.W.Store.notes decisions.Ok user c.args.key c.args.generation gives (refusal_cause c.in-Err-enter.no) closes.0 l0 l2 c.args.inbox.now c.args.inbox.now w0 c.close-in-Err-enter.new.self.work at0 at1 at2 []
          (refusal_fails c.in-Err-enter.no) (refusal_stops g.row.W-Pass.Denot user c.pid-pid.result c.in-Err-enter.no _ closes.0.stage closes.1 (subst (λ stamp. EnterNotes {P = g.row.W-Pass.Denot} (newcomer stamp c.pid-pid.result c.args.generation) (Err c.in-Err-enter.no) c.in-Err-enter.ensures.notes.0) (g.met.W.Store.stays _ _ _ heeded) c.in-Err-enter.ensures.notes.2)) (refusal_over c.in-Err-enter.no) stands.0 stands.1 rests (asked_for 2 [] at0.told at2.told (omega arith) hears.asked) closed
          (λ limit. refusal_caused c.in-Err-enter.no decisions.Ok _ _ _ limit gives) stands.2 (out_inside closes.0.stage (refusal_cause c.in-Err-enter.no) at2.told inside) hears.cancels,
      inside,
    )

pub returns-then-lets_go-clause-serves : goal.returns-then-lets_go-clause-serves
returns-then-lets_go-clause-serves g c =
    let l0 = c.self.inside.line.link in
    let w0 = c.self.inside.line.work in
    let at0 = c.self.inside.line.child in
    let at1 = c.heed.new.self.child in
    let user : User = newcomer (g.W.Store.stamp w0) at0.child.pid c.args.generation in
    let gives = g.C.Clock.gives c.args.means.now.clock.now in
    let heeded = g.met.W.Store.apart w0 c.heed.new.self.work c.heed.ensures.rests in
    let pid_is : c.pid-pid.result ≡ at0.child.pid = c.pid-pid.ensures ∙ ap (λ (child : Child). child.pid) c.heed.ensures.hears.child in
    let same : user_of (g.W.Store.stamp c.enter.new.self.work) (g.W.Store.view c.in-Ok.pass) ≡ user =
    user_is (g.W.Store.stamp w0) (g.W.Store.stamp c.enter.new.self.work) (g.W.Store.view c.in-Ok.pass) c.pid-pid.result at0.child.pid c.args.generation c.in-Ok.ensures.view pid_is (g.met.W.Store.stays _ _ _ c.in-Ok.ensures.notes.1 ∙ g.met.W.Store.stays _ _ _ heeded) in
    let entered : g.W.Store.notes (Attached user.pid user.generation ∷ []) w0 c.enter.new.self.work =
    subst (λ (entries : List BookEntry). g.W.Store.notes entries w0 c.enter.new.self.work) (c.in-Ok.ensures.notes.2 ∙ ap (λ (p : ℕ). Attached p c.args.generation ∷ []) pid_is) (g.met.W.Store.in_turn _ _ _ [] c.in-Ok.ensures.notes.0 heeded c.in-Ok.ensures.notes.1) in
    let served = rw (c.enter.ensures.link, c.enter.ensures.child, c.heed.ensures.link) at c.entered-exit.ensures.serves in
    let l2 = c.entered-exit.new.self.link in
    let at2 = c.entered-exit.new.self.child in
    let serves : Serves g.W.Store.notes (IsTextInside decisions.Ok user c.args.key) decisions.Ok user.generation gives served.0 (moment l0 c.args.inbox.now c.enter.new.self.work at1) (moment l2 c.entered-exit.new.inbox c.entered-exit.new.self.work at2) =
    subst (λ (u : User). Serves g.W.Store.notes (IsTextInside decisions.Ok u c.args.key) decisions.Ok u.generation gives served.0 (moment l0 c.args.inbox.now c.enter.new.self.work at1) (moment l2 c.entered-exit.new.inbox c.entered-exit.new.self.work at2)) same served.2 in
    let left = c.leave.ensures.notes in
    let kept = rw (← c.self-2.view_is) at c.entered-exit.ensures.user in
    let gone = rw (← c.self-2.view_is) at serves in
    let leaves : Leaves user served.0.exit left.0 =
    subst (λ (exit : Cause). Leaves user exit left.0) (sym served.1)
    (lets_go_by c.entered-exit.result c.lets_go.result _ _ c.lets_go.ensures (λ goes. subst (λ (u : User). LeaveNotes u left.0) (kept ∙ same) left.2)
    (λ stays. let e : true ≡ false = sym c.if-lets_go.true ∙ stays in absurd (true≢false e))) in
    rw (← c.self.view_is, c.leave.ensures.link, c.leave.ensures.child) (
      served.0,
      served.1,
      served_left g.W.Store.notes decisions.Ok user c.args.key gives served.0 l0 _ _ _ _ _ _ _ at0 at1 _ left.0 g.met.W.Store.in_turn entered gone left.1 leaves c.heed.ensures.hears,
      served.3,
    )

pub returns-else-lets_go-clause-serves : goal.returns-else-lets_go-clause-serves
returns-else-lets_go-clause-serves g c =
    let l0 = c.self.inside.line.link in
    let w0 = c.self.inside.line.work in
    let at0 = c.self.inside.line.child in
    let at1 = c.heed.new.self.child in
    let user : User = newcomer (g.W.Store.stamp w0) at0.child.pid c.args.generation in
    let gives = g.C.Clock.gives c.args.means.now.clock.now in
    let heeded = g.met.W.Store.apart w0 c.heed.new.self.work c.heed.ensures.rests in
    let pid_is : c.pid-pid.result ≡ at0.child.pid = c.pid-pid.ensures ∙ ap (λ (child : Child). child.pid) c.heed.ensures.hears.child in
    let same : user_of (g.W.Store.stamp c.enter.new.self.work) (g.W.Store.view c.in-Ok.pass) ≡ user =
    user_is (g.W.Store.stamp w0) (g.W.Store.stamp c.enter.new.self.work) (g.W.Store.view c.in-Ok.pass) c.pid-pid.result at0.child.pid c.args.generation c.in-Ok.ensures.view pid_is (g.met.W.Store.stays _ _ _ c.in-Ok.ensures.notes.1 ∙ g.met.W.Store.stays _ _ _ heeded) in
    let entered : g.W.Store.notes (Attached user.pid user.generation ∷ []) w0 c.enter.new.self.work =
    subst (λ (entries : List BookEntry). g.W.Store.notes entries w0 c.enter.new.self.work) (c.in-Ok.ensures.notes.2 ∙ ap (λ (p : ℕ). Attached p c.args.generation ∷ []) pid_is) (g.met.W.Store.in_turn _ _ _ [] c.in-Ok.ensures.notes.0 heeded c.in-Ok.ensures.notes.1) in
    let served = rw (c.enter.ensures.link, c.enter.ensures.child, c.heed.ensures.link) at c.entered-exit.ensures.serves in
    let l2 = c.entered-exit.new.self.link in
    let at2 = c.entered-exit.new.self.child in
    let serves : Serves g.W.Store.notes (IsTextInside decisions.Ok user c.args.key) decisions.Ok user.generation gives served.0 (moment l0 c.args.inbox.now c.enter.new.self.work at1) (moment l2 c.entered-exit.new.inbox c.entered-exit.new.self.work at2) =
    subst (λ (u : User). Serves g.W.Store.notes (IsTextInside decisions.Ok u c.args.key) decisions.Ok u.generation gives served.0 (moment l0 c.args.inbox.now c.enter.new.self.work at1) (moment l2 c.entered-exit.new.inbox c.entered-exit.new.self.work at2)) same served.2 in
    let leaves : Leaves user served.0.exit [] =
    subst (λ (exit : Cause). Leaves user exit []) (sym served.1)
    (lets_go_by c.entered-exit.result c.lets_go.result _ _ c.lets_go.ensures (λ goes. let e : true ≡ false = sym goes ∙ c.if-lets_go.false in absurd (true≢false e)) (λ stays. refl)) in
    rw (← c.self.view_is) (
      served.0,
      served.1,
      served_left g.W.Store.notes decisions.Ok user c.args.key gives served.0 l0 l2 _ _ _ _ _ _ at0 at1 at2 [] g.met.W.Store.in_turn entered serves (g.met.W.Store.at_rest _) leaves c.heed.ensures.hears,
      served.3,
    )

-- ---- the generation

pub returns-in-Err-clause-overtaken : goal.returns-in-Err-clause-overtaken
returns-in-Err-clause-overtaken g c =
    closed_overtaken _ c.args.generation decisions.Ok Entering c.in-Err.cause c.close.result _ _ c.close.ensures.closes (overtaken_not_told _ c.args.generation c.in-Err.cause c.in-Err.ensures.stops.0)

pub returns-in-Err-enter-clause-overtaken : goal.returns-in-Err-enter-clause-overtaken
returns-in-Err-enter-clause-overtaken g c =
    closed_overtaken _ c.args.generation decisions.Ok Entering c.refusal_cause.result c.close-in-Err-enter.result _ _ c.close-in-Err-enter.ensures.closes
    (subst (λ met. IsOvertakenBy met c.args.generation c.refusal_cause.result) (sym (g.met.W.Store.met_still _ _ c.close-in-Err-enter.ensures.rests))
    (rw c.refusal_cause.ensures (entry_overtaken g.row.W-Pass.Denot (g.W.Store.met c.enter.new.self.work) c.args.generation c.in-Err-enter.no c.in-Err-enter.ensures.stale)))

pub returns-then-lets_go-clause-overtaken : goal.returns-then-lets_go-clause-overtaken
returns-then-lets_go-clause-overtaken g c = λ e.
    let stays = subst (λ (exit : Cause). LetsGo exit (c.lets_go.result ≡ true) (c.lets_go.result ≡ false)) e c.lets_go.ensures in
    absurd (true≢false (sym c.if-lets_go.true ∙ stays))

pub returns-else-lets_go-clause-overtaken : goal.returns-else-lets_go-clause-overtaken
returns-else-lets_go-clause-overtaken g c =
    subst (λ (pass : PassView). IsOvertakenBy (g.W.Store.met c.entered-exit.new.self.work) pass.generation c.entered-exit.result) c.in-Ok.ensures.view c.entered-exit.ensures.overtaken

-- ---- the gate

pub returns-in-Err-clause-gate : goal.returns-in-Err-clause-gate
returns-in-Err-clause-gate g c = rw (← c.self.view_is) (asked_on 1 1 _ _ _ c.heed.ensures.hears.asked c.close.ensures.closes.3.hears.asked)

pub returns-in-Err-enter-clause-gate : goal.returns-in-Err-enter-clause-gate
returns-in-Err-enter-clause-gate g c =
    let closes = rw c.enter.ensures.child at c.close-in-Err-enter.ensures.closes in
    rw (← c.self.view_is) (asked_on 1 1 _ _ _ c.heed.ensures.hears.asked closes.3.hears.asked)

pub returns-then-lets_go-clause-gate : goal.returns-then-lets_go-clause-gate
returns-then-lets_go-clause-gate g c =
    let gate = rw c.enter.ensures.child at c.entered-exit.ensures.gate in
    let gone = rw (← c.self-2.view_is) at gate in
    rw (← c.self.view_is, c.leave.ensures.child) (asked_on 1 0 _ _ _ c.heed.ensures.hears.asked gone)

pub returns-else-lets_go-clause-gate : goal.returns-else-lets_go-clause-gate
returns-else-lets_go-clause-gate g c =
    let gate = rw c.enter.ensures.child at c.entered-exit.ensures.gate in
    rw (← c.self.view_is) (asked_on 1 0 _ _ _ c.heed.ensures.hears.asked gate)
