use Rattle.std.proofs.Common.{rules, ℕ, ◌≡◌, ◌<◌, ◌≤◌, ◌∙◌, Some, None, refl, ap, sym, subst}
use Rattle.pm_board.specs.{pm_exit.Ends.is_exit_0, Places.is_connection, Slots.child_slots, pm_board_words.Words.status_number, Told.child_in, pm_keys.CancelKey.cancel_key}
use Rattle.pm_session.specs.{pm_child_life.Life.{Child, nothing_told}, Session.{IsAttachedBehind, HasAskedFor, IsCaused, HeedsTold, HasCancelled, HasCome, IsSession, between}, pm_outside.pm_disk.Cause.Rose, pm_query.Calls.newcomer}
use Rattle.pm_board_life.specs.Lives.{LifeModel, beginning, child_by, child_as, attached_of, told_by, GoesOn, GoesOnFrom}
use Rattle.pm_worker.{specs.{declared.mail.MailTold.{MailTold, TheVariants.{Serve, Served}}, Mails.link_told, Runs.HasRunOne}, proofs.{Exits.{child_is, ends_as, may_exit, is_run, has_run, run_of}, Known.known_served, Statuses.fits, Sessions.{by_faults, told_whole, stays_inside, session_run}}}
use Rattle.pm_worker.proofs.runs.serve_one.Goals as goal

pub exit-requires-clause-runs : goal.exit-requires-clause-runs
exit-requires-clause-runs g c =
    let at = c.into_post-post.result in
    let o = c.requires.started.offer in
    let now = c.serve-status.result.work.life in
    let on : GoesOn (beginning c.args.post c.args.tools.now.seed) now = subst (λ b. GoesOnFrom b now) c.requires.begun c.into_post-post.ensures.same in
    let child : child_in at.knows.work ≡ Some o = ap (λ p. child_in p.knows.work) c.into_post-post.ensures.post ∙ on.child ∙ ap child_in c.requires.started.runs in
    let s = c.serve-status.ensures.session in
    let behind : IsAttachedBehind s.0 s.2 (attached_of at.knows.work) =
    subst (λ (x : Child). IsAttachedBehind s.0 s.2 x.attached) (ap (λ p. child_by p.knows.work) (sym c.into_post-post.ensures.post) ∙ child_is at.knows.work o c.into_post-post.ensures.living child) s.7 in
    may_exit at.knows.work o c.serve-status.result.status c.into_post-post.ensures.living child
    (λ active. ap is_exit_0 s.3 ∙ stays_inside s.0.stage s.0.exit (attached_of at.knows.work) (attached_of at.knows.work ≡ Some s.2) behind active)

pub exit-requires-clause-status : goal.exit-requires-clause-status
exit-requires-clause-status g c =
    let s = c.serve-status.ensures.session in
    subst (λ status. status_number status < 256) (sym s.3) (fits s.0.exit)

pub exit-requires-clause-back : goal.exit-requires-clause-back
exit-requires-clause-back g c p active ends =
    let at = c.into_post-post.result in
    let o = c.requires.started.offer in
    let now = c.serve-status.result.work.life in
    let on : GoesOn (beginning c.args.post c.args.tools.now.seed) now = subst (λ b. GoesOnFrom b now) c.requires.begun c.into_post-post.ensures.same in
    let child : child_in at.knows.work ≡ Some o = ap (λ q. child_in q.knows.work) c.into_post-post.ensures.post ∙ on.child ∙ ap child_in c.requires.started.runs in
    ap (λ q. is_connection q.kind) (ends_as at.knows.work o p active child ends) ∙ c.requires.started.fits.0

pub returns : goal.returns
returns g c =
    let at = c.into_post-post.result in
    let begun = c.requires.started in
    let o = begun.offer in
    let life = c.serve-status.result.work.life in
    let same = c.into_post-post.ensures.post in
    let start = beginning c.args.post c.args.tools.now.seed in
    let end : LifeModel MailTold = record { post = at; seed = life.seed; cancel = life.cancel } in
    let on : GoesOn start end =
    subst (λ p. GoesOn start (record { post = p; seed = life.seed; cancel = life.cancel })) (sym same) (subst (λ b. GoesOnFrom b life) c.requires.begun c.into_post-post.ensures.same) in
    let child : child_in at.knows.work ≡ Some o = on.child ∙ ap child_in begun.runs in
    let s = c.serve-status.ensures.session in
    let behind : IsAttachedBehind s.0 s.2 (attached_of at.knows.work) =
    subst (λ (x : Child). IsAttachedBehind s.0 s.2 x.attached) (ap (λ p. child_by p.knows.work) (sym same) ∙ child_is at.knows.work o c.into_post-post.ensures.living child) s.7 in
    let tools = c.args.tools.now in
    let gives = g.C.Clock.gives tools.clock in
    let limit = tools.conf.authentication_ms in
    let stamp = g.S.Store.stamp c.args.store in
    let back = link_told g.L.Link c.serve-status.result.link in
    let link = link_told g.L.Link c.args.link.link in
    let traffic = g.L.Link.traffic c.serve-status.result.link in
    let faults = ap g.L.Link.faults c.open-link.ensures.same in
    let now : told_by life.post.knows.notes.now life.cancel ≡ told_by at.knows.notes.now life.cancel = ap (λ p. told_by p.knows.notes.now life.cancel) (sym same) in
    let first = ap (λ l. told_by l.post.knows.notes.now l.cancel) c.new-life.ensures ∙ ap (λ h. told_by h None) begun.untold in
    let pid = ap (λ l. (child_by l.post.knows.work).pid) c.new-life.ensures ∙ ap (λ w. (child_by w).pid) begun.runs in
    let named = (child_by c.new-life.result.post.knows.work).pid in
    let met = g.S.Store.met c.serve-status.result.work.store in
    let served = by_faults faults s.4 in
    let session =
    session_run _ stamp tools.seed limit gives link back c.args.decision o
    c.serve-status.result.status at.knows.notes.now life.cancel (child_slots c.args.post.table.slots) on.looked on.made met (attached_of at.knows.work) s.0 s.1 s.2 _ _ traffic
    c.key_of-key.result named (told_whole traffic) pid
    (subst (λ (x : ℕ). 0 < x → c.key_of-key.result ≡ cancel_key tools.seed x) (sym (pid ∙ begun.pid_is)) c.key_of-key.ensures)
    (c.serve-status.ensures.number ∙ ap g.L.Link.number c.open-link.ensures.same)
    (subst (λ f. f ≤ back.faults) faults c.serve-status.ensures.link_faults)
    s.3
    served
    (subst (λ t. IsCaused s.0 s.1 s.2 c.args.decision traffic (Rose link.faults back.faults) (Some t) limit gives) now
    (subst (λ f. IsCaused s.0 s.1 s.2 c.args.decision traffic (Rose f back.faults) (Some (told_by life.post.knows.notes.now life.cancel)) limit gives) faults s.5))
    (subst (λ t. HasAskedFor s.1 (Some nothing_told) (Some t)) now (subst (λ t. HasAskedFor s.1 (Some t) (Some (told_by life.post.knows.notes.now life.cancel))) first s.6))
    (subst (HeedsTold c.serve-status.result.status) now c.serve-status.ensures.heeds)
    behind
    (subst (λ t. HasCancelled s.0.cause traffic (Some t)) now s.8)
    s.9
    (subst (λ t. HasCome traffic (Some t)) now s.10) in
    let given = Serve link c.args.decision in
    let status = c.serve-status.result.status in
    let run = run_of on o status (Served back) session.0 met in (
      record {
        run = run;
        is = is_run stamp limit gives start end c.args.pid given begun on status (Served back) session.0 met session.2;
        post = has_run start end c.exit.new.self c.args.pid given begun on status (Served back) session.0 met c.into_post-post.ensures.living c.exit.ensures.knows
            c.exit.ensures.table c.exit.ensures.slot;
        store = session.1;
        known = known_served (g.S.Store.learned c.serve-status.result.work.store) run back refl;
      },
      begun.given_is,
    )
