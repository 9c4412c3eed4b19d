use Rattle.std.{proofs.Common.{rules, ℕ, ◌≡◌, ◌∙◌, true, Option, Some, ap, sym, refl, subst}, specs.Prelude.is_some}
use Rattle.pm_board.specs.{pm_exit.declared.child.Kind.Kind, Places.is_auxiliary, Told.child_in}
use Rattle.pm_board_life.specs.Lives.{LifeModel, beginning, child_by, attached_of, told_by, GoesOn, GoesOnFrom}
use Rattle.pm_worker.{specs.{declared.mail.MailTold.{MailTold, TheVariants.Aux}, Mails.{IsKept, aux_mail}, Runs.{HasRunOne, IsAuxRun}}, proofs.{Auxiliaries.{aux_kind, aux_well, aux_kept, same_run, aux_does}, Exits.{child_is, ends_as, may_exit, is_run, has_run, run_of}, Known.known_aux}}
use Rattle.pm_worker.proofs.runs.tend_one.Goals as goal

pub exit-requires-clause-runs : goal.exit-requires-clause-runs
exit-requires-clause-runs g c =
    let at = c.into_post-post.result in
    let o = c.requires.started.offer in
    let life = c.tend-done.new.work.life in
    let same = c.into_post-post.ensures.post in
    let on : GoesOn (beginning c.args.post c.args.tools.now.seed) life = subst (λ b. GoesOnFrom b life) c.requires.begun c.into_post-post.ensures.same in
    let child : child_in at.knows.work ≡ Some o = ap (λ p. child_in p.knows.work) same ∙ on.child ∙ ap child_in c.requires.started.runs in
    let here = ap (λ p. (child_by p.knows.work).attached) (sym same) ∙ ap (λ ch. ch.attached) (child_is at.knows.work o c.into_post-post.ensures.living child) in
    may_exit at.knows.work o c.tend-done.result.status c.into_post-post.ensures.living child
    (λ active. aux_well c.args.kind _ _ _ c.tend-done.ensures.run.2 (ap (λ (a : Option ℕ). is_some a) here ∙ active))

pub exit-requires-clause-back : goal.exit-requires-clause-back
exit-requires-clause-back g c p active ends =
    let at = c.into_post-post.result in
    let o = c.requires.started.offer in
    let life = c.tend-done.new.work.life in
    let same = c.into_post-post.ensures.post in
    let on : GoesOn (beginning c.args.post c.args.tools.now.seed) life = subst (λ b. GoesOnFrom b life) c.requires.begun c.into_post-post.ensures.same in
    let child : child_in at.knows.work ≡ Some o = ap (λ q. child_in q.knows.work) same ∙ on.child ∙ ap child_in c.requires.started.runs in
    let kind = ap (λ q. q.kind) (ends_as at.knows.work o p active child ends) ∙ aux_kind c.args.kind o.kind c.requires.kind c.requires.started.fits in
    subst (λ (k : Kind). (is_auxiliary k ≡ true) × IsKept k c.tend-done.result.status c.tend-done.result.kept) (sym kind)
    (c.requires.kind, aux_kept c.args.kind _ _ _ c.tend-done.ensures.run.2)

pub returns : goal.returns
returns g c =
    let at = c.into_post-post.result in
    let begun = c.requires.started in
    let o = begun.offer in
    let life = c.tend-done.new.work.life in
    let same = c.into_post-post.ensures.post in
    let start = beginning c.args.post c.args.tools.now.seed in
    let end : LifeModel MailTold = record { post = at; seed = life.seed; cancel = life.cancel } in
    let on : GoesOn start end =
    subst (λ p. GoesOn start (record { post = p; seed = life.seed; cancel = life.cancel })) (sym same) (subst (λ b. GoesOnFrom b life) c.requires.begun c.into_post-post.ensures.same) in
    let child : child_in at.knows.work ≡ Some o = on.child ∙ ap child_in begun.runs in
    let here = ap (λ p. (child_by p.knows.work).attached) (sym same) ∙ ap (λ ch. ch.attached) (child_is at.knows.work o c.into_post-post.ensures.living child) in
    let now = ap (λ p. told_by p.knows.notes.now life.cancel) (sym same) in
    let pid = ap (λ l. (child_by l.post.knows.work).pid) c.new-life.ensures ∙ ap (λ w. (child_by w).pid) begun.runs in
    let done = c.tend-done.result in
    let noted = c.tend-done.ensures.run.0 in
    let stamp = g.S.Store.stamp c.args.store in
    let tools = c.args.tools.now in
    let back = Aux done.fault done.kept in
    let is = same_run c.args.kind stamp _ _ done _ _ _ _ noted pid now here c.tend-done.ensures.run.2 in
    let met = g.S.Store.met c.tend-done.new.work.store in
    let run = run_of on o done.status back noted met in
    let does : IsAuxRun stamp c.args.kind run =
    record { fault = done.fault; kept = done.kept; attached = attached_of at.knows.work; back_is = refl; is = is; active = refl; another = c.tend-done.ensures.met } in (
      record {
        run = run;
        is = is_run stamp tools.conf.authentication_ms (g.C.Clock.gives tools.clock) start end c.args.pid (aux_mail c.args.kind) begun on done.status back noted met
            (aux_does stamp tools.seed tools.conf.authentication_ms (g.C.Clock.gives tools.clock) c.args.kind run c.requires.kind does);
        post = has_run start end c.exit.new.self c.args.pid (aux_mail c.args.kind) begun on done.status back noted met c.into_post-post.ensures.living c.exit.ensures.knows
            c.exit.ensures.table c.exit.ensures.slot;
        store = c.tend-done.ensures.run.1;
        known = known_aux (g.S.Store.learned c.tend-done.new.work.store) run c.args.kind done.fault done.kept (aux_kind c.args.kind o.kind c.requires.kind begun.fits) refl c.tend-done.ensures.learned;
      },
      begun.given_is,
    )
