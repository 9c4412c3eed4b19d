-- Each run of a worker used the store once, or not at all, and has noted the end of redo that its child tells of.
use Rattle.std.{proofs.{Common.{◌≡◌, ◌⊎◌, inl, inr, ℕ, Bool, true, false, List, [], ◌∷◌, ◌++◌, Option, Some, None, Result, Ok, Err, refl, sym, subst, ap, ◌∙◌}, lemmas.{List.Elements.recursion_from_All, Bool.eq-eqb}}, specs.{Prelude.{nat_eq, if◌then◌else◌, option_map, unwrap_or, IfSome}, List.AllByRecursion}}
use Rattle.pm_board_acts.specs.{pm_admit.declared.Cac.Cac, pm_aux.{declared.{aux_done.AuxDone.AuxDone, cause.AuxiliaryEnd.{AuxiliaryEnd, TheVariants.{Flushed, Closed, LeftOut, Refused, ToldToTerminate, ToldToQuit, Killed, Redone as HasRedone}}}, Ends.status_by, Runs.{EndsOutside, NotesBehind, Runner}, Work.{ClosesBy, Flushes, HasEntered, IsKeptOut, IsPassing, LeavesIf, ReadsLog, Does as DoesWork}}, pm_board.{pm_board_words.declared.views.{Offer.Offer, PastChild.PastChild}, Places.is_connection}, pm_supervisor_chain.Chain.{InGeneration, IsAmong, kept_of, redos_of}, pm_exit.{declared.child.{Kind.Kind, Status.Status}, Ends.is_exit_0}, pm_board_life.Lives.{IsAnswerTo, MetRightly}, Calls.kept_by, Mails.kept_told, pm_supervisor.Children.{is_dead_end, is_session, is_startup_child}, pm_worker.{declared.mail.{LinkTold.LinkTold, MailTold.MailTold}, Mails.IsFor, Runs.{Does, IsAuxRun, IsRun, IsSessionRun, Run, told_in}}}
use Rattle.pm_board_acts.specs.pm_admit.declared.Cac.TheVariants as decisions
use Rattle.pm_board_acts.specs.pm_aux.Ends as ends
use Rattle.pm_session_answers.specs.{Own.is_by, pm_session_exchange.{declared.ending.{Stage.{Stage, TheVariants.{Outside, Entering, Greeted}}, Cause.Cause as SessionCause}, Queries.{IsUnreleased, TurnNotes}, Sent.{Turn, Ran, Faulted, NotUtf8, Cancelled, LogIsFull, Memory}}, pm_child_life.{declared.life.{Attempt.Attempt, GateNo.GateNo}, Life.{Told, answer_met, attempt}}, pm_query.{Calls.{User, LeaveNotes, NotesFault, newcomer}, declared.{book.BookEntry.{BookEntry, TheVariants.{Opened, Attached, Answered, Released, Detached, Gone, Redone, Broke, LogFull, CheckpointEnded}}, store.StoreNo.{StoreNo, TheVariants.{Stale, Disk, Broken, Full, Redo, NoMemory}}}}, pm_session.Session.{AllNotes, BreaksOff, EndsAt, Ending, IsAdmitted, IsInside, IsText, Leaves, NotesOutside, StopsInside}}
use Rattle.pm_serve_crew.specs.{Redos.{redo_told, told_if}, Uses.{AllBy, HasUsed, IsWorkOf, UsesStore}}
use Rattle.pm_session_answers.specs.pm_session_exchange.declared.ending.Cause.TheVariants as why
use Rattle.pm_board_acts.specs.pm_exit.declared.child.Kind.TheVariants as kinds
use Rattle.pm_store_shared.specs.pm_record.declared.fault.RedoFault.TheVariants as redo
use Rattle.pm_session_answers.specs.pm_session.Session as session
use Rattle.pm_board_acts.specs.pm_worker.declared.mail.MailTold.TheVariants as mail

-- the end of redo that a child of this kind and generation tells of that ends by this cause
abbrev redo_by : ℕ → Kind → AuxiliaryEnd → List InGeneration
redo_by generation kind cause = told_if generation (kept_by kind (status_by cause) (ends.kept_by cause))

-- what a child noted inside, where it was let into this generation: its entering, and its work
abbrev Entered : PastChild MailTold → ℕ → List BookEntry → Type 0
Entered child generation noted =
    (work : List BookEntry) × (noted ≡ Attached child.offer.pid generation ∷ work) × AllByRecursion (IsWorkOf child) work

module _ (child : PastChild MailTold) where
  abbrev AllWork : List BookEntry → Type 0
  AllWork entries = AllByRecursion (IsWorkOf child) entries

  none : (noted : List BookEntry) → noted ≡ [] → AllWork noted
  none noted is = subst AllWork (sym is) tt

  one : (noted : List BookEntry) (entry : BookEntry) → noted ≡ entry ∷ [] → IsWorkOf child entry → AllWork noted
  one noted entry is work = subst AllWork (sym is) (work, tt)

  both : (first second : List BookEntry) → AllWork first → AllWork second → AllWork (first ++ second)
  both [] second one two = two
  both (entry ∷ first) second one two = (one.0, both first second one.1 two)

  parts : (noted first second : List BookEntry) → noted ≡ first ++ second → AllWork first → AllWork second → AllWork noted
  parts noted first second is one two = subst AllWork (sym is) (both first second one two)

  -- its own pid
  abbrev own : ℕ
  own = child.offer.pid

  -- ---- calls of the store

  of_fault : (noted : List BookEntry) → NotesFault own noted → AllWork noted
  of_fault noted (since, faults, is) = one noted (Broke own since faults) is refl

  of_passing : (passing : List BookEntry) → AllByRecursion (IsPassing own) passing → AllWork passing
  of_passing [] each = tt
  of_passing (entry ∷ passing) each = (subst (IsWorkOf child) (sym each.0.1) refl, of_passing passing each.1)

  -- ---- a session

  of_unreleased : (text : List ℕ) (noted : List BookEntry) → IsUnreleased own text noted → AllWork noted
  of_unreleased text noted (inl is) = none noted is
  of_unreleased text noted (inr (script, reply, front, commit, query, answer)) = one noted (Answered own script reply commit front answer.tick) answer.entries_are refl

  of_turn : (text : List ℕ) (turn : Turn) (noted : List BookEntry) → TurnNotes own text turn noted → AllWork noted
  of_turn text (Ran reply) noted is =
      parts noted is.answered (Released own is.front is.tick ∷ []) is.entries_are
      (one is.answered (Answered own is.script reply is.commit is.front is.answer.tick) is.answer.entries_are refl) (refl, tt)
  of_turn text (Faulted fault) noted is = none noted is.2
  of_turn text NotUtf8 noted is = none noted is.1
  of_turn text Cancelled noted is = none noted is
  of_turn text LogIsFull noted (script, need, room, query, is) = one noted (LogFull own script need room) is refl
  of_turn text Memory noted (inl is) = of_unreleased text noted is
  of_turn text Memory noted (inr (script, need, room, query, is)) = one noted (LogFull own script need room) is refl

  of_turns : (texts : List (List ℕ)) (turns : List Turn) (noted : List BookEntry) → AllNotes own texts turns noted → AllWork noted
  of_turns [] [] noted is = none noted is
  of_turns [] (turn ∷ turns) noted is = absurd is
  of_turns (text ∷ texts) [] noted is = absurd is
  of_turns (text ∷ texts) (turn ∷ turns) noted (first, others, is, front, notes, rest) =
      parts noted first others is (of_turn text turn first notes) (of_turns texts turns others rest)

  of_break : (last : List ℕ) (noted : List BookEntry) → BreaksOff own last noted → AllWork noted
  of_break last noted (text, is, front, notes) = of_unreleased text noted notes

  of_stop : (last : List ℕ) (noted : List BookEntry) → StopsInside own last noted → AllWork noted
  of_stop last noted (inl is) = none noted is.1
  of_stop last noted (inr breaks) = of_break last noted breaks

  module _ (stamp : Option ℕ) (generation : ℕ) where
    abbrev entrant : User
    entrant = newcomer stamp own generation

    of_leave : (noted : List BookEntry) → LeaveNotes entrant noted → AllWork noted
    of_leave noted (inl is) = one noted (Detached own) is refl
    of_leave noted (inr over) = none noted over.1

    of_end : (cause : SessionCause) (last : List ℕ) (noted : List BookEntry) → EndsAt entrant cause last noted → AllWork noted
    of_end why.Terminated last noted is = none noted is.1
    of_end why.LinkEnded last noted is = none noted is.1
    of_end why.LinkFailed last noted is = none noted is.1
    of_end (why.MessageRefused fault) last noted is = none noted is.1
    of_end why.Panicked last noted (asked, broke, breaks, fault, is) =
        parts noted asked broke is (of_break last asked breaks) (of_fault broke fault)
    of_end why.ToldToTerminate last noted is = none noted is.1
    of_end (why.ToldToQuit reason) last noted is = of_stop last noted is
    of_end why.Killed last noted is = of_stop last noted is
    of_end why.Overtaken last noted is = of_break last noted is.1
    of_end _ last noted is = absurd is

    of_leaves : (cause : SessionCause) (left : List BookEntry) → Leaves entrant cause left → AllWork left
    of_leaves why.Panicked left is = none left is
    of_leaves (why.ToldToQuit reason) left is = none left is
    of_leaves why.Killed left is = none left is
    of_leaves why.Overtaken left is = none left is
    of_leaves _ left is = of_leave left is

    -- a child was let into the store by a session alone that serves
    abbrev Uses : Cac → Stage → List BookEntry → Type 0
    Uses decision stage noted = (noted ≡ []) ⊎ (Entered child generation noted × (decision ≡ decisions.Ok) × IsInside stage)

    of_outside : (decision : Cac) (stage : Stage) (cause : SessionCause) (noted : List BookEntry) → IsAdmitted stage decision → NotesOutside entrant stage cause noted
        → Uses decision stage noted
    of_outside decision Outside cause noted admitted is = inl is
    of_outside decision Entering cause noted admitted (inl is) = inl is
    of_outside decision Entering cause noted admitted (inr (left, is, leaves)) = inr ((left, is, of_leaves cause left leaves), admitted, tt)
    of_outside decision Greeted cause noted admitted is = absurd is

    of_text : (decision : Cac) (key : ℕ) (turns : List Turn) (ending : Ending) (came_in said : List ℕ) (noted : List BookEntry)
        → IsText decision entrant key turns ending came_in said noted → Uses decision ending.stage noted
    of_text decision key turns ending came_in said noted (inl away) = of_outside decision ending.stage ending.exit noted away.0.admitted away.0.notes
    of_text decision key turns ending came_in said noted (inr served) =
        inr (
          (
            (served.asked ++ served.ended) ++ served.left,
            served.notes,
            both (served.asked ++ served.ended) served.left
                (both served.asked served.ended (of_turns served.texts turns served.asked served.each) (of_end ending.cause served.last served.ended served.ends))
                (of_leaves ending.exit served.left served.leaves),
          ),
          served.admitted,
          subst IsInside (sym served.stage) tt,
        )

    -- ---- an auxiliary child

    of_read : (cause : AuxiliaryEnd) (noted : List BookEntry) → redo_told child ≡ redo_by generation kinds.Startup cause
        → ReadsLog entrant cause noted → AllWork noted
    of_read (HasRedone kept) noted told is = one noted (Redone own generation kept) is (refl, told)
    of_read (Refused (Stale mine found)) noted told is = none noted is.1
    of_read (Refused (Redo redo.Disk)) noted told is = of_fault noted is
    of_read (Refused (Redo redo.NoMemory)) noted told is = none noted is
    of_read (Refused (Redo redo.NoCluster)) noted told is = none noted is
    of_read (Refused (Redo (redo.BadFile file at))) noted told is = none noted is
    of_read (Refused (Redo (redo.SameEpoch epoch))) noted told is = none noted is
    of_read _ noted told is = absurd is

    of_flush : (cause : AuxiliaryEnd) (noted : List BookEntry) → Flushes entrant cause noted → AllWork noted
    of_flush Flushed noted is = none noted is
    of_flush (Refused (Stale mine found)) noted is = none noted is.1
    of_flush (Refused Disk) noted is = of_fault noted is
    of_flush (Refused (Broken since)) noted is = one noted (Broke own since is.0) is.1 refl
    of_flush (Refused NoMemory) noted is = none noted is
    of_flush (ToldToQuit reason) noted is = none noted is
    of_flush Killed noted is = none noted is
    of_flush _ noted is = absurd is

    of_close : (cause : AuxiliaryEnd) (noted : List BookEntry) → ClosesBy entrant cause noted → AllWork noted
    of_close Closed noted is = one noted (CheckpointEnded own true true) is refl
    of_close LeftOut noted is = one noted (CheckpointEnded own false true) is refl
    of_close (Refused (Stale mine found)) noted is = none noted is.1
    of_close (Refused Disk) noted is = of_fault noted is
    of_close (Refused (Broken since)) noted is = one noted (Broke own since is.0) is.1 refl
    of_close (Refused (Full need room)) noted is = none noted is.1
    of_close (Refused NoMemory) noted is = none noted is
    of_close (ToldToQuit reason) noted is = none noted is
    of_close Killed noted is = none noted is
    of_close _ noted is = absurd is

    of_work : (kind : Kind) (cause : AuxiliaryEnd) (noted : List BookEntry) → redo_told child ≡ redo_by generation kind cause
        → DoesWork kind entrant cause noted → AllWork noted
    of_work kinds.Startup cause noted told does = of_read cause noted told does
    of_work kinds.Writer cause noted told does = of_flush cause noted does
    of_work kinds.Checkpointer cause noted told does =
        parts noted does.passing does.last does.noted_is
        (of_passing does.passing (recursion_from_All (IsPassing own) does.passing does.each)) (of_close cause does.last does.closes)
    of_work _ cause noted told does = absurd does

    of_leaves_if : (lets : Bool) (noted : List BookEntry) → LeavesIf lets entrant noted → AllWork noted
    of_leaves_if true noted is = of_leave noted is
    of_leaves_if false noted is = none noted is

    of_entered : (kind : Kind) (cause : AuxiliaryEnd) (noted : List BookEntry) → redo_told child ≡ redo_by generation kind cause
        → HasEntered kind entrant cause noted → Entered child generation noted
    of_entered kind cause noted told entered =
        let worked = entered.worked in (
          entered.inside,
          entered.noted_is,
          parts entered.inside worked.work worked.left worked.noted_is (of_work kind cause worked.work told worked.does)
              (of_leaves_if (ends.lets_go cause) worked.left worked.leaves),
        )

  kept_out : (kind : Kind) (user : User) (cause : AuxiliaryEnd) (noted : List BookEntry) → IsKeptOut kind user cause noted → noted ≡ []
  kept_out kind user (Refused (Stale mine found)) noted is = is.1
  kept_out kind user (Refused NoMemory) noted is = is
  kept_out kind user (ToldToQuit reason) noted is = is.1
  kept_out kind user Killed noted is = is.1
  kept_out kind user _ noted is = absurd is

  abbrev who : Option ℕ → Runner
  who stamp = record { pid = own; stamp = stamp }

  used : (generation : ℕ) (noted : List BookEntry) → generation ≡ child.offer.generation → is_dead_end child.offer.kind ≡ false → Entered child generation noted → HasUsed child noted
  used generation noted met serves (work, is, all) = record {
    work = work;
    is = is ∙ ap (λ (g : ℕ). Attached own g ∷ work) met;
    of_it = all;
    serves = serves;
  }

  aux_inside : (stamp : Option ℕ) (kind : Kind) (gate : Option (Result ℕ GateNo)) (cause : AuxiliaryEnd) (noted : List BookEntry) → is_dead_end child.offer.kind ≡ false
      → redo_told child ≡ redo_by child.offer.generation kind cause → MetRightly child.offer (option_map (attempt false) gate) → NotesBehind kind (who stamp) gate cause noted → (noted ≡ []) ⊎ HasUsed child noted
  aux_inside stamp kind None cause noted serves told met notes = inl notes.1
  aux_inside stamp kind (Some (Err refusal)) cause noted serves told met notes = inl notes.1
  aux_inside stamp kind (Some (Ok generation)) cause noted serves told met (inl out) = inl (kept_out kind (entrant stamp generation) cause noted out)
  aux_inside stamp kind (Some (Ok generation)) cause noted serves told met (inr entered) =
      inr (used generation noted met serves (of_entered stamp generation kind cause noted (told ∙ ap (λ (g : ℕ). redo_by g kind cause) (sym met)) entered))

  -- ---- the end of redo

  abbrev AllNoted : List BookEntry → List InGeneration → Type 0
  AllNoted noted ends = AllByRecursion (λ end. IsAmong end (kept_of (redos_of noted))) ends

  tells_none : (noted : List BookEntry) → redo_told child ≡ [] → AllNoted noted (redo_told child)
  tells_none noted is = subst (AllNoted noted) (sym is) tt

  outside_redo : (generation : ℕ) (cause : AuxiliaryEnd) → EndsOutside kinds.Startup cause → redo_by generation kinds.Startup cause ≡ []
  outside_redo generation ToldToTerminate outside = refl
  outside_redo generation (ToldToQuit reason) outside = refl
  outside_redo generation Killed outside = refl
  outside_redo generation _ outside = absurd outside

  refused_redo : (generation : ℕ) (refusal : StoreNo) → redo_by generation kinds.Startup (Refused refusal) ≡ []
  refused_redo generation (Stale mine found) = refl
  refused_redo generation _ = refl

  kept_out_redo : (generation : ℕ) (user : User) (cause : AuxiliaryEnd) (noted : List BookEntry) → IsKeptOut kinds.Startup user cause noted → redo_by generation kinds.Startup cause ≡ []
  kept_out_redo generation user (Refused refusal) noted is = refused_redo generation refusal
  kept_out_redo generation user (ToldToQuit reason) noted is = refl
  kept_out_redo generation user Killed noted is = refl
  kept_out_redo generation user _ noted is = absurd is

  read_redo : (user : User) (cause : AuxiliaryEnd) (work left : List BookEntry) → ReadsLog user cause work → AllNoted (work ++ left) (redo_by user.generation kinds.Startup cause)
  read_redo user (HasRedone kept) work left is =
      subst (λ (entries : List BookEntry). AllNoted (entries ++ left) (redo_by user.generation kinds.Startup (HasRedone kept))) (sym is) (inl (refl, refl), tt)
  read_redo user (Refused refusal) work left is = subst (AllNoted (work ++ left)) (sym (refused_redo user.generation refusal)) tt
  read_redo user _ work left is = absurd is

  startup_redo : (stamp : Option ℕ) (gate : Option (Result ℕ GateNo)) (cause : AuxiliaryEnd) (noted : List BookEntry) → redo_told child ≡ redo_by child.offer.generation kinds.Startup cause
      → MetRightly child.offer (option_map (attempt false) gate) → NotesBehind kinds.Startup (who stamp) gate cause noted → AllNoted noted (redo_told child)
  startup_redo stamp None cause noted told met notes = tells_none noted (told ∙ outside_redo child.offer.generation cause notes.0)
  startup_redo stamp (Some (Err refusal)) cause noted told met notes = tells_none noted (told ∙ ap (λ (c : AuxiliaryEnd). redo_by child.offer.generation kinds.Startup c) notes.0)
  startup_redo stamp (Some (Ok generation)) cause noted told met (inl out) =
      tells_none noted (told ∙ kept_out_redo child.offer.generation (entrant stamp generation) cause noted out)
  startup_redo stamp (Some (Ok generation)) cause noted told met (inr entered) =
      let worked = entered.worked in
      let whole : noted ≡ Attached own generation ∷ (worked.work ++ worked.left) = entered.noted_is ∙ ap (λ (entries : List BookEntry). Attached own generation ∷ entries) worked.noted_is in
      subst (AllNoted noted) (sym (told ∙ ap (λ (g : ℕ). redo_by g kinds.Startup cause) (sym met)))
      (subst (λ (entries : List BookEntry). AllNoted entries (redo_by generation kinds.Startup cause)) (sym whole) (read_redo (entrant stamp generation) cause worked.work worked.left worked.does))

-- ---- a run

-- the redo of a child by its kind, status and mail
told_by_cause : (child : PastChild MailTold) (kind : Kind) (cause : AuxiliaryEnd) (fault : Option StoreNo) (kept : Option ℕ) → child.offer.kind ≡ kind → child.status ≡ status_by cause
    → child.back ≡ mail.Aux fault kept → kept ≡ ends.kept_by cause → redo_told child ≡ redo_by child.offer.generation kind cause
told_by_cause child kind cause fault kept is_kind status back is_kept =
    ap (λ (k : Kind). told_if child.offer.generation (kept_by k child.status (kept_told child.back))) is_kind
    ∙ (ap (λ (s : Status). told_if child.offer.generation (kept_by kind s (kept_told child.back))) status
    ∙ (ap (λ (m : MailTold). told_if child.offer.generation (kept_by kind (status_by cause) (kept_told m))) back
    ∙ ap (λ (n : Option ℕ). told_if child.offer.generation (kept_by kind (status_by cause) n)) is_kept))

no_startup : (child : PastChild MailTold) → is_startup_child child.offer.kind ≡ false → redo_told child ≡ []
no_startup child is =
    ap (λ (b : Bool). told_if child.offer.generation (if b then (if is_exit_0 child.status then Some (unwrap_or (kept_told child.back) 0) else None) else None)) is

serves_none : (kind : Kind) → is_connection kind ≡ true → is_startup_child kind ≡ false
serves_none kinds.Startup is = absurd cc
serves_none _ is = refl

-- who was let in is of the generation that it met
pub let_in_own : {D : Type 0} (o : Offer D) (met : Option Attempt) (generation : ℕ) → MetRightly o met → option_map (λ (a : Attempt). a.answer) met ≡ Some (Ok generation) → generation ≡ o.generation
let_in_own o None generation right is = absurd cc
let_in_own o (Some a) generation right is = subst (λ (answer : Option (Result ℕ GateNo)). IfSome answer (IsAnswerTo o.generation (is_session o.kind) a.is_ordinary)) is right

-- and it met its own
let_in : (stage : Stage) (generation : ℕ) (told : Told) → IsInside stage → session.HasEntered stage generation (Some told) → answer_met told ≡ Some (Ok generation)
let_in Outside generation told inside met = absurd inside
let_in Entering generation told inside met = met
let_in Greeted generation told inside met = met

module _ (stamp : Option ℕ) (seed : List ℕ) (limit : ℕ) (gives : ℕ → Type 0) where
  of_session : (link : LinkTold) (decision : Cac) (run : Run) → IsFor (mail.Serve link decision) run.child.offer.kind → MetRightly run.child.offer run.heard.met
      → IsSessionRun stamp seed limit gives link decision run → UsesStore run.child run.noted
  of_session link decision run fits met is = record {
    inside = by (of_text run.child stamp is.generation decision is.key is.turns is.ending is.session.came_in is.session.whole is.session.noted is.session.text);
    redo = tells_none run.child run.noted (no_startup run.child (serves_none run.child.offer.kind fits.0));
  }
    where
      by : Uses run.child stamp is.generation decision is.ending.stage is.session.noted → (run.noted ≡ []) ⊎ HasUsed run.child run.noted
      by (inl nothing) = inl (sym is.session.entries ∙ nothing)
      by (inr (entered, admitted, inside)) =
          let generation : is.generation ≡ run.child.offer.generation =
          let_in_own run.child.offer run.heard.met is.generation met (let_in is.ending.stage is.generation (told_in run) inside is.caused.gate) in
          inr (used run.child is.generation run.noted generation (ap is_dead_end (fits.1 admitted)) (subst (Entered run.child is.generation) is.session.entries entered))

  of_aux : (kind : Kind) (run : Run) (is : IsAuxRun stamp kind run) → run.child.offer.kind ≡ kind → MetRightly run.child.offer run.heard.met
      → redo_told run.child ≡ redo_by run.child.offer.generation kind is.is.cause
  of_aux kind run is is_kind met =
      told_by_cause run.child kind is.is.cause is.fault is.kept is_kind (ap (λ (d : AuxDone). d.status) is.is.done) is.back_is (ap (λ (d : AuxDone). d.kept) is.is.done)

  aux_run : (kind : Kind) (run : Run) (is : IsAuxRun stamp kind run) → run.child.offer.kind ≡ kind → MetRightly run.child.offer run.heard.met → is_dead_end kind ≡ false
      → (run.noted ≡ []) ⊎ HasUsed run.child run.noted
  aux_run kind run is is_kind met serves =
      aux_inside run.child stamp kind is.is.gate is.is.cause run.noted (ap is_dead_end is_kind ∙ serves) (of_aux kind run is is_kind met)
      (subst (MetRightly run.child.offer) is.is.met met) is.is.notes

  of_does : (given : MailTold) (run : Run) → IsFor given run.child.offer.kind → MetRightly run.child.offer run.heard.met → Does stamp seed limit gives given run
      → UsesStore run.child run.noted
  of_does (mail.Serve link decision) run fits met is = of_session link decision run fits met is
  of_does mail.Startup run fits met is = record {
    inside = aux_run kinds.Startup run is fits met refl;
    redo = startup_redo run.child stamp is.is.gate is.is.cause run.noted (of_aux kinds.Startup run is fits met) (subst (MetRightly run.child.offer) is.is.met met) is.is.notes;
  }
  of_does mail.Checkpointer run fits met is = record {
    inside = aux_run kinds.Checkpointer run is fits met refl;
    redo = tells_none run.child run.noted (no_startup run.child (ap is_startup_child fits));
  }
  of_does mail.Writer run fits met is = record {
    inside = aux_run kinds.Writer run is fits met refl;
    redo = tells_none run.child run.noted (no_startup run.child (ap is_startup_child fits));
  }
  of_does mail.Close run fits met is = record {
    inside = inl (ap (λ (r : Run). r.noted) is);
    redo = tells_none run.child run.noted (no_startup run.child (ap is_startup_child fits));
  }
  of_does (mail.Served link) run fits met is = absurd is
  of_does (mail.Aux fault kept) run fits met is = absurd is

  pub uses : (run : Run) → IsRun stamp seed limit gives run → UsesStore run.child run.noted
  uses run is = of_does run.child.offer.given run is.fits is.met is.does

-- ---- its own entries

same_pid : (pid who : ℕ) → who ≡ pid → nat_eq pid who ≡ true
same_pid pid who is = subst (λ (n : ℕ). nat_eq pid n ≡ true) (sym is) (eq-eqb pid pid refl)

work_own : (child : PastChild MailTold) (entry : BookEntry) → IsWorkOf child entry → is_by child.offer.pid entry ≡ true
work_own child (Opened generation) is = absurd is
work_own child (Attached pid generation) is = absurd is
work_own child (Gone pid) is = absurd is
work_own child (Redone pid generation kept) is = same_pid child.offer.pid pid is.0
work_own child (Answered pid script reply commit front tick) is = same_pid child.offer.pid pid is
work_own child (Released pid front tick) is = same_pid child.offer.pid pid is
work_own child (Detached pid) is = same_pid child.offer.pid pid is
work_own child (CheckpointEnded pid done clean) is = same_pid child.offer.pid pid is
work_own child (Broke pid since faults) is = same_pid child.offer.pid pid is
work_own child (LogFull pid script need room) is = same_pid child.offer.pid pid is

all_own : (child : PastChild MailTold) (work : List BookEntry) → AllByRecursion (IsWorkOf child) work → AllBy child.offer.pid work
all_own child [] all = tt
all_own child (entry ∷ work) all = (work_own child entry all.0, all_own child work all.1)

-- all that a child noted is of it
pub own_entries : (child : PastChild MailTold) (noted : List BookEntry) → UsesStore child noted → AllBy child.offer.pid noted
own_entries child noted uses = by uses.inside
  where
    by : (noted ≡ []) ⊎ HasUsed child noted → AllBy child.offer.pid noted
    by (inl nothing) = subst (AllBy child.offer.pid) (sym nothing) tt
    by (inr used) = subst (AllBy child.offer.pid) (sym used.is) (eq-eqb child.offer.pid child.offer.pid refl, all_own child used.work used.of_it)
