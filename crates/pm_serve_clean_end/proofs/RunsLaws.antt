-- What a run notes, by how it ended.
use Rattle.std.{proofs.{Common.{◌≡◌, ◌⊎◌, inl, inr, ℕ, Bool, true, false, not, ◌&&◌, ◌||◌, List, [], ◌∷◌, ◌++◌, Option, Some, None, Result, Ok, Err, refl, sym, subst, ap, ◌∙◌, arith}, lemmas.List.Elements.recursion_from_All}, specs.{Prelude.option_map, List.AllByRecursion}}
use Rattle.pm_serve_crew.{specs.{pm_exit.{declared.child.{Kind.Kind, Status.Status}, Ends.is_exit_0}, pm_child_life.{declared.life.{Attempt.Attempt, GateNo.GateNo}, Life.{Told, answer_met, attempt}}, pm_admit.declared.Cac.Cac, pm_supervisor.Children.{is_checkpointer, is_startup_child}, pm_query.{declared.{book.BookEntry.{BookEntry, TheVariants.{Attached, Answered, Released, Detached, Redone, Broke, LogFull, CheckpointEnded}}, store.StoreNo.TheVariants.{Stale, Disk, Broken, Full, Redo, NoMemory}}, Calls.{User, LeaveNotes, NotesFault}}, pm_session_exchange.{Sent.{Turn, Ran, Faulted, NotUtf8, Cancelled, LogIsFull, Memory}, declared.ending.{Cause.Cause as SessionCause, Stage.{Stage, TheVariants.{Outside, Entering, Greeted}}}, Ends.status_by as status_of_session, Queries.{IsReleased, IsUnreleased, TurnNotes}}, pm_session.Session.{AllNotes, BreaksOff, EndsAt, Ending, HasEntered as HasEnteredSession, IsText, Leaves, NotesOutside, StopsInside}, pm_board.Places.is_connection, pm_board_life.Lives.MetRightly, pm_aux.{declared.cause.AuxiliaryEnd.{AuxiliaryEnd, TheVariants.{Redone as HasRedone, Flushed, Closed, LeftOut, Refused, TurnedAway, ToldToTerminate, ToldToQuit, Killed}}, Runs.{NotesBehind, Runner, user_in}, Work.{ClosesBy, Does as DoesWork, Flushes, HasEntered, IsKeptOut, IsPassing, LeavesIf, ReadsLog}, Ends.{lets_go, status_by}}, pm_worker.{declared.mail.MailTold.MailTold, Mails.IsFor, Runs.{Does, IsAuxRun, IsRun, Run, told_in}}}, proofs.UsesLaws.let_in_own}
use Rattle.pm_serve_crew.specs.pm_exit.declared.child.Kind.TheVariants as kinds
use Rattle.pm_serve_crew.specs.pm_admit.declared.Cac.TheVariants as decisions
use Rattle.pm_store_remains.specs.pm_record.declared.fault.RedoFault.TheVariants as redo
use Rattle.pm_serve_crew.specs.pm_session_exchange.declared.ending.Cause.TheVariants as why
use Rattle.pm_serve_crew.specs.pm_worker.declared.mail.MailTold.TheVariants as mail
use Rattle.pm_serve_clean_end.specs.{Among.{IsIn, in_back, in_front}, Seen.is_harm}

-- a child ended with harm, or a startup child without its redo
abbrev pub is_bad : Kind → Status → Bool
is_bad kind status = is_harm kind status || (is_startup_child kind && not (is_exit_0 status))

-- it attaches in this generation, and tells of a fault of the disk where this holds
abbrev pub May : ℕ → Type 0 → BookEntry → Type 0
May generation bad (Attached pid its) = its ≡ generation
May generation bad (Broke pid since faults) = bad
May generation bad _ = Unit {0}

abbrev pub AllMay : ℕ → Type 0 → List BookEntry → Type 0
AllMay generation bad entries = AllByRecursion (May generation bad) entries

module _ (generation : ℕ) (bad : Type 0) where
  none : (noted : List BookEntry) → noted ≡ [] → AllMay generation bad noted
  none noted is = subst (AllMay generation bad) (sym is) tt

  one : (noted : List BookEntry) (entry : BookEntry) → noted ≡ entry ∷ [] → May generation bad entry → AllMay generation bad noted
  one noted entry is may = subst (AllMay generation bad) (sym is) (may, tt)

  both : (first second : List BookEntry) → AllMay generation bad first → AllMay generation bad second → AllMay generation bad (first ++ second)
  both [] second first_may second_may = second_may
  both (entry ∷ first) second first_may second_may = (first_may.0, both first second first_may.1 second_may)

  parts : (noted first second : List BookEntry) → noted ≡ first ++ second → AllMay generation bad first → AllMay generation bad second → AllMay generation bad noted
  parts noted first second is first_may second_may = subst (AllMay generation bad) (sym is) (both first second first_may second_may)

  -- ---- calls of the store

  of_fault : (pid : ℕ) (noted : List BookEntry) → bad → NotesFault pid noted → AllMay generation bad noted
  of_fault pid noted its (since, faults, is) = one noted (Broke pid since faults) is its

  of_leave : (user : User) (noted : List BookEntry) → LeaveNotes user noted → AllMay generation bad noted
  of_leave user noted (inl is) = one noted (Detached user.pid) is tt
  of_leave user noted (inr over) = none noted over.1

  -- ---- a session

  of_unreleased : (pid : ℕ) (text : List ℕ) (noted : List BookEntry) → IsUnreleased pid text noted → AllMay generation bad noted
  of_unreleased pid text noted (inl is) = none noted is
  of_unreleased pid text noted (inr (script, reply, front, commit, query, answer)) = one noted (Answered pid script reply commit front answer.tick) answer.entries_are tt

  of_released : (pid : ℕ) (text : List ℕ) (reply : List _) (noted : List BookEntry) → IsReleased pid text reply noted → AllMay generation bad noted
  of_released pid text reply noted is =
      parts noted is.answered (Released pid is.front is.tick ∷ []) is.entries_are
      (one is.answered (Answered pid is.script reply is.commit is.front is.answer.tick) is.answer.entries_are tt) (tt, tt)

  of_turn : (pid : ℕ) (text : List ℕ) (turn : Turn) (noted : List BookEntry) → TurnNotes pid text turn noted → AllMay generation bad noted
  of_turn pid text (Ran reply) noted is = of_released pid text reply noted is
  of_turn pid text (Faulted fault) noted is = none noted is.2
  of_turn pid text NotUtf8 noted is = none noted is.1
  of_turn pid text Cancelled noted is = none noted is
  of_turn pid text LogIsFull noted (script, need, room, query, is) = one noted (LogFull pid script need room) is tt
  of_turn pid text Memory noted (inl is) = of_unreleased pid text noted is
  of_turn pid text Memory noted (inr (script, need, room, query, is)) = one noted (LogFull pid script need room) is tt

  of_turns : (pid : ℕ) (texts : List (List ℕ)) (turns : List Turn) (noted : List BookEntry) → AllNotes pid texts turns noted → AllMay generation bad noted
  of_turns pid [] [] noted is = none noted is
  of_turns pid [] (turn ∷ turns) noted is = absurd is
  of_turns pid (text ∷ texts) [] noted is = absurd is
  of_turns pid (text ∷ texts) (turn ∷ turns) noted (first, others, is, front, notes, rest) =
      parts noted first others is (of_turn pid text turn first notes) (of_turns pid texts turns others rest)

  of_break : (pid : ℕ) (last : List ℕ) (noted : List BookEntry) → BreaksOff pid last noted → AllMay generation bad noted
  of_break pid last noted (text, is, front, notes) = of_unreleased pid text noted notes

  of_stop : (pid : ℕ) (last : List ℕ) (noted : List BookEntry) → StopsInside pid last noted → AllMay generation bad noted
  of_stop pid last noted (inl is) = none noted is.1
  of_stop pid last noted (inr breaks) = of_break pid last noted breaks

  of_end : (user : User) (cause : SessionCause) (last : List ℕ) (noted : List BookEntry) → (cause ≡ why.Panicked → bad) → EndsAt user cause last noted → AllMay generation bad noted
  of_end user why.Terminated last noted panics is = none noted is.1
  of_end user why.Cancelling last noted panics is = absurd is
  of_end user why.LinkEnded last noted panics is = none noted is.1
  of_end user why.LinkFailed last noted panics is = none noted is.1
  of_end user why.TimedOut last noted panics is = absurd is
  of_end user (why.PacketRefused fault) last noted panics is = absurd is
  of_end user (why.MessageRefused fault) last noted panics is = none noted is.1
  of_end user why.DecisionRefused last noted panics is = absurd is
  of_end user (why.GateRefused refusal) last noted panics is = absurd is
  of_end user why.ShortOfMemory last noted panics is = absurd is
  of_end user why.Panicked last noted panics (asked, broke, breaks, fault, is) =
      parts noted asked broke is (of_break user.pid last asked breaks) (of_fault user.pid broke (panics refl) fault)
  of_end user why.ToldToTerminate last noted panics is = none noted is.1
  of_end user (why.ToldToQuit reason) last noted panics is = of_stop user.pid last noted is
  of_end user why.Killed last noted panics is = of_stop user.pid last noted is
  of_end user why.Overtaken last noted panics is = of_break user.pid last noted is.1

  of_leaves : (user : User) (cause : SessionCause) (left : List BookEntry) → Leaves user cause left → AllMay generation bad left
  of_leaves user why.Panicked left is = none left is
  of_leaves user (why.ToldToQuit reason) left is = none left is
  of_leaves user why.Killed left is = none left is
  of_leaves user why.Overtaken left is = none left is
  of_leaves user _ left is = of_leave user left is

  -- what the gate let it into is this generation
  abbrev LetIn : ℕ → Told → Type 0
  LetIn its told = answer_met told ≡ Some (Ok its) → its ≡ generation

  of_outside : (user : User) (stage : Stage) (cause : SessionCause) (told : Told) (noted : List BookEntry) → LetIn user.generation told → HasEnteredSession stage user.generation (Some told)
      → NotesOutside user stage cause noted → AllMay generation bad noted
  of_outside user Outside cause told noted let_in entered is = none noted is
  of_outside user Entering cause told noted let_in entered (inl is) = none noted is
  of_outside user Entering cause told noted let_in entered (inr (left, is, leaves)) = subst (AllMay generation bad) (sym is) (let_in entered, of_leaves user cause left leaves)
  of_outside user Greeted cause told noted let_in entered is = absurd is

  greeted_in : (stage : Stage) (its : ℕ) (told : Told) → stage ≡ Greeted → HasEnteredSession stage its (Some told) → answer_met told ≡ Some (Ok its)
  greeted_in Outside its told is entered = absurd cc
  greeted_in Entering its told is entered = entered
  greeted_in Greeted its told is entered = entered

  of_text : (decision : Cac) (user : User) (key : ℕ) (turns : List Turn) (ending : Ending) (told : Told) (came_in said : List ℕ) (noted : List BookEntry)
      → LetIn user.generation told → HasEnteredSession ending.stage user.generation (Some told) → (decision ≡ decisions.Ok → ending.cause ≡ why.Panicked → bad)
      → IsText decision user key turns ending came_in said noted → AllMay generation bad noted
  of_text decision user key turns ending told came_in said noted let_in entered panics (inl away) = of_outside user ending.stage ending.exit told noted let_in entered away.0.notes
  of_text decision user key turns ending told came_in said noted let_in entered panics (inr served) =
      subst (AllMay generation bad) (sym served.notes)
      (both ((Attached user.pid user.generation ∷ served.asked) ++ served.ended) served.left
      (both (Attached user.pid user.generation ∷ served.asked) served.ended
      (let_in (greeted_in ending.stage user.generation told served.stage entered), of_turns user.pid served.texts turns served.asked served.each)
      (of_end user ending.cause served.last served.ended (panics served.admitted) served.ends))
      (of_leaves user ending.exit served.left served.leaves))

  -- ---- an auxiliary child

  of_read : (user : User) (cause : AuxiliaryEnd) (noted : List BookEntry) → (is_bad kinds.Startup (status_by cause) ≡ true → bad) → ReadsLog user cause noted → AllMay generation bad noted
  of_read user (HasRedone kept) noted its is = one noted (Redone user.pid user.generation kept) is tt
  of_read user (Refused (Stale mine found)) noted its is = none noted is.1
  of_read user (Refused Disk) noted its is = absurd is
  of_read user (Refused (Broken since)) noted its is = absurd is
  of_read user (Refused (Full need room)) noted its is = absurd is
  of_read user (Refused NoMemory) noted its is = absurd is
  of_read user (Refused (Redo redo.Disk)) noted its is = of_fault user.pid noted (its refl) is
  of_read user (Refused (Redo redo.NoMemory)) noted its is = none noted is
  of_read user (Refused (Redo redo.NoCluster)) noted its is = none noted is
  of_read user (Refused (Redo (redo.BadFile file at))) noted its is = none noted is
  of_read user (Refused (Redo (redo.SameEpoch epoch))) noted its is = none noted is
  of_read user Flushed noted its is = absurd is
  of_read user Closed noted its is = absurd is
  of_read user LeftOut noted its is = absurd is
  of_read user (TurnedAway refusal) noted its is = absurd is
  of_read user ToldToTerminate noted its is = absurd is
  of_read user (ToldToQuit reason) noted its is = absurd is
  of_read user Killed noted its is = absurd is

  of_flush : (user : User) (cause : AuxiliaryEnd) (noted : List BookEntry) → (is_bad kinds.Writer (status_by cause) ≡ true → bad) → Flushes user cause noted → AllMay generation bad noted
  of_flush user Flushed noted its is = none noted is
  of_flush user (Refused (Stale mine found)) noted its is = none noted is.1
  of_flush user (Refused Disk) noted its is = of_fault user.pid noted (its refl) is
  of_flush user (Refused (Broken since)) noted its is = one noted (Broke user.pid since is.0) is.1 (its refl)
  of_flush user (Refused NoMemory) noted its is = none noted is
  of_flush user (Refused (Full need room)) noted its is = absurd is
  of_flush user (Refused (Redo fault)) noted its is = absurd is
  of_flush user (ToldToQuit reason) noted its is = none noted is
  of_flush user Killed noted its is = none noted is
  of_flush user (HasRedone kept) noted its is = absurd is
  of_flush user Closed noted its is = absurd is
  of_flush user LeftOut noted its is = absurd is
  of_flush user (TurnedAway refusal) noted its is = absurd is
  of_flush user ToldToTerminate noted its is = absurd is

  of_close : (user : User) (cause : AuxiliaryEnd) (noted : List BookEntry) → (is_bad kinds.Checkpointer (status_by cause) ≡ true → bad) → ClosesBy user cause noted → AllMay generation bad noted
  of_close user Closed noted its is = one noted (CheckpointEnded user.pid true true) is tt
  of_close user LeftOut noted its is = one noted (CheckpointEnded user.pid false true) is tt
  of_close user (Refused (Stale mine found)) noted its is = none noted is.1
  of_close user (Refused Disk) noted its is = of_fault user.pid noted (its refl) is
  of_close user (Refused (Broken since)) noted its is = one noted (Broke user.pid since is.0) is.1 (its refl)
  of_close user (Refused (Full need room)) noted its is = none noted is.1
  of_close user (Refused (Redo fault)) noted its is = absurd is
  of_close user (Refused NoMemory) noted its is = none noted is
  of_close user (ToldToQuit reason) noted its is = none noted is
  of_close user Killed noted its is = none noted is
  of_close user (HasRedone kept) noted its is = absurd is
  of_close user Flushed noted its is = absurd is
  of_close user (TurnedAway refusal) noted its is = absurd is
  of_close user ToldToTerminate noted its is = absurd is

  of_passing : (pid : ℕ) (passing : List BookEntry) → AllByRecursion (IsPassing pid) passing → AllMay generation bad passing
  of_passing pid [] each = tt
  of_passing pid (entry ∷ passing) each = (subst (May generation bad) (sym each.0.1) tt, of_passing pid passing each.1)

  of_work : (kind : Kind) (user : User) (cause : AuxiliaryEnd) (noted : List BookEntry) → (is_bad kind (status_by cause) ≡ true → bad) → DoesWork kind user cause noted → AllMay generation bad noted
  of_work kinds.Startup user cause noted its does = of_read user cause noted its does
  of_work kinds.Writer user cause noted its does = of_flush user cause noted its does
  of_work kinds.Checkpointer user cause noted its does =
      parts noted does.passing does.last does.noted_is
      (of_passing user.pid does.passing (recursion_from_All (IsPassing user.pid) does.passing does.each)) (of_close user cause does.last its does.closes)
  of_work kinds.Worker user cause noted its does = absurd does
  of_work kinds.Backend user cause noted its does = absurd does
  of_work kinds.DeadEnd user cause noted its does = absurd does

  of_leaves_if : (lets : Bool) (user : User) (noted : List BookEntry) → LeavesIf lets user noted → AllMay generation bad noted
  of_leaves_if true user noted is = of_leave user noted is
  of_leaves_if false user noted is = none noted is

  of_kept_out : (kind : Kind) (user : User) (cause : AuxiliaryEnd) (noted : List BookEntry) → IsKeptOut kind user cause noted → AllMay generation bad noted
  of_kept_out kind user (Refused (Stale mine found)) noted is = none noted is.1
  of_kept_out kind user (Refused NoMemory) noted is = none noted is
  of_kept_out kind user (Refused Disk) noted is = absurd is
  of_kept_out kind user (Refused (Broken since)) noted is = absurd is
  of_kept_out kind user (Refused (Full need room)) noted is = absurd is
  of_kept_out kind user (Refused (Redo fault)) noted is = absurd is
  of_kept_out kind user (ToldToQuit reason) noted is = none noted is.1
  of_kept_out kind user Killed noted is = none noted is.1
  of_kept_out kind user (HasRedone kept) noted is = absurd is
  of_kept_out kind user Flushed noted is = absurd is
  of_kept_out kind user Closed noted is = absurd is
  of_kept_out kind user LeftOut noted is = absurd is
  of_kept_out kind user (TurnedAway refusal) noted is = absurd is
  of_kept_out kind user ToldToTerminate noted is = absurd is

  of_entered : (kind : Kind) (user : User) (cause : AuxiliaryEnd) (noted : List BookEntry) → user.generation ≡ generation → (is_bad kind (status_by cause) ≡ true → bad) → HasEntered kind user cause noted
      → AllMay generation bad noted
  of_entered kind user cause noted here its entered =
      let worked = entered.worked in
      subst (AllMay generation bad) (sym entered.noted_is) (
        here,
        parts entered.inside worked.work worked.left worked.noted_is (of_work kind user cause worked.work its worked.does)
            (of_leaves_if (lets_go cause) user worked.left worked.leaves),
      )

  of_behind : (kind : Kind) (who : Runner) (gate : Option (Result ℕ GateNo)) (cause : AuxiliaryEnd) (noted : List BookEntry) → ((let_in : ℕ) → gate ≡ Some (Ok let_in) → let_in ≡ generation)
      → (is_bad kind (status_by cause) ≡ true → bad) → NotesBehind kind who gate cause noted → AllMay generation bad noted
  of_behind kind who None cause noted here its is = none noted is.1
  of_behind kind who (Some (Err refusal)) cause noted here its is = none noted is.1
  of_behind kind who (Some (Ok let_in)) cause noted here its (inl out) = of_kept_out kind (user_in who let_in) cause noted out
  of_behind kind who (Some (Ok let_in)) cause noted here its (inr entered) = of_entered kind (user_in who let_in) cause noted (here let_in refl) its entered

-- ---- a run

bad_panic : (kind : Kind) (status : Status) (cause exit : SessionCause) → kind ≡ kinds.Backend → status ≡ status_of_session exit → cause ≡ why.Panicked → (exit ≡ cause) ⊎ (exit ≡ why.Killed)
    → is_bad kind status ≡ true
bad_panic kind status cause exit backend its panicked (inl same) =
    let six : status ≡ status_of_session why.Panicked = its ∙ ap status_of_session (same ∙ panicked) in
    ap (λ (k : Kind). is_bad k status) backend ∙ ap (is_bad kinds.Backend) six
bad_panic kind status cause exit backend its panicked (inr killed) =
    let nine : status ≡ status_of_session why.Killed = its ∙ ap status_of_session killed in
    ap (λ (k : Kind). is_bad k status) backend ∙ ap (is_bad kinds.Backend) nine

-- whose run it is
abbrev own_runner : Run → Runner
own_runner run = record { pid = run.child.offer.pid; stamp = None }

abbrev pub MayRun : Run → Type 0
MayRun run = AllMay run.child.offer.generation (is_bad run.child.offer.kind run.child.status ≡ true) run.noted

-- it has noted a redo
pub record NotesRedo (pid : ℕ) (noted : List BookEntry) : Type 0 where
  pub generation : ℕ
  pub kept : ℕ
  pub there : IsIn (Redone pid generation kept) noted

-- it has noted a last checkpoint
pub record NotesLast (pid : ℕ) (noted : List BookEntry) : Type 0 where
  pub done : Bool
  pub there : IsIn (CheckpointEnded pid done true) noted

module _ (seed : List ℕ) (limit : ℕ) (gives : ℕ → Type 0) where
  may_aux : (kind : Kind) (run : Run) → run.child.offer.kind ≡ kind → MetRightly run.child.offer run.heard.met → IsAuxRun None kind run → MayRun run
  may_aux kind run kind_is right is =
      let its = is.is in
      let status_is : run.child.status ≡ status_by its.cause = ap (λ d. d.status) its.done in
      of_behind run.child.offer.generation (is_bad run.child.offer.kind run.child.status ≡ true) kind (own_runner run) its.gate its.cause run.noted
      (λ let_in gate_is. let_in_own run.child.offer run.heard.met let_in right (ap (option_map (λ (a : Attempt). a.answer)) (its.met ∙ ap (option_map (attempt false)) gate_is)))
      (λ bad. ap (λ (k : Kind). is_bad k run.child.status) kind_is ∙ ap (is_bad kind) status_is ∙ bad)
      its.notes

  may_does : (given : MailTold) (run : Run) → IsFor given run.child.offer.kind → MetRightly run.child.offer run.heard.met → Does None seed limit gives given run → MayRun run
  may_does (mail.Serve link decision) run fits right is =
      subst (AllMay run.child.offer.generation (is_bad run.child.offer.kind run.child.status ≡ true)) is.session.entries
      (of_text run.child.offer.generation (is_bad run.child.offer.kind run.child.status ≡ true) decision _ _ is.turns is.ending (told_in run) is.session.came_in is.session.whole is.session.noted
      (λ met. let_in_own run.child.offer run.heard.met is.generation right met)
      is.caused.gate
      (λ admitted panicked. bad_panic run.child.offer.kind run.child.status is.ending.cause is.ending.exit (fits.1 admitted) is.status panicked is.ending.exits)
      is.session.text)
  may_does mail.Startup run fits right is = may_aux kinds.Startup run fits right is
  may_does mail.Checkpointer run fits right is = may_aux kinds.Checkpointer run fits right is
  may_does mail.Writer run fits right is = may_aux kinds.Writer run fits right is
  may_does mail.Close run fits right is = subst (λ (r : Run). AllMay run.child.offer.generation (is_bad run.child.offer.kind run.child.status ≡ true) r.noted) (sym is) tt
  may_does (mail.Served link) run fits right is = absurd is
  may_does (mail.Aux fault kept) run fits right is = absurd is

  -- what a run notes
  pub may_run : (run : Run) → IsRun None seed limit gives run → MayRun run
  may_run run is = may_does run.child.offer.given run is.fits is.met is.does

  -- ---- a startup child, and a checkpointer, that exit with code 0

  startup_in : (user : User) (cause : AuxiliaryEnd) (work : List BookEntry) → is_exit_0 (status_by cause) ≡ true → ReadsLog user cause work → NotesRedo user.pid work
  startup_in user (HasRedone kept) work well is = record { generation = user.generation; kept = kept; there = subst (IsIn _) (sym is) (inl refl) }
  startup_in user (Refused (Stale mine found)) work well is = absurd cc
  startup_in user (Refused Disk) work well is = absurd cc
  startup_in user (Refused (Broken since)) work well is = absurd cc
  startup_in user (Refused (Full need room)) work well is = absurd cc
  startup_in user (Refused (Redo fault)) work well is = absurd cc
  startup_in user (Refused NoMemory) work well is = absurd cc
  startup_in user Flushed work well is = absurd is
  startup_in user Closed work well is = absurd is
  startup_in user LeftOut work well is = absurd is
  startup_in user (TurnedAway refusal) work well is = absurd is
  startup_in user ToldToTerminate work well is = absurd is
  startup_in user (ToldToQuit reason) work well is = absurd is
  startup_in user Killed work well is = absurd is

  closes_in : (user : User) (cause : AuxiliaryEnd) (last : List BookEntry) → is_exit_0 (status_by cause) ≡ true → ClosesBy user cause last → NotesLast user.pid last
  closes_in user Closed last well is = record { done = true; there = subst (IsIn _) (sym is) (inl refl) }
  closes_in user LeftOut last well is = record { done = false; there = subst (IsIn _) (sym is) (inl refl) }
  closes_in user (Refused (Stale mine found)) last well is = absurd cc
  closes_in user (Refused Disk) last well is = absurd cc
  closes_in user (Refused (Broken since)) last well is = absurd cc
  closes_in user (Refused (Full need room)) last well is = absurd cc
  closes_in user (Refused (Redo fault)) last well is = absurd cc
  closes_in user (Refused NoMemory) last well is = absurd cc
  closes_in user (HasRedone kept) last well is = absurd is
  closes_in user Flushed last well is = absurd is
  closes_in user (TurnedAway refusal) last well is = absurd is
  closes_in user ToldToTerminate last well is = absurd is
  closes_in user (ToldToQuit reason) last well is = absurd cc
  closes_in user Killed last well is = absurd cc

  kept_out_badly : (kind : Kind) (user : User) (cause : AuxiliaryEnd) (noted : List BookEntry) → IsKeptOut kind user cause noted → is_exit_0 (status_by cause) ≡ true → ⊥
  kept_out_badly kind user (Refused (Stale mine found)) noted is well = cc
  kept_out_badly kind user (Refused NoMemory) noted is well = cc
  kept_out_badly kind user (Refused Disk) noted is well = is
  kept_out_badly kind user (Refused (Broken since)) noted is well = is
  kept_out_badly kind user (Refused (Full need room)) noted is well = is
  kept_out_badly kind user (Refused (Redo fault)) noted is well = is
  kept_out_badly kind user (ToldToQuit reason) noted is well = cc
  kept_out_badly kind user Killed noted is well = cc
  kept_out_badly kind user (HasRedone kept) noted is well = is
  kept_out_badly kind user Flushed noted is well = is
  kept_out_badly kind user Closed noted is well = is
  kept_out_badly kind user LeftOut noted is well = is
  kept_out_badly kind user (TurnedAway refusal) noted is well = is
  kept_out_badly kind user ToldToTerminate noted is well = is

  inside_of : (entry : BookEntry) (kind : Kind) (user : User) (cause : AuxiliaryEnd) (noted : List BookEntry) (entered : HasEntered kind user cause noted) → IsIn entry entered.worked.work → IsIn entry noted
  inside_of entry kind user cause noted entered there =
      subst (IsIn entry) (sym entered.noted_is)
      (inr (subst (IsIn entry) (sym entered.worked.noted_is) (in_front entry entered.worked.work entered.worked.left there)))

  turned_badly : (cause : AuxiliaryEnd) (refusal : GateNo) → cause ≡ TurnedAway refusal → is_exit_0 (status_by cause) ≡ true → ⊥
  turned_badly cause refusal is well = (let never : false ≡ true = sym (ap (λ (c : AuxiliaryEnd). is_exit_0 (status_by c)) is) ∙ well in cc)

  startup_notes : (who : Runner) (gate : Option (Result ℕ GateNo)) (cause : AuxiliaryEnd) (noted : List BookEntry) → is_exit_0 (status_by cause) ≡ true → NotesBehind kinds.Startup who gate cause noted
      → NotesRedo who.pid noted
  startup_notes who None ToldToTerminate noted well is = absurd cc
  startup_notes who None (ToldToQuit reason) noted well is = absurd cc
  startup_notes who None Killed noted well is = absurd cc
  startup_notes who None (HasRedone kept) noted well is = absurd is.0
  startup_notes who None Flushed noted well is = absurd is.0
  startup_notes who None Closed noted well is = absurd is.0
  startup_notes who None LeftOut noted well is = absurd is.0
  startup_notes who None (Refused refusal) noted well is = absurd is.0
  startup_notes who None (TurnedAway refusal) noted well is = absurd is.0
  startup_notes who (Some (Err refusal)) cause noted well is = absurd (turned_badly cause refusal is.0 well)
  startup_notes who (Some (Ok let_in)) cause noted well (inl out) = absurd (kept_out_badly kinds.Startup (user_in who let_in) cause noted out well)
  startup_notes who (Some (Ok let_in)) cause noted well (inr entered) =
      let its : NotesRedo who.pid entered.worked.work = startup_in (user_in who let_in) cause entered.worked.work well entered.worked.does in
      record { generation = its.generation; kept = its.kept; there = inside_of _ kinds.Startup (user_in who let_in) cause noted entered its.there }

  checkpointer_notes : (who : Runner) (gate : Option (Result ℕ GateNo)) (cause : AuxiliaryEnd) (noted : List BookEntry) → is_exit_0 (status_by cause) ≡ true → NotesBehind kinds.Checkpointer who gate cause noted
      → NotesLast who.pid noted
  checkpointer_notes who None ToldToTerminate noted well is = absurd is.0
  checkpointer_notes who None (ToldToQuit reason) noted well is = absurd cc
  checkpointer_notes who None Killed noted well is = absurd cc
  checkpointer_notes who None (HasRedone kept) noted well is = absurd is.0
  checkpointer_notes who None Flushed noted well is = absurd is.0
  checkpointer_notes who None Closed noted well is = absurd is.0
  checkpointer_notes who None LeftOut noted well is = absurd is.0
  checkpointer_notes who None (Refused refusal) noted well is = absurd is.0
  checkpointer_notes who None (TurnedAway refusal) noted well is = absurd is.0
  checkpointer_notes who (Some (Err refusal)) cause noted well is = absurd (turned_badly cause refusal is.0 well)
  checkpointer_notes who (Some (Ok let_in)) cause noted well (inl out) = absurd (kept_out_badly kinds.Checkpointer (user_in who let_in) cause noted out well)
  checkpointer_notes who (Some (Ok let_in)) cause noted well (inr entered) =
      let does = entered.worked.does in
      let its : NotesLast who.pid does.last = closes_in (user_in who let_in) cause does.last well does.closes in
      record {
        done = its.done;
        there = inside_of _ kinds.Checkpointer (user_in who let_in) cause noted entered
            (subst (IsIn _) (sym does.noted_is) (in_back _ does.passing does.last its.there));
      }

  of_status : (run : Run) (cause : AuxiliaryEnd) → run.child.status ≡ status_by cause → is_exit_0 run.child.status ≡ true → is_exit_0 (status_by cause) ≡ true
  of_status run cause is well = sym (ap is_exit_0 is) ∙ well

  redo_aux : (run : Run) → is_exit_0 run.child.status ≡ true → IsAuxRun None kinds.Startup run → NotesRedo run.child.offer.pid run.noted
  redo_aux run well is = startup_notes (own_runner run) is.is.gate is.is.cause run.noted (of_status run is.is.cause (ap (λ d. d.status) is.is.done) well) is.is.notes

  last_aux : (run : Run) → is_exit_0 run.child.status ≡ true → IsAuxRun None kinds.Checkpointer run → NotesLast run.child.offer.pid run.noted
  last_aux run well is = checkpointer_notes (own_runner run) is.is.gate is.is.cause run.noted (of_status run is.is.cause (ap (λ d. d.status) is.is.done) well) is.is.notes

  -- no child of a connection is a startup child or a checkpointer
  apart : (kind : Kind) → is_connection kind ≡ true → is_startup_child kind || is_checkpointer kind ≡ false
  apart kinds.Backend is = refl
  apart kinds.DeadEnd is = refl
  apart _ is = absurd cc

  no_startup : (kind : Kind) → is_startup_child kind || is_checkpointer kind ≡ false → is_startup_child kind ≡ true → ⊥
  no_startup kind neither is = grind (arith, neither, is)

  no_checkpointer : (kind : Kind) → is_startup_child kind || is_checkpointer kind ≡ false → is_checkpointer kind ≡ true → ⊥
  no_checkpointer kind neither is = grind (arith, neither, is)

  other_startup : (kind other : Kind) → kind ≡ other → is_startup_child other ≡ false → is_startup_child kind ≡ true → ⊥
  other_startup kind other is none yes_it_is = (let never : false ≡ true = sym none ∙ sym (ap is_startup_child is) ∙ yes_it_is in cc)

  other_checkpointer : (kind other : Kind) → kind ≡ other → is_checkpointer other ≡ false → is_checkpointer kind ≡ true → ⊥
  other_checkpointer kind other is none yes_it_is = (let never : false ≡ true = sym none ∙ sym (ap is_checkpointer is) ∙ yes_it_is in cc)

  redo_does : (given : MailTold) (run : Run) → IsFor given run.child.offer.kind → is_startup_child run.child.offer.kind ≡ true → is_exit_0 run.child.status ≡ true → Does None seed limit gives given run
      → NotesRedo run.child.offer.pid run.noted
  redo_does (mail.Serve link decision) run fits startup well is = absurd (no_startup run.child.offer.kind (apart run.child.offer.kind fits.0) startup)
  redo_does mail.Startup run fits startup well is = redo_aux run well is
  redo_does mail.Checkpointer run fits startup well is = absurd (other_startup run.child.offer.kind kinds.Checkpointer fits refl startup)
  redo_does mail.Writer run fits startup well is = absurd (other_startup run.child.offer.kind kinds.Writer fits refl startup)
  redo_does mail.Close run fits startup well is = absurd (other_startup run.child.offer.kind kinds.DeadEnd fits refl startup)
  redo_does (mail.Served link) run fits startup well is = absurd is
  redo_does (mail.Aux fault kept) run fits startup well is = absurd is

  last_does : (given : MailTold) (run : Run) → IsFor given run.child.offer.kind → is_checkpointer run.child.offer.kind ≡ true → is_exit_0 run.child.status ≡ true → Does None seed limit gives given run
      → NotesLast run.child.offer.pid run.noted
  last_does (mail.Serve link decision) run fits checkpointer well is = absurd (no_checkpointer run.child.offer.kind (apart run.child.offer.kind fits.0) checkpointer)
  last_does mail.Checkpointer run fits checkpointer well is = last_aux run well is
  last_does mail.Startup run fits checkpointer well is = absurd (other_checkpointer run.child.offer.kind kinds.Startup fits refl checkpointer)
  last_does mail.Writer run fits checkpointer well is = absurd (other_checkpointer run.child.offer.kind kinds.Writer fits refl checkpointer)
  last_does mail.Close run fits checkpointer well is = absurd (other_checkpointer run.child.offer.kind kinds.DeadEnd fits refl checkpointer)
  last_does (mail.Served link) run fits checkpointer well is = absurd is
  last_does (mail.Aux fault kept) run fits checkpointer well is = absurd is

  pub redo_noted : (run : Run) → IsRun None seed limit gives run → is_startup_child run.child.offer.kind ≡ true → is_exit_0 run.child.status ≡ true → NotesRedo run.child.offer.pid run.noted
  redo_noted run is startup well = redo_does run.child.offer.given run is.fits startup well is.does

  pub last_noted : (run : Run) → IsRun None seed limit gives run → is_checkpointer run.child.offer.kind ≡ true → is_exit_0 run.child.status ≡ true → NotesLast run.child.offer.pid run.noted
  last_noted run is checkpointer well = last_does run.child.offer.given run is.fits checkpointer well is.does
