-- What a run of a child came to: it ended as it should, or by one of these causes.
use Rattle.std.{proofs.Common.{◌≡◌, ◌⊎◌, inl, inr, ℕ, Bool, true, false, ◌||◌, List, [], ◌∷◌, ◌++◌, Option, Some, None, Result, Ok, Err, refl, sym, ap, subst, ◌∙◌}, specs.Prelude.{is_some, option_map}}
use Rattle.pm_store_remains.specs.pm_disk.Cause.{Rose}
use Rattle.pm_serve_crew.specs.{pm_exit.{declared.child.{Kind.Kind, Status.{Status, TheVariants.{Code, Signal}}}, Ends.{is_exit_0, is_exit_1}}, pm_admit.declared.Cac.Cac, pm_supervisor.{declared.Reason.Reason, Children.is_session}, pm_child_life.{declared.life.GateNo.GateNo, Life.{Told, Kill, Quit, Terminate, Checkpoint, attempt, was_told}}, pm_query.{declared.{book.BookEntry.{BookEntry, TheVariants.{Attached, Broke}}, store.StoreNo.{StoreNo, TheVariants.{Stale, Disk, Broken, Full, Redo, NoMemory}}}, Calls.{User, NotesFault}}, pm_session_exchange.{declared.ending.{Cause.Cause as SessionCause, Stage.{Stage, TheVariants.{Outside, Entering, Greeted}}}, Ends.{LetsGo, status_by as session_status}, Sent.Turn}, pm_session.Session.{CausedBy, Ending, EndsAt, ByStage, IsText, TurnsAway}, pm_aux.{declared.{aux_done.AuxDone.AuxDone, cause.AuxiliaryEnd.{AuxiliaryEnd, TheVariants.{Redone, Flushed, Closed, LeftOut, Refused, TurnedAway, ToldToTerminate, ToldToQuit, Killed}}}, Ends.{IsMetBehind, fault_by, kept_by, status_by}, Runs.{EndsOutside, MayBeShort, NotesBehind, Runner, user_in}, Signals.IsToldTo, Work.{HasEntered, IsKeptOut}}, pm_board.Places.is_connection, pm_worker.{declared.mail.{LinkTold.LinkTold, MailTold.MailTold}, Mails.{IsFor, traffic_in}, Runs.{Does, IsAuxRun, IsRun, IsSessionRun, Run, close_run, told_in}}, pm_board_life.Lives.MetRightly, Left.Manner}
use Rattle.pm_serve_crew.specs.pm_exit.declared.child.Kind.TheVariants as kinds
use Rattle.pm_serve_crew.specs.pm_child_life.declared.life.GateNo.TheVariants as gate_no
use Rattle.pm_store_remains.specs.pm_record.declared.fault.RedoFault.TheVariants as redo
use Rattle.pm_serve_crew.specs.pm_session_exchange.declared.ending.Cause.TheVariants as why
use Rattle.pm_store_remains.specs.pm_startup.declared.packet.StartFault.TheVariants as start
use Rattle.pm_serve_crew.specs.pm_worker.declared.mail.MailTold.TheVariants as mail
use Rattle.pm_serve_first_crash.specs.Causes.{CannotRedo, FoundAnother, IsUnbroken, WasRefused}

-- as a child of this kind ends by itself, a checkpointer once it was told to make the last checkpoint
abbrev pub IsFineAs : Kind → Status → Bool → Told → Type 0
IsFineAs kinds.Startup status was_active told = is_exit_0 status ≡ true
IsFineAs kinds.Checkpointer status was_active told = (is_exit_0 status ≡ true) × was_told Checkpoint told
IsFineAs kinds.Writer status was_active told = is_exit_0 status ≡ true
IsFineAs _ status was_active told = (is_exit_0 status || is_exit_1 status ≡ true) × (was_active ≡ false)

-- A run came to one of these.
pub data Outcome (manner : Manner) (run : Run) : Type 0 where
  EndedFine : IsFineAs run.child.offer.kind run.child.status run.child.was_active (told_in run) → Outcome manner run
  WasKilled : run.child.status ≡ Signal 9 → was_told Kill (told_in run) → Outcome manner run
  WasToldToQuit : (reason : Reason) → was_told (Quit reason) (told_in run) → Outcome manner run
  MetNotice : (generation : ℕ) → (reason : Reason) → run.heard.met ≡ Some (attempt false (Err (gate_no.Quit generation reason))) → Outcome manner run
  GaveUp : run.child.offer.kind ≡ kinds.Startup → run.child.status ≡ Code 1 → was_told Terminate (told_in run) → Outcome manner run
  DiskFailed : (IsUnbroken run.noted → ⊥) → Outcome manner run
  HadNoRedo : CannotRedo run → Outcome manner run
  WasShort : run.child.offer.kind ≡ kinds.Checkpointer → run.child.status ≡ Code 1 → WasRefused NoMemory run → was_told Checkpoint (told_in run) → Outcome manner run
  WasSpent : run.child.offer.kind ≡ kinds.Checkpointer → run.child.status ≡ Code 1 → (need : ℕ) → WasRefused (Full need 0) run → Outcome manner run
  FoundOther : FoundAnother manner run → Outcome manner run

-- ---- faults among entries

-- a fault of the disk is among these
abbrev Breaks : List BookEntry → Type 0
Breaks noted = IsUnbroken noted → ⊥

breaks_front : (xs ys : List BookEntry) → Breaks xs → Breaks (xs ++ ys)
breaks_front [] ys breaks all = breaks tt
breaks_front (x ∷ xs) ys breaks all = breaks_front xs ys (λ rest. breaks (all.0, rest)) all.1

breaks_behind : (xs ys : List BookEntry) → Breaks ys → Breaks (xs ++ ys)
breaks_behind [] ys breaks all = breaks all
breaks_behind (x ∷ xs) ys breaks all = breaks_behind xs ys breaks all.1

-- one that is all
breaks_one : (pid since faults : ℕ) (noted : List BookEntry) → noted ≡ Broke pid since faults ∷ [] → Breaks noted
breaks_one pid since faults noted is all = absurd (let broke : true ≡ false = (subst IsUnbroken is all).0 in cc)

breaks_fault : (pid : ℕ) (noted : List BookEntry) → NotesFault pid noted → Breaks noted
breaks_fault pid noted (since, faults, is) = breaks_one pid since faults noted is

breaks_within : (xs ys zs noted : List BookEntry) → noted ≡ xs ++ ys ++ zs → Breaks ys → Breaks noted
breaks_within xs ys zs noted is breaks = subst Breaks (sym is) (breaks_front (xs ++ ys) zs (breaks_behind xs ys breaks))

-- ---- a session

-- of a child that isn't attached at either stage
lets_go : (stage : Stage) (A : Type 0) → ByStage stage A A → A
lets_go Outside A a = a
lets_go Entering A a = a
lets_go Greeted A a = a

fine_connection : (kind : Kind) (status : Status) (was_active : Bool) (told : Told) → is_connection kind ≡ true → is_exit_0 status || is_exit_1 status ≡ true → was_active ≡ false
    → IsFineAs kind status was_active told
fine_connection kinds.Backend status was_active told its code out = (code, out)
fine_connection kinds.DeadEnd status was_active told its code out = (code, out)
fine_connection kinds.Worker status was_active told its code out = (code, out)
fine_connection kinds.Startup status was_active told its code out = absurd (let never : false ≡ true = its in cc)
fine_connection kinds.Checkpointer status was_active told its code out = absurd (let never : false ≡ true = its in cc)
fine_connection kinds.Writer status was_active told its code out = absurd (let never : false ≡ true = its in cc)

-- a session that ended as panicked noted a fault
of_panic : (decision : Cac) (user : User) (key : ℕ) (turns : List Turn) (ending : Ending) (came_in said : List ℕ) (noted : List BookEntry) → ending.cause ≡ why.Panicked
    → IsText decision user key turns ending came_in said noted → Breaks noted
of_panic decision user key turns ending came_in said noted is (inl away) =
    absurd (subst (λ (c : SessionCause). TurnsAway user ending.stage away.0.phase c away.0.last) is away.0.stops)
of_panic decision user key turns ending came_in said noted is (inr served) =
    in_end (subst (λ (c : SessionCause). EndsAt user c served.last served.ended) is served.ends)
  where
    in_end : EndsAt user why.Panicked served.last served.ended → Breaks noted
    in_end (asked, broke, breaks, fault, ended) =
        breaks_within (Attached user.pid user.generation ∷ served.asked) served.ended served.left noted served.notes
        (subst Breaks (sym ended) (breaks_behind asked broke (breaks_fault user.pid broke fault)))

module _ (manner : Manner) (run : Run) where
  abbrev Comes : Type 0
  Comes = Outcome manner run

  -- by as what a session exits
  of_exit : (link : LinkTold) (decision : Cac) (is : IsSessionRun None manner.seed manner.limit manner.gives link decision run) → is_connection run.child.offer.kind ≡ true
      → (exit : SessionCause) → is.ending.exit ≡ exit → run.child.status ≡ session_status exit
      → CausedBy exit decision (traffic_in is.back) (Rose link.faults is.back.faults) (Some (told_in run)) manner.limit manner.gives
      → ByStage is.ending.stage (is.attached ≡ None) (LetsGo exit (is.attached ≡ None) (is.attached ≡ Some is.generation)) → Comes
  of_exit link decision is its why.Killed exit status caused at = WasKilled status caused
  of_exit link decision is its (why.ToldToQuit reason) exit status caused at = WasToldToQuit reason caused
  of_exit link decision is its why.Overtaken exit status caused at =
      FoundOther (record {
        status = status;
        mine = is.generation;
        other = is.overtaken exit;
        why = inr (record { link = link; decision = decision; session = is; its = refl; exit = exit });
      })
  of_exit link decision is its why.Panicked exit status caused at =
      DiskFailed (subst Breaks is.session.entries (of_panic decision _ is.key is.turns is.ending is.session.came_in is.session.whole is.session.noted (cause is.ending.exits) is.session.text))
    where
      cause : (is.ending.exit ≡ is.ending.cause) ⊎ (is.ending.exit ≡ why.Killed) → is.ending.cause ≡ why.Panicked
      cause (inl same) = sym same ∙ exit
      cause (inr killed) = absurd (let never : why.Panicked ≡ why.Killed = sym exit ∙ killed in cc)
  of_exit link decision is its (why.PacketRefused (start.Length seen)) exit status caused at =
      EndedFine (fine_connection run.child.offer.kind run.child.status run.child.was_active (told_in run) its (ap (λ (s : Status). is_exit_0 s || is_exit_1 s) status) (is.active ∙ ap is_some (lets_go is.ending.stage _ at)))
  of_exit link decision is its (why.PacketRefused fault) exit status caused at =
      EndedFine (fine_connection run.child.offer.kind run.child.status run.child.was_active (told_in run) its (ap (λ (s : Status). is_exit_0 s || is_exit_1 s) status) (is.active ∙ ap is_some (lets_go is.ending.stage _ at)))
  of_exit link decision is its exit_ exit status caused at =
      EndedFine (fine_connection run.child.offer.kind run.child.status run.child.was_active (told_in run) its (ap (λ (s : Status). is_exit_0 s || is_exit_1 s) status) (is.active ∙ ap is_some (lets_go is.ending.stage _ at)))

  of_session : (link : LinkTold) (decision : Cac) → is_connection run.child.offer.kind ≡ true → IsSessionRun None manner.seed manner.limit manner.gives link decision run → Comes
  of_session link decision its is = of_exit link decision is its is.ending.exit refl is.status is.caused.exit is.behind

  -- ---- an auxiliary child

  -- who ended neither outside nor at the gate
  inside : (kind : Kind) (who : Runner) (gate : Option (Result ℕ GateNo)) (cause : AuxiliaryEnd) → NotesBehind kind who gate cause run.noted → (EndsOutside kind cause → ⊥)
      → ((refusal : GateNo) → cause ≡ TurnedAway refusal → ⊥)
      → (generation : ℕ) × (IsKeptOut kind (user_in who generation) cause run.noted ⊎ HasEntered kind (user_in who generation) cause run.noted)
  inside kind who None cause notes out away = absurd (out notes.0)
  inside kind who (Some (Err refusal)) cause notes out away = absurd (away refusal notes.0)
  inside kind who (Some (Ok generation)) cause notes out away = (generation, notes)

  -- a fault that its work noted
  worked : (kind : Kind) (user : User) (cause : AuxiliaryEnd) (entered : HasEntered kind user cause run.noted) → Breaks entered.worked.work → Breaks run.noted
  worked kind user cause entered breaks =
      breaks_within (Attached user.pid user.generation ∷ []) entered.worked.work entered.worked.left run.noted
      (entered.noted_is ∙ ap (λ (es : List BookEntry). Attached user.pid user.generation ∷ es) entered.worked.noted_is) breaks

  -- the gate refused it: by a notice, since it is no session
  turned : (kind : Kind) (who : Runner) (gate : Option (Result ℕ GateNo)) (refusal : GateNo) → run.heard.met ≡ option_map (attempt false) gate → MetRightly run.child.offer run.heard.met
      → is_session run.child.offer.kind ≡ false → NotesBehind kind who gate (TurnedAway refusal) run.noted → (EndsOutside kind (TurnedAway refusal) → ⊥)
      → ((user : User) → HasEntered kind user (TurnedAway refusal) run.noted → ⊥) → Comes
  turned kind who None refusal met right none notes out never = absurd (out notes.0)
  turned kind who (Some (Ok generation)) refusal met right none (inl kept) out never = absurd kept
  turned kind who (Some (Ok generation)) refusal met right none (inr entered) out never = absurd (never (user_in who generation) entered)
  turned kind who (Some (Err (gate_no.Quit generation reason))) refusal met right none notes out never = MetNotice generation reason met
  turned kind who (Some (Err (gate_no.NotReady generation))) refusal met right none notes out never =
      absurd (let never : true ≡ false = sym (subst (MetRightly run.child.offer) met right).1 ∙ none in cc)
  turned kind who (Some (Err (gate_no.TooMany count))) refusal met right none notes out never =
      absurd (let never : true ≡ false = sym (subst (MetRightly run.child.offer) met right) ∙ none in cc)
  turned kind who (Some (Err (gate_no.Reserved count))) refusal met right none notes out never =
      absurd (let never : false ≡ true = (subst (MetRightly run.child.offer) met right).1 in cc)

  -- what is known of an auxiliary child of this kind that ended by this cause
  record Aux (kind : Kind) (cause : AuxiliaryEnd) : Type 0 where
    pub who : Runner
    pub gate : Option (Result ℕ GateNo)
    pub kind_is : run.child.offer.kind ≡ kind
    pub status : run.child.status ≡ status_by cause
    pub back : run.child.back ≡ mail.Aux (fault_by cause) (kept_by cause)
    pub told_to : IsToldTo cause (Some (told_in run))
    pub short : cause ≡ Refused NoMemory → MayBeShort kind (Some (told_in run))
    pub met : run.heard.met ≡ option_map (attempt false) gate
    pub right : MetRightly run.child.offer run.heard.met
    pub another : IsMetBehind run.met (fault_by cause)
    pub notes : NotesBehind kind who gate cause run.noted

  found_other : (mine found : ℕ) → run.child.status ≡ Signal 6 → WasRefused (Stale mine found) run → IsMetBehind run.met (Some (Stale mine found)) → Comes
  found_other mine found status back another =
      FoundOther (record {
        status = status;
        mine = mine;
        other = λ same. another.1 (same ∙ sym another.0);
        why = inl (subst (λ (n : ℕ). WasRefused (Stale mine n) run) another.0 back);
      })

  fine : (kind : Kind) → run.child.offer.kind ≡ kind → IsFineAs kind run.child.status run.child.was_active (told_in run) → Comes
  fine kind is its = EndedFine (subst (λ (k : Kind). IsFineAs k run.child.status run.child.was_active (told_in run)) (sym is) its)

  no_session : (kind : Kind) → run.child.offer.kind ≡ kind → is_session kind ≡ false → is_session run.child.offer.kind ≡ false
  no_session kind is none = ap is_session is ∙ none

  -- a refusal of the store is none of the gate, and nor is a Terminate
  refused_here : (fault : StoreNo) (refusal : GateNo) → Refused fault ≡ TurnedAway refusal → ⊥
  refused_here fault refusal is = absurd cc

  told_here : (refusal : GateNo) → ToldToTerminate ≡ TurnedAway refusal → ⊥
  told_here refusal is = absurd cc

  -- who came in, and what it did there
  by_work : (kind : Kind) (cause : AuxiliaryEnd) (a : Aux kind cause) → (EndsOutside kind cause → ⊥) → ((refusal : GateNo) → cause ≡ TurnedAway refusal → ⊥)
      → ((user : User) → IsKeptOut kind user cause run.noted → ⊥) → ((user : User) → HasEntered kind user cause run.noted → Comes) → Comes
  by_work kind cause a out away never does = by (inside kind a.who a.gate cause a.notes out away)
    where
      by : (generation : ℕ) × (IsKeptOut kind (user_in a.who generation) cause run.noted ⊎ HasEntered kind (user_in a.who generation) cause run.noted) → Comes
      by (generation, inl kept) = absurd (never (user_in a.who generation) kept)
      by (generation, inr entered) = does (user_in a.who generation) entered

  failed : (kind : Kind) (user : User) (cause : AuxiliaryEnd) (entered : HasEntered kind user cause run.noted) → Breaks entered.worked.work → Comes
  failed kind user cause entered breaks = DiskFailed (worked kind user cause entered breaks)

  of_startup : (cause : AuxiliaryEnd) → Aux kinds.Startup cause → Comes
  of_startup (Redone kept) a = fine kinds.Startup a.kind_is (ap is_exit_0 a.status)
  of_startup Flushed a = fine kinds.Startup a.kind_is (ap is_exit_0 a.status)
  of_startup Closed a = fine kinds.Startup a.kind_is (ap is_exit_0 a.status)
  of_startup LeftOut a = fine kinds.Startup a.kind_is (ap is_exit_0 a.status)
  of_startup (TurnedAway refusal) a =
      turned kinds.Startup a.who a.gate refusal a.met a.right (no_session kinds.Startup a.kind_is refl) a.notes (λ out. out) (λ user entered. entered.worked.does)
  of_startup ToldToTerminate a = GaveUp a.kind_is a.status a.told_to
  of_startup (ToldToQuit reason) a = WasToldToQuit reason a.told_to
  of_startup Killed a = WasKilled a.status a.told_to
  of_startup (Refused NoMemory) a = HadNoRedo (record { kind = a.kind_is; status = a.status; why = inr a.back })
  of_startup (Refused (Stale mine found)) a = found_other mine found a.status a.back a.another
  of_startup (Refused (Redo redo.NoCluster)) a = HadNoRedo (record { kind = a.kind_is; status = a.status; why = inl (redo.NoCluster, (λ is. absurd cc), a.back) })
  of_startup (Refused (Redo (redo.BadFile file at))) a = HadNoRedo (record { kind = a.kind_is; status = a.status; why = inl (redo.BadFile file at, (λ is. absurd cc), a.back) })
  of_startup (Refused (Redo (redo.SameEpoch epoch))) a = HadNoRedo (record { kind = a.kind_is; status = a.status; why = inl (redo.SameEpoch epoch, (λ is. absurd cc), a.back) })
  of_startup (Refused (Redo redo.NoMemory)) a = HadNoRedo (record { kind = a.kind_is; status = a.status; why = inl (redo.NoMemory, (λ is. absurd cc), a.back) })
  of_startup (Refused (Redo redo.Disk)) a =
      by_work kinds.Startup (Refused (Redo redo.Disk)) a (λ out. out) (refused_here (Redo redo.Disk)) (λ user kept. kept)
      (λ user entered. failed kinds.Startup user (Refused (Redo redo.Disk)) entered (breaks_fault user.pid entered.worked.work entered.worked.does))
  of_startup (Refused Disk) a =
      by_work kinds.Startup (Refused Disk) a (λ out. out) (refused_here Disk) (λ user kept. kept) (λ user entered. absurd entered.worked.does)
  of_startup (Refused (Broken since)) a =
      by_work kinds.Startup (Refused (Broken since)) a (λ out. out) (refused_here (Broken since)) (λ user kept. kept) (λ user entered. absurd entered.worked.does)
  of_startup (Refused (Full need room)) a =
      by_work kinds.Startup (Refused (Full need room)) a (λ out. out) (refused_here (Full need room)) (λ user kept. kept) (λ user entered. absurd entered.worked.does)

  of_writer : (cause : AuxiliaryEnd) → Aux kinds.Writer cause → Comes
  of_writer (Redone kept) a = fine kinds.Writer a.kind_is (ap is_exit_0 a.status)
  of_writer Flushed a = fine kinds.Writer a.kind_is (ap is_exit_0 a.status)
  of_writer Closed a = fine kinds.Writer a.kind_is (ap is_exit_0 a.status)
  of_writer LeftOut a = fine kinds.Writer a.kind_is (ap is_exit_0 a.status)
  of_writer (TurnedAway refusal) a =
      turned kinds.Writer a.who a.gate refusal a.met a.right (no_session kinds.Writer a.kind_is refl) a.notes (λ out. out) (λ user entered. entered.worked.does)
  of_writer ToldToTerminate a =
      by_work kinds.Writer ToldToTerminate a (λ out. out) told_here (λ user kept. kept) (λ user entered. absurd entered.worked.does)
  of_writer (ToldToQuit reason) a = WasToldToQuit reason a.told_to
  of_writer Killed a = WasKilled a.status a.told_to
  of_writer (Refused NoMemory) a = absurd (a.short refl)
  of_writer (Refused (Stale mine found)) a = found_other mine found a.status a.back a.another
  of_writer (Refused (Redo fault)) a =
      by_work kinds.Writer (Refused (Redo fault)) a (λ out. out) (refused_here (Redo fault)) (λ user kept. kept) (λ user entered. absurd entered.worked.does)
  of_writer (Refused Disk) a =
      by_work kinds.Writer (Refused Disk) a (λ out. out) (refused_here Disk) (λ user kept. kept)
      (λ user entered. failed kinds.Writer user (Refused Disk) entered (breaks_fault user.pid entered.worked.work entered.worked.does))
  of_writer (Refused (Broken since)) a =
      by_work kinds.Writer (Refused (Broken since)) a (λ out. out) (refused_here (Broken since)) (λ user kept. kept)
      (λ user entered. failed kinds.Writer user (Refused (Broken since)) entered (breaks_one user.pid since entered.worked.does.0 entered.worked.work entered.worked.does.1))
  of_writer (Refused (Full need room)) a =
      by_work kinds.Writer (Refused (Full need room)) a (λ out. out) (refused_here (Full need room)) (λ user kept. kept) (λ user entered. absurd entered.worked.does)

  -- a fault that the last checkpoint noted
  closed : (user : User) (cause : AuxiliaryEnd) (entered : HasEntered kinds.Checkpointer user cause run.noted) → Breaks entered.worked.does.last → Comes
  closed user cause entered breaks =
      failed kinds.Checkpointer user cause entered
      (subst Breaks (sym entered.worked.does.noted_is) (breaks_behind entered.worked.does.passing entered.worked.does.last breaks))

  of_checkpointer : (cause : AuxiliaryEnd) → Aux kinds.Checkpointer cause → Comes
  of_checkpointer (Redone kept) a =
      by_work kinds.Checkpointer (Redone kept) a (λ out. out) (λ refusal is. absurd cc) (λ user kept. kept) (λ user entered. absurd entered.worked.does.closes)
  of_checkpointer Flushed a =
      by_work kinds.Checkpointer Flushed a (λ out. out) (λ refusal is. absurd cc) (λ user kept. kept) (λ user entered. absurd entered.worked.does.closes)
  of_checkpointer Closed a = fine kinds.Checkpointer a.kind_is (ap is_exit_0 a.status, a.told_to)
  of_checkpointer LeftOut a = fine kinds.Checkpointer a.kind_is (ap is_exit_0 a.status, a.told_to)
  of_checkpointer (TurnedAway refusal) a =
      turned kinds.Checkpointer a.who a.gate refusal a.met a.right (no_session kinds.Checkpointer a.kind_is refl) a.notes (λ out. out) (λ user entered. entered.worked.does.closes)
  of_checkpointer ToldToTerminate a =
      by_work kinds.Checkpointer ToldToTerminate a (λ out. out) told_here (λ user kept. kept) (λ user entered. absurd entered.worked.does.closes)
  of_checkpointer (ToldToQuit reason) a = WasToldToQuit reason a.told_to
  of_checkpointer Killed a = WasKilled a.status a.told_to
  of_checkpointer (Refused NoMemory) a = WasShort a.kind_is a.status a.back (a.short refl)
  of_checkpointer (Refused (Stale mine found)) a = found_other mine found a.status a.back a.another
  of_checkpointer (Refused (Redo fault)) a =
      by_work kinds.Checkpointer (Refused (Redo fault)) a (λ out. out) (refused_here (Redo fault)) (λ user kept. kept) (λ user entered. absurd entered.worked.does.closes)
  of_checkpointer (Refused Disk) a =
      by_work kinds.Checkpointer (Refused Disk) a (λ out. out) (refused_here Disk) (λ user kept. kept)
      (λ user entered. closed user (Refused Disk) entered (breaks_fault user.pid entered.worked.does.last entered.worked.does.closes))
  of_checkpointer (Refused (Broken since)) a =
      by_work kinds.Checkpointer (Refused (Broken since)) a (λ out. out) (refused_here (Broken since)) (λ user kept. kept)
      (λ user entered. closed user (Refused (Broken since)) entered (breaks_one user.pid since entered.worked.does.closes.0 entered.worked.does.last entered.worked.does.closes.1))
  of_checkpointer (Refused (Full need room)) a =
      by_work kinds.Checkpointer (Refused (Full need room)) a (λ out. out) (refused_here (Full need room)) (λ user kept. kept)
      (λ user entered. WasSpent a.kind_is a.status need (subst (λ (n : ℕ). WasRefused (Full need n) run) entered.worked.does.closes.0 a.back))

  aux : (kind : Kind) → run.child.offer.kind ≡ kind → (is : IsAuxRun None kind run) → MetRightly run.child.offer run.heard.met → Aux kind is.is.cause
  aux kind its is right = record {
    who = record { pid = run.child.offer.pid; stamp = None };
    gate = is.is.gate;
    kind_is = its;
    status = ap (λ (d : AuxDone). d.status) is.is.done;
    back = is.back_is ∙ ap (λ (d : AuxDone). mail.Aux d.fault d.kept) is.is.done;
    told_to = is.is.told_to;
    short = is.is.short;
    met = is.is.met;
    right = right;
    another = subst (IsMetBehind run.met) (ap (λ (d : AuxDone). d.fault) is.is.done) is.another;
    notes = is.is.notes;
  }

  -- a child that closes its worker
  of_close : run.child.offer.kind ≡ kinds.DeadEnd → run ≡ close_run run.slots run.met run.child.offer → Comes
  of_close its is =
      fine kinds.DeadEnd its (ap (λ (r : Run). is_exit_0 r.child.status || is_exit_1 r.child.status) is, ap (λ (r : Run). r.child.was_active) is)

  of_mail : (given : MailTold) → IsFor given run.child.offer.kind → Does None manner.seed manner.limit manner.gives given run → MetRightly run.child.offer run.heard.met → Comes
  of_mail (mail.Serve link decision) fits does right = of_session link decision fits.0 does
  of_mail mail.Startup fits does right = of_startup does.is.cause (aux kinds.Startup fits does right)
  of_mail mail.Checkpointer fits does right = of_checkpointer does.is.cause (aux kinds.Checkpointer fits does right)
  of_mail mail.Writer fits does right = of_writer does.is.cause (aux kinds.Writer fits does right)
  of_mail mail.Close fits does right = of_close fits does
  of_mail (mail.Served link) fits does right = absurd does
  of_mail (mail.Aux fault kept) fits does right = absurd does

  pub outcome : IsRun None manner.seed manner.limit manner.gives run → Outcome manner run
  outcome is = of_mail run.child.offer.given is.fits is.does is.met
