-- The run of an auxiliary child, from what it tells at its end.
use Rattle.std.{proofs.{Common.{ℕ, ◌≡◌, inl, inr, ◌∙◌, true, false, List, Option, Some, None, ap, sym, refl, subst}, lemmas.Bool.false≢true}, specs.Prelude.{is_some, Result, Ok, Err}}
use Rattle.pm_board.specs.{pm_exit.{declared.child.{Kind.Kind, Status.{Status, TheVariants.{Code, Signal}}}, Ends.is_exit_0}, pm_child_life.{declared.life.GateNo.GateNo, Life.Told}, Places.is_auxiliary}
use Rattle.pm_board.specs.pm_exit.declared.child.Kind.TheVariants as kinds
use Rattle.pm_aux.specs.{pm_query.declared.book.BookEntry.BookEntry, declared.{aux_done.AuxDone.AuxDone, cause.AuxiliaryEnd.{AuxiliaryEnd, TheVariants.{Redone, Flushed, Closed, LeftOut, Refused, TurnedAway, ToldToTerminate, ToldToQuit, Killed}}}, Ends.{status_by, kept_by, attached_behind}, Runs.{Runner, End, NotesBehind, IsRunOf}}
use Rattle.pm_aux.specs.pm_query.declared.store.StoreNo.TheVariants as stores
use Rattle.pm_worker.specs.{Mails.{IsFor, IsKept, aux_mail}, Runs.{Run, IsAuxRun, Does}}

-- ---- numbers

abbrev none_kept : Option ℕ
none_kept = None

absent : (B : Type 0) → is_some none_kept ≡ true → B
absent B e = absurd (false≢true e)

-- ---- kinds

pub aux_kind : (kind child : Kind) → is_auxiliary kind ≡ true → IsFor (aux_mail kind) child → child ≡ kind
aux_kind kinds.Startup child aux for_ = for_
aux_kind kinds.Checkpointer child aux for_ = for_
aux_kind kinds.Writer child aux for_ = for_
aux_kind kinds.Worker child aux for_ = absurd (false≢true aux)
aux_kind kinds.Backend child aux for_ = absurd (false≢true aux)
aux_kind kinds.DeadEnd child aux for_ = absurd (false≢true aux)

-- ---- ends

-- who ends attached doesn't exit with code 0
well_by : (cause : AuxiliaryEnd) (gate : Option (Result ℕ GateNo)) → is_some (attached_behind cause gate) ≡ true → is_exit_0 (status_by cause) ≡ false
well_by (Redone kept) gate is = absurd (false≢true is)
well_by Flushed gate is = absurd (false≢true is)
well_by Closed gate is = absurd (false≢true is)
well_by LeftOut gate is = absurd (false≢true is)
well_by (Refused (stores.Stale mine found)) gate is = refl
well_by (Refused stores.Disk) gate is = refl
well_by (Refused (stores.Broken since)) gate is = refl
well_by (Refused (stores.Full need room)) gate is = refl
well_by (Refused (stores.Redo fault)) gate is = refl
well_by (Refused stores.NoMemory) gate is = refl
well_by (TurnedAway refusal) gate is = refl
well_by ToldToTerminate gate is = refl
well_by (ToldToQuit reason) gate is = refl
well_by Killed gate is = refl

pub aux_well : (kind : Kind) (who : Runner) (end : End) (noted : List BookEntry) → IsRunOf kind who end noted → is_some end.attached ≡ true → is_exit_0 end.done.status ≡ false
aux_well kind who end noted run active =
    ap (λ (d : AuxDone). is_exit_0 d.status) run.done ∙ well_by run.cause run.gate (ap (λ (a : Option ℕ). is_some a) (sym run.attached) ∙ active)

-- ---- what a redo kept

-- only a startup child reads the log
reads : (kind : Kind) (who : Runner) (gate : Option (Result ℕ GateNo)) (kept : ℕ) (noted : List BookEntry) → NotesBehind kind who gate (Redone kept) noted → kind ≡ kinds.Startup
reads kinds.Startup who gate kept noted h = refl
reads kinds.Writer who None kept noted h = elim h.0 [ ]
reads kinds.Writer who (Some (Err refusal)) kept noted h = let no_ : Redone kept ≡ TurnedAway refusal = h.0 in absurd (cc)
reads kinds.Writer who (Some (Ok generation)) kept noted (inl h) = elim h [ ]
reads kinds.Writer who (Some (Ok generation)) kept noted (inr w) = elim w.worked.does [ ]
reads kinds.Checkpointer who None kept noted h = elim h.0 [ ]
reads kinds.Checkpointer who (Some (Err refusal)) kept noted h = let no_ : Redone kept ≡ TurnedAway refusal = h.0 in absurd (cc)
reads kinds.Checkpointer who (Some (Ok generation)) kept noted (inl h) = elim h [ ]
reads kinds.Checkpointer who (Some (Ok generation)) kept noted (inr w) = elim w.worked.does.closes [ ]
reads kinds.Worker who None kept noted h = elim h.0 [ ]
reads kinds.Worker who (Some (Err refusal)) kept noted h = let no_ : Redone kept ≡ TurnedAway refusal = h.0 in absurd (cc)
reads kinds.Worker who (Some (Ok generation)) kept noted (inl h) = elim h [ ]
reads kinds.Worker who (Some (Ok generation)) kept noted (inr w) = elim w.worked.does [ ]
reads kinds.Backend who None kept noted h = elim h.0 [ ]
reads kinds.Backend who (Some (Err refusal)) kept noted h = let no_ : Redone kept ≡ TurnedAway refusal = h.0 in absurd (cc)
reads kinds.Backend who (Some (Ok generation)) kept noted (inl h) = elim h [ ]
reads kinds.Backend who (Some (Ok generation)) kept noted (inr w) = elim w.worked.does [ ]
reads kinds.DeadEnd who None kept noted h = elim h.0 [ ]
reads kinds.DeadEnd who (Some (Err refusal)) kept noted h = let no_ : Redone kept ≡ TurnedAway refusal = h.0 in absurd (cc)
reads kinds.DeadEnd who (Some (Ok generation)) kept noted (inl h) = elim h [ ]
reads kinds.DeadEnd who (Some (Ok generation)) kept noted (inr w) = elim w.worked.does [ ]

-- and ends by nothing else that is well
not_flushed : (who : Runner) (gate : Option (Result ℕ GateNo)) (noted : List BookEntry) → NotesBehind kinds.Startup who gate Flushed noted → ⊥
not_flushed who None noted h = elim h.0 [ ]
not_flushed who (Some (Err refusal)) noted h = let no_ : Flushed ≡ TurnedAway refusal = h.0 in absurd (cc)
not_flushed who (Some (Ok generation)) noted (inl h) = elim h [ ]
not_flushed who (Some (Ok generation)) noted (inr w) = elim w.worked.does [ ]

not_closed : (who : Runner) (gate : Option (Result ℕ GateNo)) (noted : List BookEntry) → NotesBehind kinds.Startup who gate Closed noted → ⊥
not_closed who None noted h = elim h.0 [ ]
not_closed who (Some (Err refusal)) noted h = let no_ : Closed ≡ TurnedAway refusal = h.0 in absurd (cc)
not_closed who (Some (Ok generation)) noted (inl h) = elim h [ ]
not_closed who (Some (Ok generation)) noted (inr w) = elim w.worked.does [ ]

not_left_out : (who : Runner) (gate : Option (Result ℕ GateNo)) (noted : List BookEntry) → NotesBehind kinds.Startup who gate LeftOut noted → ⊥
not_left_out who None noted h = elim h.0 [ ]
not_left_out who (Some (Err refusal)) noted h = let no_ : LeftOut ≡ TurnedAway refusal = h.0 in absurd (cc)
not_left_out who (Some (Ok generation)) noted (inl h) = elim h [ ]
not_left_out who (Some (Ok generation)) noted (inr w) = elim w.worked.does [ ]

kept_first : (kind : Kind) (who : Runner) (gate : Option (Result ℕ GateNo)) (cause : AuxiliaryEnd) (noted : List BookEntry) → NotesBehind kind who gate cause noted
    → is_some (kept_by cause) ≡ true → kind ≡ kinds.Startup
kept_first kind who gate (Redone kept) noted h is = reads kind who gate kept noted h
kept_first kind who gate Flushed noted h is = absent _ is
kept_first kind who gate Closed noted h is = absent _ is
kept_first kind who gate LeftOut noted h is = absent _ is
kept_first kind who gate (Refused refusal) noted h is = absent _ is
kept_first kind who gate (TurnedAway refusal) noted h is = absent _ is
kept_first kind who gate ToldToTerminate noted h is = absent _ is
kept_first kind who gate (ToldToQuit reason) noted h is = absent _ is
kept_first kind who gate Killed noted h is = absent _ is

kept_done : (cause : AuxiliaryEnd) → is_some (kept_by cause) ≡ true → status_by cause ≡ Code 0
kept_done (Redone kept) is = refl
kept_done Flushed is = refl
kept_done Closed is = refl
kept_done LeftOut is = absent _ is
kept_done (Refused refusal) is = absent _ is
kept_done (TurnedAway refusal) is = absent _ is
kept_done ToldToTerminate is = absent _ is
kept_done (ToldToQuit reason) is = absent _ is
kept_done Killed is = absent _ is

-- no other status is that of code 0
other : (B : Type 0) (status : Status) → is_exit_0 status ≡ false → status ≡ Code 0 → B
other B status no_ e = absurd (false≢true (sym no_ ∙ ap is_exit_0 e))

kept_told : (who : Runner) (gate : Option (Result ℕ GateNo)) (cause : AuxiliaryEnd) (noted : List BookEntry) → NotesBehind kinds.Startup who gate cause noted → status_by cause ≡ Code 0
    → is_some (kept_by cause) ≡ true
kept_told who gate (Redone kept) noted h e = refl
kept_told who gate Flushed noted h e = absurd (not_flushed who gate noted h)
kept_told who gate Closed noted h e = absurd (not_closed who gate noted h)
kept_told who gate LeftOut noted h e = absurd (not_left_out who gate noted h)
kept_told who gate (Refused (stores.Stale mine found)) noted h e = other _ (Signal 6) refl e
kept_told who gate (Refused stores.Disk) noted h e = other _ (Signal 6) refl e
kept_told who gate (Refused (stores.Broken since)) noted h e = other _ (Signal 6) refl e
kept_told who gate (Refused (stores.Full need room)) noted h e = other _ (Code 1) refl e
kept_told who gate (Refused (stores.Redo fault)) noted h e = other _ (Code 1) refl e
kept_told who gate (Refused stores.NoMemory) noted h e = other _ (Code 1) refl e
kept_told who gate (TurnedAway refusal) noted h e = other _ (Code 2) refl e
kept_told who gate ToldToTerminate noted h e = other _ (Code 1) refl e
kept_told who gate (ToldToQuit reason) noted h e = other _ (Code 2) refl e
kept_told who gate Killed noted h e = other _ (Signal 9) refl e

pub aux_kept : (kind : Kind) (who : Runner) (end : End) (noted : List BookEntry) → IsRunOf kind who end noted → IsKept kind end.done.status end.done.kept
aux_kept kind who end noted run =
    subst (λ (d : AuxDone). IsKept kind d.status d.kept) (sym run.done)
    (record {
      startup = kept_first kind who run.gate run.cause noted run.notes;
      done = kept_done run.cause;
      told = λ is e. kept_told who run.gate run.cause noted (subst (λ (k : Kind). NotesBehind k who run.gate run.cause noted) is run.notes) e;
    })

-- the same run, of who is told otherwise
pub same_run : (kind : Kind) (stamp : Option ℕ) (pid pid' : ℕ) (done : AuxDone) (told told' : Told) (attached attached' : Option ℕ) (noted : List BookEntry) → pid ≡ pid' → told ≡ told' → attached ≡ attached'
    → IsRunOf kind (record { pid = pid; stamp = stamp }) (record { done = done; told = Some told; attached = attached }) noted
    → IsRunOf kind (record { pid = pid'; stamp = stamp }) (record { done = done; told = Some told'; attached = attached' }) noted
same_run kind stamp pid pid' done told told' attached attached' noted p t a run =
    subst (λ (x : ℕ). IsRunOf kind (record { pid = x; stamp = stamp }) (record { done = done; told = Some told'; attached = attached' }) noted) p
    (subst (λ (x : Told). IsRunOf kind (record { pid = pid; stamp = stamp }) (record { done = done; told = Some x; attached = attached' }) noted) t
    (subst (λ (x : Option ℕ). IsRunOf kind (record { pid = pid; stamp = stamp }) (record { done = done; told = Some told; attached = x }) noted) a run))

-- what the child of an auxiliary mail does
pub aux_does : (stamp : Option ℕ) (seed : List ℕ) (limit : ℕ) (gives : ℕ → Type 0) (kind : Kind) (run : Run) → is_auxiliary kind ≡ true → IsAuxRun stamp kind run
    → Does stamp seed limit gives (aux_mail kind) run
aux_does stamp seed limit gives kinds.Startup run aux is = is
aux_does stamp seed limit gives kinds.Checkpointer run aux is = is
aux_does stamp seed limit gives kinds.Writer run aux is = is
aux_does stamp seed limit gives kinds.Worker run aux is = absurd (false≢true aux)
aux_does stamp seed limit gives kinds.Backend run aux is = absurd (false≢true aux)
aux_does stamp seed limit gives kinds.DeadEnd run aux is = absurd (false≢true aux)
