-- What a startup child notes that is alone, by what it remembers of its redo.
use Rattle.std.{proofs.Common.{◌≡◌, ◌⊎◌, inl, inr, ℕ, List, [], ◌∷◌, ◌++◌, Option, None, Some, Result, Ok, Err, refl, sym, ◌∙◌, ap, subst}, specs.Prelude.{Bool, false, option_map}}
use Rattle.pm_aux.specs.{pm_exit.declared.child.Kind.TheVariants.Startup, declared.cause.AuxiliaryEnd.AuxiliaryEnd, Ends.fault_by, Runs.{NotesBehind, Runner}, Signals.IsToldTo, Work.{HasEntered, IsKeptOut, NotesInside}}
use Rattle.pm_once_lives.{specs.pm_child_life.{declared.life.GateNo.GateNo, Life.{Told, Kill, Quit, Terminate, attempt}}, proofs.QuietLaws.{its_gate, answers_so, same_gate, never_refused, never_told}}
use Rattle.pm_query.specs.{pm_record.declared.fault.RedoFault.RedoFault, declared.{book.BookEntry.{BookEntry, TheVariants.{Attached, Detached, Redone, Broke}}, store.StoreNo.StoreNo}, Calls.{User, newcomer, EnterNotes, RedoNotes, LeaveNotes}}
use Rattle.pm_query.specs.pm_record.declared.fault.RedoFault.TheVariants as redo
use Rattle.pm_query.specs.declared.store.StoreNo.TheVariants as stores
use Rattle.pm_aux.specs.declared.cause.AuxiliaryEnd.TheVariants as causes
use Rattle.pm_segment.specs.Moment.{Moment}
use Rattle.pm_once_children.specs.{declared.alone.Work.Work, Alone.{HasDone, redone_by, work_in}, AuxiliaryRuns.{StartNotes, started_as}}
use Rattle.pm_once_children.specs.declared.alone.Work.TheVariants as works

-- a child of the store's generation that leaves says so
pub left_notes : (home pid : ℕ) (entries : List BookEntry) → LeaveNotes (newcomer (Some home) pid home) entries → entries ≡ Detached pid ∷ []
left_notes home pid entries (inl left) = left
left_notes home pid entries (inr over) = absurd (over.0 refl)

-- it noted its work, and then its leaving
pub entered_so : (first : BookEntry) (noted inside work left its_work its_left : List BookEntry) → noted ≡ first ∷ inside → inside ≡ work ++ left → work ≡ its_work → left ≡ its_left → noted ≡ first ∷ (its_work ++ its_left)
entered_so first noted inside work left its_work its_left noted_is inside_is work_is left_is =
    noted_is ∙ ap (λ (l : List BookEntry). first ∷ l) (inside_is ∙ ap (λ (l : List BookEntry). l ++ left) work_is ∙ ap (λ (l : List BookEntry). its_work ++ l) left_is)

-- how it ends, by the refusal that it ends by, if it does: it didn't come in, it read the log, or the log wasn't to be read
abbrev pub ReadsSo : (pid home : ℕ) → Option StoreNo → List BookEntry → Type 0
ReadsSo pid home fault noted =
    ((fault ≡ Some stores.NoMemory) × (noted ≡ []))
    ⊎ (((kept : ℕ) × (fault ≡ None) × (noted ≡ Attached pid home ∷ Redone pid home kept ∷ Detached pid ∷ []))
    ⊎ ((reason : RedoFault) × (fault ≡ Some (stores.Redo reason)) × (entries : List BookEntry) × RedoNotes (newcomer (Some home) pid home) (Err (stores.Redo reason)) entries
    × (noted ≡ Attached pid home ∷ (entries ++ Detached pid ∷ []))))

kept_out : (pid home : ℕ) (refusal : StoreNo) (noted : List BookEntry) → EnterNotes {P = Unit {0}} (newcomer (Some home) pid home) (Err refusal) noted → (refusal ≡ stores.NoMemory) × (noted ≡ [])
kept_out pid home (stores.Stale mine found) noted over = absurd (over.0 refl)
kept_out pid home stores.Disk noted never = absurd never
kept_out pid home (stores.Broken since) noted never = absurd never
kept_out pid home (stores.Full need room) noted never = absurd never
kept_out pid home (stores.Redo fault) noted never = absurd never
kept_out pid home stores.NoMemory noted none = (refl, none)

-- one that the store didn't let in was refused for want of memory
pub stays_out : (pid home : ℕ) (refusal : StoreNo) (noted : List BookEntry) → EnterNotes {P = Unit {0}} (newcomer (Some home) pid home) (Err refusal) noted
    → (fault_by (causes.Refused refusal) ≡ Some stores.NoMemory) × (noted ≡ [])
stays_out pid home refusal noted notes = let out = kept_out pid home refusal noted notes in (ap (λ (no : StoreNo). Some no) out.0, out.1)

out_reads : (pid home : ℕ) (cause : AuxiliaryEnd) (noted : List BookEntry) → IsKeptOut Startup (newcomer (Some home) pid home) cause noted → ReadsSo pid home (fault_by cause) noted
out_reads pid home (causes.Redone kept) noted never = absurd never
out_reads pid home causes.Flushed noted never = absurd never
out_reads pid home causes.Closed noted never = absurd never
out_reads pid home causes.LeftOut noted never = absurd never
out_reads pid home (causes.Refused refusal) noted notes = inl (stays_out pid home refusal noted notes)
out_reads pid home (causes.TurnedAway refusal) noted never = absurd never
out_reads pid home causes.ToldToTerminate noted never = absurd never
out_reads pid home (causes.ToldToQuit reason) noted never = absurd never.0
out_reads pid home causes.Killed noted never = absurd never.0

refused_reads : (pid home : ℕ) (refusal : StoreNo) (noted : List BookEntry) → HasEntered Startup (newcomer (Some home) pid home) (causes.Refused refusal) noted → ReadsSo pid home (Some refusal) noted
refused_reads pid home (stores.Redo reason) noted entered =
    inr (inr (reason, refl, entered.worked.work, entered.worked.does, entered_so (Attached pid home) noted entered.inside entered.worked.work entered.worked.left _ _ entered.noted_is entered.worked.noted_is refl (left_notes home pid _ entered.worked.leaves)))
refused_reads pid home (stores.Stale mine found) noted entered = absurd (entered.worked.does.0 refl)
refused_reads pid home stores.Disk noted entered = absurd entered.worked.does
refused_reads pid home (stores.Broken since) noted entered = absurd entered.worked.does
refused_reads pid home (stores.Full need room) noted entered = absurd entered.worked.does
refused_reads pid home stores.NoMemory noted entered = absurd entered.worked.does

entered_reads : (pid home : ℕ) (cause : AuxiliaryEnd) (noted : List BookEntry) → HasEntered Startup (newcomer (Some home) pid home) cause noted → ReadsSo pid home (fault_by cause) noted
entered_reads pid home (causes.Redone kept) noted entered =
    inr (inl (kept, refl, entered_so (Attached pid home) noted entered.inside entered.worked.work entered.worked.left _ _ entered.noted_is entered.worked.noted_is entered.worked.does (left_notes home pid _ entered.worked.leaves)))
entered_reads pid home causes.Flushed noted entered = absurd entered.worked.does
entered_reads pid home causes.Closed noted entered = absurd entered.worked.does
entered_reads pid home causes.LeftOut noted entered = absurd entered.worked.does
entered_reads pid home (causes.Refused refusal) noted entered = refused_reads pid home refusal noted entered
entered_reads pid home (causes.TurnedAway refusal) noted entered = absurd entered.worked.does
entered_reads pid home causes.ToldToTerminate noted entered = absurd entered.worked.does
entered_reads pid home (causes.ToldToQuit reason) noted entered = absurd entered.worked.does
entered_reads pid home causes.Killed noted entered = absurd entered.worked.does

inside_reads : (pid home : ℕ) (cause : AuxiliaryEnd) (noted : List BookEntry) → NotesInside Startup (newcomer (Some home) pid home) cause noted → ReadsSo pid home (fault_by cause) noted
inside_reads pid home cause noted (inl out) = out_reads pid home cause noted out
inside_reads pid home cause noted (inr entered) = entered_reads pid home cause noted entered

abbrev pub runner_of : (pid home : ℕ) → Runner
runner_of pid home = record { pid = pid; stamp = Some home }

-- one that nothing is told goes to the gate
at_gate : (pid home : ℕ) (cause : AuxiliaryEnd) (told : Told) (noted : List BookEntry) → told.given ≡ [] → IsToldTo cause (Some told) → NotesBehind Startup (runner_of pid home) None cause noted → ⊥
at_gate pid home (causes.Redone kept) told noted none to notes = notes.0
at_gate pid home causes.Flushed told noted none to notes = notes.0
at_gate pid home causes.Closed told noted none to notes = notes.0
at_gate pid home causes.LeftOut told noted none to notes = notes.0
at_gate pid home (causes.Refused refusal) told noted none to notes = notes.0
at_gate pid home (causes.TurnedAway refusal) told noted none to notes = notes.0
at_gate pid home causes.ToldToTerminate told noted none to notes = never_told Terminate told none to
at_gate pid home (causes.ToldToQuit reason) told noted none to notes = never_told (Quit reason) told none to
at_gate pid home causes.Killed told noted none to notes = never_told Kill told none to

pub run_reads : (pid home : ℕ) (cause : AuxiliaryEnd) (gate : Option (Result ℕ GateNo)) (came_as_ordinary : Option Bool) (told : Told) (noted : List BookEntry) → told.given ≡ [] → its_gate home came_as_ordinary ≡ option_map (attempt false) gate → IsToldTo cause (Some told)
    → NotesBehind Startup (runner_of pid home) gate cause noted → ReadsSo pid home (fault_by cause) noted
run_reads pid home cause None came_as_ordinary told noted none met to notes = absurd (at_gate pid home cause told noted none to notes)
run_reads pid home cause (Some (Err refusal)) came_as_ordinary told noted none met to notes = absurd (never_refused home came_as_ordinary refusal (answers_so home came_as_ordinary (attempt false (Err refusal)) met))
run_reads pid home cause (Some (Ok generation)) came_as_ordinary told noted none met to notes =
    inside_reads pid home cause noted (subst (λ (g : ℕ). NotesInside Startup (newcomer (Some home) pid g) cause noted) (same_gate home came_as_ordinary generation (answers_so home came_as_ordinary (attempt false (Ok generation)) met)) notes)

-- ---- by what it remembers

-- the log was read
kept_notes : (pid home kept : ℕ) (who : User) (redone : Result ℕ StoreNo) (noted : List BookEntry) → noted ≡ Attached pid home ∷ Redone pid home kept ∷ Detached pid ∷ []
    → RedoNotes who redone (Redone pid home kept ∷ []) → StartNotes pid home (started_as redone) noted
kept_notes pid home kept who (Ok number) noted is notes =
    let one : List BookEntry = Redone pid home kept ∷ [] in
    let same : one ≡ Redone who.pid who.generation number ∷ [] = notes in
    let kept_is : kept ≡ number = cc in
    is ∙ ap (λ (n : ℕ). Attached pid home ∷ Redone pid home n ∷ Detached pid ∷ []) kept_is
kept_notes pid home kept who (Err (stores.Stale mine found)) noted is notes = let e : Redone pid home kept ∷ [] ≡ [] = notes.1 in absurd (cc)
kept_notes pid home kept who (Err (stores.Redo redo.Disk)) noted is notes = let e : Redone pid home kept ∷ [] ≡ Broke who.pid notes.0 notes.1 ∷ [] = notes.2 in absurd (cc)
kept_notes pid home kept who (Err (stores.Redo redo.NoCluster)) noted is notes = let e : Redone pid home kept ∷ [] ≡ [] = notes in absurd (cc)
kept_notes pid home kept who (Err (stores.Redo (redo.BadFile file at))) noted is notes = let e : Redone pid home kept ∷ [] ≡ [] = notes in absurd (cc)
kept_notes pid home kept who (Err (stores.Redo (redo.SameEpoch epoch))) noted is notes = let e : Redone pid home kept ∷ [] ≡ [] = notes in absurd (cc)
kept_notes pid home kept who (Err (stores.Redo redo.NoMemory)) noted is notes = let e : Redone pid home kept ∷ [] ≡ [] = notes in absurd (cc)
kept_notes pid home kept who (Err stores.Disk) noted is never = absurd never
kept_notes pid home kept who (Err (stores.Broken since)) noted is never = absurd never
kept_notes pid home kept who (Err (stores.Full need room)) noted is never = absurd never
kept_notes pid home kept who (Err stores.NoMemory) noted is never = absurd never

-- the disk failed
broke_notes : (pid home since faults : ℕ) (who : User) (redone : Result ℕ StoreNo) (noted : List BookEntry) → noted ≡ Attached pid home ∷ Broke pid since faults ∷ Detached pid ∷ []
    → RedoNotes who redone (Broke pid since faults ∷ []) → StartNotes pid home (started_as redone) noted
broke_notes pid home since faults who (Ok number) noted is notes = let e : Broke pid since faults ∷ [] ≡ Redone who.pid who.generation number ∷ [] = notes in absurd (cc)
broke_notes pid home since faults who (Err (stores.Stale mine found)) noted is notes = let e : Broke pid since faults ∷ [] ≡ [] = notes.1 in absurd (cc)
broke_notes pid home since faults who (Err (stores.Redo redo.Disk)) noted is notes = (since, faults, is)
broke_notes pid home since faults who (Err (stores.Redo redo.NoCluster)) noted is notes = let e : Broke pid since faults ∷ [] ≡ [] = notes in absurd (cc)
broke_notes pid home since faults who (Err (stores.Redo (redo.BadFile file at))) noted is notes = let e : Broke pid since faults ∷ [] ≡ [] = notes in absurd (cc)
broke_notes pid home since faults who (Err (stores.Redo (redo.SameEpoch epoch))) noted is notes = let e : Broke pid since faults ∷ [] ≡ [] = notes in absurd (cc)
broke_notes pid home since faults who (Err (stores.Redo redo.NoMemory)) noted is notes = let e : Broke pid since faults ∷ [] ≡ [] = notes in absurd (cc)
broke_notes pid home since faults who (Err stores.Disk) noted is never = absurd never
broke_notes pid home since faults who (Err (stores.Broken at)) noted is never = absurd never
broke_notes pid home since faults who (Err (stores.Full need room)) noted is never = absurd never
broke_notes pid home since faults who (Err stores.NoMemory) noted is never = absurd never

-- nothing was noted inside
through_notes : (pid home : ℕ) (who : User) (redone : Result ℕ StoreNo) (noted : List BookEntry) → noted ≡ Attached pid home ∷ Detached pid ∷ [] → RedoNotes who redone [] → StartNotes pid home (started_as redone) noted
through_notes pid home who (Ok number) noted is notes = let e : [] ≡ Redone who.pid who.generation number ∷ [] = notes in absurd (cc)
through_notes pid home who (Err (stores.Stale mine found)) noted is notes = inr is
through_notes pid home who (Err (stores.Redo redo.Disk)) noted is notes = let e : [] ≡ Broke who.pid notes.0 notes.1 ∷ [] = notes.2 in absurd (cc)
through_notes pid home who (Err (stores.Redo redo.NoCluster)) noted is notes = is
through_notes pid home who (Err (stores.Redo (redo.BadFile file at))) noted is notes = is
through_notes pid home who (Err (stores.Redo (redo.SameEpoch epoch))) noted is notes = is
through_notes pid home who (Err (stores.Redo redo.NoMemory)) noted is notes = inr is
through_notes pid home who (Err stores.Disk) noted is never = absurd never
through_notes pid home who (Err (stores.Broken since)) noted is never = absurd never
through_notes pid home who (Err (stores.Full need room)) noted is never = absurd never
through_notes pid home who (Err stores.NoMemory) noted is never = absurd never

abbrev around : (pid home : ℕ) → List BookEntry → List BookEntry
around pid home entries = Attached pid home ∷ (entries ++ Detached pid ∷ [])

-- what a refused redo noted, with which the child's memory agrees
refused_with : (pid home : ℕ) (who : User) (reason : RedoFault) (redone : Result ℕ StoreNo) (entries noted : List BookEntry) → RedoNotes (newcomer (Some home) pid home) (Err (stores.Redo reason)) entries → noted ≡ around pid home entries
    → RedoNotes who redone (work_in noted) → StartNotes pid home (started_as redone) noted
refused_with pid home who redo.Disk redone entries noted fault is notes =
    let is_so : noted ≡ around pid home (Broke pid fault.0 fault.1 ∷ []) = is ∙ ap (around pid home) fault.2 in
    broke_notes pid home fault.0 fault.1 who redone noted is_so (subst (RedoNotes who redone) (ap work_in is_so) notes)
refused_with pid home who redo.NoCluster redone entries noted none is notes =
    let is_so : noted ≡ around pid home [] = is ∙ ap (around pid home) none in through_notes pid home who redone noted is_so (subst (RedoNotes who redone) (ap work_in is_so) notes)
refused_with pid home who (redo.BadFile file at) redone entries noted none is notes =
    let is_so : noted ≡ around pid home [] = is ∙ ap (around pid home) none in through_notes pid home who redone noted is_so (subst (RedoNotes who redone) (ap work_in is_so) notes)
refused_with pid home who (redo.SameEpoch epoch) redone entries noted none is notes =
    let is_so : noted ≡ around pid home [] = is ∙ ap (around pid home) none in through_notes pid home who redone noted is_so (subst (RedoNotes who redone) (ap work_in is_so) notes)
refused_with pid home who redo.NoMemory redone entries noted none is notes =
    let is_so : noted ≡ around pid home [] = is ∙ ap (around pid home) none in through_notes pid home who redone noted is_so (subst (RedoNotes who redone) (ap work_in is_so) notes)

-- ... and with no redo remembered it noted nothing
refused_idle : (pid home : ℕ) (reason : RedoFault) (entries noted : List BookEntry) → RedoNotes (newcomer (Some home) pid home) (Err (stores.Redo reason)) entries → noted ≡ around pid home entries → work_in noted ≡ []
    → noted ≡ around pid home []
refused_idle pid home redo.Disk entries noted fault is idle =
    let e : Broke pid fault.0 fault.1 ∷ [] ≡ [] = sym (ap work_in (is ∙ ap (around pid home) fault.2)) ∙ idle in absurd (cc)
refused_idle pid home redo.NoCluster entries noted none is idle = is ∙ ap (around pid home) none
refused_idle pid home (redo.BadFile file at) entries noted none is idle = is ∙ ap (around pid home) none
refused_idle pid home (redo.SameEpoch epoch) entries noted none is idle = is ∙ ap (around pid home) none
refused_idle pid home redo.NoMemory entries noted none is idle = is ∙ ap (around pid home) none

abbrev StartsBy : (pid home : ℕ) → List BookEntry → Option StoreNo → Work → Type 0
StartsBy pid home noted fault work = StartNotes pid home (started_as (redone_by fault work)) noted

read_notes : (pid home : ℕ) (fault : Option StoreNo) (redone : Result ℕ StoreNo) (who : User) (noted : List BookEntry) → ReadsSo pid home fault noted → RedoNotes who redone (work_in noted) → StartsBy pid home noted fault (works.Redone redone)
read_notes pid home fault redone who noted (inl out) notes = subst (λ (f : Option StoreNo). StartsBy pid home noted f (works.Redone redone)) (sym out.0) (inl out.1)
read_notes pid home fault redone who noted (inr (inl kept)) notes =
    subst (λ (f : Option StoreNo). StartsBy pid home noted f (works.Redone redone)) (sym kept.1)
    (kept_notes pid home kept.0 who redone noted kept.2 (subst (RedoNotes who redone) (ap work_in kept.2) notes))
read_notes pid home fault redone who noted (inr (inr refused)) notes =
    subst (λ (f : Option StoreNo). StartsBy pid home noted f (works.Redone redone)) (sym refused.1)
    (refused_with pid home who refused.0 redone refused.2 noted refused.3 refused.4 notes)

idle_notes : (pid home : ℕ) (fault : Option StoreNo) (noted : List BookEntry) → ReadsSo pid home fault noted → work_in noted ≡ [] → StartsBy pid home noted fault works.ToRead
idle_notes pid home fault noted (inl out) idle = subst (λ (f : Option StoreNo). StartsBy pid home noted f works.ToRead) (sym out.0) (inl out.1)
idle_notes pid home fault noted (inr (inl kept)) idle = let e : Redone pid home kept.0 ∷ [] ≡ [] = sym (ap work_in kept.2) ∙ idle in absurd (cc)
idle_notes pid home fault noted (inr (inr refused)) idle =
    subst (λ (f : Option StoreNo). StartsBy pid home noted f works.ToRead) (sym refused.1) (inr (refused_idle pid home refused.0 refused.2 noted refused.3 refused.4 idle))

-- what it is there for
never_both : works.ToRead ≡ works.ToClose → ⊥
never_both is = cc

pub start_notes : (pid home : ℕ) (fault : Option StoreNo) (work : Work) (before now : Moment) (noted : List BookEntry) → ReadsSo pid home fault noted → HasDone (work_in noted) works.ToRead work before now
    → StartNotes pid home (started_as (redone_by fault work)) noted
start_notes pid home fault work before now noted reads (inl idle) = subst (StartsBy pid home noted fault) (sym idle.0) (idle_notes pid home fault noted reads idle.1)
start_notes pid home fault work before now noted reads (inr (inl read)) = subst (StartsBy pid home noted fault) (sym read.2) (read_notes pid home fault read.1 read.3.who noted reads read.3.notes)
start_notes pid home fault work before now noted reads (inr (inr closed)) = absurd (never_both closed.0)
