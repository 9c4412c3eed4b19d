-- What a checkpointer notes that is alone and is asked for the last checkpoint, by what it remembers of that.
use Rattle.std.{proofs.{Common.{◌≡◌, ◌⊎◌, inl, inr, ℕ, All, List, [], ◌∷◌, ◌++◌, Option, None, Some, Result, Ok, Err, refl, sym, ◌∙◌, ap, subst}, lemmas.List.Elements.All-head}, specs.Prelude.{Bool, true, false, option_map, IfSome}}
use Rattle.pm_server.specs.{pm_exit.declared.child.Kind.TheVariants.Checkpointer, pm_query.{declared.{book.BookEntry.{BookEntry, TheVariants.{Attached, Detached, CheckpointEnded, Broke}}, store.{Checkpointed.{Checkpointed, TheVariants.{Done, Skipped, NotDue}}, StoreNo.StoreNo}}, Calls.{User, newcomer, CheckpointNotes}}, pm_disk.Files.Files, pm_rows.Fold.RowMap, pm_segment.{pm_store_apart.declared.live.Live.Live, Moment.Moment, Redos.{FullAtLast, IsAtLastEpoch, IsCleanAt}}}
use Rattle.pm_once_lives.{specs.pm_child_life.{declared.life.GateNo.GateNo, Life.{Told, Kill, Quit, attempt}}, proofs.QuietLaws.{its_gate, answers_so, same_gate, never_refused}}
use Rattle.pm_server.specs.pm_query.declared.store.StoreNo.TheVariants as stores
use Rattle.pm_aux.specs.{declared.cause.AuxiliaryEnd.AuxiliaryEnd, Ends.fault_by, Runs.NotesBehind, Signals.IsToldTo, Work.{HasEntered, IsKeptOut, IsPassing, NotesInside}}
use Rattle.pm_aux.specs.declared.cause.AuxiliaryEnd.TheVariants as causes
use Rattle.pm_once_children.{specs.{declared.{checkpointer.Closed.TheVariants.{Made, Full}, alone.Work.Work}, Alone.{HasDone, made_by, work_in}, AuxiliaryRuns.{CloseNotes, closed_as}}, proofs.{Lives.{asked_given, never_killed, never_quit, only_asked}, Reading.{entered_so, left_notes, runner_of, stays_out}}}
use Rattle.pm_once_children.specs.declared.alone.Work.TheVariants as works

-- how its work ends: the last checkpoint was made or left out, the disk failed, or nothing was noted
abbrev pub EndsSo : (pid : ℕ) → Option StoreNo → (last left : List BookEntry) → Type 0
EndsSo pid fault last left =
    ((fault ≡ None) × (made : Bool) × (last ≡ CheckpointEnded pid made true ∷ []) × (left ≡ Detached pid ∷ []))
    ⊎ (((refusal : StoreNo) × (fault ≡ Some refusal) × (refusal ≡ stores.NoMemory → ⊥) × (since : ℕ) × (faults : ℕ) × (last ≡ Broke pid since faults ∷ []) × (left ≡ []))
    ⊎ ((refusal : StoreNo) × (fault ≡ Some refusal) × (last ≡ []) × (left ≡ Detached pid ∷ [])))

-- after checkpoints that weren't the last
pub record HasEnded (pid home : ℕ) (fault : Option StoreNo) (noted : List BookEntry) : Type 0 where
  pub passing : List BookEntry
  pub last : List BookEntry
  pub left : List BookEntry
  pub each : All (IsPassing pid) passing
  pub ends : EndsSo pid fault last left
  pub noted_is : noted ≡ Attached pid home ∷ ((passing ++ last) ++ left)

-- it didn't come in, or it did
abbrev pub ClosesSo : (pid home : ℕ) → Option StoreNo → List BookEntry → Type 0
ClosesSo pid home fault noted = ((fault ≡ Some stores.NoMemory) × (noted ≡ [])) ⊎ HasEnded pid home fault noted

-- one that is asked for the last checkpoint alone isn't told to end at once
abbrev IsUntold : Told → Type 0
IsUntold told = (is_told : Bool) × (told.given ≡ asked_given is_told)

out_closes : (pid home : ℕ) (cause : AuxiliaryEnd) (told : Told) (noted : List BookEntry) → IsUntold told → IsToldTo cause (Some told) → IsKeptOut Checkpointer (newcomer (Some home) pid home) cause noted → ClosesSo pid home (fault_by cause) noted
out_closes pid home (causes.Redone kept) told noted untold to never = absurd never
out_closes pid home causes.Flushed told noted untold to never = absurd never
out_closes pid home causes.Closed told noted untold to never = absurd never
out_closes pid home causes.LeftOut told noted untold to never = absurd never
out_closes pid home (causes.Refused refusal) told noted untold to notes = inl (stays_out pid home refusal noted notes)
out_closes pid home (causes.TurnedAway refusal) told noted untold to never = absurd never
out_closes pid home causes.ToldToTerminate told noted untold to never = absurd never
out_closes pid home (causes.ToldToQuit reason) told noted untold to notes = absurd (never_quit reason (only_asked untold.0 told (Quit reason) untold.1 to))
out_closes pid home causes.Killed told noted untold to notes = absurd (never_killed (only_asked untold.0 told Kill untold.1 to))

-- where the store refused it
not_short_disk : stores.Disk ≡ stores.NoMemory → ⊥
not_short_disk is = cc

not_short_broken : (since : ℕ) → stores.Broken since ≡ stores.NoMemory → ⊥
not_short_broken since is = cc

refused_ends : (pid home : ℕ) (refusal : StoreNo) (noted : List BookEntry) (entered : HasEntered Checkpointer (newcomer (Some home) pid home) (causes.Refused refusal) noted)
    → EndsSo pid (Some refusal) entered.worked.does.last entered.worked.left
refused_ends pid home (stores.Stale mine found) noted entered = absurd (entered.worked.does.closes.0 refl)
refused_ends pid home stores.Disk noted entered = let fault = entered.worked.does.closes in inr (inl (stores.Disk, refl, not_short_disk, fault.0, fault.1, fault.2, entered.worked.leaves))
refused_ends pid home (stores.Broken since) noted entered = let fault = entered.worked.does.closes in inr (inl (stores.Broken since, refl, not_short_broken since, since, fault.0, fault.1, entered.worked.leaves))
refused_ends pid home (stores.Full need room) noted entered = inr (inr (stores.Full need room, refl, entered.worked.does.closes.1, left_notes home pid _ entered.worked.leaves))
refused_ends pid home (stores.Redo fault) noted entered = absurd entered.worked.does.closes
refused_ends pid home stores.NoMemory noted entered = inr (inr (stores.NoMemory, refl, entered.worked.does.closes, left_notes home pid _ entered.worked.leaves))

work_ends : (pid home : ℕ) (cause : AuxiliaryEnd) (told : Told) (noted : List BookEntry) → IsUntold told → IsToldTo cause (Some told) → (entered : HasEntered Checkpointer (newcomer (Some home) pid home) cause noted)
    → EndsSo pid (fault_by cause) entered.worked.does.last entered.worked.left
work_ends pid home (causes.Redone kept) told noted untold to entered = absurd entered.worked.does.closes
work_ends pid home causes.Flushed told noted untold to entered = absurd entered.worked.does.closes
work_ends pid home causes.Closed told noted untold to entered = inl (refl, true, entered.worked.does.closes, left_notes home pid _ entered.worked.leaves)
work_ends pid home causes.LeftOut told noted untold to entered = inl (refl, false, entered.worked.does.closes, left_notes home pid _ entered.worked.leaves)
work_ends pid home (causes.Refused refusal) told noted untold to entered = refused_ends pid home refusal noted entered
work_ends pid home (causes.TurnedAway refusal) told noted untold to entered = absurd entered.worked.does.closes
work_ends pid home causes.ToldToTerminate told noted untold to entered = absurd entered.worked.does.closes
work_ends pid home (causes.ToldToQuit reason) told noted untold to entered = absurd (never_quit reason (only_asked untold.0 told (Quit reason) untold.1 to))
work_ends pid home causes.Killed told noted untold to entered = absurd (never_killed (only_asked untold.0 told Kill untold.1 to))

inside_closes : (pid home : ℕ) (cause : AuxiliaryEnd) (told : Told) (noted : List BookEntry) → IsUntold told → IsToldTo cause (Some told) → NotesInside Checkpointer (newcomer (Some home) pid home) cause noted → ClosesSo pid home (fault_by cause) noted
inside_closes pid home cause told noted untold to (inl out) = out_closes pid home cause told noted untold to out
inside_closes pid home cause told noted untold to (inr entered) = inr (record {
  passing = entered.worked.does.passing;
  last = entered.worked.does.last;
  left = entered.worked.left;
  each = entered.worked.does.each;
  ends = work_ends pid home cause told noted untold to entered;
  noted_is = entered_so (Attached pid home) noted entered.inside entered.worked.work entered.worked.left _ _ entered.noted_is entered.worked.noted_is entered.worked.does.noted_is refl;
})

-- it goes to the gate
at_gate : (pid home : ℕ) (cause : AuxiliaryEnd) (told : Told) (noted : List BookEntry) → IsUntold told → IsToldTo cause (Some told) → NotesBehind Checkpointer (runner_of pid home) None cause noted → ⊥
at_gate pid home (causes.Redone kept) told noted untold to notes = notes.0
at_gate pid home causes.Flushed told noted untold to notes = notes.0
at_gate pid home causes.Closed told noted untold to notes = notes.0
at_gate pid home causes.LeftOut told noted untold to notes = notes.0
at_gate pid home (causes.Refused refusal) told noted untold to notes = notes.0
at_gate pid home (causes.TurnedAway refusal) told noted untold to notes = notes.0
at_gate pid home causes.ToldToTerminate told noted untold to notes = notes.0
at_gate pid home (causes.ToldToQuit reason) told noted untold to notes = never_quit reason (only_asked untold.0 told (Quit reason) untold.1 to)
at_gate pid home causes.Killed told noted untold to notes = never_killed (only_asked untold.0 told Kill untold.1 to)

pub run_closes : (pid home : ℕ) (cause : AuxiliaryEnd) (gate : Option (Result ℕ GateNo)) (came_as_ordinary : Option Bool) (is_told : Bool) (told : Told) (noted : List BookEntry) → told.given ≡ asked_given is_told → its_gate home came_as_ordinary ≡ option_map (attempt false) gate → IsToldTo cause (Some told)
    → NotesBehind Checkpointer (runner_of pid home) gate cause noted → ClosesSo pid home (fault_by cause) noted
run_closes pid home cause None came_as_ordinary is_told told noted given met to notes = absurd (at_gate pid home cause told noted (is_told, given) to notes)
run_closes pid home cause (Some (Err refusal)) came_as_ordinary is_told told noted given met to notes = absurd (never_refused home came_as_ordinary refusal (answers_so home came_as_ordinary (attempt false (Err refusal)) met))
run_closes pid home cause (Some (Ok generation)) came_as_ordinary is_told told noted given met to notes =
    inside_closes pid home cause told noted (is_told, given) to (subst (λ (g : ℕ). NotesInside Checkpointer (newcomer (Some home) pid g) cause noted) (same_gate home came_as_ordinary generation (answers_so home came_as_ordinary (attempt false (Ok generation)) met)) notes)

-- ---- no checkpoint but the last

-- what the store's last checkpoint can have noted
abbrev IsOfLast : List BookEntry → Type 0
IsOfLast work = (work ≡ []) ⊎ ((who : User) × (made : Result Checkpointed StoreNo) × CheckpointNotes who true made work)

not_of_last : (pid : ℕ) (ended : Bool) (more : List BookEntry) (who : User) (made : Result Checkpointed StoreNo) → CheckpointNotes who true made (CheckpointEnded pid ended false ∷ more) → ⊥
not_of_last pid ended more who (Ok (Done epoch)) notes = let e : CheckpointEnded pid ended false ∷ more ≡ CheckpointEnded who.pid true true ∷ [] = notes in cc
not_of_last pid ended more who (Ok Skipped) notes = let e : CheckpointEnded pid ended false ∷ more ≡ CheckpointEnded who.pid false true ∷ [] = notes in cc
not_of_last pid ended more who (Ok (NotDue behind)) notes = let e : true ≡ false = notes.0 in cc
not_of_last pid ended more who (Err (stores.Stale mine found)) notes = let e : CheckpointEnded pid ended false ∷ more ≡ [] = notes.1 in cc
not_of_last pid ended more who (Err stores.Disk) notes = let e : CheckpointEnded pid ended false ∷ more ≡ Broke who.pid notes.0 notes.1 ∷ [] = notes.2 in cc
not_of_last pid ended more who (Err (stores.Broken since)) notes = let e : CheckpointEnded pid ended false ∷ more ≡ Broke who.pid since notes.0 ∷ [] = notes.1 in cc
not_of_last pid ended more who (Err (stores.Full need room)) notes = let e : CheckpointEnded pid ended false ∷ more ≡ [] = notes.1 in cc
not_of_last pid ended more who (Err (stores.Redo fault)) never = never
not_of_last pid ended more who (Err stores.NoMemory) notes = let e : CheckpointEnded pid ended false ∷ more ≡ [] = notes in cc

passing_never : (pid : ℕ) (ended : Bool) (more : List BookEntry) → IsOfLast (CheckpointEnded pid ended false ∷ more) → ⊥
passing_never pid ended more (inl none) = let e : CheckpointEnded pid ended false ∷ more ≡ [] = none in cc
passing_never pid ended more (inr has) = not_of_last pid ended more has.0 has.1 has.2

none_passes : (pid : ℕ) (passing more : List BookEntry) → All (IsPassing pid) passing → IsOfLast (work_in (passing ++ more)) → passing ≡ []
none_passes pid [] more each of = refl
none_passes pid (entry ∷ passing) more each of =
    let first = All-head (IsPassing pid) entry passing each in
    absurd (passing_never pid first.0 (work_in (passing ++ more)) (subst (λ (e : BookEntry). IsOfLast (work_in (e ∷ (passing ++ more)))) first.1 of))

-- ---- by what it remembers

abbrev ClosesBy : (pid home : ℕ) → List BookEntry → Result Checkpointed StoreNo → Type 0
ClosesBy pid home noted made = CloseNotes pid home (closed_as made) noted

-- the last checkpoint was made or left out
ended_true : (pid home : ℕ) (ended : Bool) (noted : List BookEntry) → noted ≡ Attached pid home ∷ CheckpointEnded pid ended true ∷ Detached pid ∷ [] → ended ≡ true → noted ≡ Attached pid home ∷ CheckpointEnded pid true true ∷ Detached pid ∷ []
ended_true pid home ended noted is e = is ∙ ap (λ (b : Bool). Attached pid home ∷ CheckpointEnded pid b true ∷ Detached pid ∷ []) e

ended_false : (pid home : ℕ) (ended : Bool) (noted : List BookEntry) → noted ≡ Attached pid home ∷ CheckpointEnded pid ended true ∷ Detached pid ∷ [] → ended ≡ false → noted ≡ Attached pid home ∷ CheckpointEnded pid false true ∷ Detached pid ∷ []
ended_false pid home ended noted is e = is ∙ ap (λ (b : Bool). Attached pid home ∷ CheckpointEnded pid b true ∷ Detached pid ∷ []) e

ended_notes : (pid home : ℕ) (ended : Bool) (who : User) (made : Result Checkpointed StoreNo) (noted : List BookEntry) → noted ≡ Attached pid home ∷ CheckpointEnded pid ended true ∷ Detached pid ∷ []
    → CheckpointNotes who true made (CheckpointEnded pid ended true ∷ []) → ClosesBy pid home noted made
ended_notes pid home ended who (Ok (Done epoch)) noted is notes =
    let one : List BookEntry = CheckpointEnded pid ended true ∷ [] in
    let same : one ≡ CheckpointEnded who.pid true true ∷ [] = notes in
    let ended_is : ended ≡ true = cc in ended_true pid home ended noted is ended_is
ended_notes pid home ended who (Ok Skipped) noted is notes =
    let one : List BookEntry = CheckpointEnded pid ended true ∷ [] in
    let same : one ≡ CheckpointEnded who.pid false true ∷ [] = notes in
    let ended_is : ended ≡ false = cc in inr (inr (ended_false pid home ended noted is ended_is))
ended_notes pid home ended who (Ok (NotDue behind)) noted is notes = let e : true ≡ false = notes.0 in absurd (cc)
ended_notes pid home ended who (Err (stores.Stale mine found)) noted is notes = let e : CheckpointEnded pid ended true ∷ [] ≡ [] = notes.1 in absurd (cc)
ended_notes pid home ended who (Err stores.Disk) noted is notes = let e : CheckpointEnded pid ended true ∷ [] ≡ Broke who.pid notes.0 notes.1 ∷ [] = notes.2 in absurd (cc)
ended_notes pid home ended who (Err (stores.Broken since)) noted is notes = let e : CheckpointEnded pid ended true ∷ [] ≡ Broke who.pid since notes.0 ∷ [] = notes.1 in absurd (cc)
ended_notes pid home ended who (Err (stores.Full need room)) noted is notes = let e : CheckpointEnded pid ended true ∷ [] ≡ [] = notes.1 in absurd (cc)
ended_notes pid home ended who (Err (stores.Redo fault)) noted is never = absurd never
ended_notes pid home ended who (Err stores.NoMemory) noted is notes = let e : CheckpointEnded pid ended true ∷ [] ≡ [] = notes in absurd (cc)

-- the disk failed
broke_notes : (pid home since faults : ℕ) (who : User) (made : Result Checkpointed StoreNo) (noted : List BookEntry) → noted ≡ Attached pid home ∷ Broke pid since faults ∷ []
    → CheckpointNotes who true made (Broke pid since faults ∷ []) → ClosesBy pid home noted made
broke_notes pid home since faults who (Ok (Done epoch)) noted is notes = let e : Broke pid since faults ∷ [] ≡ CheckpointEnded who.pid true true ∷ [] = notes in absurd (cc)
broke_notes pid home since faults who (Ok Skipped) noted is notes = let e : Broke pid since faults ∷ [] ≡ CheckpointEnded who.pid false true ∷ [] = notes in absurd (cc)
broke_notes pid home since faults who (Ok (NotDue behind)) noted is notes = let e : true ≡ false = notes.0 in absurd (cc)
broke_notes pid home since faults who (Err (stores.Stale mine found)) noted is notes = let e : Broke pid since faults ∷ [] ≡ [] = notes.1 in absurd (cc)
broke_notes pid home since faults who (Err stores.Disk) noted is notes = (since, faults, is)
broke_notes pid home since faults who (Err (stores.Broken at)) noted is notes = (since, faults, is)
broke_notes pid home since faults who (Err (stores.Full need room)) noted is notes = let e : Broke pid since faults ∷ [] ≡ [] = notes.1 in absurd (cc)
broke_notes pid home since faults who (Err (stores.Redo fault)) noted is never = absurd never
broke_notes pid home since faults who (Err stores.NoMemory) noted is notes = let e : Broke pid since faults ∷ [] ≡ [] = notes in absurd (cc)

-- nothing was noted inside
through_notes : (pid home : ℕ) (who : User) (made : Result Checkpointed StoreNo) (noted : List BookEntry) → noted ≡ Attached pid home ∷ Detached pid ∷ [] → CheckpointNotes who true made [] → ClosesBy pid home noted made
through_notes pid home who (Ok (Done epoch)) noted is notes = let e : [] ≡ CheckpointEnded who.pid true true ∷ [] = notes in absurd (cc)
through_notes pid home who (Ok Skipped) noted is notes = let e : [] ≡ CheckpointEnded who.pid false true ∷ [] = notes in absurd (cc)
through_notes pid home who (Ok (NotDue behind)) noted is notes = let e : true ≡ false = notes.0 in absurd (cc)
through_notes pid home who (Err (stores.Stale mine found)) noted is notes = inr (inl is)
through_notes pid home who (Err stores.Disk) noted is notes = let e : [] ≡ Broke who.pid notes.0 notes.1 ∷ [] = notes.2 in absurd (cc)
through_notes pid home who (Err (stores.Broken since)) noted is notes = let e : [] ≡ Broke who.pid since notes.0 ∷ [] = notes.1 in absurd (cc)
through_notes pid home who (Err (stores.Full need room)) noted is notes = is
through_notes pid home who (Err (stores.Redo fault)) noted is never = absurd never
through_notes pid home who (Err stores.NoMemory) noted is notes = inr (inl is)

-- it answers what it remembers, or that memory was short
made_or : (P : Result Checkpointed StoreNo → Type 0) (fault : Option StoreNo) (made : Result Checkpointed StoreNo) → (fault ≡ Some stores.NoMemory → P (Err stores.NoMemory)) → P made → P (made_by fault (works.Made made))
made_or P None made short is = is
made_or P (Some (stores.Stale mine found)) made short is = is
made_or P (Some stores.Disk) made short is = is
made_or P (Some (stores.Broken since)) made short is = is
made_or P (Some (stores.Full need room)) made short is = is
made_or P (Some (stores.Redo reason)) made short is = is
made_or P (Some stores.NoMemory) made short is = short refl

idle_or : (P : Result Checkpointed StoreNo → Type 0) (fault : Option StoreNo) → P (Err stores.NoMemory) → P (made_by fault works.ToClose)
idle_or P None short = short
idle_or P (Some (stores.Stale mine found)) short = short
idle_or P (Some stores.Disk) short = short
idle_or P (Some (stores.Broken since)) short = short
idle_or P (Some (stores.Full need room)) short = short
idle_or P (Some (stores.Redo reason)) short = short
idle_or P (Some stores.NoMemory) short = short

-- what it noted inside, by the way that its work ended
abbrev inside_of : (pid home : ℕ) → (last left : List BookEntry) → List BookEntry
inside_of pid home last left = Attached pid home ∷ (last ++ left)

both_parts : (pid home : ℕ) (last left its_last its_left noted : List BookEntry) → noted ≡ inside_of pid home last left → last ≡ its_last → left ≡ its_left → noted ≡ inside_of pid home its_last its_left
both_parts pid home last left its_last its_left noted is one two =
    is ∙ ap (λ (l : List BookEntry). inside_of pid home l left) one ∙ ap (λ (l : List BookEntry). inside_of pid home its_last l) two

short_never : (refusal : StoreNo) (fault : Option StoreNo) → fault ≡ Some refusal → (refusal ≡ stores.NoMemory → ⊥) → fault ≡ Some stores.NoMemory → ⊥
short_never refusal fault is not short = let same : refusal ≡ stores.NoMemory = cc in not same

none_never : (fault : Option StoreNo) → fault ≡ None → fault ≡ Some stores.NoMemory → ⊥
none_never fault is short = cc

-- it remembers a checkpoint
made_notes : (pid home : ℕ) (fault : Option StoreNo) (made : Result Checkpointed StoreNo) (who : User) (last left noted : List BookEntry) → noted ≡ inside_of pid home last left → EndsSo pid fault last left
    → CheckpointNotes who true made (work_in noted) → ClosesBy pid home noted (made_by fault (works.Made made))
made_notes pid home fault made who last left noted is (inl ended) notes =
    let so = both_parts pid home last left _ _ noted is ended.2 ended.3 in
    made_or (ClosesBy pid home noted) fault made (λ short. absurd (none_never fault ended.0 short)) (ended_notes pid home ended.1 who made noted so (subst (CheckpointNotes who true made) (ap work_in so) notes))
made_notes pid home fault made who last left noted is (inr (inl broke)) notes =
    let so = both_parts pid home last left _ _ noted is broke.5 broke.6 in
    made_or (ClosesBy pid home noted) fault made (λ short. absurd (short_never broke.0 fault broke.1 broke.2 short))
    (broke_notes pid home broke.3 broke.4 who made noted so (subst (CheckpointNotes who true made) (ap work_in so) notes))
made_notes pid home fault made who last left noted is (inr (inr none)) notes =
    let so = both_parts pid home last left _ _ noted is none.2 none.3 in
    made_or (ClosesBy pid home noted) fault made (λ short. inr (inl so)) (through_notes pid home who made noted so (subst (CheckpointNotes who true made) (ap work_in so) notes))

-- it doesn't
idle_notes : (pid home : ℕ) (fault : Option StoreNo) (last left noted : List BookEntry) → noted ≡ inside_of pid home last left → EndsSo pid fault last left → work_in noted ≡ [] → ClosesBy pid home noted (made_by fault works.ToClose)
idle_notes pid home fault last left noted is (inl ended) idle =
    let e : CheckpointEnded pid ended.1 true ∷ [] ≡ [] = sym (ap work_in (both_parts pid home last left _ _ noted is ended.2 ended.3)) ∙ idle in absurd (cc)
idle_notes pid home fault last left noted is (inr (inl broke)) idle =
    let e : Broke pid broke.3 broke.4 ∷ [] ≡ [] = sym (ap work_in (both_parts pid home last left _ _ noted is broke.5 broke.6)) ∙ idle in absurd (cc)
idle_notes pid home fault last left noted is (inr (inr none)) idle = idle_or (ClosesBy pid home noted) fault (inr (inl (both_parts pid home last left _ _ noted is none.2 none.3)))

-- what it is there for
never_both : works.ToClose ≡ works.ToRead → ⊥
never_both is = cc

abbrev EndsBy : (pid home : ℕ) → List BookEntry → Option StoreNo → Work → Type 0
EndsBy pid home noted fault work = ClosesBy pid home noted (made_by fault work)

-- it wasn't let in
out_notes : (pid home : ℕ) (work : Work) (noted : List BookEntry) → noted ≡ [] → ClosesBy pid home noted (made_by (Some stores.NoMemory) work)
out_notes pid home work noted none = inl none

-- the entries of its work are those after its coming
of_last : (pid home : ℕ) (passing last left noted : List BookEntry) → noted ≡ Attached pid home ∷ ((passing ++ last) ++ left) → IsOfLast (work_in noted) → IsOfLast (work_in (passing ++ (last ++ left)))
of_last pid home passing last left noted is of = subst IsOfLast (ap work_in (is ∙ ap (λ (l : List BookEntry). Attached pid home ∷ l) (grouped passing last left))) of
  where
    grouped : (a b c : List BookEntry) → (a ++ b) ++ c ≡ a ++ (b ++ c)
    grouped [] b c = refl
    grouped (e ∷ a) b c = ap (λ (l : List BookEntry). e ∷ l) (grouped a b c)

without_passing : (pid home : ℕ) (passing last left noted : List BookEntry) → noted ≡ Attached pid home ∷ ((passing ++ last) ++ left) → passing ≡ [] → noted ≡ inside_of pid home last left
without_passing pid home passing last left noted is none = is ∙ ap (λ (l : List BookEntry). Attached pid home ∷ ((l ++ last) ++ left)) none

ended_alone : (pid home : ℕ) (fault : Option StoreNo) (noted : List BookEntry) (ended : HasEnded pid home fault noted) → IsOfLast (work_in noted) → noted ≡ inside_of pid home ended.last ended.left
ended_alone pid home fault noted ended of =
    without_passing pid home ended.passing ended.last ended.left noted ended.noted_is
    (none_passes pid ended.passing (ended.last ++ ended.left) ended.each (of_last pid home ended.passing ended.last ended.left noted ended.noted_is of))

pub close_notes : (pid home : ℕ) (fault : Option StoreNo) (work : Work) (before now : Moment) (noted : List BookEntry) → ClosesSo pid home fault noted → HasDone (work_in noted) works.ToClose work before now
    → CloseNotes pid home (closed_as (made_by fault work)) noted
close_notes pid home fault work before now noted (inl out) done = subst (λ (f : Option StoreNo). EndsBy pid home noted f work) (sym out.0) (out_notes pid home work noted out.1)
close_notes pid home fault work before now noted (inr ended) (inl idle) =
    subst (EndsBy pid home noted fault) (sym idle.0) (idle_notes pid home fault ended.last ended.left noted (ended_alone pid home fault noted ended (inl idle.1)) ended.ends idle.1)
close_notes pid home fault work before now noted (inr ended) (inr (inl read)) = absurd (never_both read.0)
close_notes pid home fault work before now noted (inr ended) (inr (inr closed)) =
    let notes = closed.3.notes in
    subst (EndsBy pid home noted fault) (sym closed.2) (made_notes pid home fault closed.1 closed.3.who ended.last ended.left noted (ended_alone pid home fault noted ended (inr (closed.3.who, closed.1, notes))) ended.ends notes)

-- ---- what it says of the files

-- a checkpoint that is told as made left a clean log
pub made_clean : (made : Result Checkpointed StoreNo) (live : Option Live) (rows : RowMap) (seen : Option Files) → closed_as made ≡ Made
    → ((epoch : ℕ) → made ≡ Ok (Done epoch) → IsCleanAt epoch live rows seen) → (epoch : ℕ) × IsCleanAt epoch live rows seen
made_clean (Ok (Done epoch)) live rows seen is clean = (epoch, clean epoch refl)
made_clean (Ok Skipped) live rows seen is clean = absurd cc
made_clean (Ok (NotDue behind)) live rows seen is clean = absurd cc
made_clean (Err stores.Disk) live rows seen is clean = absurd cc
made_clean (Err (stores.Broken since)) live rows seen is clean = absurd cc
made_clean (Err (stores.Full need room)) live rows seen is clean = absurd cc
made_clean (Err stores.NoMemory) live rows seen is clean = absurd cc
made_clean (Err (stores.Stale mine found)) live rows seen is clean = absurd cc
made_clean (Err (stores.Redo fault)) live rows seen is clean = absurd cc

-- and one that is told as full stands in the last epoch
pub made_full : (made : Result Checkpointed StoreNo) (seen : Option Files) → closed_as made ≡ Full → FullAtLast seen made → IfSome seen (λ files. ∥ IsAtLastEpoch files ∥₁)
made_full (Ok (Done epoch)) seen is full = absurd cc
made_full (Ok Skipped) seen is full = absurd cc
made_full (Ok (NotDue behind)) seen is full = absurd cc
made_full (Err stores.Disk) seen is full = absurd cc
made_full (Err (stores.Broken since)) seen is full = absurd cc
made_full (Err (stores.Full need room)) seen is full = full need room refl
made_full (Err stores.NoMemory) seen is full = absurd cc
made_full (Err (stores.Stale mine found)) seen is full = absurd cc
made_full (Err (stores.Redo fault)) seen is full = absurd cc
