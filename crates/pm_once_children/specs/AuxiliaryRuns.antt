-- The runs of the children that serve no connection.
use Rattle.std.specs.Prelude.{Bool, false, true, List, fold, Option, None, Some, ◌≡◌, ℕ, [], ◌∷◌, ◌⊎◌, Result, Ok, Err, IsSomeAnd}
use Rattle.pm_server.specs.pm_exit.declared.child.Kind.TheVariants as kinds
use Rattle.pm_server.specs.{pm_state.declared.event.PmEvent.PmEvent, pm_query.declared.{store.{StoreNo.StoreNo, Checkpointed.Checkpointed}, book.BookEntry.{BookEntry, TheVariants.{Attached, Detached, Redone, Broke, CheckpointEnded}}}, declared.end.StartWhy.{StartWhy, TheVariants.{Redo, Killed}}, pm_exit.declared.child.{Status.{Status, TheVariants.{Code, Signal}}, Kind.Kind}}
use Rattle.pm_server.specs.pm_state.declared.event.PmEvent.TheVariants as entry
use Rattle.pm_server.specs.pm_record.declared.fault.RedoFault.TheVariants as redo
use Rattle.pm_server.specs.pm_query.declared.store.StoreNo.TheVariants as stores
use Rattle.pm_once_acts.specs.pm_supervisor_chain.Steps.{ChildRun, Runs, RunsOn, Step, journal_by}
use Rattle.pm_server.specs.pm_query.declared.store.Checkpointed.TheVariants as made
use Rattle.pm_once_children.specs.declared.checkpointer.Closed.{Closed, TheVariants.{Made, Crashed, Full, Short}}

-- ---- what they were told

-- what the children of a generation that serve no connection were told
pub record Heard : Type 0 where
  -- all are to end at once
  pub quit : Bool
  -- the writer is to end
  pub terminated : Bool
  -- the checkpointer is to write the last checkpoint
  pub asked : Bool

abbrev pub nothing_heard : Heard
nothing_heard = record { quit = false; terminated = false; asked = false }

-- by an entry of the journal: a startup child begins a generation
abbrev pub heard_after : Heard → PmEvent → Heard
heard_after heard (entry.Started pid kinds.Startup) = nothing_heard
heard_after heard (entry.QuitSent why) = record heard { quit = true }
heard_after heard entry.TerminateSent = record heard { terminated = true }
heard_after heard entry.CheckpointAsked = record heard { asked = true }
heard_after heard _ = heard

abbrev pub heard_in : List PmEvent → Heard
heard_in journal = fold heard_after nothing_heard journal

-- ---- a startup child

-- why a log wasn't to be read whose redo was refused so, unless memory was short
abbrev pub refused_start : StoreNo → Option StartWhy
refused_start (stores.Redo redo.NoMemory) = None
refused_start (stores.Redo fault) = Some (Redo fault)
refused_start _ = None

-- what reading the log came to, by what its redo did
abbrev pub started_as : Result ℕ StoreNo → Result ℕ (Option StartWhy)
started_as (Ok kept) = Ok kept
started_as (Err refusal) = Err (refused_start refusal)

-- it entered, and left again
abbrev pub GoesThrough : (pid generation : ℕ) → List BookEntry → Type 0
GoesThrough pid generation noted = noted ≡ Attached pid generation ∷ Detached pid ∷ []

-- The log was read, and so many commits stand; or it wasn't to be read for this reason. A fault of the disk is noted.
abbrev pub StartNotes : (pid generation : ℕ) → Result ℕ (Option StartWhy) → List BookEntry → Type 0
StartNotes pid generation (Ok kept) noted = noted ≡ Attached pid generation ∷ Redone pid generation kept ∷ Detached pid ∷ []
StartNotes pid generation (Err (Some (Redo redo.Disk))) noted =
    (since : ℕ) × (faults : ℕ) × (noted ≡ Attached pid generation ∷ Broke pid since faults ∷ Detached pid ∷ [])
StartNotes pid generation (Err (Some (Redo redo.NoMemory))) noted = ⊥
StartNotes pid generation (Err (Some (Redo fault))) noted = GoesThrough pid generation noted
StartNotes pid generation (Err (Some Killed)) noted = ⊥
StartNotes pid generation (Err None) noted = (noted ≡ []) ⊎ GoesThrough pid generation noted

abbrev pub start_status : Result ℕ (Option StartWhy) → Status
start_status (Ok kept) = Code 0
start_status (Err why) = Code 1

abbrev pub kept_by : Result ℕ (Option StartWhy) → Option ℕ
kept_by (Ok kept) = Some kept
kept_by (Err why) = None

abbrev pub startup_run : (pid generation : ℕ) → Result ℕ (Option StartWhy) → List BookEntry → ChildRun
startup_run pid generation read noted = record {
  pid = pid;
  kind = kinds.Startup;
  generation = generation;
  noted = noted;
  status = start_status read;
  was_active = false;
  kept = kept_by read;
}

-- ---- the checkpointer at a shutdown

abbrev pub closed_as : Result Checkpointed StoreNo → Closed
closed_as (Ok (made.Done epoch)) = Made
closed_as (Ok _) = Short
closed_as (Err stores.Disk) = Crashed
closed_as (Err (stores.Broken since)) = Crashed
closed_as (Err (stores.Full need room)) = Full
closed_as (Err _) = Short

abbrev pub status_of_closed : Closed → Status
status_of_closed Made = Code 0
status_of_closed Crashed = Signal 6
status_of_closed Full = Code 1
status_of_closed Short = Code 1

abbrev pub is_crashed : Closed → Bool
is_crashed Crashed = true
is_crashed _ = false

-- The last checkpoint was made, and the child left; or the disk failed under it, and it is still inside. Where memory was
-- short, it may have found a log that isn't read.
abbrev pub CloseNotes : (pid generation : ℕ) → Closed → List BookEntry → Type 0
CloseNotes pid generation Made noted = noted ≡ Attached pid generation ∷ CheckpointEnded pid true true ∷ Detached pid ∷ []
CloseNotes pid generation Crashed noted = (since : ℕ) × (faults : ℕ) × (noted ≡ Attached pid generation ∷ Broke pid since faults ∷ [])
CloseNotes pid generation Full noted = GoesThrough pid generation noted
CloseNotes pid generation Short noted =
    (noted ≡ [])
    ⊎ (GoesThrough pid generation noted
    ⊎ (noted ≡ Attached pid generation ∷ CheckpointEnded pid false true ∷ Detached pid ∷ []))

abbrev pub checkpointer_run : (pid generation : ℕ) → Closed → List BookEntry → ChildRun
checkpointer_run pid generation closed noted = record {
  pid = pid;
  kind = kinds.Checkpointer;
  generation = generation;
  noted = noted;
  status = status_of_closed closed;
  was_active = is_crashed closed;
  kept = None;
}

-- ---- each of them

-- a child that ends at once, without having been inside
abbrev pub idle_run : (pid generation : ℕ) → Kind → Status → ChildRun
idle_run pid generation kind status = record {
  pid = pid;
  kind = kind;
  generation = generation;
  noted = [];
  status = status;
  was_active = false;
  kept = None;
}

abbrev pub IsIdleRun : Status → ChildRun → Type 0
IsIdleRun status run = run ≡ idle_run run.pid run.generation run.kind status

-- it has read the log
abbrev pub IsStartupRun : ChildRun → Type 0
IsStartupRun run = (read : Result ℕ (Option StartWhy)) × StartNotes run.pid run.generation read run.noted
    × (run ≡ startup_run run.pid run.generation read run.noted)

-- it was told to end at once, or was asked for the last checkpoint
abbrev pub IsCheckpointerRun : Heard → ChildRun → Type 0
IsCheckpointerRun heard run = ((heard.quit ≡ true) × IsIdleRun (Code 2) run)
    ⊎ ((heard.quit ≡ false) × (heard.asked ≡ true) × (closed : Closed) × CloseNotes run.pid run.generation closed run.noted
    × (run ≡ checkpointer_run run.pid run.generation closed run.noted))

-- it was told to end, at once or not
abbrev pub IsWriterRun : Heard → ChildRun → Type 0
IsWriterRun heard run = ((heard.quit ≡ true) × IsIdleRun (Code 2) run)
    ⊎ ((heard.quit ≡ false) × (heard.terminated ≡ true) × IsIdleRun (Code 0) run)

-- a run by the kind of its child: those of sessions are told by their connections, and there are no others
abbrev pub IsRunAs : Heard → Kind → ChildRun → Type 0
IsRunAs heard kinds.Startup run = IsStartupRun run
IsRunAs heard kinds.Checkpointer run = IsCheckpointerRun heard run
IsRunAs heard kinds.Writer run = IsWriterRun heard run
IsRunAs heard kinds.Backend run = Unit {0}
IsRunAs heard kinds.Worker run = ⊥
IsRunAs heard kinds.DeadEnd run = ⊥

-- why an auxiliary child ended by what it was told, what it noted, and how it ended by that
abbrev pub IsToldRun : Heard → Step → Type 0
IsToldRun heard (Runs run at) = IsRunAs heard run.kind run
IsToldRun heard (RunsOn run) = IsRunAs heard run.kind run
IsToldRun heard _ = Unit {0}

-- each of them by what was told before it
abbrev pub AreToldBehind : Heard → List Step → Type 0
AreToldBehind heard [] = Unit {0}
AreToldBehind heard (step ∷ steps) =
    IsToldRun heard step × AreToldBehind (fold heard_after heard (journal_by step)) steps

-- ---- the last startup child

abbrev pub startup_or : Option ChildRun → Kind → ChildRun → Option ChildRun
startup_or last kinds.Startup run = Some run
startup_or last _ run = last

abbrev pub startup_after : Option ChildRun → Step → Option ChildRun
startup_after last (Runs run at) = startup_or last run.kind run
startup_after last (RunsOn run) = startup_or last run.kind run
startup_after last _ = last

-- its run
abbrev pub last_startup : List Step → Option ChildRun
last_startup steps = fold startup_after None steps

-- its redo was refused so, which for a fault of the disk is noted
abbrev pub IsRefusedRun : StartWhy → ChildRun → Type 0
IsRefusedRun why run = StartNotes run.pid run.generation (Err (Some why)) run.noted
    × (run ≡ startup_run run.pid run.generation (Err (Some why)) run.noted)

abbrev pub IsRefusedLast : StartWhy → List Step → Type 0
IsRefusedLast why steps = IsSomeAnd (last_startup steps) (IsRefusedRun why)
