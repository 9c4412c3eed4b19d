-- A server that keeps journal and book side by side: what it writes, step after step, and where each step may stand.
use Rattle.std.specs.{Prelude.{◌≡◌, ◌⊎◌, ℕ, Bool, true, false, ◌&&◌, if◌then◌else◌, List, [], ◌∷◌, ◌++◌, fold, map, Option, None, Some, IsSomeAnd}, List.{AllByRecursion, flat_map, last_or}}
use Rattle.pm_state.specs.{pm_exit.{declared.child.{Kind.Kind, Status.Status}, Ends.is_exit_0}, pm_supervisor.{declared.Limits.Limits, Children.{is_startup_child, is_dead_end, child_of}}, declared.event.PmEvent.PmEvent, Journal.{Replay, all_replayed, replay_begun}}
use Rattle.pm_state.specs.declared.event.PmEvent.TheVariants as event
use Rattle.pm_query.specs.declared.book.BookEntry.{BookEntry}
use Rattle.pm_query.specs.declared.book.BookEntry.TheVariants as entry
use Rattle.pm_supervisor_chain.specs.Chain.{IsAmong, kept_of, redos_of}

-- One run of a child: who it is, what it noted in the book, and how it ended.
pub record ChildRun : Type 0 where
  pub pid : ℕ
  pub kind : Kind
  -- the generation that it was started in
  pub generation : ℕ
  pub noted : List BookEntry
  pub status : Status
  -- it was found to have ended while its slot was active
  pub was_active : Bool
  -- the number of commits that its redo kept
  pub kept : Option ℕ

-- What stands in journal and book, in the order in which it was noted.
pub data Step : Type 0 where
  -- an entry of the journal that stands by itself
  Notes : (noted : PmEvent) → Step
  -- what a child noted in the book, and then its end in the journal, with the end of redo after it
  Runs : (run : ChildRun) → (at : ℕ) → Step
  -- the same of a child whose end isn't noted, since memory was short
  RunsOn : (run : ChildRun) → Step
  -- these children are gone, and the store begins its next generation
  Renews : (generation : ℕ) → (gone : List ℕ) → Step

-- ---- journal and book

abbrev pub redo_end : (generation : ℕ) → (kept : Option ℕ) → List PmEvent
redo_end generation None = []
redo_end generation (Some kept) = event.RedoEnded generation kept ∷ []

-- what a step adds to the journal
abbrev pub journal_by : Step → List PmEvent
journal_by (Notes noted) = noted ∷ []
journal_by (Runs run at) = event.Exited run.pid run.kind run.status run.was_active at ∷ redo_end run.generation run.kept
journal_by (RunsOn run) = []
journal_by (Renews generation gone) = []

-- and to the book
abbrev pub book_by : Step → List BookEntry
book_by (Notes noted) = []
book_by (Runs run at) = run.noted
book_by (RunsOn run) = run.noted
book_by (Renews generation gone) = map entry.Gone gone ++ entry.Opened generation ∷ []

abbrev pub journal_of : List Step → List PmEvent
journal_of steps = flat_map journal_by steps

abbrev pub book_of : List Step → List BookEntry
book_of steps = flat_map book_by steps

-- after the opening of the store
abbrev pub whole_book : List Step → List BookEntry
whole_book steps = entry.Opened 1 ∷ book_of steps

-- ---- a run of a child

-- An entry of a child between its entering and its leaving. A redo that it notes is told at its end.
abbrev pub IsWorkOf : ChildRun → BookEntry → Type 0
IsWorkOf run (entry.Opened generation) = ⊥
IsWorkOf run (entry.Attached pid generation) = ⊥
IsWorkOf run (entry.Detached pid) = ⊥
IsWorkOf run (entry.Gone pid) = ⊥
IsWorkOf run (entry.Redone pid generation kept) = (pid ≡ run.pid) × (generation ≡ run.generation) × (run.kept ≡ Some kept)
IsWorkOf run (entry.Answered pid script reply commit front tick) = pid ≡ run.pid
IsWorkOf run (entry.Released pid front tick) = pid ≡ run.pid
IsWorkOf run (entry.CheckpointEnded pid done clean) = pid ≡ run.pid
IsWorkOf run (entry.Broke pid since faults) = pid ≡ run.pid
IsWorkOf run (entry.LogFull pid script need room) = pid ≡ run.pid

-- it leaves the store, unless it ends inside
abbrev pub leaving : ChildRun → List BookEntry
leaving run = if run.was_active then [] else entry.Detached run.pid ∷ []

-- It entered the store once, in its generation, and did its work there: no child that refuses a connection does.
pub record HasEntered (run : ChildRun) : Type 0 where
  pub work : List BookEntry
  pub noted : run.noted ≡ entry.Attached run.pid run.generation ∷ (work ++ leaving run)
  pub of_it : AllByRecursion (IsWorkOf run) work
  pub serves : is_dead_end run.kind ≡ false

-- it never was inside
pub record StaysOutside (run : ChildRun) : Type 0 where
  pub noted : run.noted ≡ []
  pub inactive : run.was_active ≡ false

-- it is a startup child that brought the data up to date
abbrev pub ends_redo : ChildRun → Bool
ends_redo run = is_startup_child run.kind && is_exit_0 run.status

-- so it tells the number that it kept, and no other child tells one
abbrev pub TellsRedo : ChildRun → Option ℕ → Type 0
TellsRedo run None = ends_redo run ≡ false
TellsRedo run (Some kept) =
    (ends_redo run ≡ true) × IsAmong (record { number = kept; generation = run.generation }) (kept_of (redos_of run.noted))

pub record IsRunOf (run : ChildRun) : Type 0 where
  pub use_of_store : StaysOutside run ⊎ HasEntered run
  pub redo : TellsRedo run run.kept

-- ---- what the steps so far leave

abbrev pub replay_of : Limits → List Step → Replay
replay_of limits before = all_replayed (replay_begun limits) (journal_of before)

abbrev pub lost_after : List ℕ → Step → List ℕ
lost_after lost (Runs run at) = if run.was_active then lost ++ run.pid ∷ [] else lost
lost_after lost (Renews generation gone) = []
lost_after lost _ = lost

-- the children that ended inside the store since it was renewed last, in order
abbrev pub lost_in : List Step → List ℕ
lost_in before = fold lost_after [] before

-- ---- which step may come next

-- A renewal comes right after the reset of its generation, and nothing else comes there. After a child that runs on there
-- is nothing.
abbrev pub MayFollow : Option Step → Step → Type 0
MayFollow (Some (RunsOn run)) step = ⊥
MayFollow (Some (Notes (event.Reset next))) (Renews generation gone) = generation ≡ next
MayFollow (Some (Notes (event.Reset next))) step = ⊥
MayFollow last (Renews generation gone) = ⊥
MayFollow last step = Unit {0}

-- the ends of children and of redo are those of runs
abbrev pub StandsByItself : PmEvent → Type 0
StandsByItself (event.Exited pid kind status was_active at) = ⊥
StandsByItself (event.RedoEnded generation kept) = ⊥
StandsByItself _ = Unit {0}

-- the child is there, of this kind and generation
abbrev pub IsThere : Replay → ChildRun → Type 0
IsThere replay run =
    IsSomeAnd (child_of run.pid replay.shown.children) (λ child. (child.kind ≡ run.kind) × (child.generation ≡ run.generation))

-- where the journal leaves this, and these children ended inside
abbrev pub FitsIn : Replay → List ℕ → Step → Type 0
FitsIn replay lost (Notes noted) = StandsByItself noted
FitsIn replay lost (Runs run at) = IsThere replay run × IsRunOf run
FitsIn replay lost (RunsOn run) = IsThere replay run × IsRunOf run
FitsIn replay lost (Renews generation gone) = gone ≡ lost

-- the step may stand after these
pub record MayStep (limits : Limits) (before : List Step) (step : Step) : Type 0 where
  pub follows : MayFollow (last_or None before) step
  pub fits : FitsIn (replay_of limits before) (lost_in before) step

abbrev pub AreStepsBehind : Limits → (before steps : List Step) → Type 0
AreStepsBehind limits before [] = Unit {0}
AreStepsBehind limits before (step ∷ steps) = MayStep limits before step × AreStepsBehind limits (before ++ step ∷ []) steps

-- each step may stand after those before it
abbrev pub AreSteps : Limits → List Step → Type 0
AreSteps limits steps = AreStepsBehind limits [] steps
