-- What a child notes that serves no connection, from its entering to its leaving, by the cause of its end.
use Rattle.std.specs.Prelude.{◌≡◌, ◌⊎◌, ℕ, ◌++◌, Bool, true, false, List, [], ◌∷◌, All, Result, Ok, Err}
use Rattle.pm_exit.specs.declared.child.Kind.{Kind}
use Rattle.pm_exit.specs.declared.child.Kind.TheVariants as kinds
use Rattle.pm_query.specs.{declared.book.BookEntry.{BookEntry, TheVariants.{Attached, CheckpointEnded}}, Calls.{User, EnterNotes, RedoNotes, FlushNotes, CheckpointNotes, LeaveNotes}}
use Rattle.pm_aux.specs.{declared.cause.AuxiliaryEnd.{AuxiliaryEnd, TheVariants.{Redone, Flushed, Closed, LeftOut, Refused, ToldToQuit, Killed}}, Ends.lets_go}

-- a redo notes the number that it keeps, or why the log wasn't read
abbrev pub ReadsLog : User → AuxiliaryEnd → List BookEntry → Type 0
ReadsLog user (Redone kept) noted = RedoNotes user (Ok kept) noted
ReadsLog user (Refused refusal) noted = RedoNotes user (Err refusal) noted
ReadsLog user _ noted = ⊥

-- flushes note nothing but the refusal that the writer ends by
abbrev pub Flushes : User → AuxiliaryEnd → List BookEntry → Type 0
Flushes user Flushed noted = noted ≡ []
Flushes user (Refused refusal) noted = FlushNotes user (Err refusal) noted
Flushes user (ToldToQuit reason) noted = noted ≡ []
Flushes user Killed noted = noted ≡ []
Flushes user _ noted = ⊥

-- a checkpoint that wasn't the last: it was due and was made, or it was left out
abbrev pub IsPassing : ℕ → BookEntry → Type 0
IsPassing pid entry = (made : Bool) × (entry ≡ CheckpointEnded pid made false)

-- what the checkpointer notes last, by the cause of its end
abbrev pub ClosesBy : User → AuxiliaryEnd → List BookEntry → Type 0
ClosesBy user Closed noted = noted ≡ CheckpointEnded user.pid true true ∷ []
ClosesBy user LeftOut noted = noted ≡ CheckpointEnded user.pid false true ∷ []
ClosesBy user (Refused refusal) noted = CheckpointNotes user true (Err refusal) noted
ClosesBy user (ToldToQuit reason) noted = noted ≡ []
ClosesBy user Killed noted = noted ≡ []
ClosesBy user _ noted = ⊥

-- checkpoints one after the other, the last by the cause of the end
pub record Checkpoints (user : User) (cause : AuxiliaryEnd) (noted : List BookEntry) : Type 0 where
  pub passing : List BookEntry
  pub last : List BookEntry
  pub each : All (IsPassing user.pid) passing
  pub closes : ClosesBy user cause last
  pub noted_is : noted ≡ passing ++ last

-- what it does between its entering and its leaving, by its kind
abbrev pub Does : Kind → User → AuxiliaryEnd → List BookEntry → Type 0
Does kinds.Startup user cause noted = ReadsLog user cause noted
Does kinds.Writer user cause noted = Flushes user cause noted
Does kinds.Checkpointer user cause noted = Checkpoints user cause noted
Does _ user cause noted = ⊥

-- ---- inside

-- it goes on until it is told to end
abbrev pub GoesOn : Kind → Type 0
GoesOn kinds.Writer = Unit {0}
GoesOn kinds.Checkpointer = Unit {0}
GoesOn _ = ⊥

-- Behind the gate it didn't come into the store: it was refused there, or was told to end before it came in.
abbrev pub IsKeptOut : Kind → User → AuxiliaryEnd → List BookEntry → Type 0
IsKeptOut kind user (Refused refusal) noted = EnterNotes {P = Unit {0}} user (Err refusal) noted
IsKeptOut kind user (ToldToQuit reason) noted = GoesOn kind × (noted ≡ [])
IsKeptOut kind user Killed noted = GoesOn kind × (noted ≡ [])
IsKeptOut kind user _ noted = ⊥

-- it leaves the store where it lets go of it
abbrev pub LeavesIf : Bool → User → List BookEntry → Type 0
LeavesIf true user noted = LeaveNotes user noted
LeavesIf false user noted = noted ≡ []

-- its work, and its leaving
pub record HasWorked (kind : Kind) (user : User) (cause : AuxiliaryEnd) (noted : List BookEntry) : Type 0 where
  pub work : List BookEntry
  pub left : List BookEntry
  pub does : Does kind user cause work
  pub leaves : LeavesIf (lets_go cause) user left
  pub noted_is : noted ≡ work ++ left

-- it entered, did its work, and left
pub record HasEntered (kind : Kind) (user : User) (cause : AuxiliaryEnd) (noted : List BookEntry) : Type 0 where
  pub inside : List BookEntry
  pub worked : HasWorked kind user cause inside
  pub noted_is : noted ≡ Attached user.pid user.generation ∷ inside

abbrev pub NotesInside : Kind → User → AuxiliaryEnd → List BookEntry → Type 0
NotesInside kind user cause noted = IsKeptOut kind user cause noted ⊎ HasEntered kind user cause noted

-- what it noted that was let into the store, or was kept out of it by this cause
abbrev pub ComesIn : {P : Type 0} → Kind → User → Result P AuxiliaryEnd → List BookEntry → Type 0
ComesIn kind user (Ok pass) noted = noted ≡ Attached user.pid user.generation ∷ []
ComesIn kind user (Err cause) noted = IsKeptOut kind user cause noted
