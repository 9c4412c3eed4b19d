-- A run of a child that serves no connection, from its start to its end.
use Rattle.std.specs.Prelude.{◌≡◌, ℕ, ◌≤◌, false, List, [], Option, None, Some, IfSome, Result, Ok, Err, option_map}
use Rattle.pm_exit.specs.declared.child.Kind.{Kind}
use Rattle.pm_exit.specs.declared.child.Kind.TheVariants as kinds
use Rattle.pm_child_life.specs.{declared.life.GateNo.GateNo, Life.{Child, Told, Checkpoint, attempt}, Attention.was_given}
use Rattle.pm_query.specs.{declared.{book.BookEntry.BookEntry, store.StoreNo.TheVariants.NoMemory}, Calls.User}
use Rattle.pm_aux.specs.{declared.{aux_done.AuxDone.AuxDone, cause.AuxiliaryEnd.{AuxiliaryEnd, TheVariants.{Refused, TurnedAway, ToldToTerminate}}}, Ends.{done_by, attached_behind}, Signals.{IsToldTo, EndsAtOnce, HeedsTold}, Work.NotesInside}

-- who runs: a child's pid, and the generation that its store is in, where no other hand can bring it into the next
pub record Runner : Type 0 where
  pub pid : ℕ
  pub stamp : Option ℕ

abbrev pub runner : Option ℕ → Child → Runner
runner stamp child = record { pid = child.pid; stamp = stamp }

-- it in the generation that it was let into
abbrev pub user_in : Runner → ℕ → User
user_in who generation = record { pid = who.pid; generation = generation; stamp = who.stamp }

-- how it ended, what it was told by then, and where it is attached then, if it is
pub record End : Type 0 where
  pub done : AuxDone
  pub told : Option Told
  pub attached : Option ℕ

abbrev pub at_end : AuxDone → Option Told → Child → End
at_end done told child = record { done = done; told = told; attached = child.attached }

-- who ends outside: a startup child by a Terminate, any child by a Quit or a Kill
abbrev pub EndsOutside : Kind → AuxiliaryEnd → Type 0
EndsOutside kinds.Startup ToldToTerminate = Unit {0}
EndsOutside kind cause = EndsAtOnce cause

-- what it noted that met this at the gate, if it was there, and ended by this cause
abbrev pub NotesBehind : Kind → Runner → Option (Result ℕ GateNo) → AuxiliaryEnd → List BookEntry → Type 0
NotesBehind kind who None cause noted = EndsOutside kind cause × (noted ≡ [])
NotesBehind kind who (Some (Err refusal)) cause noted = (cause ≡ TurnedAway refusal) × (noted ≡ [])
NotesBehind kind who (Some (Ok generation)) cause noted = NotesInside kind (user_in who generation) cause noted

-- want of memory ends a startup child, never a writer, and a checkpointer only in the last checkpoint
abbrev pub MayBeShort : Kind → Option Told → Type 0
MayBeShort kinds.Startup told = Unit {0}
MayBeShort kinds.Checkpointer told = was_given Checkpoint told
MayBeShort _ told = ⊥

-- A run by its cause: what it was told to, that it heeded all that it was told, what it met at the gate, where it is after its
-- end, and what it noted.
pub record IsRunOf (kind : Kind) (who : Runner) (end : End) (noted : List BookEntry) : Type 0 where
  pub cause : AuxiliaryEnd
  pub gate : Option (Result ℕ GateNo)
  pub done : end.done ≡ done_by cause
  pub told_to : IsToldTo cause end.told
  pub heeds : IfSome end.told (HeedsTold kind cause)
  pub short : cause ≡ Refused NoMemory → MayBeShort kind end.told
  pub asked : IfSome end.told (λ told. 1 ≤ told.asked)
  pub met : IfSome end.told (λ told. told.met ≡ option_map (attempt false) gate)
  pub attached : end.attached ≡ attached_behind cause gate
  pub notes : NotesBehind kind who gate cause noted
