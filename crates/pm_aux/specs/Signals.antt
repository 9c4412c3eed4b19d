-- What signals end a child that serves no connection.
use Rattle.std.specs.Prelude.{◌≡◌, ℕ, Bool, true, false, Option, None, Some, IsTrue}
use Rattle.pm_supervisor.specs.{declared.Reason.Reason, pm_exit.declared.child.Kind.Kind}
use Rattle.pm_supervisor.specs.pm_exit.declared.child.Kind.TheVariants as kinds
use Rattle.pm_child_life.specs.{declared.standing.Standing.Standing, Life.{Told, Kill, Quit, Terminate, Checkpoint, was_told}, Attention.{Attention, HasAsked, IsAttentive, was_given}}
use Rattle.pm_query.specs.declared.store.StoreNo.TheVariants.{NoMemory}
use Rattle.pm_aux.specs.declared.cause.AuxiliaryEnd.{AuxiliaryEnd, TheVariants.{Redone, Flushed, Closed, LeftOut, Refused, TurnedAway, ToldToTerminate, ToldToQuit, Killed}}

-- by what it has to end at once: by a Kill before a Quit
abbrev pub ends_by : (kill : Bool) → Option Reason → Option AuxiliaryEnd
ends_by true quit = Some Killed
ends_by false (Some reason) = Some (ToldToQuit reason)
ends_by false None = None

abbrev pub ends_of : Standing → Option AuxiliaryEnd
ends_of standing = ends_by standing.kill standing.quit

-- what it was told that ends by this cause
abbrev pub IsToldTo : AuxiliaryEnd → Option Told → Type 0
IsToldTo Flushed told = was_given Terminate told
IsToldTo Closed told = was_given Checkpoint told
IsToldTo LeftOut told = was_given Checkpoint told
IsToldTo ToldToTerminate told = was_given Terminate told
IsToldTo (ToldToQuit reason) told = was_given (Quit reason) told
IsToldTo Killed told = was_given Kill told
IsToldTo _ told = Unit {0}

-- it ends at once
abbrev pub EndsAtOnce : AuxiliaryEnd → Type 0
EndsAtOnce (ToldToQuit reason) = Unit {0}
EndsAtOnce Killed = Unit {0}
EndsAtOnce _ = ⊥

-- a startup child that is told to terminate doesn't begin
abbrev pub HeedsTerminate : Kind → AuxiliaryEnd → Type 0
HeedsTerminate kinds.Startup ToldToTerminate = Unit {0}
HeedsTerminate kinds.Startup cause = EndsAtOnce cause
HeedsTerminate _ cause = Unit {0}

-- What it was told it has heeded: a Kill before all else, and then a Quit.
pub record HeedsTold (kind : Kind) (cause : AuxiliaryEnd) (told : Told) : Type 0 where
  pub kill : was_told Kill told → cause ≡ Killed
  pub quit : (reason : Reason) → was_told (Quit reason) told → EndsAtOnce cause
  pub terminate : was_told Terminate told → HeedsTerminate kind cause

-- ---- between two moments

-- The child has asked for its signals so often at least, is where it was, and of what it was told all stands.
pub record Listens (times : ℕ) (before now : Attention) : Type 0 where
  pub asked : HasAsked times before.told now.told
  pub child : now.child ≡ before.child
  pub attentive : IsAttentive now

-- ---- inside

-- want of memory ends a checkpointer in the last checkpoint, and no writer
abbrev pub IsHurried : Kind → Standing → Type 0
IsHurried kinds.Checkpointer standing = IsTrue standing.checkpoint
IsHurried _ standing = ⊥

-- what stands where it ends by this cause
abbrev pub StandsAt : AuxiliaryEnd → Standing → Type 0
StandsAt (Redone kept) standing = ends_of standing ≡ None
StandsAt Flushed standing = IsTrue standing.terminate × (ends_of standing ≡ None)
StandsAt Closed standing = IsTrue standing.checkpoint × (ends_of standing ≡ None)
StandsAt LeftOut standing = IsTrue standing.checkpoint × (ends_of standing ≡ None)
StandsAt (Refused refusal) standing = ends_of standing ≡ None
StandsAt (TurnedAway refusal) standing = ends_of standing ≡ None
StandsAt ToldToTerminate standing = IsTrue standing.terminate × (ends_of standing ≡ None)
StandsAt (ToldToQuit reason) standing = ends_of standing ≡ Some (ToldToQuit reason)
StandsAt Killed standing = ends_of standing ≡ Some Killed

pub record EndsInside (kind : Kind) (cause : AuxiliaryEnd) (standing : Standing) : Type 0 where
  pub stands : StandsAt cause standing
  pub short : cause ≡ Refused NoMemory → IsHurried kind standing

-- it ends by the last checkpoint
abbrev pub IsLast : AuxiliaryEnd → Type 0
IsLast Closed = Unit {0}
IsLast LeftOut = Unit {0}
IsLast (Refused refusal) = Unit {0}
IsLast _ = ⊥
