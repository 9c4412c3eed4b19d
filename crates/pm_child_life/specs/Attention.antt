-- What a child was told, and what of it still stands to be heeded.
use Rattle.std.specs.{Prelude.{◌≡◌, ◌≢◌, ◌⊎◌, ◌↔◌, ℕ, ◌+◌, ◌-◌, ◌^◌, ◌≤◌, ◌||◌, min, false, Option, None, Some, IfSome, IsTrue}, Option.option_or, List.Contains}
use Rattle.pm_supervisor.specs.declared.Reason.{Reason}
use Rattle.pm_child_life.specs.{declared.{life.Signals.Signals, standing.Standing.Standing}, Life.{Child, Told, Signal, Kill, Quit, Terminate, Cancel, Checkpoint, next_ask, was_told}}

-- ---- what stands

abbrev pub nothing_stands : Standing
nothing_stands = record { kill = false; quit = None; terminate = false; cancel = false; checkpoint = false }

-- with what one answer gave
abbrev pub with_signals : Signals → Standing → Standing
with_signals signals standing = record {
  kill = standing.kill || signals.kill;
  quit = option_or signals.quit standing.quit;
  terminate = standing.terminate || signals.terminate;
  cancel = standing.cancel || signals.cancel;
  checkpoint = standing.checkpoint || signals.checkpoint;
}

-- ---- what was told

-- A child at one moment: what it was told, where it is attached, and the signals that it has taken and not heeded yet.
pub record Attention : Type 0 where
  pub told : Option Told
  pub child : Child
  pub standing : Standing

abbrev pub attention : Option Told → Child → Standing → Attention
attention told child standing = record { told = told; child = child; standing = standing }

abbrev pub was_given : Signal → Option Told → Type 0
was_given signal told = IfSome told (was_told signal)

-- this ask was made by then, as far as asks are numbered
abbrev pub IsBy : (ask asked : ℕ) → Type 0
IsBy ask asked = min ask (2 ^ 64 - 1) ≤ asked

-- What stands was told, and of what was told all stands but a cancel, which may have been heeded or dropped. Each signal was
-- given at an ask that was made by then.
pub record Stands (standing : Standing) (told : Told) : Type 0 where
  pub kill : IsTrue standing.kill ↔ was_told Kill told
  pub quit : (reason : Reason) → standing.quit ≡ Some reason → was_told (Quit reason) told
  pub quits : (reason : Reason) → was_told (Quit reason) told → standing.quit ≢ None
  pub terminate : IsTrue standing.terminate ↔ was_told Terminate told
  pub cancel : IsTrue standing.cancel → was_told Cancel told
  pub checkpoint : IsTrue standing.checkpoint ↔ was_told Checkpoint told
  pub asked : (ask : ℕ) (signal : Signal) → Contains told.given (ask, signal) → IsBy ask told.asked

abbrev pub IsAttentive : Attention → Type 0
IsAttentive at = IfSome at.told (Stands at.standing)

-- it has asked so often at least, up to the last number, and was at the gate no more
abbrev pub HasAsked : ℕ → (before now : Option Told) → Type 0
HasAsked times None now = now ≡ None
HasAsked times (Some before) None = ⊥
HasAsked times (Some before) (Some now) = IsBy (before.asked + times) now.asked × (now.met ≡ before.met)

-- it asked for no cancel more
abbrev pub KeepsCancels : (before now : Option Told) → Type 0
KeepsCancels None now = now ≡ None
KeepsCancels (Some before) None = ⊥
KeepsCancels (Some before) (Some now) = now.cancels ≡ before.cancels

-- an ask between the two moments
abbrev pub IsAskSince : (before now : Told) → ℕ → Type 0
IsAskSince before now ask = (next_ask before.asked ≤ ask) × IsBy ask now.asked

-- Between two moments the child kept all that it was given, and what it was given besides came at the asks between them.
pub record Gains (before now : Told) : Type 0 where
  pub kept : (ask : ℕ) (signal : Signal) → Contains before.given (ask, signal) → Contains now.given (ask, signal)
  pub fresh : (ask : ℕ) (signal : Signal) → Contains now.given (ask, signal) → Contains before.given (ask, signal) ⊎ IsAskSince before now ask

abbrev pub HasGained : (before now : Option Told) → Type 0
HasGained None now = Unit {0}
HasGained (Some before) None = ⊥
HasGained (Some before) (Some now) = Gains before now

-- this signal was given between the two moments
abbrev pub GivenSince : Signal → (before now : Option Told) → Type 0
GivenSince signal None now = Unit {0}
GivenSince signal (Some before) None = ⊥
GivenSince signal (Some before) (Some now) = (ask : ℕ) × Contains now.given (ask, signal) × IsAskSince before now ask

-- it was given no more, as far as asks are numbered
abbrev pub GivenNoMore : Signal → (before now : Option Told) → Type 0
GivenNoMore signal None now = Unit {0}
GivenNoMore signal (Some before) None = ⊥
GivenNoMore signal (Some before) (Some now) = (ask : ℕ) → Contains now.given (ask, signal) → Contains before.given (ask, signal)

-- a cancel that was given between the two moments stands
abbrev pub CancelStands : (before now : Attention) → Type 0
CancelStands before now = now.standing.cancel ≡ false → GivenNoMore Cancel before.told now.told

-- Between two moments the child has asked for its signals so often at least, and kept all that it was given. A Kill that
-- stands goes on standing, and a cancel that stands stood before or was given since.
pub record Hears (times : ℕ) (before now : Attention) : Type 0 where
  pub asked : HasAsked times before.told now.told
  pub child : now.child ≡ before.child
  pub gained : HasGained before.told now.told
  pub cancels : KeepsCancels before.told now.told
  pub given : (signal : Signal) → was_given signal before.told → was_given signal now.told
  pub stands : IsAttentive before → IsAttentive now
  pub kill : IsTrue before.standing.kill → IsTrue now.standing.kill
  pub cancel : IsTrue now.standing.cancel → IsTrue before.standing.cancel ⊎ GivenSince Cancel before.told now.told
