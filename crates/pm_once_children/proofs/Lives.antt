-- The life of a checkpointer that is alone: what it was told.
use Rattle.std.{proofs.Common.{◌≡◌, ℕ, ◌<◌, List, [], ◌∷◌, length, zero, suc, sym, ap, arith}, specs.Prelude.{Bool, true, false, cond, slice_index_or}}
use Rattle.pm_server.specs.pm_supervisor.declared.Reason.{Reason}
use Rattle.pm_once_lives.specs.pm_child_life.Life.{Told, Signal, Kill, Quit, Terminate, Checkpoint, was_told}

-- all that it can have been given
abbrev pub asked_given : Bool → List (ℕ × Signal)
asked_given is_told = cond is_told ((1, Checkpoint) ∷ []) []

one_given : (is_told : Bool) (ask k : ℕ) (signal : Signal) → k < length (asked_given is_told) → slice_index_or (asked_given is_told) k (ask, signal) ≡ (ask, signal) → signal ≡ Checkpoint
one_given true ask zero signal below same = let one : (ℕ × Signal) = (1, Checkpoint) in let is : one ≡ (ask, signal) = same in sym (ap (λ (p : ℕ × Signal). p.1) is)
one_given true ask (suc k) signal below same = absurd (omega (arith, below))
one_given false ask k signal below same = absurd (omega (arith, below))

-- one that is asked for the last checkpoint was told nothing else
pub only_asked : (is_told : Bool) (told : Told) (signal : Signal) → told.given ≡ asked_given is_told → was_told signal told → signal ≡ Checkpoint
only_asked is_told told signal given has =
    one_given is_told has.0 has.1.0 signal (rw (sym given) has.1.1) (rw (sym given) has.1.2)

pub never_quit : (reason : Reason) → Quit reason ≡ Checkpoint → ⊥
never_quit reason is = cc

pub never_killed : Kill ≡ Checkpoint → ⊥
never_killed is = cc

pub never_terminated : Terminate ≡ Checkpoint → ⊥
never_terminated is = cc
