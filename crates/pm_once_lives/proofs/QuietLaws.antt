-- Laws of the lives of children that are alone.
use Rattle.std.{proofs.Common.{◌≡◌, ℕ, [], Option, None, Some, Result, Ok, Err, ap, arith, length}, specs.Prelude.{Bool, option_map}}
use Rattle.pm_child_life.specs.{declared.life.{Attempt.Attempt, GateNo.GateNo}, Life.{Told, Signal, attempt, was_told}}

-- what it can have met at the gate
abbrev pub its_gate : ℕ → Option Bool → Option Attempt
its_gate home came_as_ordinary = option_map (λ is_ordinary. attempt is_ordinary (Ok home)) came_as_ordinary

-- what the gate answered, if it was there
abbrev pub its_answer : ℕ → Option Bool → Option (Result ℕ GateNo)
its_answer home came_as_ordinary = option_map (λ (it : Attempt). it.answer) (its_gate home came_as_ordinary)

pub answers_so : (home : ℕ) (came_as_ordinary : Option Bool) (met : Attempt) → its_gate home came_as_ordinary ≡ Some met → its_answer home came_as_ordinary ≡ Some met.answer
answers_so home came_as_ordinary met is = ap (option_map (λ (it : Attempt). it.answer)) is

pub same_gate : (home : ℕ) (came_as_ordinary : Option Bool) (generation : ℕ) → its_answer home came_as_ordinary ≡ Some (Ok generation) → generation ≡ home
same_gate home None generation is = cc
same_gate home (Some is_ordinary) generation is = cc

pub never_refused : (home : ℕ) (came_as_ordinary : Option Bool) (refusal : GateNo) → its_answer home came_as_ordinary ≡ Some (Err refusal) → ⊥
never_refused home None refusal is = cc
never_refused home (Some is_ordinary) refusal is = cc

-- no signal is among none
pub never_told : (signal : Signal) (told : Told) → told.given ≡ [] → was_told signal told → ⊥
never_told signal told none has = omega (arith, ap length none, has.1.1)
