-- Acts, one done after the other.
use Rattle.std.specs.Prelude.{Bool, true, false, List, [], ◌∷◌, Result, Ok, Err}
use Rattle.pm_server.specs.declared.end.ServerEnd.{ServerEnd}

-- what the last call answers: that no act was due, or how the server ended by it
abbrev pub last_answer : Result (Unit {0}) ServerEnd → Result Bool ServerEnd
last_answer (Ok done) = Ok false
last_answer (Err end) = Err end

-- what a call that did an act answers: that one was done, or how the server ended by it
abbrev pub answer_of : Result (Unit {0}) ServerEnd → Result Bool ServerEnd
answer_of (Ok done) = Ok true
answer_of (Err end) = Err end

-- through these moments, at each of which an act was due that was done
abbrev pub IsDoneThrough : {S : Type 0} → (does : Result Bool ServerEnd → S → S → Type 0) → List S → (last : Result Bool ServerEnd) → (before now : S) → Type 0
IsDoneThrough does [] last before now = does last before now
IsDoneThrough does (next ∷ passed) last before now = does (Ok true) before next × IsDoneThrough does passed last next now

-- All acts that were due were done, one after the other, or those up to one that ended the server.
pub record AreDone {S : Type 0} (does : Result Bool ServerEnd → S → S → Type 0) (result : Result (Unit {0}) ServerEnd) (before now : S) : Type 0 where
  pub passed : List S
  pub each : IsDoneThrough does passed (last_answer result) before now
