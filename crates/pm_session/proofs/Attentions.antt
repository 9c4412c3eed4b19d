-- Signals that a child took and was given, from one moment to the next.
use Rattle.std.{proofs.Common.{◌≡◌, ℕ, Bool, List, Option, None, Some, IfSome, Result, refl, sym, ◌∙◌, ap, subst, arith}, specs.Option.option_map}
use Rattle.pm_child_life.specs.{declared.life.{Attempt.Attempt, GateNo.GateNo}, Life.{Told, Signal, nothing_told, attempt, met_at_gate, IsUntried, HasNoCancel}, Attention.{was_given, HasAsked, KeepsCancels, GivenSince}}
use Rattle.pm_session.specs.Entry.{HasComeAs}

pub since_given : (m : ℕ) (signal : Signal) (a b : Option Told) → HasAsked m a b → GivenSince signal a b → was_given signal b
since_given m signal None b asked since = let e : b ≡ None = asked in rw e tt
since_given m signal (Some a) None asked since = absurd asked
since_given m signal (Some a) (Some b) asked since = (since.0, since.1)

-- a child that has just started was never at the gate, and asked for no cancel
pub new_untried : (told : Option Told) → IfSome told (λ t. t ≡ nothing_told) → IsUntried told
new_untried None is = tt
new_untried (Some told) is = ap (λ (t : Told). t.met) is

pub new_no_cancel : (told : Option Told) → IfSome told (λ t. t ≡ nothing_told) → HasNoCancel told
new_no_cancel None is = tt
new_no_cancel (Some told) is = ap (λ (t : Told). t.cancels) is

abbrev pub HasCancels : List (ℕ × ℕ) → Option Told → Type 0
HasCancels cancels told = IfSome told (λ t. t.cancels ≡ cancels)

pub cancels_still : (m : ℕ) (cancels : List (ℕ × ℕ)) (before now : Option Told) → HasAsked m before now → KeepsCancels before now → HasCancels cancels before → HasCancels cancels now
cancels_still m cancels None now asked keeps is = let e : now ≡ None = asked in rw e tt
cancels_still m cancels (Some before) None asked keeps is = absurd asked
cancels_still m cancels (Some before) (Some now) asked keeps is = keeps ∙ is

-- where it tells, the child hasn't been at the gate still
pub untried_still : (m : ℕ) (before now : Option Told) → HasAsked m before now → IsUntried before → IsUntried now
untried_still m None now asked untried = let e : now ≡ None = asked in rw e tt
untried_still m (Some before) None asked untried = absurd asked
untried_still m (Some before) (Some now) asked untried = asked.1 ∙ untried

-- what the gate answers changes nothing of which cancels were asked for
pub cancels_at_gate : (tried : Attempt) (before now : Option Told) → now ≡ option_map (met_at_gate tried) before → KeepsCancels before now
cancels_at_gate tried None now e = e
cancels_at_gate tried (Some told) now e = rw e refl

-- ---- at the gate

-- over two spans it was there no more
pub asked_on : (m n : ℕ) (a b c : Option Told) → HasAsked m a b → HasAsked n b c → HasAsked 0 a c
asked_on m n None b c one two = subst (λ (o : Option Told). HasAsked n o c) one two
asked_on m n (Some a) None c one two = absurd one
asked_on m n (Some a) (Some b) None one two = absurd two
asked_on m n (Some a) (Some b) (Some c) one two = (omega (arith, one.0, two.0), two.1 ∙ one.1)

-- as whom it came there
pub come_now : (is_ordinary : Bool) (answer : Result ℕ GateNo) (before now : Option Told) → now ≡ option_map (met_at_gate (attempt is_ordinary answer)) before → HasComeAs is_ordinary now
come_now is_ordinary answer None now e = rw e tt
come_now is_ordinary answer (Some before) now e = rw e refl

pub come_still : (m : ℕ) (is_ordinary : Bool) (before now : Option Told) → HasAsked m before now → HasComeAs is_ordinary before → HasComeAs is_ordinary now
come_still m is_ordinary None now asked come = let e : now ≡ None = asked in rw e tt
come_still m is_ordinary (Some before) None asked come = absurd asked
come_still m is_ordinary (Some before) (Some now) asked come = subst (λ (met : Option Attempt). IfSome met (λ tried. tried.is_ordinary ≡ is_ordinary)) (sym asked.1) come

pub come_untried : (is_ordinary : Bool) (told : Option Told) → IsUntried told → HasComeAs is_ordinary told
come_untried is_ordinary None untried = tt
come_untried is_ordinary (Some told) untried = subst (λ (met : Option Attempt). IfSome met (λ tried. tried.is_ordinary ≡ is_ordinary)) (sym untried) tt
