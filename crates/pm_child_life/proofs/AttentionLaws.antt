-- Laws of what a child was told and hears, from one moment to the next, and of what stands.
use Rattle.std.{proofs.Common.{◌≡◌, inl, inr, ℕ, ◌+◌, Option, None, Some, refl, sym, ◌∙◌, subst, arith}, specs.Option.option_map}
use Rattle.pm_child_life.specs.{declared.{standing.Standing.Standing, life.Attempt.Attempt}, Life.{Child, Told, Signal, Cancel, IsUntouched, met_at_gate, was_told}, Attention.{Attention, attention, was_given, Stands, IsAttentive, IsBy, HasAsked, KeepsCancels, Gains, HasGained, GivenSince, GivenNoMore, Hears}}

-- ---- what was told, from one moment to the next

pub asked_none : (told : Option Told) → HasAsked 0 told told
asked_none None = refl
asked_none (Some told) = (omega arith, refl)

pub asked_then : (m n : ℕ) (a b c : Option Told) → HasAsked m a b → HasAsked n b c → HasAsked (m + n) a c
asked_then m n None b c one two = let e : b ≡ None = one in subst (λ (o : Option Told). HasAsked n o c) e two
asked_then m n (Some a) None c one two = absurd one
asked_then m n (Some a) (Some b) None one two = absurd two
asked_then m n (Some a) (Some b) (Some c) one two = (omega (arith, one.0, two.0), two.1 ∙ one.1)

pub asked_fewer : (m n : ℕ) (a b : Option Told) → HasAsked (m + n) a b → HasAsked m a b
asked_fewer m n None b has = has
asked_fewer m n (Some a) None has = absurd has
asked_fewer m n (Some a) (Some b) has = (omega (arith, has.0), has.1)

pub gained_none : (told : Option Told) → HasGained told told
gained_none None = tt
gained_none (Some told) = record { kept = λ ask signal has. has; fresh = λ ask signal has. inl has }

gains_both : (m n : ℕ) (a b c : Told) → IsBy (a.asked + m) b.asked → IsBy (b.asked + n) c.asked → Gains a b → Gains b c → Gains a c
gains_both m n a b c first second one two = record {
  kept = λ ask signal has. two.kept ask signal (one.kept ask signal has);
  fresh = λ ask signal has. elim (two.fresh ask signal has) [
    | inr since ↦ inr (omega (arith, first, since.0), since.1)
    | inl h ↦ elim (one.fresh ask signal h) [ inl old ↦ inl old | inr since ↦ inr (since.0, omega (arith, since.1, second)) ]
  ];
}

pub gained_then : (m n : ℕ) (a b c : Option Told) → HasAsked m a b → HasAsked n b c → HasGained a b → HasGained b c → HasGained a c
gained_then m n None b c first second one two = tt
gained_then m n (Some a) None c first second one two = absurd first
gained_then m n (Some a) (Some b) None first second one two = absurd second
gained_then m n (Some a) (Some b) (Some c) first second one two = gains_both m n a b c first.0 second.0 one two

pub cancels_none : (told : Option Told) → KeepsCancels told told
cancels_none None = refl
cancels_none (Some told) = refl

pub cancels_then : (a b c : Option Told) → KeepsCancels a b → KeepsCancels b c → KeepsCancels a c
cancels_then None b c one two = let e : b ≡ None = one in subst (λ (o : Option Told). KeepsCancels o c) e two
cancels_then (Some a) None c one two = absurd one
cancels_then (Some a) (Some b) None one two = absurd two
cancels_then (Some a) (Some b) (Some c) one two = two ∙ one

-- a signal that was given between two moments, from an earlier one and up to a later one
pub since_earlier : (m : ℕ) (signal : Signal) (a b c : Option Told) → HasAsked m a b → GivenSince signal b c → GivenSince signal a c
since_earlier m signal None b c asked since = tt
since_earlier m signal (Some a) None c asked since = absurd asked
since_earlier m signal (Some a) (Some b) None asked since = absurd since
since_earlier m signal (Some a) (Some b) (Some c) asked since = (since.0, since.1, (omega (arith, asked.0, since.2.0), since.2.1))

pub since_later : (n : ℕ) (signal : Signal) (a b c : Option Told) → GivenSince signal a b → HasAsked n b c → HasGained b c → GivenSince signal a c
since_later n signal None b c since asked gained = tt
since_later n signal (Some a) None c since asked gained = absurd since
since_later n signal (Some a) (Some b) None since asked gained = absurd asked
since_later n signal (Some a) (Some b) (Some c) since asked gained = (since.0, gained.kept since.0 signal since.1, (since.2.0, omega (arith, since.2.1, asked.0)))

-- a signal that was given no more
pub no_more_none : (signal : Signal) (told : Option Told) → GivenNoMore signal told told
no_more_none signal None = tt
no_more_none signal (Some told) = λ ask has. has

pub no_more_then : (signal : Signal) (a b c : Option Told) → GivenNoMore signal a b → GivenNoMore signal b c → GivenNoMore signal a c
no_more_then signal None b c one two = tt
no_more_then signal (Some a) None c one two = absurd one
no_more_then signal (Some a) (Some b) None one two = absurd two
no_more_then signal (Some a) (Some b) (Some c) one two = λ ask has. one ask (two ask has)

pub hears_none : (at : Attention) → Hears 0 at at
hears_none at = record {
  asked = asked_none at.told;
  child = refl;
  gained = gained_none at.told;
  cancels = cancels_none at.told;
  given = λ signal given. given;
  stands = λ stands. stands;
  kill = λ is. is;
  cancel = λ is. inl is;
}

pub hears_both : (m n : ℕ) (a b c : Attention) → Hears m a b → Hears n b c → Hears (m + n) a c
hears_both m n a b c one two = record {
  asked = asked_then m n a.told b.told c.told one.asked two.asked;
  child = two.child ∙ one.child;
  gained = gained_then m n a.told b.told c.told one.asked two.asked one.gained two.gained;
  cancels = cancels_then a.told b.told c.told one.cancels two.cancels;
  given = λ signal given. two.given signal (one.given signal given);
  stands = λ stands. two.stands (one.stands stands);
  kill = λ is. two.kill (one.kill is);
  cancel = λ is. elim (two.cancel is) [
    | inr since ↦ inr (since_earlier m Cancel a.told b.told c.told one.asked since)
    | inl stood ↦ elim (one.cancel stood) [ inl old ↦ inl old | inr since ↦ inr (since_later n Cancel a.told b.told c.told since two.asked two.gained) ]
  ];
}

pub hears_fewer : (m n : ℕ) (a b : Attention) → Hears (m + n) a b → Hears m a b
hears_fewer m n a b has = record {
  asked = asked_fewer m n a.told b.told has.asked;
  child = has.child;
  gained = has.gained;
  cancels = has.cancels;
  given = has.given;
  stands = has.stands;
  kill = has.kill;
  cancel = has.cancel;
}

-- ---- what stands

given_if : (told : Option Told) (child : Child) (standing : Standing) (signal : Signal) → ((t : Told) → Stands standing t → was_told signal t) → IsAttentive (attention told child standing) → was_given signal told
given_if None child standing signal gives attentive = tt
given_if (Some told) child standing signal gives attentive = gives told attentive

pub given_of : (at : Attention) (signal : Signal) → ((t : Told) → Stands at.standing t → was_told signal t) → IsAttentive at → was_given signal at.told
given_of at signal gives attentive = given_if at.told at.child at.standing signal gives attentive

-- what the gate answers changes nothing of what stands
pub attentive_at_gate : (attempt : Attempt) (before now : Option Told) (child_before child : Child) (standing : Standing) → now ≡ option_map (met_at_gate attempt) before → IsAttentive (attention before child_before standing)
    → IsAttentive (attention now child standing)
attentive_at_gate attempt None now child_before child standing e stands = rw e tt
attentive_at_gate attempt (Some told) now child_before child standing e stands = rw e (record {
  kill = stands.kill;
  quit = stands.quit;
  quits = stands.quits;
  terminate = stands.terminate;
  cancel = stands.cancel;
  checkpoint = stands.checkpoint;
  asked = stands.asked;
})

-- ---- a child whose life no call has touched

pub untouched_on : (child_before child_between child_now : Child) (told_before told_between told_now : Option Told) → IsUntouched child_before child_between told_before told_between
    → IsUntouched child_between child_now told_between told_now → IsUntouched child_before child_now told_before told_now
untouched_on child_before child_between child_now told_before told_between told_now one two = record { child_is = two.child_is ∙ one.child_is; told_is = two.told_is ∙ one.told_is }

pub attention_still : (child_before child_now : Child) (told_before told_now : Option Told) (standing : Standing) → IsUntouched child_before child_now told_before told_now
    → attention told_now child_now standing ≡ attention told_before child_before standing
attention_still child_before child_now told_before told_now standing same = rw (same.child_is, same.told_is) refl

-- what stood before it stands after it
pub attentive_still : (child_before child_now : Child) (told_before told_now : Option Told) (standing : Standing) → IsUntouched child_before child_now told_before told_now
    → IsAttentive (attention told_before child_before standing) → IsAttentive (attention told_now child_now standing)
attentive_still child_before child_now told_before told_now standing same attentive =
    subst (λ (at : Attention). IsAttentive at) (sym (attention_still child_before child_now told_before told_now standing same)) attentive
