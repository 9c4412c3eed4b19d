-- What passed on a link, from one moment to the next.
use Rattle.std.proofs.{Common.{◌≡◌, ℕ, Bool, false, List, [], ◌++◌, Option, None, Some, Result, Ok, Err, refl, sym, ◌∙◌, ap, subst}, lemmas.List.append-nil}
use Rattle.pm_session_exchange.{specs.{declared.ending.Cause.Cause, pm_outside.Traffic.{Traffic, IsFresh}, Exchange.{LinkView, Passes, Holds, HoldsLooking, IsSound, Sends}}, proofs.LinkLaws.{passes_both, sound_left}}

-- ---- one write

-- no more passed
pub passes_no_more : (came went : List ℕ) (a b c : LinkView) → Passes came went a b → Passes [] [] b c → Passes came went a c
passes_no_more came went a b c one two =
    subst (λ (w : List ℕ). Passes came w a c) (append-nil went) (subst (λ (i : List ℕ). Passes i (went ++ []) a c) (append-nil came) (passes_both came went [] [] a b c one two))

-- ---- one read

-- all was sent
pub sent_all : (done : Unit {0}) (bytes : List ℕ) (before now : LinkView) → Sends (Ok done) bytes before now → Passes [] bytes before now
sent_all done bytes before now sends =
    let whole : sends.went ≡ bytes = sym (append-nil sends.went) ∙ ap (λ (l : List ℕ). sends.went ++ l) (sym sends.all) ∙ sym sends.whole in
    subst (λ (w : List ℕ). Passes [] w before now) whole sends.passes

-- ---- sound links

pub fresh_sound : (traffic : Option Traffic) → IsFresh traffic → IsSound false traffic
fresh_sound None fresh = tt
fresh_sound (Some t) fresh = rw fresh (refl, refl, refl)

pub holds_then : (ended : Bool) (result : Result (Unit {0}) Cause) (a b c : LinkView) → (IsSound ended a.traffic → IsSound ended b.traffic) → Holds ended result b c → Holds ended result a c
holds_then ended (Ok done) a b c one two = λ sound. two (one sound)
holds_then ended (Err cause) a b c one two = λ sound. two (one sound)

-- it goes on so up to a startup packet, or nothing follows
pub holds_up_to : (result : Result Bool Cause) (before now : LinkView) → (IsSound false before.traffic → IsSound false now.traffic) → HoldsLooking result before now
holds_up_to (Ok word) before now sound_on = sound_on
holds_up_to (Err cause) before now sound_on = λ sound. sound_left false cause now.traffic (sound_on sound)
