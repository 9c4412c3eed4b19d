-- How a session comes to its end: what is said last, and as what the child exits.
use Rattle.std.proofs.Common.{◌≡◌, ◌≢◌, ◌⊎◌, inl, inr, ℕ, Bool, false, IsTrue, List, [], Option, None, Some, IfSome, Result, Ok, Err, MatchResult, refl, ap}
use Rattle.pm_outside.specs.Traffic.{Traffic}
use Rattle.pm_session_exchange.{specs.{declared.ending.Cause.{Cause, TheVariants.{Terminated, Cancelling, LinkEnded, LinkFailed, TimedOut, PacketRefused, MessageRefused, DecisionRefused, GateRefused, ShortOfMemory, Panicked, ToldToTerminate, ToldToQuit, Killed, Overtaken}}, Exchange.{LinkView, HasFailed, CutsOff, Holds, IsSound, IsLeftFor, IsSentAll, Sends}, Moments.{IsBreak, ShowsCause, outside}, Last.SaysLast}, proofs.LinkLaws.passes_none}
use Rattle.pm_child_life.{specs.Attention.{Attention, Hears}, proofs.AttentionLaws.{hears_none, hears_both, hears_fewer}}

-- ---- a sound link

left_off : (cause : Cause) (traffic : Option Traffic) → IsLeftFor cause traffic → IfSome traffic (λ t. t.went_on ≡ false)
left_off cause None left = tt
left_off cause (Some t) left = left.0

sound_off : (ended : Bool) (traffic : Option Traffic) → IsSound ended traffic → IfSome traffic (λ t. t.went_on ≡ false)
sound_off ended None sound = tt
sound_off ended (Some t) sound = sound.1

sent_off : (result : Result (Unit {0}) Cause) (ended : Bool) (link_before link_now : LinkView) → Holds ended result link_before link_now → IsSound ended link_before.traffic → IfSome link_now.traffic (λ t. t.went_on ≡ false)
sent_off (Ok done) ended link_before link_now holds sound = sound_off ended link_now.traffic (holds sound)
sent_off (Err cause) ended link_before link_now holds sound = left_off cause link_now.traffic (holds sound)

-- ---- what is said

pub says_none : (words : List ℕ) (link : LinkView) (at : Attention) → (words ≡ []) ⊎ IsTrue at.standing.kill → SaysLast words (outside link [] at) (outside link [] at)
says_none words link at why = record {
  went = [];
  missing = words;
  whole = refl;
  cut = elim why [ inl e ↦ inl e | inr k ↦ inr (inl k) ];
  passes = passes_none link;
  hears = hears_none at;
  silent = λ e. refl;
  sound = λ ended sound. sound_off ended link.traffic sound;
}

cut_of : (cause : Cause) (kill : Bool) (link_before link_now : LinkView) (at : Attention) → CutsOff cause → IsBreak cause × ShowsCause cause link_before link_now at → (cause ≡ Killed → IsTrue kill) → IsTrue kill ⊎ HasFailed link_before link_now
cut_of LinkFailed kill link_before link_now at cuts shows killed = inr shows.1
cut_of Killed kill link_before link_now at cuts shows killed = inl (killed refl)
cut_of Overtaken kill link_before link_now at cuts shows killed = absurd shows.0
cut_of Terminated kill link_before link_now at cuts shows killed = absurd cuts
cut_of Cancelling kill link_before link_now at cuts shows killed = absurd cuts
cut_of LinkEnded kill link_before link_now at cuts shows killed = absurd cuts
cut_of TimedOut kill link_before link_now at cuts shows killed = absurd cuts
cut_of (PacketRefused fault) kill link_before link_now at cuts shows killed = absurd cuts
cut_of (MessageRefused fault) kill link_before link_now at cuts shows killed = absurd cuts
cut_of DecisionRefused kill link_before link_now at cuts shows killed = absurd cuts
cut_of (GateRefused refusal) kill link_before link_now at cuts shows killed = absurd cuts
cut_of ShortOfMemory kill link_before link_now at cuts shows killed = absurd cuts
cut_of Panicked kill link_before link_now at cuts shows killed = absurd cuts
cut_of ToldToTerminate kill link_before link_now at cuts shows killed = absurd cuts
cut_of (ToldToQuit reason) kill link_before link_now at cuts shows killed = absurd cuts

sent_cut : (result : Result (Unit {0}) Cause) (missing : List ℕ) (kill : Bool) (link_before link_now : LinkView) (at : Attention) → IsSentAll result missing
    → MatchResult result (λ _. Unit {0}) (λ cause. IsBreak cause × ShowsCause cause link_before link_now at) → (result ≡ Err Killed → IsTrue kill) → (missing ≡ []) ⊎ (IsTrue kill ⊎ HasFailed link_before link_now)
sent_cut (Ok done) missing kill link_before link_now at all shows killed = inl all
sent_cut (Err cause) missing kill link_before link_now at all shows killed = inr (cut_of cause kill link_before link_now at all shows (λ e. killed (ap (λ (c : Cause). Err c) e)))

pub said : (result : Result (Unit {0}) Cause) (words : List ℕ) (link_before link_now : LinkView) (before between now : Attention) → words ≢ [] → Sends result words link_before link_now
    → MatchResult result (λ _. Unit {0}) (λ cause. IsBreak cause × ShowsCause cause link_before link_now between) → (result ≡ Err Killed → IsTrue between.standing.kill) → Hears 0 before between → Hears 1 between now → ((ended : Bool) → Holds ended result link_before link_now)
    → SaysLast words (outside link_before [] before) (outside link_now [] now)
said result words link_before link_now before between now some sends shows killed sending listened holds = record {
  went = sends.went;
  missing = sends.missing;
  whole = sends.whole;
  cut = sent_cut result sends.missing now.standing.kill link_before link_now between sends.all shows (λ e. listened.kill (killed e));
  passes = sends.passes;
  hears = hears_fewer 0 1 before now (hears_both 0 1 before between now sending listened);
  silent = λ e. absurd (some e);
  sound = λ ended sound. sent_off result ended link_before link_now (holds ended) sound;
}
