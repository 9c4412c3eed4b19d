-- Signals that end a session or cancel a query.
use Rattle.std.proofs.{Common.{◌≡◌, ◌∙◌, ℕ, inl, inr, Bool, true, false, Option, None, Some, Result, Ok, Err, sym, subst}, lemmas.Bool.true≢false}
use Rattle.pm_child_life.specs.{pm_supervisor.declared.Reason.Reason, Life.Cancel, Attention.{Attention, Hears, GivenSince, GivenNoMore, IsAttentive}}
use Rattle.pm_session_exchange.{specs.{declared.{ending.Cause.{Cause, TheVariants.{ToldToTerminate, ToldToQuit, Killed}}, release.Answer.Answer}, Attention.{ends_by, ends_of}, Moments.{IsSignal, IsHeeded, IsWaitEnd}, Answers.AnswerUncancelled}, proofs.MomentLaws.told_cause}

ended_by : (kill : Bool) (quit : Option Reason) (terminate : Bool) (cause : Cause) → ends_by kill quit terminate ≡ Some cause → IsSignal cause
ended_by true quit terminate cause is = let same : Killed ≡ cause = cc in subst IsSignal same tt
ended_by false (Some reason) terminate cause is = let same : ToldToQuit reason ≡ cause = cc in subst IsSignal same tt
ended_by false None true cause is = let same : ToldToTerminate ≡ cause = cc in subst IsSignal same tt
ended_by false None false cause is = absurd cc

-- the signal that stands was given
pub signal_told : (at : Attention) (cause : Cause) → IsAttentive at → ends_of at.standing ≡ Some cause → IsSignal cause × IsHeeded cause at
signal_told at cause attentive is = (ended_by at.standing.kill at.standing.quit at.standing.terminate cause is, λ before now. (told_cause at cause before now attentive is).1)

-- ---- a wait that a Terminate doesn't end

still_ends : (kill : Bool) (quit : Option Reason) (terminate : Bool) (cause : Cause) → ends_by kill quit false ≡ Some cause → ends_by kill quit terminate ≡ Some cause
still_ends true quit terminate cause is = is
still_ends false (Some reason) terminate cause is = is
still_ends false None terminate cause is = absurd cc

wait_end : (kill : Bool) (quit : Option Reason) (cause : Cause) → ends_by kill quit false ≡ Some cause → IsWaitEnd cause
wait_end true quit cause is = let same : Killed ≡ cause = cc in subst IsWaitEnd same tt
wait_end false (Some reason) cause is = let same : ToldToQuit reason ≡ cause = cc in subst IsWaitEnd same tt
wait_end false None cause is = absurd cc

pub wait_told : (at : Attention) (cause : Cause) → IsAttentive at → ends_by at.standing.kill at.standing.quit false ≡ Some cause → IsWaitEnd cause × IsHeeded cause at
wait_told at cause attentive is = (
  wait_end at.standing.kill at.standing.quit cause is,
  λ before now. (told_cause at cause before now attentive (still_ends at.standing.kill at.standing.quit at.standing.terminate cause is)).1,
)

-- a cancel that stands, where none stood, was given since
pub cancel_since : (before now : Attention) (k : ℕ) → before.standing.cancel ≡ false → Hears k before now → now.standing.cancel ≡ true → GivenSince Cancel before.told now.told
cancel_since before now k idle hears is = elim (hears.cancel is) [ inl stood ↦ absurd (true≢false (sym stood ∙ idle)) | inr since ↦ since ]

-- and up to the end of a sleep none was given
pub slept_uncancelled : (result : Result Answer Cause) (before woken now : Attention) → Hears 1 before woken → GivenNoMore Cancel before.told woken.told → Hears 0 woken now → AnswerUncancelled result before.told now.told
slept_uncancelled (Ok answer) before woken now heard none later = λ whole. record { woken = woken.told; asked = heard.asked; uncancelled = none; later = later.asked; gained = later.gained }
slept_uncancelled (Err cause) before woken now heard none later = tt
