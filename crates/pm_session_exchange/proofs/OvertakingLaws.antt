-- What a session has met that ends as overtaken, by what the store's calls met.
use Rattle.std.proofs.Common.{◌≢◌, ◌<◌, ℕ, Err, subst, arith}
use Rattle.pm_query.specs.{declared.store.StoreNo.StoreNo, Calls.MetLater}
use Rattle.pm_query.specs.declared.store.StoreNo.TheVariants as nos
use Rattle.pm_session_exchange.specs.{declared.ending.Cause.Cause, Answers.{IsOvertakenBy, OvertakesBy, refusal_of, no_release}, Moments.{IsBreak, IsSignal, IsWaitEnd}}

-- ---- a refused call

later : (met generation : ℕ) → generation < met → generation ≢ met
later met generation past = λ same. omega arith

pub run_overtaken : (T : Type 0) (met generation : ℕ) (refusal : StoreNo) → MetLater {T = T} met generation (Err refusal) → OvertakesBy met generation (refusal_of refusal)
run_overtaken T met generation (nos.Stale mine found) stale = λ e. later met generation stale.2
run_overtaken T met generation nos.Disk stale = λ e. absurd cc
run_overtaken T met generation (nos.Broken since) stale = λ e. absurd cc
run_overtaken T met generation (nos.Full need room) stale = tt
run_overtaken T met generation (nos.Redo fault) stale = λ e. absurd cc
run_overtaken T met generation nos.NoMemory stale = tt

pub wait_overtaken : (T : Type 0) (met generation : ℕ) (refusal : StoreNo) → MetLater {T = T} met generation (Err refusal) → OvertakesBy met generation (no_release refusal)
wait_overtaken T met generation (nos.Stale mine found) stale = λ e. later met generation stale.2
wait_overtaken T met generation nos.Disk stale = λ e. absurd cc
wait_overtaken T met generation (nos.Broken since) stale = λ e. absurd cc
wait_overtaken T met generation (nos.Full need room) stale = λ e. absurd cc
wait_overtaken T met generation (nos.Redo fault) stale = λ e. absurd cc
wait_overtaken T met generation nos.NoMemory stale = tt

-- ---- other ends

pub overtaken_not_told : (met generation : ℕ) (cause : Cause) → IsSignal cause → IsOvertakenBy met generation cause
overtaken_not_told met generation cause signal = λ e. absurd (subst (λ (c : Cause). IsSignal c) e signal)

pub overtaken_not_waiting : (met generation : ℕ) (cause : Cause) → IsWaitEnd cause → IsOvertakenBy met generation cause
overtaken_not_waiting met generation cause stops = λ e. absurd (subst (λ (c : Cause). IsWaitEnd c) e stops)

pub overtaken_not_broken_off : (met generation : ℕ) (cause : Cause) → IsBreak cause → IsOvertakenBy met generation cause
overtaken_not_broken_off met generation cause breaks = λ e. absurd (subst (λ (c : Cause). IsBreak c) e breaks)
