-- What a session has met that ends as overtaken: it keeps so up to its child's exit.
use Rattle.std.proofs.Common.{◌≡◌, ◌⊎◌, inl, inr, ℕ, List, Result, Ok, Err, sym, ◌∙◌, subst}
use Rattle.pm_admit.specs.declared.Cac.{Cac}
use Rattle.pm_startup.specs.declared.phase.Phase.{Phase}
use Rattle.pm_session_exchange.{specs.{pm_query.{declared.store.StoreNo.StoreNo, Calls.MetAnother}, pm_child_life.Attention.Attention, declared.ending.{Cause.{Cause, TheVariants.{Killed, Overtaken}}, Stage.Stage}, Exchange.LinkView, Moments.{Moment, Comes}, Answers.{IsOvertakenBy, OvertakesBy}}, proofs.OvertakingLaws.overtaken_not_broken_off}
use Rattle.pm_session_exchange.specs.pm_query.declared.store.StoreNo.TheVariants as nos
use Rattle.pm_session.specs.{Session.{Ending, StopsAt}, Entry.{ClosesBy, EndsBy, IsTold, refusal_cause}, Turns.IsLeft}

-- ---- the queries

-- sending was broken off
pub overtaken_not_sending : (met generation : ℕ) (result : Result (Unit {0}) Cause) (missing stands : List ℕ) → IsLeft result missing stands → OvertakesBy met generation result
overtaken_not_sending met generation (Ok done) missing stands left = tt
overtaken_not_sending met generation (Err cause) missing stands left = overtaken_not_broken_off met generation cause left.1

-- or waiting for more of a message
pub overtaken_not_waited : (met generation wanted : ℕ) (result : Result (Unit {0}) Cause) (unread0 unread1 : List ℕ) (link0 link1 : LinkView) → Comes wanted result unread0 unread1 link0 link1 → OvertakesBy met generation result
overtaken_not_waited met generation wanted (Ok done) unread0 unread1 link0 link1 comes = tt
overtaken_not_waited met generation wanted (Err cause) unread0 unread1 link0 link1 comes = let unread = comes.unread in overtaken_not_broken_off met generation cause unread.2

-- ---- the start

-- a store that is in another generation lets nobody in
pub entry_overtaken : (P : Type 0) (met generation : ℕ) (refusal : StoreNo) → MetAnother {T = P} met generation (Err refusal) → IsOvertakenBy met generation (refusal_cause refusal)
entry_overtaken P met generation (nos.Stale mine found) stale = λ e. stale.2
entry_overtaken P met generation nos.Disk stale = λ e. absurd cc
entry_overtaken P met generation (nos.Broken since) stale = λ e. absurd cc
entry_overtaken P met generation (nos.Full need room) stale = λ e. absurd cc
entry_overtaken P met generation (nos.Redo fault) stale = λ e. absurd cc
entry_overtaken P met generation nos.NoMemory stale = λ e. absurd cc

-- before the gate nobody is overtaken
pub overtaken_not_outside : (met generation : ℕ) (phase : Phase) (cause : Cause) (last : List ℕ) → StopsAt phase cause last → IsOvertakenBy met generation cause
overtaken_not_outside met generation phase cause last stops = λ e. absurd (subst (λ (c : Cause). StopsAt phase c last) e stops)

-- ---- the end

exits_so : (cause exit : Cause) → (exit ≡ cause) ⊎ (exit ≡ Killed) → exit ≡ Overtaken → cause ≡ Overtaken
exits_so cause exit (inl same) e = sym same ∙ e
exits_so cause exit (inr killed) e = let other : Killed ≡ Overtaken = sym killed ∙ e in absurd cc

ends_so : (cause ends : Cause) (child : Attention) → EndsBy cause ends child → ends ≡ Overtaken → cause ≡ Overtaken
ends_so cause ends child (inl same) e = sym same ∙ e
ends_so cause ends child (inr told) e = absurd (subst (λ (c : Cause). IsTold c child) e told.1)

-- who exits as overtaken has ended so
pub ending_overtaken : (met generation : ℕ) (cause : Cause) (ending : Ending) (child : Attention) → EndsBy cause ending.cause child → IsOvertakenBy met generation cause → IsOvertakenBy met generation ending.exit
ending_overtaken met generation cause ending child ends over = λ e. over (ends_so cause ending.cause child ends (exits_so ending.cause ending.exit ending.exits e))

pub closed_overtaken : (met generation : ℕ) (decision : Cac) (stage : Stage) (cause exit : Cause) (before now : Moment (Unit {0})) → ClosesBy decision stage cause exit before now → IsOvertakenBy met generation cause → IsOvertakenBy met generation exit
closed_overtaken met generation decision stage cause exit before now (ending, at_stage, exits, closes) over =
    subst (λ (e : Cause). IsOvertakenBy met generation e) exits (ending_overtaken met generation cause ending now.child closes.ends over)
