-- Each step keeps the invariant, and so does every run.
use Rattle.std.proofs.Common.{◌≡◌, ℕ, true, false, List, [], ◌∷◌, Option, Some, None, refl, inl, inr}
use Rattle.pm_supervisor.{specs.{declared.Limits.Limits, Supervisor.{Shared, Supervisor}, Steps.{SupervisorEvent, Accept, Start, Attach, Touch, Detach, Exit, Notice, Ask, Checkpointed, RedoEnded, Reset, End, Move, PastEvent, Trace, MayHappen, IsRun, happened, all_happened, empty_trace, after, shared_after, with_event, shared_of, SharedAllows}, Shared.{SharedEvent, AllowsAny, IsKept, after_any}, Invariant.{HasRecovered, IsSound}}, proofs.Keeping.{keeps, kept-first}}

pub keeps-any : (limit : ℕ) (s : Shared) (o : Option SharedEvent) → AllowsAny limit s o → IsKept limit s → IsKept limit (after_any s o)
keeps-any limit s None may kept = kept
keeps-any limit s (Some e) may kept = keeps limit s e may kept

-- an open generation has recovered
opened-later :
    (past : List PastEvent) (s : Shared) (e : SupervisorEvent) → (s.is_open ≡ true → HasRecovered s.generation past)
    → (shared_after s e).is_open ≡ true → HasRecovered (shared_after s e).generation (with_event past s e)
opened-later past s (Accept pid decision) before is = inr (before is)
opened-later past s (Start pid kind) before is = inr (before is)
opened-later past s (Attach pid reserve) before is = inr (before is)
opened-later past s (Touch pid) before is = inr (before is)
opened-later past s (Detach pid) before is = inr (before is)
opened-later past s (Exit pid kind status was_active) before is = inr (before is)
opened-later past s (Notice why) before is = inr (before is)
opened-later past s (Ask mode) before is = inr (before is)
opened-later past s Checkpointed before is = inr (before is)
opened-later past s (RedoEnded true) before is = inl (refl, refl)
opened-later past s (RedoEnded false) before is = inr (before is)
opened-later past s Reset before is = absurd cc
opened-later past s (End how) before is = inr (before is)
opened-later past s (Move to) before is = inr (before is)

-- each event that may happen leaves what is sound
pub sound-step :
    (limits : Limits) (past : List PastEvent) (s : Shared) (e : SupervisorEvent) → SharedAllows limits past s e
    → IsSound limits.max_connections past s → IsSound limits.max_connections (with_event past s e) (shared_after s e)
sound-step limits past s e may sound =
    record {
      kept = keeps-any limits.max_connections s (shared_of e) may.of_shared sound.kept;
      open_after_redo = opened-later past s e sound.open_after_redo;
    }

-- what is shared after an event doesn't depend on the rest
pub shared-after : (s : Supervisor) (e : SupervisorEvent) → (after s e).shared ≡ shared_after s.shared e
shared-after s (Accept pid decision) = refl
shared-after s (Start pid kind) = refl
shared-after s (Attach pid reserve) = refl
shared-after s (Touch pid) = refl
shared-after s (Detach pid) = refl
shared-after s (Exit pid kind status was_active) = refl
shared-after s (Notice why) = refl
shared-after s (Ask mode) = refl
shared-after s Checkpointed = refl
shared-after s (RedoEnded true) = refl
shared-after s (RedoEnded false) = refl
shared-after s Reset = refl
shared-after s (End how) = refl
shared-after s (Move to) = refl

pub sound-happened :
    (limits : Limits) (h : Trace) (e : SupervisorEvent) → MayHappen limits h e → IsSound limits.max_connections h.past h.now.shared
    → IsSound limits.max_connections (happened h e).past (happened h e).now.shared
sound-happened limits h e may sound =
    rw (shared-after h.now e) (sound-step limits h.past h.now.shared e may.shared sound)

-- and so does every run
pub sound-all_happened :
    (limits : Limits) (h : Trace) (events : List SupervisorEvent) → IsRun limits h events → IsSound limits.max_connections h.past h.now.shared
    → IsSound limits.max_connections (all_happened h events).past (all_happened h events).now.shared
sound-all_happened limits h [] run sound = sound
sound-all_happened limits h (e ∷ events) run sound =
    sound-all_happened limits (happened h e) events run.1 (sound-happened limits h e run.0 sound)

pub sound-empty_trace : (limit : ℕ) → IsSound limit empty_trace.past empty_trace.now.shared
sound-empty_trace limit = record { kept = kept-first limit; open_after_redo = λ opened. absurd cc }
