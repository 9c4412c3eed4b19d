-- While connections are served, nothing stands against a session.
use Rattle.std.proofs.Common.{◌≡◌, Bool, false, List, [], ◌∷◌, refl, arith, cond}
use Rattle.pm_admit.specs.declared.Cac.TheVariants as cac
use Rattle.pm_supervisor.specs.{declared.Limits.Limits, Children.is_startup_child, Phase.Phase, Supervisor.Supervisor, Steps.{SupervisorEvent, Accept, Start, Attach, Touch, Detach, Exit, Notice, Ask, Checkpointed, RedoEnded, Reset, End, Move, Trace, RestAllows, IsRun, happened, all_happened, after, admission, crashed_phase, is_crash, is_given_up}, Invariant.ServesWell}
use Rattle.pm_supervisor.specs.Phase as phase

-- it still serves after the end of a child only where that was no crash
exit-running : (before : Phase) (crashed given_up startup : Bool)
    → cond crashed (crashed_phase startup before) (cond given_up phase.Stopping before) ≡ phase.Running
    → (before ≡ phase.Running) × (crashed ≡ false)
exit-running before crashed given_up startup running = grind arith

pub step-serves : (limits : Limits) (s : Supervisor) (e : SupervisorEvent) → RestAllows limits s e → (s.phase ≡ phase.Running → ServesWell s)
    → (after s e).phase ≡ phase.Running → ServesWell (after s e)
step-serves limits s (Accept pid decision) may well running = grind (arith, well)
step-serves limits s (Start pid k) may well running = grind (arith, well)
step-serves limits s (Attach pid reserve) may well running = grind (arith, well)
step-serves limits s (Touch pid) may well running = grind (arith, well)
step-serves limits s (Detach pid) may well running = grind (arith, well)
step-serves limits s (Exit pid k status was_active) may well running =
    let calm : (s.phase ≡ phase.Running) × (is_crash s k status was_active ≡ false) =
    exit-running s.phase (is_crash s k status was_active) (is_given_up s k status) (is_startup_child k) running in
    let serves : ServesWell s = well calm.0 in
    record {
      no_crash = rw (calm.1, serves.no_crash) refl;
      no_request = serves.no_request;
      none_told = serves.none_told;
      is_open = serves.is_open;
    }
step-serves limits s (Notice why) may well running = grind (arith, well)
step-serves limits s (Ask mode) may well running = grind (arith, well)
step-serves limits s Checkpointed may well running = grind (arith, well)
step-serves limits s (RedoEnded opens) may well running = grind (arith, well)
step-serves limits s Reset may well running = grind (arith, well)
step-serves limits s (End how) may well running = grind (arith, well)
step-serves limits s (Move to) may well running = grind (arith, well)

pub run-serves : (limits : Limits) (h : Trace) (events : List SupervisorEvent) → IsRun limits h events → (h.now.phase ≡ phase.Running → ServesWell h.now)
    → (all_happened h events).now.phase ≡ phase.Running → ServesWell (all_happened h events).now
run-serves limits h [] run well = well
run-serves limits h (e ∷ events) run well =
    run-serves limits (happened h e) events run.1 (step-serves limits h.now e run.0.rest well)

pub admission-running : (limits : Limits) (s : Supervisor) → admission limits s ≡ cac.Ok → s.phase ≡ phase.Running
admission-running limits s ok = grind arith
