-- What holds at every moment of a run, beside what is shared: when redo ends, and what waits for it.
use Rattle.std.{proofs.Common.{◌≡◌, ℕ, nat_eq, cond, Bool, true, false, not, ◌&&◌, ◌||◌, List, [], ◌∷◌, ◌++◌, refl, arith}, specs.{Prelude.{◌==◌, is_some}, List.AllByRecursion}}
use Rattle.pm_exit.specs.declared.child.Kind.{Kind}
use Rattle.pm_modes.specs.declared.Mode.TheVariants as mode
use Rattle.pm_modes.specs.Strength.{is_immediate}
use Rattle.pm_supervisor.{specs.{declared.{Limits.Limits, Ending.Ending}, Children.{Child, is_session, is_startup_child, child_of, without, count_of}, Phase.Phase, Supervisor.Shared, Steps.{SupervisorEvent, Accept, Start, Attach, Touch, Detach, Exit, Notice, Ask, Checkpointed, RedoEnded, Reset, End, Move, Trace, MayHappen, IsRun, happened, all_happened, empty_trace, crashed_phase, is_crash, is_given_up, is_running, is_ended, redo_has_ended}, Shared.MayAttach, Invariant.{IsWell, ServesWell, AdmitsNone, awaits_redo, is_before_redo, is_opening, is_reset, is_checkpointed, is_clearing}}, proofs.{RunLaws.count-marked, Lists.some_map, Soundness.{sound-happened, sound-empty_trace}, Serving.{step-serves, admission-running}}}
use Rattle.pm_supervisor.specs.declared.Reason.TheVariants as reason
use Rattle.pm_supervisor.specs.declared.Ending.TheVariants as ending
use Rattle.pm_supervisor.specs.Phase as phase

-- counts

none-without : (test : Kind → Bool) (pid : ℕ) (cs : List Child) → count_of test cs ≡ 0 → count_of test (without pid cs) ≡ 0
none-without test pid [] h = refl
none-without test pid (c ∷ cs) h =
    elim (nat_eq c.pid pid) as (λ v. count_of test (cond v cs (c ∷ without pid cs)) ≡ 0) [
      | true ↦ omega (arith, h)
      | false ↦ omega (arith, h, none-without test pid cs (omega (arith, h)))
    ]

-- the phase after the end of a child
exit-before_redo : (before : Phase) (crashed given_up startup : Bool)
    → is_before_redo (cond crashed (crashed_phase startup before) (cond given_up phase.Stopping before)) ≡ true
    → is_before_redo before ≡ true
exit-before_redo before crashed given_up startup is = grind arith

exit-running : (before : Phase) (crashed given_up startup : Bool)
    → is_running (cond crashed (crashed_phase startup before) (cond given_up phase.Stopping before)) ≡ true
    → is_running before ≡ true
exit-running before crashed given_up startup is = grind arith

implies : (a b : Bool) → (a ≡ true → b ≡ true) → not a || b ≡ true
implies true b f = f refl
implies false b f = refl

by-implied : (a b : Bool) → not a || b ≡ true → a ≡ true → b ≡ true
by-implied true b f a = f
by-implied false b f a = absurd cc

-- redo ends once in a generation

before_redo-step : (limits : Limits) (h : Trace) (e : SupervisorEvent) → MayHappen limits h e
    → not (is_before_redo h.now.phase) || not (redo_has_ended h.past) ≡ true
    → not (is_before_redo (happened h e).now.phase) || not (redo_has_ended (happened h e).past) ≡ true
before_redo-step limits h (Accept pid decision) may well = well
before_redo-step limits h (Start pid k) may well = well
before_redo-step limits h (Attach pid reserve) may well = well
before_redo-step limits h (Touch pid) may well = well
before_redo-step limits h (Detach pid) may well = well
before_redo-step limits h (Exit pid k status was_active) may well =
    implies (is_before_redo (happened h (Exit pid k status was_active)).now.phase) (not (redo_has_ended h.past))
    (λ is. by-implied (is_before_redo h.now.phase) (not (redo_has_ended h.past)) well
    (exit-before_redo h.now.phase (is_crash h.now k status was_active) (is_given_up h.now k status) (is_startup_child k) is))
before_redo-step limits h (Notice why) may well = well
before_redo-step limits h (Ask mode) may well = grind (arith, well)
before_redo-step limits h Checkpointed may well = refl
before_redo-step limits h (RedoEnded opens) may well = grind arith
before_redo-step limits h Reset may well = refl
before_redo-step limits h (End how) may well = refl
before_redo-step limits h (Move to) may well = grind (arith, well)

startup_child-step : (limits : Limits) (h : Trace) (e : SupervisorEvent) → MayHappen limits h e
    → not (is_before_redo h.now.phase) || not (redo_has_ended h.past) ≡ true
    → (count_of is_startup_child h.now.shared.children == 0) || not (redo_has_ended h.past) ≡ true
    → (count_of is_startup_child (happened h e).now.shared.children == 0) || not (redo_has_ended (happened h e).past) ≡ true
startup_child-step limits h (Accept pid decision) may before well = grind (arith, well)
startup_child-step limits h (Start pid k) may before well = grind (arith, well, before)
startup_child-step limits h (Attach pid reserve) may before well = rw (count-marked is_startup_child pid true h.now.shared.children) well
startup_child-step limits h (Touch pid) may before well = well
startup_child-step limits h (Detach pid) may before well = rw (count-marked is_startup_child pid false h.now.shared.children) well
startup_child-step limits h (Exit pid k status was_active) may before well =
    grind (arith, well, none-without is_startup_child pid h.now.shared.children)
startup_child-step limits h (Notice why) may before well = well
startup_child-step limits h (Ask mode) may before well = well
startup_child-step limits h Checkpointed may before well = well
startup_child-step limits h (RedoEnded opens) may before well = grind (arith, may)
startup_child-step limits h Reset may before well = grind arith
startup_child-step limits h (End how) may before well = well
startup_child-step limits h (Move to) may before well = well

-- what waits for redo

not_running-step : (limits : Limits) (h : Trace) (e : SupervisorEvent) → MayHappen limits h e → (h.now.phase ≡ phase.Running → ServesWell h.now)
    → not (awaits_redo h.past) || not (is_running h.now.phase) ≡ true
    → not (awaits_redo (happened h e).past) || not (is_running (happened h e).now.phase) ≡ true
not_running-step limits h (Accept pid decision) may serves well = well
not_running-step limits h (Start pid k) may serves well = well
not_running-step limits h (Attach pid reserve) may serves well = well
not_running-step limits h (Touch pid) may serves well = well
not_running-step limits h (Detach pid) may serves well = well
not_running-step limits h (Exit pid k status was_active) may serves well =
    implies (awaits_redo h.past) (not (is_running (happened h (Exit pid k status was_active)).now.phase))
    (λ awaits. grind (arith, well, awaits, exit-running h.now.phase (is_crash h.now k status was_active) (is_given_up h.now k status) (is_startup_child k)))
not_running-step limits h (Notice why) may serves well = grind (arith, serves, well)
not_running-step limits h (Ask mode) may serves well = grind (arith, well)
not_running-step limits h Checkpointed may serves well = grind arith
not_running-step limits h (RedoEnded opens) may serves well = grind arith
not_running-step limits h Reset may serves well = grind arith
not_running-step limits h (End how) may serves well = grind arith
not_running-step limits h (Move to) may serves well = grind (arith, well)

closed-step : (limits : Limits) (h : Trace) (e : SupervisorEvent) → MayHappen limits h e
    → not (awaits_redo h.past) || (is_some h.now.shared.noticed || not h.now.shared.is_open) ≡ true
    → not (awaits_redo (happened h e).past) || (is_some (happened h e).now.shared.noticed || not (happened h e).now.shared.is_open) ≡ true
closed-step limits h (Accept pid decision) may well = well
closed-step limits h (Start pid k) may well = well
closed-step limits h (Attach pid reserve) may well = well
closed-step limits h (Touch pid) may well = well
closed-step limits h (Detach pid) may well = well
closed-step limits h (Exit pid k status was_active) may well = well
closed-step limits h (Notice why) may well = grind arith
closed-step limits h (Ask mode) may well = well
closed-step limits h Checkpointed may well = well
closed-step limits h (RedoEnded true) may well = refl
closed-step limits h (RedoEnded false) may well = well
closed-step limits h Reset may well = grind arith
closed-step limits h (End how) may well = well
closed-step limits h (Move to) may well = well

-- the last checkpoint

exit-clearing : (before : Phase) (crashed given_up startup : Bool)
    → is_clearing (cond crashed (crashed_phase startup before) (cond given_up phase.Stopping before)) ≡ true
    → is_clearing before ≡ true
exit-clearing before crashed given_up startup is = grind arith

more-crash : (a b c : Bool) → a || c ≡ true → (a || b) || c ≡ true
more-crash true b c h = refl
more-crash false true c h = refl
more-crash false false c h = h

checkpointed-step : (limits : Limits) (h : Trace) (e : SupervisorEvent) → MayHappen limits h e
    → not (is_clearing h.now.phase) || (h.now.crash || (is_immediate h.now.request || is_checkpointed h.past)) ≡ true
    → not (is_clearing (happened h e).now.phase)
    || ((happened h e).now.crash || (is_immediate (happened h e).now.request || is_checkpointed (happened h e).past)) ≡ true
checkpointed-step limits h (Accept pid decision) may well = well
checkpointed-step limits h (Start pid k) may well = well
checkpointed-step limits h (Attach pid reserve) may well = well
checkpointed-step limits h (Touch pid) may well = well
checkpointed-step limits h (Detach pid) may well = well
checkpointed-step limits h (Exit pid k status was_active) may well =
    let rest : Bool = is_immediate h.now.request || is_checkpointed h.past in
    implies (is_clearing (happened h (Exit pid k status was_active)).now.phase) ((happened h (Exit pid k status was_active)).now.crash || rest)
    (λ is. more-crash h.now.crash (is_crash h.now k status was_active && not (is_immediate h.now.request)) rest
    (by-implied (is_clearing h.now.phase) (h.now.crash || rest) well
    (exit-clearing h.now.phase (is_crash h.now k status was_active) (is_given_up h.now k status) (is_startup_child k) is)))
checkpointed-step limits h (Notice why) may well = well
checkpointed-step limits h (Ask mode.Smart) may well = grind (arith, well, may.rest)
checkpointed-step limits h (Ask mode.Fast) may well = grind (arith, well, may.rest)
checkpointed-step limits h (Ask mode.Immediate) may well = refl
checkpointed-step limits h Checkpointed may well = grind arith
checkpointed-step limits h (RedoEnded true) may well = refl
checkpointed-step limits h (RedoEnded false) may well = refl
checkpointed-step limits h Reset may well = refl
checkpointed-step limits h (End how) may well = refl
checkpointed-step limits h (Move to) may well = grind (arith, well)

-- a clean end after a smart or fast request has had its checkpoint
pub clean-end : (limits : Limits) (h : Trace) → IsWell limits h → MayHappen limits h (End ending.Clean) → is_immediate h.now.request ≡ false
    → is_checkpointed h.past ≡ true
clean-end limits h well may other =
    let no_crash : h.now.crash ≡ false = may.rest.2 in
    let clear : is_clearing h.now.phase ≡ true = rw may.rest.0 refl in
    grind (arith, well.checkpointed, no_crash, clear, other)

pub well-step : (limits : Limits) (h : Trace) (e : SupervisorEvent) → MayHappen limits h e → IsWell limits h → IsWell limits (happened h e)
well-step limits h e may well =
    record {
      sound = sound-happened limits h e may well.sound;
      serves = step-serves limits h.now e may.rest well.serves;
      before_redo = before_redo-step limits h e may well.before_redo;
      startup_child = startup_child-step limits h e may well.before_redo well.startup_child;
      not_running = not_running-step limits h e may well.serves well.not_running;
      closed = closed-step limits h e may well.closed;
      checkpointed = checkpointed-step limits h e may well.checkpointed;
    }

pub well-run : (limits : Limits) (h : Trace) (events : List SupervisorEvent) → IsRun limits h events → IsWell limits h → IsWell limits (all_happened h events)
well-run limits h [] run well = well
well-run limits h (e ∷ events) run well = well-run limits (happened h e) events run.1 (well-step limits h e run.0 well)

pub well-empty_trace : (limits : Limits) → IsWell limits empty_trace
well-empty_trace limits =
    record {
      sound = sound-empty_trace limits.max_connections;
      serves = λ running. absurd cc;
      before_redo = refl;
      startup_child = refl;
      not_running = refl;
      closed = refl;
      checkpointed = refl;
    }

-- no session is admitted while the data have to be brought up to date after a crash

no-session : (s : Shared) (c : Child) (limits : Limits) (reserve : ℕ) → is_some s.noticed || not s.is_open ≡ true → MayAttach limits.max_connections reserve s c → is_session c.kind ≡ false
no-session s c limits reserve closed may = grind (arith, may)

pub admits-none : (limits : Limits) (h : Trace) (e : SupervisorEvent) → IsWell limits h → awaits_redo h.past ≡ true → MayHappen limits h e → AdmitsNone h.now.shared e
admits-none limits h (Accept pid decision) well awaits may =
    λ ok.
    let running : h.now.phase ≡ phase.Running = admission-running limits h.now (grind (arith, may.rest, ok)) in
    absurd (grind (arith, running, awaits, well.not_running))
admits-none limits h (Attach pid reserve) well awaits may =
    some_map (MayAttach limits.max_connections reserve h.now.shared) (λ c. is_session c.kind ≡ false)
    (λ c fits. no-session h.now.shared c limits reserve (by-implied (awaits_redo h.past) (is_some h.now.shared.noticed || not h.now.shared.is_open) well.closed awaits) fits)
    (child_of pid h.now.shared.children) may.shared.of_shared
admits-none limits h (Start pid k) well awaits may = tt
admits-none limits h (Touch pid) well awaits may = tt
admits-none limits h (Detach pid) well awaits may = tt
admits-none limits h (Exit pid k status was_active) well awaits may = tt
admits-none limits h (Notice why) well awaits may = tt
admits-none limits h (Ask mode) well awaits may = tt
admits-none limits h Checkpointed well awaits may = tt
admits-none limits h (RedoEnded opens) well awaits may = tt
admits-none limits h Reset well awaits may = tt
admits-none limits h (End how) well awaits may = tt
admits-none limits h (Move to) well awaits may = tt

-- it waits as long as redo hasn't ended

awaits-step : (h : Trace) (e : SupervisorEvent) → is_opening e ≡ false → awaits_redo h.past ≡ true → awaits_redo (happened h e).past ≡ true
awaits-step h e other awaits = grind arith

redone-step : (h : Trace) (e : SupervisorEvent) → is_reset e ≡ false → redo_has_ended h.past ≡ true → redo_has_ended (happened h e).past ≡ true
redone-step h e other redone = grind arith

awaits-between : (h : Trace) (events : List SupervisorEvent) → AllByRecursion (λ e. is_opening e ≡ false) events → awaits_redo h.past ≡ true
    → awaits_redo (all_happened h events).past ≡ true
awaits-between h [] none awaits = awaits
awaits-between h (e ∷ events) none awaits = awaits-between (happened h e) events none.1 (awaits-step h e none.0 awaits)

redone-between : (h : Trace) (events : List SupervisorEvent) → AllByRecursion (λ e. is_reset e ≡ false) events → redo_has_ended h.past ≡ true
    → redo_has_ended (all_happened h events).past ≡ true
redone-between h [] none redone = redone
redone-between h (e ∷ events) none redone = redone-between (happened h e) events none.1 (redone-step h e none.0 redone)

pub IsRun-split : (limits : Limits) (h : Trace) (xs ys : List SupervisorEvent) → IsRun limits h (xs ++ ys)
    → IsRun limits h xs × IsRun limits (all_happened h xs) ys
IsRun-split limits h [] ys run = (tt, run)
IsRun-split limits h (x ∷ xs) ys run =
    let rest : IsRun limits (happened h x) xs × IsRun limits (all_happened (happened h x) xs) ys = IsRun-split limits (happened h x) xs ys run.1 in
    ((run.0, rest.0), rest.1)

pub none-until_redo : (limits : Limits) (before between : List SupervisorEvent) (e : SupervisorEvent)
    → IsRun limits empty_trace (before ++ (Notice reason.Crash ∷ (between ++ e ∷ []))) → AllByRecursion (λ d. is_opening d ≡ false) between
    → AdmitsNone (all_happened (happened (all_happened empty_trace before) (Notice reason.Crash)) between).now.shared e
none-until_redo limits before between e run none =
    let g : Trace = all_happened empty_trace before in
    let first : IsRun limits empty_trace before × IsRun limits g (Notice reason.Crash ∷ (between ++ e ∷ [])) =
    IsRun-split limits empty_trace before (Notice reason.Crash ∷ (between ++ e ∷ [])) run in
    let noticed : Trace = happened g (Notice reason.Crash) in
    let rest : IsRun limits noticed between × IsRun limits (all_happened noticed between) (e ∷ []) =
    IsRun-split limits noticed between (e ∷ []) first.1.1 in
    let well : IsWell limits g = well-run limits empty_trace before first.0 (well-empty_trace limits) in
    let later : IsWell limits (all_happened noticed between) =
    well-run limits noticed between rest.0 (well-step limits g (Notice reason.Crash) first.1.0 well) in
    admits-none limits (all_happened noticed between) e later (awaits-between noticed between none refl) rest.1.0

pub once-in_generation : (limits : Limits) (before between : List SupervisorEvent) (a b : Bool)
    → IsRun limits empty_trace (before ++ (RedoEnded a ∷ (between ++ RedoEnded b ∷ []))) → AllByRecursion (λ d. is_reset d ≡ false) between → ⊥
once-in_generation limits before between a b run none =
    let g : Trace = all_happened empty_trace before in
    let first : IsRun limits empty_trace before × IsRun limits g (RedoEnded a ∷ (between ++ RedoEnded b ∷ [])) =
    IsRun-split limits empty_trace before (RedoEnded a ∷ (between ++ RedoEnded b ∷ [])) run in
    let redone : Trace = happened g (RedoEnded a) in
    let rest : IsRun limits redone between × IsRun limits (all_happened redone between) (RedoEnded b ∷ []) =
    IsRun-split limits redone between (RedoEnded b ∷ []) first.1.1 in
    let still : redo_has_ended (all_happened redone between).past ≡ true = redone-between redone between none refl in
    let not_yet : redo_has_ended (all_happened redone between).past ≡ false = rest.1.0.shared.of_past.1 in
    absurd (cc)

pub last-end : (limits : Limits) (h : Trace) (before rest : List SupervisorEvent) (how : Ending) → IsRun limits h (before ++ (End how ∷ rest)) → rest ≡ []
last-end limits h before [] how run = refl
last-end limits h before (e ∷ rest) how run =
    let split : IsRun limits h before × IsRun limits (all_happened h before) (End how ∷ e ∷ rest) = IsRun-split limits h before (End how ∷ e ∷ rest) run in
    absurd (let on : true ≡ false = split.1.1.0.goes_on in cc)

pub ended-none : (limits : Limits) (h : Trace) (e : SupervisorEvent) → is_ended h.now.phase ≡ true → MayHappen limits h e → ⊥
ended-none limits h e ended may = absurd (let on : is_ended h.now.phase ≡ false = may.goes_on in cc)
