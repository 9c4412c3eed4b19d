-- Journal, machine and supervisor stay in step.
use Rattle.std.{proofs.Common.{◌≡◌, ℕ, ◌+◌, nat_eq, cond, Bool, true, false, ◌&&◌, List, [], ◌∷◌, ◌++◌, Option, Some, None, refl, arith, ap, sym, ◌∙◌, subst}, specs.Prelude.{IsSomeAnd, is_none}}
use Rattle.pm_supervisor.{specs.{pm_exit.{declared.child.{Status.Status, Kind.Kind}, Ends.{class_of, is_exit_0}}, pm_modes.{declared.Mode.Mode, Strength.strengthen_of}, pm_admit.Admission.decide_of, declared.Limits.Limits, Children.{is_startup_child, child_of}, Phase.Phase, Supervisor.Shared, Shared.{reopened, with_child}, Steps.{SupervisorEvent, Trace, MayHappen, happened, all_happened, empty_trace, shared_after, after, is_normal}, Between.{is_child_step, detached, IsAlike}, Laws.{StaysWell, KeepsWhatIsShared, TakesChildStepsBetween}}, proofs.RunLaws.all_happened-append}
use Rattle.pm_supervisor.specs.pm_exit.declared.child.Kind.TheVariants as kind
use Rattle.pm_supervisor.specs.Steps as supervisor
use Rattle.pm_state.{specs.{declared.{action.Action.Action, event.PmEvent.PmEvent, machine.{Machine.Machine, Exit.Exit}}, Exits.{is_shutdown, crash_rule, startup_exited}, Machine.{Accepted, Exited, Asked, Ticked, Turned, step, begun, view_of, started_as}, Starts.Owes, Transition.Transition, TurnRules.{start_recovery, restart_writer, end_smart, stop_backends, backends_gone, dead_ends_gone, children_gone, turned_of, and_then}, Shows.{Call, Accepts, Starts, Exits, Asks, Ticks, TakesTurn, Attaches, Touches, Detaches, events_of, events_of_exit, events_of_request, events_of_turn, move_of, order_of, phase_of, events_of_call, events_in, machine_after, machine_at_end, IsFit, AreFit}, Facts.Facts, Journal.{Do, EndRedo, Replay, Agrees, MayWrite, Writes, Follows, settled, dues, redo_dues, replayed, all_replayed, replay_begun, entry_of, entries_of, entries_of_call, acts_of_call, machine_with_reports}, InStep.{IsInStep, IsTimely, KeepsStep, reports_of, with_reports, server_state}}, proofs.{Acts.{are_calm, is_ordered, step-brief}, Calls.{calls-lead, counted, begun-facts, facts-alike, alike-detached}, Settling.{settled-settled, settled-shutdown, settled-ended}, Reports.{reports-fit, reported-all, reports-machine, step-owes}, ReplayLaws.reopens, TurnJournal.{call-writes, begun-agrees}, Turns.Leads}}
use Rattle.pm_state.specs.declared.action.Action.TheVariants as act
use Rattle.pm_state.specs.declared.event.PmEvent.TheVariants as entry

-- what the events leave of what is shared

abbrev shared_all : Shared → List SupervisorEvent → Shared
shared_all s [] = s
shared_all s (e ∷ es) = shared_all (shared_after s e) es

shared-all : KeepsWhatIsShared → (h : Trace) (es : List SupervisorEvent) → (all_happened h es).now.shared ≡ shared_all h.now.shared es
shared-all law h [] = refl
shared-all law h (e ∷ es) = shared-all law (happened h e) es ∙ ap (λ s. shared_all s es) (law.made_of h.now e)

shared-append : (s : Shared) (xs ys : List SupervisorEvent) → shared_all s (xs ++ ys) ≡ shared_all (shared_all s xs) ys
shared-append s [] ys = refl
shared-append s (x ∷ xs) ys = shared-append (shared_after s x) xs ys

shared-move : (s : Shared) (p q : Phase) → shared_all s (move_of p q) ≡ s
shared-move s p q =
    elim (nat_eq (order_of p) (order_of q)) as (λ v. shared_all s (cond v [] (supervisor.Move q ∷ [])) ≡ s) [
      | true ↦ refl
      | false ↦ refl
    ]

shared-moves : (s : Shared) (p q : Phase) (es : List SupervisorEvent) → shared_all s (move_of p q ++ es) ≡ shared_all s es
shared-moves s p q es = shared-append s (move_of p q) es ∙ ap (λ t. shared_all t es) (shared-move s p q)

-- what the acts leave of what the journal shows

abbrev show_act : Shared → Action → Shared
show_act s (act.Start k) = with_child (s.last_pid + 1) k s
show_act s (act.Quit why) = record s { noticed = Some why }
show_act s act.Reset = record s { generation = s.generation + 1; is_open = false; noticed = None }
show_act s _ = s

abbrev shown_by : Shared → List Action → Shared
shown_by s [] = s
shown_by s (a ∷ acts) = shown_by (show_act s a) acts

entry-shown : (kept now : ℕ) (r : Replay) (a : Action) → (replayed r (entry_of kept now r.shown (Do a))).shown ≡ show_act r.shown a
entry-shown kept now r (act.Start k) = refl
entry-shown kept now r (act.Quit why) = refl
entry-shown kept now r act.Terminate = refl
entry-shown kept now r act.KillAll = refl
entry-shown kept now r act.AskCheckpoint = refl
entry-shown kept now r act.Ready = refl
entry-shown kept now r act.Reset = refl
entry-shown kept now r (act.Say line) = refl
entry-shown kept now r (act.End how) = refl

dues-shown : (kept now : ℕ) (acts : List Action) (r : Replay) → (all_replayed r (entries_of kept now r (dues acts))).shown ≡ shown_by r.shown acts
dues-shown kept now [] r = refl
dues-shown kept now (a ∷ acts) r =
    dues-shown kept now acts (replayed r (entry_of kept now r.shown (Do a))) ∙ ap (λ s. shown_by s acts) (entry-shown kept now r a)

calm-shared : (acts : List Action) (s : Shared) → are_calm acts ≡ true → shared_all s (events_of acts) ≡ s
calm-shared [] s calm = refl
calm-shared (act.Start k ∷ acts) s calm = calm-shared acts s calm
calm-shared (act.Quit why ∷ acts) s calm = absurd cc
calm-shared (act.Terminate ∷ acts) s calm = calm-shared acts s calm
calm-shared (act.KillAll ∷ acts) s calm = calm-shared acts s calm
calm-shared (act.AskCheckpoint ∷ acts) s calm = calm-shared acts s calm
calm-shared (act.Ready ∷ acts) s calm = calm-shared acts s calm
calm-shared (act.Reset ∷ acts) s calm = absurd cc
calm-shared (act.Say line ∷ acts) s calm = calm-shared acts s calm
calm-shared (act.End how ∷ acts) s calm = calm-shared acts s calm

starts-shown : (acts : List Action) (m : Machine) (s : Shared) → are_calm acts ≡ true
    → detached (shared_all s (events_in m (reports_of s.last_pid acts))) ≡ shown_by (detached s) acts
starts-shown [] m s calm = refl
starts-shown (act.Start k ∷ acts) m s calm = starts-shown acts (started_as k m) (with_child (s.last_pid + 1) k s) calm
starts-shown (act.Quit why ∷ acts) m s calm = absurd cc
starts-shown (act.Terminate ∷ acts) m s calm = starts-shown acts m s calm
starts-shown (act.KillAll ∷ acts) m s calm = starts-shown acts m s calm
starts-shown (act.AskCheckpoint ∷ acts) m s calm = starts-shown acts m s calm
starts-shown (act.Ready ∷ acts) m s calm = starts-shown acts m s calm
starts-shown (act.Reset ∷ acts) m s calm = absurd cc
starts-shown (act.Say line ∷ acts) m s calm = starts-shown acts m s calm
starts-shown (act.End how ∷ acts) m s calm = starts-shown acts m s calm

-- the events of the acts and then the starts leave what the entries show, one by one
abbrev with_starts : Machine → List Action → Shared → Shared
with_starts m acts t = shared_all t (events_in m (reports_of t.last_pid acts))

acts-shown : (acts : List Action) (m : Machine) (s : Shared) → is_ordered acts ≡ true
    → detached (with_starts m acts (shared_all s (events_of acts))) ≡ shown_by (detached s) acts
acts-shown [] m s ordered = refl
acts-shown (act.Start k ∷ acts) m s ordered =
    subst (λ t. detached (with_starts m (act.Start k ∷ acts) t) ≡ shown_by (detached s) (act.Start k ∷ acts))
    (sym (calm-shared acts s ordered)) (starts-shown (act.Start k ∷ acts) m s ordered)
acts-shown (act.Quit why ∷ acts) m s ordered = acts-shown acts m (shared_after s (supervisor.Notice why)) ordered
acts-shown (act.Terminate ∷ acts) m s ordered = acts-shown acts m s ordered
acts-shown (act.KillAll ∷ acts) m s ordered = acts-shown acts m s ordered
acts-shown (act.AskCheckpoint ∷ acts) m s ordered = acts-shown acts m s ordered
acts-shown (act.Ready ∷ acts) m s ordered = acts-shown acts m s ordered
acts-shown (act.Reset ∷ acts) m s ordered = acts-shown acts m (shared_after s supervisor.Reset) ordered
acts-shown (act.Say line ∷ acts) m s ordered = acts-shown acts m s ordered
acts-shown (act.End how ∷ acts) m s ordered = acts-shown acts m s ordered

-- a call whose cause leaves s0, and whose events are then those of its acts
call-shown : KeepsWhatIsShared → (h : Trace) (m : Machine) (events : List SupervisorEvent) (acts : List Action) (s0 : Shared)
    → shared_all h.now.shared events ≡ shared_all s0 (events_of acts) → is_ordered acts ≡ true
    → detached (all_happened h (events ++ events_in m (reports_of (all_happened h events).now.shared.last_pid acts))).now.shared
    ≡ shown_by (detached s0) acts
call-shown law h m events acts s0 same ordered =
    let g : Trace = all_happened h events in
    let reports : List SupervisorEvent = events_in m (reports_of g.now.shared.last_pid acts) in
    let left : g.now.shared ≡ shared_all s0 (events_of acts) = shared-all law h events ∙ same in
    ap (λ t. detached t.now.shared) (all_happened-append h events reports)
    ∙ (ap detached (shared-all law g reports)
    ∙ subst (λ t. detached (with_starts m acts t) ≡ shown_by (detached s0) acts) (sym left) (acts-shown acts m s0 ordered))

-- the events of a turn are those of its acts, but for moves of the phase

events-append : (xs ys : List Action) → events_of (xs ++ ys) ≡ events_of xs ++ events_of ys
events-append [] ys = refl
events-append (act.Start k ∷ xs) ys = events-append xs ys
events-append (act.Quit why ∷ xs) ys = ap (λ es. supervisor.Notice why ∷ es) (events-append xs ys)
events-append (act.Terminate ∷ xs) ys = events-append xs ys
events-append (act.KillAll ∷ xs) ys = events-append xs ys
events-append (act.AskCheckpoint ∷ xs) ys = events-append xs ys
events-append (act.Ready ∷ xs) ys = events-append xs ys
events-append (act.Reset ∷ xs) ys = ap (λ es. supervisor.Reset ∷ es) (events-append xs ys)
events-append (act.Say line ∷ xs) ys = events-append xs ys
events-append (act.End how ∷ xs) ys = ap (λ es. supervisor.End how ∷ es) (events-append xs ys)

abbrev IsSilent : Transition → Type 0
IsSilent o = events_of o.acts ≡ []

begins-silent : (m : Machine) → IsSilent (start_recovery m)
unfolding start_recovery
begins-silent m = grind arith

writer-silent : (m : Machine) → IsSilent (restart_writer m)
unfolding restart_writer
writer-silent m = grind arith

smart-silent : (m : Machine) → IsSilent (end_smart m)
unfolding end_smart
smart-silent m = grind arith

stop-silent : (m : Machine) → IsSilent (stop_backends m)
unfolding stop_backends
stop-silent m = grind arith

backends-silent : (m : Machine) → IsSilent (backends_gone m)
unfolding backends_gone
backends-silent m = grind arith

dead_ends-silent : (m : Machine) → IsSilent (dead_ends_gone m)
unfolding dead_ends_gone
dead_ends-silent m = grind arith

then-events : (o : Transition) (rule : Machine → Transition) → IsSilent o → events_of (and_then o rule).acts ≡ events_of (rule o.after).acts
then-events o rule silent = events-append o.acts (rule o.after).acts ∙ ap (λ es. es ++ events_of (rule o.after).acts) silent

turn-events : (m : Machine) (s : Shared) → shared_all s (events_of_turn m) ≡ shared_all s (events_of (turned_of m).acts)
unfolding turned_of
turn-events m s =
    let o1 : Transition = start_recovery m in
    let o2 : Transition = and_then o1 restart_writer in
    let o3 : Transition = and_then o2 end_smart in
    let o4 : Transition = and_then o3 stop_backends in
    let o5 : Transition = and_then o4 backends_gone in
    let o6 : Transition = and_then o5 dead_ends_gone in
    let s2 : IsSilent o2 = then-events o1 restart_writer (begins-silent m) ∙ writer-silent o1.after in
    let s3 : IsSilent o3 = then-events o2 end_smart s2 ∙ smart-silent o2.after in
    let s4 : IsSilent o4 = then-events o3 stop_backends s3 ∙ stop-silent o3.after in
    let s5 : IsSilent o5 = then-events o4 backends_gone s4 ∙ backends-silent o4.after in
    let s6 : IsSilent o6 = then-events o5 dead_ends_gone s5 ∙ dead_ends-silent o5.after in
    let last : List SupervisorEvent = events_of (children_gone o6.after).acts in
    let fourth : List SupervisorEvent = move_of (phase_of o5.after) (phase_of o6.after) ++ last in
    let third : List SupervisorEvent = move_of (phase_of o3.after) (phase_of o5.after) ++ fourth in
    let second : List SupervisorEvent = move_of (phase_of o1.after) (phase_of o3.after) ++ third in
    shared-moves s (phase_of m) (phase_of o1.after) second
    ∙ (shared-moves s (phase_of o1.after) (phase_of o3.after) third
    ∙ (shared-moves s (phase_of o3.after) (phase_of o5.after) fourth
    ∙ (shared-moves s (phase_of o5.after) (phase_of o6.after) last
    ∙ ap (shared_all s) (sym (then-events o6 children_gone s6)))))

-- what each call shows

abbrev Shown : ℕ → Replay → Machine → Trace → Call → Type 0
Shown kept r m h call =
    (all_replayed r (entries_of_call kept r m call)).shown ≡ detached (all_happened h (events_in m (with_reports (server_state r m h) call))).now.shared

accept-shown : KeepsWhatIsShared → TakesChildStepsBetween → (kept : ℕ) (r : Replay) (m : Machine) (h : Trace) (pid : ℕ) → r.shown ≡ detached h.now.shared
    → Shown kept r m h (Accepts pid)
accept-shown law between kept r m h pid shown =
    let e : SupervisorEvent = supervisor.Accept pid (decide_of (view_of m)) in
    ap (λ s. shared_after s e) shown
    ∙ (sym (between.detaches h.now.shared e refl) ∙ ap detached (sym (law.made_of h.now e)))

tick-shown : KeepsWhatIsShared → (kept : ℕ) (r : Replay) (m : Machine) (h : Trace) (now : ℕ) → r.shown ≡ detached h.now.shared
    → Shown kept r m h (Ticks now)
tick-shown law kept r m h now shown =
    let acts : List Action = acts_of_call m (Ticks now) in
    dues-shown kept now acts r
    ∙ (ap (λ s. shown_by s acts) shown
    ∙ sym (call-shown law h (machine_after m (Ticks now)) (events_of_call m (Ticks now)) acts h.now.shared refl (step-brief m (Ticked now)).ordered))

turn-shown : KeepsWhatIsShared → (kept : ℕ) (r : Replay) (m : Machine) (h : Trace) → r.shown ≡ detached h.now.shared → Shown kept r m h TakesTurn
turn-shown law kept r m h shown =
    let acts : List Action = acts_of_call m TakesTurn in
    dues-shown kept 0 acts r
    ∙ (ap (λ s. shown_by s acts) shown
    ∙ sym (call-shown law h (machine_after m TakesTurn) (events_of_turn m) acts h.now.shared (turn-events m h.now.shared) (step-brief m Turned).ordered))

request-shared : (answer : Option Mode) (es : List SupervisorEvent) (s : Shared) → shared_all s (events_of_request answer ++ es) ≡ shared_all s es
request-shared None es s = refl
request-shared (Some asked) es s = refl

ask-shown : KeepsWhatIsShared → (kept : ℕ) (r : Replay) (m : Machine) (h : Trace) (asked : Mode) (now : ℕ) → r.shown ≡ detached h.now.shared
    → Shown kept r m h (Asks asked now)
ask-shown law kept r m h asked now shown =
    let acts : List Action = acts_of_call m (Asks asked now) in
    dues-shown kept now acts (replayed r (entry.Asked asked now))
    ∙ (ap (λ s. shown_by s acts) shown
    ∙ sym (call-shown law h (machine_after m (Asks asked now)) (events_of_call m (Asks asked now)) acts h.now.shared
    (request-shared (strengthen_of m.shutdown asked) (events_of acts) h.now.shared) (step-brief m (Asked asked now)).ordered))

-- the end of a child

exit-first : TakesChildStepsBetween → (r : Replay) (s : Shared) (pid : ℕ) (k : Kind) (status : Status) (a : Bool) (now : ℕ) → r.shown ≡ detached s
    → (replayed r (entry.Exited pid k status a now)).shown ≡ detached (shared_after s (supervisor.Exit pid k status a))
exit-first between r s pid k status a now shown =
    let e : SupervisorEvent = supervisor.Exit pid k status a in
    ap (λ t. shared_after t e) shown ∙ sym (between.detaches s e refl)

-- the end of a child that isn't a startup child: what it leaves but for its acts is its leaving
exit-events : (m : Machine) (s : Shared) (pid : ℕ) (k : Kind) (status : Status) (a : Bool) (es : List SupervisorEvent) → is_startup_child k ≡ false
    → shared_all s (supervisor.Exit pid k status a ∷ (events_of_exit m k status a ++ es)) ≡ shared_all (shared_after s (supervisor.Exit pid k status a)) es
exit-events m s pid kind.Startup status a es other = absurd cc
exit-events m s pid kind.Checkpointer status a es other =
    let t : Shared = shared_after s (supervisor.Exit pid kind.Checkpointer status a) in
    elim (is_normal (class_of kind.Checkpointer (is_shutdown m.state) a status)) as
    (λ v. shared_all t (cond v (supervisor.Checkpointed ∷ []) [] ++ es) ≡ shared_all t es) [
      | true ↦ refl
      | false ↦ refl
    ]
exit-events m s pid kind.Writer status a es other = refl
exit-events m s pid kind.Worker status a es other = refl
exit-events m s pid kind.Backend status a es other = refl
exit-events m s pid kind.DeadEnd status a es other = refl

other-shown : KeepsWhatIsShared → TakesChildStepsBetween → (kept : ℕ) (r : Replay) (m : Machine) (h : Trace) (pid : ℕ) (k : Kind) (status : Status) (a : Bool) (now : ℕ)
    → is_startup_child k ≡ false → r.shown ≡ detached h.now.shared → Shown kept r m h (Exits pid k status a now)
other-shown law between kept r m h pid k status a now other shown =
    let acts : List Action = acts_of_call m (Exits pid k status a now) in
    let e : PmEvent = entry.Exited pid k status a now in
    let s0 : Shared = shared_after h.now.shared (supervisor.Exit pid k status a) in
    let none : redo_dues k status ≡ [] = ap (λ b. cond (b && is_exit_0 status) (EndRedo ∷ []) []) other in
    ap (λ ds. (all_replayed (replayed r e) (entries_of kept now (replayed r e) (ds ++ dues acts))).shown) none
    ∙ (dues-shown kept now acts (replayed r e)
    ∙ (ap (λ s. shown_by s acts) (exit-first between r h.now.shared pid k status a now shown)
    ∙ sym (call-shown law h (machine_after m (Exits pid k status a now)) (events_of_call m (Exits pid k status a now)) acts s0
    (exit-events m h.now.shared pid k status a (events_of acts) other) (step-brief m (Exited pid k status a now)).ordered)))

startup-shutdown : (m : Machine) (exit : Exit) → (startup_exited m exit).after.shutdown ≡ m.shutdown
unfolding startup_exited crash_rule
startup-shutdown m exit = grind arith

-- the request that the journal's machine knows after the end of the startup child
known-request : (r : Replay) (m : Machine) (pid : ℕ) (status : Status) (a : Bool) (now : ℕ) → Agrees r m
    → (replayed r (entry.Exited pid kind.Startup status a now)).machine.shutdown ≡ m.shutdown
known-request r m pid status a now agrees =
    let exit : Exit = record { pid = pid; kind = kind.Startup; status = status; now = now } in
    rw (agrees.none_due, agrees.machine)
    (settled-shutdown (startup_exited (settled m) exit).after ∙ (startup-shutdown (settled m) exit ∙ settled-shutdown m))

startup-shown : KeepsWhatIsShared → TakesChildStepsBetween → (kept : ℕ) (r : Replay) (m : Machine) (h : Trace) (pid : ℕ) (status : Status) (a : Bool) (now : ℕ)
    → Agrees r m → r.shown ≡ detached h.now.shared → Shown kept r m h (Exits pid kind.Startup status a now)
startup-shown law between kept r m h pid status a now agrees shown =
    let call : Call = Exits pid kind.Startup status a now in
    let acts : List Action = acts_of_call m call in
    let e : PmEvent = entry.Exited pid kind.Startup status a now in
    let r1 : Replay = replayed r e in
    let s1 : Shared = shared_after h.now.shared (supervisor.Exit pid kind.Startup status a) in
    let redone : SupervisorEvent = supervisor.RedoEnded (is_none m.shutdown) in
    let first : r1.shown ≡ detached s1 = exit-first between r h.now.shared pid kind.Startup status a now shown in
    let ordered : is_ordered acts ≡ true = (step-brief m (Exited pid kind.Startup status a now)).ordered in
    elim (is_exit_0 status) as
    (λ v. is_exit_0 status ≡ v
    → (all_replayed r1 (entries_of kept now r1 (cond v (EndRedo ∷ []) [] ++ dues acts))).shown
    ≡ detached (all_happened h (events_in m (with_reports (server_state r m h) call))).now.shared) [
      | true ↦ λ is.
          let e2 : PmEvent = entry.RedoEnded r1.shown.generation kept in
          let same : shared_all h.now.shared (events_of_call m call) ≡ shared_all (shared_after s1 redone) (events_of acts) =
          ap (λ b. shared_all s1 (cond b (redone ∷ []) [] ++ events_of acts)) is in
          let second : (replayed r1 e2).shown ≡ detached (shared_after s1 redone) =
          ap (λ o. reopened (is_none o) r1.shown) (known-request r m pid status a now agrees)
          ∙ (reopens (is_none m.shutdown) r1.shown ∙ (ap (λ s. shared_after s redone) first ∙ sym (between.detaches s1 redone refl))) in
          dues-shown kept now acts (replayed r1 e2)
          ∙ (ap (λ s. shown_by s acts) second
          ∙ sym (call-shown law h (machine_after m call) (events_of_call m call) acts (shared_after s1 redone) same ordered))
      | false ↦ λ isnt.
          let same : shared_all h.now.shared (events_of_call m call) ≡ shared_all s1 (events_of acts) =
          ap (λ b. shared_all s1 (cond b (redone ∷ []) [] ++ events_of acts)) isnt in
          dues-shown kept now acts r1
          ∙ (ap (λ s. shown_by s acts) first
          ∙ sym (call-shown law h (machine_after m call) (events_of_call m call) acts s1 same ordered))
    ]
    refl

exit-shown : KeepsWhatIsShared → TakesChildStepsBetween → (kept : ℕ) (r : Replay) (m : Machine) (h : Trace) (pid : ℕ) (k : Kind) (status : Status) (a : Bool) (now : ℕ)
    → Agrees r m → r.shown ≡ detached h.now.shared → Shown kept r m h (Exits pid k status a now)
exit-shown law between kept r m h pid kind.Startup status a now agrees shown = startup-shown law between kept r m h pid status a now agrees shown
exit-shown law between kept r m h pid kind.Checkpointer status a now agrees shown =
    other-shown law between kept r m h pid kind.Checkpointer status a now refl shown
exit-shown law between kept r m h pid kind.Writer status a now agrees shown = other-shown law between kept r m h pid kind.Writer status a now refl shown
exit-shown law between kept r m h pid kind.Worker status a now agrees shown = other-shown law between kept r m h pid kind.Worker status a now refl shown
exit-shown law between kept r m h pid kind.Backend status a now agrees shown = other-shown law between kept r m h pid kind.Backend status a now refl shown
exit-shown law between kept r m h pid kind.DeadEnd status a now agrees shown = other-shown law between kept r m h pid kind.DeadEnd status a now refl shown

-- one law for all calls

record CallLaws (gives : ℕ → Bool) (kept : ℕ) (r : Replay) (m : Machine) (h : Trace) (call : Call) : Type 0 where
  ended : m.ended ≡ false
  may : MayWrite gives r m call
  shown : Shown kept r m h call
  owes : Owes (acts_of_call m call) (machine_after m call)

keeps-step : StaysWell → (gives : ℕ → Bool) (kept : ℕ) (limits : Limits) (r : Replay) (m : Machine) (h : Trace) (call : Call)
    → IsInStep limits (server_state r m h) → IsFit limits m h call → CallLaws gives kept r m h call
    → KeepsStep gives limits kept (server_state r m h) call
keeps-step laws gives kept limits r m h call step fit known =
    let g : Trace = all_happened h (events_of_call m call) in
    let acts : List Action = acts_of_call m call in
    let calls : List Call = with_reports (server_state r m h) call in
    let writes : Writes gives r (entries_of_call kept r m call) (machine_with_reports m call) =
    call-writes gives kept r m call step.agrees known.ended known.may in
    let all_fit : AreFit limits m h calls = (fit, reports-fit limits acts (machine_after m call) g known.owes) in
    let leads : Leads limits h (events_in m calls) (machine_at_end m calls) = calls-lead laws limits m h calls step.holds.facts step.holds.well all_fit in
    let same : machine_with_reports m call ≡ machine_at_end m calls = sym (reports-machine acts g.now.shared.last_pid (machine_after m call)) in
    record {
      legal = writes.legal;
      run = leads.run;
      in_step = record {
        agrees = writes.agrees;
        shown = known.shown;
        holds = record { facts = subst (λ n. Facts limits n (all_happened h (events_in m calls)).now) (sym same) leads.facts; well = laws.runs limits h (events_in m calls) leads.run step.holds.well };
        reported = reported-all acts (machine_after m call) known.owes;
      };
    }

there-shown : TakesChildStepsBetween → (r : Replay) (s : Shared) (pid : ℕ) (k : Kind) → r.shown ≡ detached s
    → IsSomeAnd (child_of pid s.children) (λ c. c.kind ≡ k) → IsSomeAnd (child_of pid r.shown.children) (λ c. c.kind ≡ k)
there-shown between r s pid k shown there =
    subst (λ t. IsSomeAnd (child_of pid t.children) (λ c. c.kind ≡ k)) (sym shown) (between.there pid k s.children there)

call-laws : KeepsWhatIsShared → TakesChildStepsBetween → (gives : ℕ → Bool) (kept : ℕ) (limits : Limits) (r : Replay) (m : Machine) (h : Trace) (call : Call)
    → IsInStep limits (server_state r m h) → IsFit limits m h call → IsTimely gives r m call → CallLaws gives kept r m h call
call-laws law between gives kept limits r m h (Accepts pid) step fit timely =
    record {
      ended = fit.1.goes_on;
      may = (timely.0, (fit.0, timely.1, timely.2));
      shown = accept-shown law between kept r m h pid step.shown;
      owes = step-owes m Accepted refl fit.1;
    }
call-laws law between gives kept limits r m h (Starts pid k) step fit timely = absurd timely
call-laws law between gives kept limits r m h (Exits pid k status a now) step fit timely =
    record {
      ended = fit.0.goes_on;
      may = (timely.0, (counted limits m h.now pid k step.holds.facts fit.1, there-shown between r h.now.shared pid k step.shown fit.1, timely.1));
      shown = exit-shown law between kept r m h pid k status a now step.agrees step.shown;
      owes = step-owes m (Exited pid k status a now) refl fit.0;
    }
call-laws law between gives kept limits r m h (Asks asked now) step fit timely =
    record {
      ended = fit.goes_on;
      may = timely;
      shown = ask-shown law kept r m h asked now step.shown;
      owes = step-owes m (Asked asked now) refl fit;
    }
call-laws law between gives kept limits r m h (Ticks now) step fit timely =
    record {
      ended = fit.goes_on;
      may = timely;
      shown = tick-shown law kept r m h now step.shown;
      owes = step-owes m (Ticked now) refl fit;
    }
call-laws law between gives kept limits r m h TakesTurn step fit timely =
    record {
      ended = fit.goes_on;
      may = timely;
      shown = turn-shown law kept r m h step.shown;
      owes = step-owes m Turned refl fit;
    }
call-laws law between gives kept limits r m h (Attaches pid reserve) step fit timely = absurd timely
call-laws law between gives kept limits r m h (Touches pid) step fit timely = absurd timely
call-laws law between gives kept limits r m h (Detaches pid) step fit timely = absurd timely

pub call-keeps : StaysWell → KeepsWhatIsShared → TakesChildStepsBetween → (gives : ℕ → Bool) (kept : ℕ) (limits : Limits) (r : Replay) (m : Machine) (h : Trace) (call : Call)
    → IsInStep limits (server_state r m h) → IsFit limits m h call → IsTimely gives r m call
    → KeepsStep gives limits kept (server_state r m h) call
call-keeps laws law between gives kept limits r m h call step fit timely =
    keeps-step laws gives kept limits r m h call step fit (call-laws law between gives kept limits r m h call step fit timely)

pub begins-in_step : StaysWell → (limits : Limits) → IsInStep limits (server_state (replay_begun limits) (begun limits) empty_trace)
begins-in_step laws limits =
    record {
      agrees = begun-agrees limits;
      shown = refl;
      holds = record { facts = begun-facts limits; well = laws.begins limits };
      reported = record { startup = refl; checkpointer = refl; writer = refl };
    }

-- a child's own step, and the killing of one

pub child-keeps : StaysWell → TakesChildStepsBetween → (limits : Limits) (r : Replay) (m : Machine) (h : Trace) (e : SupervisorEvent) → IsInStep limits (server_state r m h)
    → is_child_step e ≡ true → MayHappen limits h e → IsInStep limits (server_state r m (happened h e))
child-keeps laws between limits r m h e step child may =
    let near : IsAlike h.now (happened h e).now = between.one h.now e child in
    record {
      agrees = step.agrees;
      shown = step.shown ∙ alike-detached h.now (happened h e).now near;
      holds = record {
        facts = facts-alike between limits m h.now (happened h e).now near step.holds.facts;
        well = laws.step limits h e may step.holds.well;
      };
      reported = step.reported;
    }

pub kill-keeps : (gives : ℕ → Bool) (limits : Limits) (r : Replay) (m : Machine) (h : Trace) (pid : ℕ) → IsInStep limits (server_state r m h)
    → m.ended ≡ false → r.asks_smart ≡ false → IsSomeAnd (child_of pid r.shown.children) (λ c. c.pid ≡ pid)
    → Follows gives r (entry.KillAsked pid) × IsInStep limits (server_state (replayed r (entry.KillAsked pid)) m h)
kill-keeps gives limits r m h pid step on none there = (
  rw step.agrees.none_due (rw step.agrees.machine (settled-ended m) ∙ on, λ asks. absurd (let wrong : true ≡ false = sym asks ∙ none in cc), there),
  record {
    agrees = record {
      machine = rw (step.agrees.none_due, step.agrees.machine) (settled-settled m);
      none_due = rw step.agrees.none_due refl;
    };
    shown = step.shown;
    holds = step.holds;
    reported = step.reported;
  },
)
