-- The laws of the state machine, one for each function of `laws.rt`, whose contract it is.
use Rattle.std.specs.Prelude.{◌≡◌, ◌++◌, ◌+◌, ◌≤◌, ◌||◌, ℕ, Bool, true, false, List, [], ◌∷◌, Some, is_some, IsSomeAnd, length}
use Rattle.pm_supervisor.specs.{pm_exit.{declared.child.{Kind.{Kind, TheVariants.Startup}, Status.Status}, Ends.class_of}, pm_modes.{declared.Mode.{Mode, TheVariants.Immediate}, Strength.is_immediate}, pm_admit.Admission.{decide_of, is_run}, declared.Limits.Limits, Children.{child_of, is_startup_child}, Invariant.IsSound, Supervisor.Supervisor, Between.{is_child_step, without_child_steps, ChildStepsMayHappen}, Steps.{SupervisorEvent, Trace, MayHappen, IsRun, happened, all_happened, empty_trace, admission, is_normal}}
use Rattle.pm_state.specs.{Machine.{MachineEvent, Exited, Asked, Ticked, Turned, begun, step, view_of, IsReady, IsCounted, IsDue, MayAccept, started_as}, declared.{action.Action.{Action, TheVariants.{Start, KillAll}}, event.PmEvent.PmEvent, machine.Machine.Machine}, Exits.is_shutdown, Requests.patience, Starts.{Owes, has_end, is_report}, Shows.{Call, TakesTurn, Shows, AreFit, IsFit, events_in, events_of_call, machine_after, machine_at_end}, Facts.{Facts, Holds, NothingDue}, Known.Known, Promises.{Promises, has_act, is_quit, is_ready_act, is_release, is_startup_crash, starts_before_ready}, Restarts.{Counts, RestartsInOrder}, Journal.{Replay, Agrees, AreLegal, IsLegal, Follows, Writes, MayWrite, all_replayed, replayed, entries_of_call, machine_with_reports, replay_begun, settled}, InStep.{ServerState, IsInStep, IsTimely, KeepsStep}}
use Rattle.pm_state.specs.declared.event.PmEvent.TheVariants as entry

-- whole lists of calls, each made where it may be

abbrev pub shown_after_calls : Limits → List Call → Trace
shown_after_calls limits calls = all_happened empty_trace (events_in (begun limits) calls)

pub record ShowsASupervisor : Type 0 where
  pub run :
      (limits : Limits) (calls : List Call) → AreFit limits (begun limits) empty_trace calls
      → IsRun limits empty_trace (events_in (begun limits) calls)
  pub shown :
      (limits : Limits) (calls : List Call) → AreFit limits (begun limits) empty_trace calls
      → Shows (machine_at_end (begun limits) calls) (shown_after_calls limits calls).now
  pub sound :
      (limits : Limits) (calls : List Call) → AreFit limits (begun limits) empty_trace calls
      → IsSound limits.max_connections (shown_after_calls limits calls).past (shown_after_calls limits calls).now.shared

-- one call at a time

pub record KeepsItsFacts : Type 0 where
  pub begins : (limits : Limits) → Holds limits (begun limits) empty_trace
  pub run :
      (limits : Limits) (m : Machine) (h : Trace) (call : Call) → Holds limits m h → IsFit limits m h call
      → IsRun limits h (events_of_call m call)
  pub kept :
      (limits : Limits) (m : Machine) (h : Trace) (call : Call) → Holds limits m h → IsFit limits m h call
      → Holds limits (machine_after m call) (all_happened h (events_of_call m call))
  -- the same with steps of children anywhere between the events of the call
  pub run_between :
      (limits : Limits) (m : Machine) (h : Trace) (call : Call) (events : List SupervisorEvent) → Holds limits m h
      → IsFit limits m h call → without_child_steps events ≡ events_of_call m call → ChildStepsMayHappen limits h events
      → IsRun limits h events
  pub kept_between :
      (limits : Limits) (m : Machine) (h : Trace) (call : Call) (events : List SupervisorEvent) → Holds limits m h
      → IsFit limits m h call → without_child_steps events ≡ events_of_call m call → ChildStepsMayHappen limits h events
      → Holds limits (machine_after m call) (all_happened h events)
  -- the facts in words
  pub known : (limits : Limits) (m : Machine) (s : Supervisor) → Facts limits m s → Known m s.shared
  -- the decision on a connection is the one that the supervisor's state asks for
  pub decision :
      (limits : Limits) (m : Machine) (s : Supervisor) → Facts limits m s → MayAccept m → decide_of (view_of m) ≡ admission limits s
  -- a child that is there is counted, so that its end may be told
  pub counted :
      (limits : Limits) (m : Machine) (s : Supervisor) (pid : ℕ) (kind : Kind) → Facts limits m s
      → IsSomeAnd (child_of pid s.shared.children) (λ c. c.kind ≡ kind) → IsCounted m kind

pub record TellsOfEachStart : Type 0 where
  -- what is due after the acts of a call is what they start, each once
  pub tells : (m : Machine) (event : MachineEvent) → is_report event ≡ false → IsReady m → Owes (step m event).acts (step m event).after
  -- so each start may be reported as it is done, and then the others are due
  pub report :
      (kind : Kind) (acts : List Action) (m : Machine) → Owes (Start kind ∷ acts) m
      → (m.ended ≡ false) × IsDue m kind × Owes acts (started_as kind m)
  pub done : (m : Machine) → Owes [] m → NothingDue m
  -- the acts end the server exactly where the machine has ended
  pub ends : (m : Machine) (event : MachineEvent) → is_report event ≡ false → IsReady m → has_end (step m event).acts ≡ (step m event).after.ended
  -- at most four acts come from one call
  pub few : (m : Machine) (event : MachineEvent) → length (step m event).acts ≤ 4

-- the journal

pub record WritesALegalJournal : Type 0 where
  pub begins : (limits : Limits) → Agrees (replay_begun limits) (begun limits)
  pub call :
      (gives : ℕ → Bool) (kept : ℕ) (r : Replay) (m : Machine) (call : Call) → Agrees r m → m.ended ≡ false
      → MayWrite gives r m call → Writes gives r (entries_of_call kept r m call) (machine_with_reports m call)
  -- after a turn the moves that leave no entry are made, so that a connection may be accepted
  pub turned : (m : Machine) → settled (machine_with_reports m TakesTurn) ≡ machine_with_reports m TakesTurn
  pub append :
      (gives : ℕ → Bool) (r : Replay) (xs ys : List PmEvent) → AreLegal gives r xs → AreLegal gives (all_replayed r xs) ys
      → AreLegal gives r (xs ++ ys)
  pub replays : (r : Replay) (xs ys : List PmEvent) → all_replayed r (xs ++ ys) ≡ all_replayed (all_replayed r xs) ys

abbrev pub server_begun : Limits → ServerState
server_begun limits = record { replay = replay_begun limits; machine = begun limits; trace = empty_trace }

pub record StaysInStep : Type 0 where
  pub begins : (limits : Limits) → IsInStep limits (server_begun limits)
  -- a call that a server makes, with its acts done and its starts reported
  pub call :
      (gives : ℕ → Bool) (limits : Limits) (kept : ℕ) (p : ServerState) (call : Call) → IsInStep limits p
      → IsFit limits p.machine p.trace call → IsTimely gives p.replay p.machine call → KeepsStep gives limits kept p call
  -- a step of a child leaves no entry
  pub child :
      (limits : Limits) (p : ServerState) (event : SupervisorEvent) → IsInStep limits p → is_child_step event ≡ true
      → MayHappen limits p.trace event → IsInStep limits (record p { trace = happened p.trace event })
  -- a child that is there is asked to be killed
  pub kill :
      (gives : ℕ → Bool) (limits : Limits) (p : ServerState) (pid : ℕ) → IsInStep limits p → p.machine.ended ≡ false
      → p.replay.asks_smart ≡ false → IsSomeAnd (child_of pid p.replay.shown.children) (λ c. c.pid ≡ pid)
      → Follows gives p.replay (entry.KillAsked pid)
      × IsInStep limits (record p { replay = replayed p.replay (entry.KillAsked pid) })

-- restarts

pub record RestartsSafely : Type 0 where
  -- in a legal journal, whatever the clock
  pub in_order :
      (limits : Limits) (gives : ℕ → Bool) (journal : List PmEvent) → IsLegal limits gives journal → RestartsInOrder limits journal
  -- at every entry the machine counts the children that the entries leave
  pub counts :
      (limits : Limits) (gives : ℕ → Bool) (journal : List PmEvent) → IsLegal limits gives journal
      → Counts (all_replayed (replay_begun limits) journal).machine (all_replayed (replay_begun limits) journal).shown.children

-- what a reader of the manual counts on

pub record KeepsItsPromises : Type 0 where
  -- an abnormal exit sets the moment from which five seconds are counted, if none is set
  pub arms :
      (m : Machine) (pid : ℕ) (kind : Kind) (status : Status) (was_active : Bool) (now : ℕ) → is_startup_child kind ≡ false
      → is_normal (class_of kind (is_shutdown m.state) was_active status) ≡ false
      → is_some (step m (Exited pid kind status was_active now)).after.abort_at ≡ true
  -- so does the crash of a startup child
  pub arms_at_startup :
      (m : Machine) (pid : ℕ) (status : Status) (was_active : Bool) (now : ℕ) → is_startup_crash m status ≡ true
      → is_some (step m (Exited pid Startup status was_active now)).after.abort_at ≡ true
  -- whoever is told to end at once has that moment
  pub arms_at_quit :
      (m : Machine) (event : MachineEvent) → has_act is_quit (step m event).acts ≡ true
      → is_some (step m event).after.abort_at ≡ true
  -- so does an immediate request
  pub request :
      (m : Machine) (now : ℕ) → is_immediate m.shutdown ≡ false → (step m (Asked Immediate now)).after.abort_at ≡ Some now
  -- it stays until children are killed, or none is left
  pub kept_at_end_of_startup :
      (m : Machine) (pid : ℕ) (status : Status) (was_active : Bool) (now : ℕ) → is_some m.abort_at ≡ true
      → is_some (step m (Exited pid Startup status was_active now)).after.abort_at
      || has_act is_release (step m (Exited pid Startup status was_active now)).acts
      ≡ true
  pub kept_at_exit :
      (m : Machine) (pid : ℕ) (kind : Kind) (status : Status) (was_active : Bool) (since now : ℕ) → is_startup_child kind ≡ false
      → m.abort_at ≡ Some since → (step m (Exited pid kind status was_active now)).after.abort_at ≡ Some since
  pub kept_at_request :
      (m : Machine) (mode : Mode) (now : ℕ) → is_some m.abort_at ≡ true → is_some (step m (Asked mode now)).after.abort_at ≡ true
  pub turn : (m : Machine) → Promises m (step m Turned)
  -- whoever is left five seconds after it is killed
  pub kills :
      (limits : Limits) (m : Machine) (s : Supervisor) (since now : ℕ) → Facts limits m s → m.abort_at ≡ Some since
      → since + patience ≤ now → (step m (Ticked now)).acts ≡ KillAll ∷ []
  -- and nobody before
  pub waits :
      (m : Machine) (since now : ℕ) → m.abort_at ≡ Some since → now + 1 ≤ since + patience → (step m (Ticked now)).acts ≡ []
  -- sessions are admitted after a redo only after Ready
  pub ready :
      (m : Machine) (pid : ℕ) (status : Status) (was_active : Bool) (now : ℕ) → is_run m.state ≡ false
      → is_run (step m (Exited pid Startup status was_active now)).after.state ≡ true
      → has_act is_ready_act (step m (Exited pid Startup status was_active now)).acts ≡ true
  -- and Ready comes before the starts that come with it
  pub ready_first : (m : Machine) (event : MachineEvent) → starts_before_ready (step m event).acts ≡ false
