-- What may happen to the supervisor, and what it leaves. A step has a condition and an effect on what is shared with the
-- children, which the board of child slots meets too, and a condition and an effect on the rest.
-- The manual: 19.5 "Shutting Down the Server", and 20.14 "Error Handling" for the restart after a crash.
use Rattle.std.specs.Prelude.{◌≡◌, ◌≢◌, ℕ, ◌+◌, ◌*◌, Bool, true, false, not, ◌==◌, ◌&&◌, ◌||◌, if◌then◌else◌, nat_le, List, [], ◌∷◌, Option, Some, None, is_some, is_none, ◌⊎◌}
use Rattle.pm_exit.specs.{declared.child.{Status.Status, Kind.Kind, Class.Class}, Ends.{class_of, is_exit_0, is_exit_1}}
use Rattle.pm_exit.specs.declared.child.Kind.TheVariants as kind
use Rattle.pm_exit.specs.declared.child.Class.TheVariants as class
use Rattle.pm_modes.specs.{declared.Mode.Mode, Strength.{strengthen_of, is_immediate}}
use Rattle.pm_modes.specs.declared.Mode.TheVariants as mode
use Rattle.pm_admit.specs.declared.Cac.{Cac}
use Rattle.pm_admit.specs.declared.Cac.TheVariants as cac
use Rattle.pm_supervisor.specs.{declared.{Limits.Limits, Reason.Reason, Ending.Ending}, Children.{Child, is_session, is_startup_child, is_checkpointer, is_writer, count_of, attached_sessions}, Phase.Phase, Supervisor.{Shared, Supervisor, first}, Shared.{SharedEvent, IsReserve, AllowsAny, after_any}}
use Rattle.pm_supervisor.specs.declared.Reason.TheVariants as reason
use Rattle.pm_supervisor.specs.declared.Ending.TheVariants as ending
use Rattle.pm_supervisor.specs.Phase as phase
use Rattle.pm_supervisor.specs.Shared as shared

-- what may happen
pub data SupervisorEvent : Type 0 where
  -- a connection is accepted, with this decision, and a child is started for it
  Accept : (pid : ℕ) → (decision : Cac) → SupervisorEvent
  -- another child is started
  Start : (pid : ℕ) → (kind : Kind) → SupervisorEvent
  Attach : (pid reserve : ℕ) → SupervisorEvent
  -- a child uses what its generation shares
  Touch : (pid : ℕ) → SupervisorEvent
  Detach : (pid : ℕ) → SupervisorEvent
  -- a child ends
  Exit : (pid : ℕ) → (kind : Kind) → (status : Status) → (was_active : Bool) → SupervisorEvent
  -- no child may attach any more, and all are told to end at once
  Notice : (why : Reason) → SupervisorEvent
  -- a shutdown is asked for
  Ask : (mode : Mode) → SupervisorEvent
  -- the last checkpoint is written
  Checkpointed : SupervisorEvent
  -- the data are up to date. It opens the generation where no shutdown was asked for
  RedoEnded : (opens : Bool) → SupervisorEvent
  -- the next generation begins
  Reset : SupervisorEvent
  End : (how : Ending) → SupervisorEvent
  -- the phase alone moves on
  Move : (to : Phase) → SupervisorEvent

-- an event, and what it left of what is shared
pub record PastEvent : Type 0 where
  pub event : SupervisorEvent
  pub left : Shared

-- the state now, and every moment before it, the latest first
pub record Trace : Type 0 where
  pub now : Supervisor
  pub past : List PastEvent

-- it was so at one of these moments
abbrev pub Once : (PastEvent → Type 0) → List PastEvent → Type 0
Once P [] = ⊥
Once P (m ∷ ms) = P m ⊎ Once P ms

-- the end of a child of this kind with exit code 0
abbrev pub is_good_exit : (Kind → Bool) → SupervisorEvent → Bool
is_good_exit test (Exit pid kind status was_active) = test kind && is_exit_0 status
is_good_exit _ _ = false

-- in this generation such a child has ended with exit code 0
abbrev pub HasEnded : (Kind → Bool) → ℕ → List PastEvent → Type 0
HasEnded test generation past = Once (λ m. (is_good_exit test m.event ≡ true) × (m.left.generation ≡ generation)) past

-- the end of the startup child with anything but exit code 0
abbrev pub is_failed_startup : SupervisorEvent → Bool
is_failed_startup (Exit pid kind status was_active) = is_startup_child kind && not (is_exit_0 status)
is_failed_startup _ = false

-- in this generation the startup child has failed
abbrev pub HasFailed : ℕ → List PastEvent → Type 0
HasFailed generation past = Once (λ m. (is_failed_startup m.event ≡ true) × (m.left.generation ≡ generation)) past

abbrev pub redo_ended_after : SupervisorEvent → Bool → Bool
redo_ended_after (RedoEnded opens) before = true
redo_ended_after Reset before = false
redo_ended_after _ before = before

-- redo has ended in the present generation: since the last reset
abbrev pub redo_has_ended : List PastEvent → Bool
redo_has_ended [] = false
redo_has_ended (m ∷ ms) = redo_ended_after m.event (redo_has_ended ms)

-- admission

abbrev pub is_starting : Phase → Bool
is_starting phase.Starting = true
is_starting _ = false

abbrev pub is_running : Phase → Bool
is_running phase.Running = true
is_running _ = false

-- whether a new connection becomes a session, and else why not: the first line that fits
abbrev pub admission : Limits → Supervisor → Cac
admission limits s =
    if is_some s.request then cac.Shutdown
    else if is_starting s.phase && not s.crash then cac.Startup
    else if not (is_running s.phase) then cac.Recovery
    else if nat_le (2 * (limits.max_connections + limits.max_worker_processes)) (count_of is_session s.shared.children)
    then cac.TooMany
    else cac.Ok

-- the child that is started for a connection
abbrev pub kind_for : Cac → Kind
kind_for cac.Ok = kind.Backend
kind_for _ = kind.DeadEnd

-- what is shared

-- what an event is for what is shared, if anything
abbrev pub shared_of : SupervisorEvent → Option SharedEvent
shared_of (Accept pid decision) = Some (shared.Join pid (kind_for decision))
shared_of (Start pid kind) = Some (shared.Join pid kind)
shared_of (Attach pid reserve) = Some (shared.Attach pid reserve)
shared_of (Touch pid) = Some (shared.Touch pid)
shared_of (Detach pid) = Some (shared.Detach pid)
shared_of (Exit pid kind status was_active) = Some (shared.Leave pid kind)
shared_of (Notice why) = Some (shared.Notice why)
shared_of (RedoEnded true) = Some shared.Open
shared_of Reset = Some shared.Reset
shared_of _ = None

abbrev pub shared_after : Shared → SupervisorEvent → Shared
shared_after s event = after_any s (shared_of event)

-- conditions on what has happened

abbrev pub PastAllows : List PastEvent → Shared → SupervisorEvent → Type 0
PastAllows past s Checkpointed = HasEnded is_checkpointer s.generation past
PastAllows past s (RedoEnded opens) =
    HasEnded is_startup_child s.generation past × (redo_has_ended past ≡ false) × (s.is_open ≡ false)
    × (count_of is_startup_child s.children ≡ 0) × (attached_sessions s.children ≡ 0)
PastAllows past s (End ending.StartupFailed) = HasFailed s.generation past
PastAllows past s _ = Unit {0}

-- the conditions on what is shared, and on what has happened
pub record SharedAllows (limits : Limits) (past : List PastEvent) (s : Shared) (event : SupervisorEvent) : Type 0 where
  pub of_shared : AllowsAny limits.max_connections s (shared_of event)
  pub of_past : PastAllows past s event

-- effects on the rest

abbrev pub is_checkpointing : Phase → Bool
is_checkpointing phase.Checkpointing = true
is_checkpointing _ = false

abbrev pub is_normal : Class → Bool
is_normal class.Normal = true
is_normal _ = false

-- the end of the startup child is a crash, and neither the end of its work nor of the server
abbrev pub is_startup_crash : Supervisor → Status → Bool
is_startup_crash s status =
    not (is_exit_0 status)
    && not (is_some s.request && is_exit_1 status)
    && not (is_starting s.phase && is_none s.shared.noticed)

-- the end of a child is a crash
abbrev pub is_crash : Supervisor → Kind → Status → Bool → Bool
is_crash s kind.Startup status was_active = is_startup_crash s status
is_crash s other status was_active = not (is_normal (class_of other (is_checkpointing s.phase) was_active status))

-- the phase after a crash. While the server starts it goes on to wait for its startup child
abbrev pub crashed_phase : Bool → Phase → Phase
crashed_phase of_startup phase.Running = phase.Stopping
crashed_phase of_startup phase.Draining = phase.Stopping
crashed_phase of_startup phase.Checkpointing = phase.Stopping
crashed_phase true phase.Starting = phase.Stopping
crashed_phase of_startup other = other

-- the startup child gave up, and a shutdown goes on without it
abbrev pub is_given_up : Supervisor → Kind → Status → Bool
is_given_up s kind status = is_startup_child kind && is_some s.request && is_exit_1 status

-- the phase after the end of a child
abbrev pub exited_phase : Supervisor → Kind → Status → Bool → Phase
exited_phase s kind status was_active =
    if is_crash s kind status was_active then crashed_phase (is_startup_child kind) s.phase
    else if is_given_up s kind status then phase.Stopping
    else s.phase

-- the phase after a stronger shutdown request
abbrev pub asked_phase : Mode → Phase → Phase
asked_phase mode.Smart phase.Starting = phase.Stopping
asked_phase mode.Smart phase.Running = phase.Draining
asked_phase mode.Fast phase.Starting = phase.Stopping
asked_phase mode.Fast phase.Running = phase.Stopping
asked_phase mode.Fast phase.Draining = phase.Stopping
asked_phase mode.Immediate other = phase.Stopping
asked_phase _ other = other

-- what an event leaves of the rest, where what is shared becomes this
abbrev pub after_with : Supervisor → SupervisorEvent → Shared → Supervisor
after_with s (Exit pid kind status was_active) shared =
    record {
      phase = exited_phase s kind status was_active;
      crash = s.crash || (is_crash s kind status was_active && not (is_immediate s.request));
      request = s.request;
      shared = shared;
    }
after_with s (Ask mode) shared = record s { request = Some mode; phase = asked_phase mode s.phase; shared = shared }
after_with s Checkpointed shared = record s { phase = phase.Clearing; shared = shared }
after_with s (RedoEnded true) shared = record s { phase = phase.Running; crash = false; shared = shared }
after_with s (RedoEnded false) shared = record s { phase = phase.Stopping; shared = shared }
after_with s Reset shared = record s { phase = phase.Starting; shared = shared }
after_with s (End how) shared = record s { phase = phase.Ended; shared = shared }
after_with s (Move to) shared = record s { phase = to; shared = shared }
after_with s _ shared = record s { shared = shared }

-- the state that an event leaves
abbrev pub after : Supervisor → SupervisorEvent → Supervisor
after s event = after_with s event (shared_after s.shared event)

-- conditions on the rest

abbrev pub accepts : Phase → Bool
accepts phase.Init = false
accepts phase.Clearing = false
accepts phase.Clear = false
accepts phase.Ended = false
accepts _ = true

-- where a child of this kind is started
abbrev pub MayStart : Kind → Supervisor → Type 0
MayStart kind.Startup s = (s.phase ≡ phase.Starting) × (count_of is_startup_child s.shared.children ≡ 0)
MayStart kind.Checkpointer s =
    ((s.phase ≡ phase.Running) ⊎ (s.phase ≡ phase.Checkpointing)) × (count_of is_checkpointer s.shared.children ≡ 0)
MayStart kind.Writer s = (s.phase ≡ phase.Running) × (count_of is_writer s.shared.children ≡ 0)
MayStart _ s = ⊥

-- between a reset and the end of redo, where every child is of a generation that began after the crash
abbrev pub is_recovering : Shared → Bool
is_recovering s = not (s.is_open || (s.generation == 1))

-- where all children are told to end at once
abbrev pub MayNotice : Reason → Supervisor → Type 0
MayNotice reason.Crash s =
    (s.crash ≡ true) × (is_immediate s.request ≡ false) × (s.shared.noticed ≡ None) × (is_recovering s.shared ≡ false)
MayNotice reason.Stop s = (is_immediate s.request ≡ true) × (s.shared.noticed ≢ Some reason.Stop)

-- where the supervisor ends
abbrev pub MayEnd : Limits → Ending → Supervisor → Type 0
MayEnd limits ending.Clean s = (s.phase ≡ phase.Clear) × (is_some s.request ≡ true) × (s.crash ≡ false) × (s.shared.children ≡ [])
MayEnd limits ending.AfterCrash s = (s.phase ≡ phase.Clear) × (is_some s.request ≡ true) × (s.crash ≡ true) × (s.shared.children ≡ [])
MayEnd limits ending.RestartOff s =
    (s.phase ≡ phase.Clear) × (s.request ≡ None) × (s.crash ≡ true) × (s.shared.children ≡ [])
    × (limits.restart_after_crash ≡ false)
MayEnd limits ending.StartupFailed s =
    (s.phase ≡ phase.Starting) × (s.shared.noticed ≡ None) × (count_of is_startup_child s.shared.children ≡ 0)

-- no child is left that could change anything, but for the checkpointer
abbrev pub BackendsAreGone : List Child → Type 0
BackendsAreGone cs =
    (count_of is_session cs ≡ 0) × (count_of is_startup_child cs ≡ 0) × (count_of is_writer cs ≡ 0)

-- where the phase alone moves on
abbrev pub MayMove : Phase → Supervisor → Type 0
MayMove phase.Starting s = s.phase ≡ phase.Init
MayMove phase.Stopping s =
    (s.phase ≡ phase.Draining) × (is_some s.request ≡ true) × (count_of is_session s.shared.children ≡ 0)
MayMove phase.Checkpointing s =
    (s.phase ≡ phase.Stopping) × (s.crash ≡ false) × (is_some s.request ≡ true) × (is_immediate s.request ≡ false)
    × BackendsAreGone s.shared.children
MayMove phase.Clearing s =
    (s.phase ≡ phase.Stopping) × (s.crash || is_immediate s.request ≡ true) × BackendsAreGone s.shared.children
    × (count_of is_checkpointer s.shared.children ≡ 0)
MayMove phase.Clear s = (s.phase ≡ phase.Clearing) × (s.shared.children ≡ [])
MayMove _ s = ⊥

-- where redo may end: the startup child's work is under way, and a shutdown that was asked for may wait for it
abbrev pub is_redoing : Bool → Phase → Bool
is_redoing opens phase.Starting = true
is_redoing false phase.Stopping = true
is_redoing _ _ = false

abbrev pub is_ended : Phase → Bool
is_ended phase.Ended = true
is_ended _ = false

abbrev pub RestAllows : Limits → Supervisor → SupervisorEvent → Type 0
RestAllows limits s (Accept pid decision) = (accepts s.phase ≡ true) × (decision ≡ admission limits s)
RestAllows limits s (Start pid kind) = MayStart kind s
RestAllows limits s (Attach pid reserve) = IsReserve limits.reserved reserve
RestAllows limits s (Notice why) = MayNotice why s
RestAllows limits s (Ask mode) = strengthen_of s.request mode ≡ Some mode
RestAllows limits s Checkpointed = s.phase ≡ phase.Checkpointing
RestAllows limits s (RedoEnded opens) = (opens ≡ is_none s.request) × (is_redoing opens s.phase ≡ true)
RestAllows limits s Reset =
    (s.phase ≡ phase.Clear) × (s.crash ≡ true) × (s.request ≡ None) × (limits.restart_after_crash ≡ true)
RestAllows limits s (End how) = MayEnd limits how s
RestAllows limits s (Move to) = MayMove to s
RestAllows limits s _ = Unit {0}

-- an event may happen: none once the supervisor has ended
pub record MayHappen (limits : Limits) (h : Trace) (event : SupervisorEvent) : Type 0 where
  pub goes_on : is_ended h.now.phase ≡ false
  pub rest : RestAllows limits h.now event
  pub shared : SharedAllows limits h.past h.now.shared event

-- whole runs

abbrev pub empty_trace : Trace
empty_trace = record { now = first; past = [] }

-- the moments, with one more
abbrev pub with_event : List PastEvent → Shared → SupervisorEvent → List PastEvent
with_event past s event = record { event = event; left = shared_after s event } ∷ past

abbrev pub happened : Trace → SupervisorEvent → Trace
happened h event = record { now = after h.now event; past = with_event h.past h.now.shared event }

-- all of them, one after the other
abbrev pub all_happened : Trace → List SupervisorEvent → Trace
all_happened h [] = h
all_happened h (event ∷ events) = all_happened (happened h event) events

-- each of them may happen when it does
abbrev pub IsRun : Limits → Trace → List SupervisorEvent → Type 0
IsRun limits h [] = Unit {0}
IsRun limits h (event ∷ events) = MayHappen limits h event × IsRun limits (happened h event) events
