-- The supervisor's journal: what its entries so far leave, and which entry may follow them.
use Rattle.std.specs.Prelude.{◌≡◌, ℕ, ◌+◌, ◌≤◌, Bool, true, false, ◌==◌, ◌&&◌, ◌||◌, if◌then◌else◌, List, [], ◌∷◌, ◌++◌, map, None, Some, is_none, IsSomeAnd}
use Rattle.pm_supervisor.specs.{pm_exit.{declared.child.{Status.Status, Kind.Kind}, Ends.is_exit_0}, pm_modes.Strength.{is_immediate, strengthen_of}, pm_admit.{declared.PmState.PmState, Admission.decide_of}, declared.Limits.Limits, Children.{is_startup_child, child_of, without}, Supervisor.{Shared, first_shared}, Shared.{reopened, with_child}, Steps.kind_for}
use Rattle.pm_supervisor.specs.pm_modes.declared.Mode.TheVariants as mode
use Rattle.pm_supervisor.specs.pm_admit.declared.PmState.TheVariants as state
use Rattle.pm_state.specs.{declared.{action.{Action.Action, Line.Line}, event.PmEvent.PmEvent, machine.Machine.Machine}, Transition.{Transition, transition}, Exits.exited_by, Requests.{asked_with, ticked_at}, TurnRules.{start_recovery, restart_writer, end_smart, stop_backends, backends_gone, dead_ends_gone, children_gone}, Machine.{Accepted, Exited, Asked, Ticked, Turned, step, accepted_as, begun, view_of, started_as, MayAccept, IsCounted}, Shows.{Call, Accepts, Exits, Asks, Ticks, TakesTurn, machine_after}}
use Rattle.pm_state.specs.declared.action.Action.TheVariants as act
use Rattle.pm_state.specs.declared.event.PmEvent.TheVariants as entry

-- what has to follow at once
pub data Due : Type 0 where
  Do : (action : Action) → Due
  EndRedo : Due

-- what the entries so far leave
pub record Replay : Type 0 where
  pub machine : Machine
  -- the children, the generation and the last pid. That a child attaches isn't in the journal
  pub shown : Shared
  pub due : List Due
  -- the last pid was given, and the shutdown that it asks for isn't noted yet
  pub asks_smart : Bool
  -- the moment of the last entry that has one
  pub moment : ℕ

abbrev pub last_pid : ℕ
last_pid = 2147480000

abbrev pub replay_begun : Limits → Replay
replay_begun limits =
    record { machine = begun limits; shown = first_shared; due = []; asks_smart = false; moment = 0 }

-- the moves that leave no entry, once their condition holds: after a crash or an immediate request, when the sessions and
-- the background children are gone; and when no child is left

abbrev pub cleared : Machine → Machine
cleared m = if m.fatal || is_immediate m.shutdown then (backends_gone m).after else m

unfoldable pub settled : Machine → Machine
settled m = (dead_ends_gone (cleared m)).after

-- the row of a turn that has acts in this state. The end of a smart shutdown's wait is told of by what it sends
abbrev pub row_in : PmState → Machine → Transition
row_in state.Init m = start_recovery m
row_in state.Run m = if m.conns then restart_writer m else stop_backends (end_smart m).after
row_in state.StopBackends m = stop_backends m
row_in state.WaitBackends m = backends_gone m
row_in state.NoChildren m = children_gone m
row_in _ m = transition [] m

unfoldable pub row_of : Machine → Transition
row_of m = row_in m.state m

-- what an entry leaves

-- what the machine does where this entry is no act that is due
abbrev pub caused : Machine → PmEvent → Transition
caused m (entry.Accepted pid decision) = transition [] (accepted_as (decide_of (view_of m)) m)
caused m (entry.Exited pid kind status was_active at) =
    exited_by kind m (record { pid = pid; kind = kind; status = status; now = at }) was_active
caused m (entry.Asked mode at) = asked_with (strengthen_of m.shutdown mode) m at
caused m (entry.KillAsked pid) = transition [] m
caused m (entry.KillSent at) = ticked_at m.abort_at m at
caused m _ = row_of m

abbrev pub dues : List Action → List Due
dues actions = map Do actions

abbrev pub without_first : List Action → List Action
without_first [] = []
without_first (action ∷ actions) = actions

-- the end of redo follows its child's end
abbrev pub redo_dues : Kind → Status → List Due
redo_dues kind status = if is_startup_child kind && is_exit_0 status then EndRedo ∷ [] else []

abbrev pub dues_after : Machine → PmEvent → List Due
dues_after m (entry.Accepted pid decision) = []
dues_after m (entry.Exited pid kind status was_active at) =
    redo_dues kind status ++ dues (caused m (entry.Exited pid kind status was_active at)).acts
dues_after m (entry.Asked mode at) = dues (caused m (entry.Asked mode at)).acts
dues_after m (entry.KillAsked pid) = []
dues_after m (entry.KillSent at) = []
dues_after m _ = dues (without_first (row_of m).acts)

abbrev pub machine_by : List Due → Machine → PmEvent → Machine
machine_by [] m e = (caused m e).after
machine_by (d ∷ ds) m e = m

abbrev pub dues_by : List Due → Machine → PmEvent → List Due
dues_by [] m e = dues_after m e
dues_by (d ∷ ds) m e = ds

-- a start that is done is reported
abbrev pub reported : PmEvent → Machine → Machine
reported (entry.Started pid kind) m = started_as kind m
reported _ m = m

abbrev pub shown_after : Machine → Shared → PmEvent → Shared
shown_after m s (entry.Accepted pid decision) = with_child pid (kind_for decision) s
shown_after m s (entry.Started pid kind) = with_child pid kind s
shown_after m s (entry.Exited pid kind status was_active at) = record s { children = without pid s.children }
shown_after m s (entry.QuitSent why) = record s { noticed = Some why }
shown_after m s (entry.RedoEnded generation kept) = reopened (is_none m.shutdown) s
shown_after m s (entry.Reset generation) = record s { generation = s.generation + 1; is_open = false; noticed = None }
shown_after m s _ = s

abbrev pub asks_after : Bool → PmEvent → Bool
asks_after before (entry.Started pid kind) = before || (pid == last_pid)
asks_after before (entry.Accepted pid decision) = before || (pid == last_pid)
asks_after before (entry.Asked mode at) = false
asks_after before _ = before

abbrev pub moment_after : ℕ → PmEvent → ℕ
moment_after before (entry.Exited pid kind status was_active at) = at
moment_after before (entry.Asked mode at) = at
moment_after before (entry.KillSent at) = at
moment_after before _ = before

abbrev pub replayed : Replay → PmEvent → Replay
replayed r e =
    record {
      machine = settled (reported e (machine_by r.due r.machine e));
      shown = shown_after r.machine r.shown e;
      due = dues_by r.due r.machine e;
      asks_smart = asks_after r.asks_smart e;
      moment = moment_after r.moment e;
    }

-- which entry may follow

-- the entry is this act
abbrev pub Fits : Shared → Due → PmEvent → Type 0
Fits s (Do (act.Start kind)) (entry.Started pid started) = (pid ≡ s.last_pid + 1) × (started ≡ kind)
Fits s (Do (act.Quit why)) (entry.QuitSent reason) = reason ≡ why
Fits s (Do act.Terminate) entry.TerminateSent = Unit {0}
Fits s (Do act.AskCheckpoint) entry.CheckpointAsked = Unit {0}
Fits s (Do act.Ready) (entry.Ready generation) = generation ≡ s.generation
Fits s (Do act.Reset) (entry.Reset generation) = generation ≡ s.generation + 1
Fits s (Do (act.Say line)) (entry.Said written) = written ≡ line
Fits s (Do (act.End how)) (entry.Ended ending) = ending ≡ how
Fits s EndRedo (entry.RedoEnded generation kept) = generation ≡ s.generation
Fits s _ _ = ⊥

abbrev pub FitsFirst : Shared → List Action → PmEvent → Type 0
FitsFirst s [] e = ⊥
FitsFirst s (action ∷ actions) e = Fits s (Do action) e

-- moments never fall, and the clock gives each
abbrev pub IsMoment : (ℕ → Bool) → Replay → ℕ → Type 0
IsMoment gives r at = (r.moment ≤ at) × (gives at ≡ true)

-- an entry where nothing is due
abbrev pub MayCome : (ℕ → Bool) → Replay → PmEvent → Type 0
MayCome gives r (entry.Accepted pid decision) =
    MayAccept r.machine × (pid ≡ r.shown.last_pid + 1) × (decision ≡ decide_of (view_of r.machine))
MayCome gives r (entry.Exited pid kind status was_active at) =
    IsSomeAnd (child_of pid r.shown.children) (λ c. c.kind ≡ kind) × IsMoment gives r at
MayCome gives r (entry.Asked mode at) = IsMoment gives r at
MayCome gives r (entry.KillAsked pid) = IsSomeAnd (child_of pid r.shown.children) (λ c. c.pid ≡ pid)
MayCome gives r (entry.KillSent at) =
    IsMoment gives r at × ((ticked_at r.machine.abort_at r.machine at).acts ≡ act.KillAll ∷ [])
MayCome gives r e = FitsFirst r.shown (row_of r.machine).acts e

abbrev pub AsksSmart : PmEvent → Type 0
AsksSmart (entry.Asked mode.Smart at) = Unit {0}
AsksSmart _ = ⊥

abbrev pub FollowsIn : List Due → (ℕ → Bool) → Replay → PmEvent → Type 0
FollowsIn [] gives r e = (r.machine.ended ≡ false) × (r.asks_smart ≡ true → AsksSmart e) × MayCome gives r e
FollowsIn (d ∷ ds) gives r e = Fits r.shown d e

abbrev pub Follows : (ℕ → Bool) → Replay → PmEvent → Type 0
Follows gives r e = FollowsIn r.due gives r e

-- whole journals

abbrev pub all_replayed : Replay → List PmEvent → Replay
all_replayed r [] = r
all_replayed r (e ∷ es) = all_replayed (replayed r e) es

abbrev pub AreLegal : (ℕ → Bool) → Replay → List PmEvent → Type 0
AreLegal gives r [] = Unit {0}
AreLegal gives r (e ∷ es) = Follows gives r e × AreLegal gives (replayed r e) es

-- a journal from the start of the supervisor, where the clock gives these moments
abbrev pub IsLegal : Limits → (ℕ → Bool) → List PmEvent → Type 0
IsLegal limits gives journal = AreLegal gives (replay_begun limits) journal

-- the lines that a journal tells of
abbrev pub lines_of : List PmEvent → List Line
lines_of [] = []
lines_of (entry.Said line ∷ es) = line ∷ lines_of es
lines_of (_ ∷ es) = lines_of es

-- what the calls write

-- the entry of an act, by what is shown, at this moment, and where redo kept so many commits
abbrev pub entry_of : ℕ → ℕ → Shared → Due → PmEvent
entry_of kept now s EndRedo = entry.RedoEnded s.generation kept
entry_of kept now s (Do (act.Start kind)) = entry.Started (s.last_pid + 1) kind
entry_of kept now s (Do (act.Quit why)) = entry.QuitSent why
entry_of kept now s (Do act.Terminate) = entry.TerminateSent
entry_of kept now s (Do act.KillAll) = entry.KillSent now
entry_of kept now s (Do act.AskCheckpoint) = entry.CheckpointAsked
entry_of kept now s (Do act.Ready) = entry.Ready s.generation
entry_of kept now s (Do act.Reset) = entry.Reset (s.generation + 1)
entry_of kept now s (Do (act.Say line)) = entry.Said line
entry_of kept now s (Do (act.End how)) = entry.Ended how

-- the entries of acts that are done in order
abbrev pub entries_of : ℕ → ℕ → Replay → List Due → List PmEvent
entries_of kept now r [] = []
entries_of kept now r (d ∷ ds) =
    entry_of kept now r.shown d ∷ entries_of kept now (replayed r (entry_of kept now r.shown d)) ds

-- the starts among the acts are reported, as they are done
abbrev pub all_reported : List Action → Machine → Machine
all_reported [] m = m
all_reported (act.Start kind ∷ actions) m = all_reported actions (started_as kind m)
all_reported (_ ∷ actions) m = all_reported actions m

-- the journal and the machine agree: nothing is due, and the moves that leave no entry are those that a turn makes
pub record Agrees (r : Replay) (m : Machine) : Type 0 where
  pub machine : r.machine ≡ settled m
  pub none_due : r.due ≡ []

-- the acts of a call
abbrev pub acts_of_call : Machine → Call → List Action
acts_of_call m (Exits pid kind status was_active now) = (step m (Exited pid kind status was_active now)).acts
acts_of_call m (Asks mode now) = (step m (Asked mode now)).acts
acts_of_call m (Ticks now) = (step m (Ticked now)).acts
acts_of_call m TakesTurn = (step m Turned).acts
acts_of_call m _ = []

-- the entries of a call whose acts are done at once, in order
abbrev pub entries_of_call : ℕ → Replay → Machine → Call → List PmEvent
entries_of_call kept r m (Accepts pid) = entry.Accepted pid (decide_of (view_of m)) ∷ []
entries_of_call kept r m (Exits pid kind status was_active now) =
    let e : PmEvent = entry.Exited pid kind status was_active now in
    e ∷ entries_of kept now (replayed r e) (redo_dues kind status ++ dues (acts_of_call m (Exits pid kind status was_active now)))
entries_of_call kept r m (Asks mode now) =
    let e : PmEvent = entry.Asked mode now in
    e ∷ entries_of kept now (replayed r e) (dues (acts_of_call m (Asks mode now)))
entries_of_call kept r m (Ticks now) = entries_of kept now r (dues (acts_of_call m (Ticks now)))
entries_of_call kept r m TakesTurn = entries_of kept 0 r (dues (acts_of_call m TakesTurn))
entries_of_call kept r m _ = []

-- the machine after a call, and the reports of the starts that it asks for
abbrev pub machine_with_reports : Machine → Call → Machine
machine_with_reports m call = all_reported (acts_of_call m call) (machine_after m call)

-- where a server makes a call and journals it: pids rise by one, moments never fall, an accept comes right after a turn, and
-- after the last pid a smart shutdown is asked for
abbrev pub MayWrite : (ℕ → Bool) → Replay → Machine → Call → Type 0
MayWrite gives r m (Accepts pid) =
    (r.asks_smart ≡ false) × (MayAccept m × (settled m ≡ m) × (pid ≡ r.shown.last_pid + 1))
MayWrite gives r m (Exits pid kind status was_active now) =
    (r.asks_smart ≡ false)
    × (IsCounted m kind × IsSomeAnd (child_of pid r.shown.children) (λ c. c.kind ≡ kind) × IsMoment gives r now)
MayWrite gives r m (Asks mode now) = (r.asks_smart ≡ true → AsksSmart (entry.Asked mode now)) × IsMoment gives r now
MayWrite gives r m (Ticks now) = (r.asks_smart ≡ false) × IsMoment gives r now
MayWrite gives r m TakesTurn = r.asks_smart ≡ false
MayWrite gives r m _ = ⊥

-- these entries are legal, and after them journal and machine agree
pub record Writes (gives : ℕ → Bool) (r : Replay) (entries : List PmEvent) (m : Machine) : Type 0 where
  pub legal : AreLegal gives r entries
  pub agrees : Agrees (all_replayed r entries) m
