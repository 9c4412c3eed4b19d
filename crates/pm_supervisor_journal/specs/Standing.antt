-- Where a supervisor at work stands, and what its calls and acts leave.
use Rattle.std.specs.Prelude.{◌≡◌, ℕ, ◌+◌, ◌<◌, max, Bool, false, ◌==◌, ◌&&◌, ◌||◌, if◌then◌else◌, List, [], ◌∷◌, Option, Some, None, Result, Ok, Err, unwrap_or}
use Rattle.pm_state.specs.{pm_exit.{declared.child.Kind.Kind, Ends.is_exit_0}, pm_modes.declared.Mode.Mode, pm_admit.{declared.Cac.Cac, Admission.decide_of}, pm_supervisor.{declared.Limits.Limits, Children.is_startup_child, Supervisor.{Shared, first}, Steps.kind_for}, declared.{action.Action.Action, event.PmEvent.PmEvent, machine.Machine.Machine}, Machine.{begun, view_of, MayAccept}, Shows.{Call, Accepts, Exits, Asks, Ticks, TakesTurn, machine_after}, Starts.has_end, Journal.{Do, last_pid, acts_of_call, all_reported, asks_after, entry_of, moment_after, without_first}}
use Rattle.pm_state.specs.pm_modes.declared.Mode.TheVariants as mode
use Rattle.pm_state.specs.declared.action.Action.TheVariants as action
use Rattle.pm_state.specs.declared.event.PmEvent.TheVariants as entry
use Rattle.pm_supervisor_journal.specs.{declared.{act.{Act.Act, GenerationsSpent.GenerationsSpent}, exit.ChildExit.ChildExit, memory.Memory.Memory, roll.Enrolled.Enrolled}, Roll.without}
use Rattle.pm_supervisor_journal.specs.declared.act.Act.TheVariants as act

pub record Standing : Type 0 where
  pub machine : Machine
  -- the acts that are due, and the moment of the call that asked for them
  pub due : List Action
  pub called_at : ℕ
  -- what the entries leave: the children, the last pid, the generation, the last moment, and whether a smart shutdown has to
  -- be asked for, since the last pid was drawn
  pub children : List Enrolled
  pub last_pid : ℕ
  pub generation : ℕ
  pub moment : ℕ
  pub owes_smart : Bool
  -- the end was given and noted
  pub ended : Bool

abbrev pub nothing_done : Limits → Standing
nothing_done limits =
    record {
      machine = begun limits;
      due = [];
      called_at = 0;
      children = [];
      last_pid = 0;
      generation = 1;
      moment = 0;
      owes_smart = false;
      ended = false;
    }

-- the standing of what is remembered
abbrev pub standing_of : Memory → Standing
standing_of m =
    record {
      machine = m.core;
      due = m.due.items;
      called_at = m.called_at;
      children = m.roll.children.items;
      last_pid = m.last_pid;
      generation = m.generation;
      moment = m.moment;
      owes_smart = m.owes_smart;
      ended = m.ended;
    }

-- entries

abbrev pub children_after : PmEvent → List Enrolled → List Enrolled
children_after (entry.Started pid kind) cs = record { pid = pid; kind = kind } ∷ cs
children_after (entry.Accepted pid decision) cs = record { pid = pid; kind = kind_for decision } ∷ cs
children_after (entry.Exited pid kind status was_active at) cs = without pid cs
children_after _ cs = cs

abbrev pub last_pid_after : PmEvent → ℕ → ℕ
last_pid_after (entry.Started pid kind) before = pid
last_pid_after (entry.Accepted pid decision) before = pid
last_pid_after _ before = before

abbrev pub generation_after : PmEvent → ℕ → ℕ
generation_after (entry.Reset generation) before = generation
generation_after _ before = before

-- a child was started under this pid
abbrev pub enrolled : ℕ → Kind → Standing → Standing
enrolled pid kind s =
    record s {
      children = record { pid = pid; kind = kind } ∷ s.children;
      last_pid = pid;
      owes_smart = s.owes_smart || (pid == last_pid);
    }

-- an entry is noted
abbrev pub noted : PmEvent → Standing → Standing
noted e s =
    record s {
      children = children_after e s.children;
      last_pid = last_pid_after e s.last_pid;
      generation = generation_after e s.generation;
      moment = moment_after s.moment e;
      owes_smart = asks_after s.owes_smart e;
    }

-- all of them, one after the other
abbrev pub all_noted : List PmEvent → Standing → Standing
all_noted [] s = s
all_noted (e ∷ es) s = all_noted es (noted e s)

-- calls of the machine

-- moments never fall: of two the later one counts
abbrev pub later : ℕ → Standing → ℕ
later at s = max at s.moment

-- the moment of the acts of a call. Those of a turn have none
abbrev pub moment_of : Call → ℕ → ℕ
moment_of (Exits pid kind status was_active now) before = now
moment_of (Asks mode now) before = now
moment_of (Ticks now) before = now
moment_of TakesTurn before = 0
moment_of _ before = before

-- these acts of a call of this moment are due
abbrev pub owing : List Action → ℕ → Standing → Standing
owing acts now s = record s { due = acts; called_at = now }

-- a call of the machine, whose acts are due then
abbrev pub called : Call → Standing → Standing
called call s =
    record s { machine = machine_after s.machine call; due = acts_of_call s.machine call; called_at = moment_of call s.called_at }

-- a call, and the entries that stand before those of its acts
pub record Making : Type 0 where
  pub call : Call
  pub entries : List PmEvent

abbrev pub made : Making → Standing → Standing
made making s = all_noted making.entries (called making.call s)

abbrev pub next_pid : Standing → ℕ
next_pid s = s.last_pid + 1

abbrev pub decision_on : Standing → Cac
decision_on s = decide_of (view_of s.machine)

-- the next connection is accepted
abbrev pub accepting : Standing → Making
accepting s = record { call = Accepts (next_pid s); entries = entry.Accepted (next_pid s) (decision_on s) ∷ [] }

-- a shutdown is asked for
abbrev pub asking : Mode → ℕ → Standing → Making
asking mode at s = record { call = Asks mode (later at s); entries = entry.Asked mode (later at s) ∷ [] }

-- it has become later
abbrev pub ticking : ℕ → Standing → Making
ticking at s = record { call = Ticks (later at s); entries = [] }

-- what the machine does by itself
abbrev pub turning : Making
turning = record { call = TakesTurn; entries = [] }

-- it is asked to kill a child: no call of the machine
abbrev pub kill_entry : ℕ → PmEvent
kill_entry pid = entry.KillAsked pid

abbrev pub killed : ℕ → Standing → Standing
killed pid s = noted (kill_entry pid) s

-- a startup child that ends with code 0 has brought the data up to date
abbrev pub ends_redo : ChildExit → Bool
ends_redo exit = is_startup_child exit.kind && is_exit_0 exit.status

abbrev pub redo_entries : ChildExit → Standing → List PmEvent
redo_entries exit s = if ends_redo exit then entry.RedoEnded s.generation (unwrap_or exit.kept 0) ∷ [] else []

abbrev pub exit_entry : ChildExit → ℕ → PmEvent
exit_entry exit at = entry.Exited exit.pid exit.kind exit.status exit.was_active at

abbrev pub exit_call : ChildExit → ℕ → Call
exit_call exit at = Exits exit.pid exit.kind exit.status exit.was_active at

-- a child has ended
abbrev pub exiting : ChildExit → ℕ → Standing → Making
exiting exit at s =
    record {
      call = exit_call exit (later at s);
      entries = exit_entry exit (later at s) ∷ redo_entries exit s;
    }

-- acts

-- the act, with the numbers that it needs
abbrev pub act_for : Action → Standing → Act
act_for (action.Start kind) s = act.Start (next_pid s) kind
act_for (action.Quit why) s = act.Quit why
act_for action.Terminate s = act.Terminate
act_for action.KillAll s = act.KillAll
act_for action.AskCheckpoint s = act.AskCheckpoint
act_for action.Ready s = act.Ready s.generation
act_for action.Reset s = act.Reset (s.generation + 1)
act_for (action.Say line) s = act.Say line
act_for (action.End how) s = act.End how

-- the numbers of what is shared that entries have
abbrev pub numbers : Standing → Shared
numbers s = record first.shared { generation = s.generation; last_pid = s.last_pid }

abbrev pub entry_for : Action → Standing → PmEvent
entry_for a s = entry_of 0 s.called_at (numbers s) (Do a)

abbrev pub first_due : List Action → Option Action
first_due [] = None
first_due (a ∷ acts) = Some a

-- the first act that is due is done: a start is reported, and the end is remembered
abbrev pub reported : Action → Standing → Standing
reported a s =
    record s { machine = all_reported (a ∷ []) s.machine; due = without_first s.due; ended = s.ended || has_end (a ∷ []) }

-- and noted
abbrev pub done : Action → Standing → Standing
done a s = noted (entry_for a s) (reported a s)

-- what the next act comes to
pub record Next : Type 0 where
  pub answer : Result (Option Act) GenerationsSpent
  pub entries : List PmEvent
  pub after : Standing

-- after this generation there is none
abbrev pub last_generation : ℕ
last_generation = 4294967295

abbrev pub is_spent : Action → Standing → Bool
is_spent action.Reset s = s.generation == last_generation
is_spent _ s = false

abbrev pub next_in : List Action → Standing → Next
next_in [] s = record { answer = Ok None; entries = []; after = s }
next_in (a ∷ rest) s =
    if is_spent a s
    then record { answer = Err (record {}); entries = []; after = s }
    else record { answer = Ok (Some (act_for a s)); entries = entry_for a s ∷ []; after = done a s }

abbrev pub next_of : Standing → Next
next_of s = next_in s.due s

-- when a call may be made

-- nothing is due, and the server goes on
pub record IsAtRest (s : Standing) : Type 0 where
  pub none_due : s.due ≡ []
  pub goes_on : s.ended ≡ false

-- a connection may be accepted: none once the last pid was drawn
pub record MayTake (s : Standing) : Type 0 where
  pub machine : MayAccept s.machine
  pub pids : s.last_pid < last_pid

-- a shutdown may be asked for: a smart one alone, where one is owed
abbrev pub MayAsk : Mode → Standing → Type 0
MayAsk mode.Smart s = Unit {0}
MayAsk _ s = s.owes_smart ≡ false
