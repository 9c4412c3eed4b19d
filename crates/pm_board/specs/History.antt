-- The board shows the end of a run of the supervisor's events, from the first day, and what each seat did is its part of it.
use Rattle.std.specs.{Prelude.{◌≡◌, ℕ, ◌<◌, Bool, true, false, ◌==◌, if◌then◌else◌, List, [], ◌∷◌, ◌++◌, map, Option, Some, None, length, slice_index_or}, List.flat_map}
use Rattle.atomic_table.specs.Table.{State}
use Rattle.pm_supervisor.specs.{pm_exit.declared.child.Kind.Kind, Children.{Child, child_of, without}, Supervisor.{Shared, first}, Shared.{SharedEvent, IsReserve, Join, Attach, Touch, Detach, Leave, Notice, Open, Reset, Allows, after_shared}}
use Rattle.pm_board_words.specs.declared.views.{SessionLimit.SessionLimit, Offer.Offer, PastChild.PastChild, RosterStep.RosterStep, PostStep.PostStep, RosterView.RosterView, Work.{Work, TheVariants.{Idle, Sees, Inactive, Active, Refused, Attached}}, PostView.PostView, View.View}
use Rattle.pm_board.specs.{Slots.child_slots, Gate.{Gate, GateOk, first_gate, gate_of, gate_of_steps}, Latches.Latches, Seats.Seats, Rule.{Phase, unused, opened, offered, running, ended, collected, gathered, Cell, Holds}}
use Rattle.pm_board_words.specs.declared.views.Letter as Letter
use Rattle.pm_board_words.specs.declared.views.RosterStep.TheVariants as step
use Rattle.pm_board_words.specs.declared.views.PostStep.TheVariants as post_step

-- an event, and the slot whose word it was made on
pub record Entry : Type 0 where
  pub event : SharedEvent
  pub slot : ℕ

-- where an event attaches a child, the places that it keeps from it are none, or those that are reserved
abbrev pub KeepsPlaces : SessionLimit → SharedEvent → Type 0
KeepsPlaces limit (Attach pid reserve) = IsReserve limit.reserved reserve
KeepsPlaces limit _ = Unit {0}

-- these events may happen one after the other, and leave this, where so many sessions may be attached
pub data Run (limit : SessionLimit) : List Entry → Shared → Type 0 where
  begins : Run limit [] first.shared
  goes_on :
      (log : List Entry) (s : Shared) (e : Entry) → Run limit log s → Allows limit.most s e.event → KeepsPlaces limit e.event
      → Run limit (log ++ e ∷ []) (after_shared s e.event)

-- the events that the supervisor makes, in order
abbrev pub supervisor_event : SharedEvent → List SharedEvent
supervisor_event (Join pid kind) = Join pid kind ∷ []
supervisor_event (Notice why) = Notice why ∷ []
supervisor_event Open = Open ∷ []
supervisor_event Reset = Reset ∷ []
supervisor_event (Attach pid reserve) = []
supervisor_event (Touch pid) = []
supervisor_event (Detach pid) = []
supervisor_event (Leave pid kind) = []

abbrev pub supervisor_in : Entry → List SharedEvent
supervisor_in e = supervisor_event e.event

abbrev pub of_supervisor : List Entry → List SharedEvent
of_supervisor log = flat_map supervisor_in log

-- and those of the worker of the slot k
abbrev pub worker_event : SharedEvent → List SharedEvent
worker_event (Attach pid reserve) = Attach pid reserve ∷ []
worker_event (Touch pid) = Touch pid ∷ []
worker_event (Detach pid) = Detach pid ∷ []
worker_event (Leave pid kind) = Leave pid kind ∷ []
worker_event (Join pid kind) = []
worker_event (Notice why) = []
worker_event Open = []
worker_event Reset = []

abbrev pub worker_in : ℕ → Entry → List SharedEvent
worker_in k e = if e.slot == k then worker_event e.event else []

abbrev pub of_worker : ℕ → List Entry → List SharedEvent
of_worker k log = flat_map (worker_in k) log

-- pid and kind of the children that left the slot k, in order
abbrev pub leave_of : SharedEvent → List (ℕ × Kind)
leave_of (Leave pid kind) = (pid, kind) ∷ []
leave_of _ = []

abbrev pub leave_in : ℕ → Entry → List (ℕ × Kind)
leave_in k e = if e.slot == k then leave_of e.event else []

abbrev pub left : ℕ → List Entry → List (ℕ × Kind)
left k log = flat_map (leave_in k) log

-- the event that a step of the supervisor is, if it is one
abbrev pub event_of : RosterStep → List SharedEvent
event_of (step.Assign slot pid kind generation) = Join pid kind ∷ []
event_of (step.Quit why generation) = Notice why ∷ []
event_of (step.Ready generation) = Open ∷ []
event_of (step.Reset generation) = Reset ∷ []
event_of (step.Release pid kind generation) = []
event_of (step.Send slot pid kind signal generation) = []

abbrev pub events_of : List RosterStep → List SharedEvent
events_of steps = flat_map event_of steps

-- and that of a worker
abbrev pub worker_step : PostStep → SharedEvent
worker_step (post_step.Attach pid reserve) = Attach pid reserve
worker_step (post_step.Detach pid) = Detach pid
worker_step (post_step.Exit pid kind) = Leave pid kind

-- the supervisor's own steps are its part of the history, and leave the gate as it is
pub record OwnSteps (log : List Entry) (steps : List RosterStep) (gate : Gate) : Type 0 where
  pub made : of_supervisor log ≡ events_of steps
  pub leave : gate_of_steps first_gate steps ≡ gate

module _ {D : Type 0} where
  abbrev pub pid_and_kind : PastChild D → ℕ × Kind
  pid_and_kind x = (x.offer.pid, x.offer.kind)

  -- the pid of a child that lives in a slot that stands there, or 0
  abbrev pub living : Phase D → ℕ
  living (offered o) = o.pid
  living (running o active) = o.pid
  living unused = 0
  living (opened q) = 0
  living (ended o status active back) = 0
  living (collected o status active) = 0
  living gathered = 0

  abbrev pub is_attached : Work D → Bool
  is_attached (Attached o g) = true
  is_attached Idle = false
  is_attached (Sees word) = false
  is_attached (Inactive o) = false
  is_attached (Active o) = false
  is_attached (Refused o g) = false

  abbrev pub shown_child : Offer D → Bool → Child
  shown_child o attached = record { pid = o.pid; kind = o.kind; generation = o.generation; attached = attached }

  -- the child of a slot is among the supervisor's
  abbrev pub ShowsChild : List Child → Phase D → Work D → Type 0
  ShowsChild cs (offered o) w = child_of o.pid cs ≡ Some (shown_child o false)
  ShowsChild cs (running o active) w = child_of o.pid cs ≡ Some (shown_child o (is_attached w))
  ShowsChild cs unused w = Unit {0}
  ShowsChild cs (opened q) w = Unit {0}
  ShowsChild cs (ended o status active back) w = Unit {0}
  ShowsChild cs (collected o status active) w = Unit {0}
  ShowsChild cs gathered w = Unit {0}

  -- words and views show this: the children are those that are offered or run, each once
  pub record Shows (s : Shared) (d : RosterView D) (cells : ℕ → Cell D) (count : ℕ) : Type 0 where
    pub generation : s.generation ≡ d.generation
    pub is_open : s.is_open ≡ d.is_open
    pub noticed : s.noticed ≡ d.noticed
    pub last_pid : s.last_pid ≡ d.notes.last_pid
    pub each : (k : ℕ) → k < count → ShowsChild s.children (cells k).phase (cells k).post.work
    pub no_other : (pid : ℕ) (c : Child) → child_of pid s.children ≡ Some c → (k : ℕ) × (k < count) × (living (cells k).phase ≡ pid) × (0 < pid)
    pub once : (pid : ℕ) → child_of pid (without pid s.children) ≡ None

  -- a worker's own steps, and the ends of its children, are its part of the history
  pub record OwnPart (log : List Entry) (k : ℕ) (post : PostView D) : Type 0 where
    pub made : of_worker k log ≡ map worker_step post.notes.steps
    pub ends : left k log ≡ map pid_and_kind post.past

  abbrev pub OwnParts : List Entry → (ℕ → Cell D) → ℕ → Type 0
  OwnParts log cells count = (k : ℕ) → k < count → OwnPart log k (cells k).post

  abbrev pub History : SessionLimit → RosterView D → (ℕ → Cell D) → ℕ → Type 0
  History limit d cells count =
      (log : List Entry) × (s : Shared) × Run limit log s × Shows s d cells count × OwnSteps log d.notes.steps (gate_of d) × OwnParts log cells count

module _ {J D : Type 0} (letter : Letter.Ghosts J D) (limit : SessionLimit) where
  -- what holds between any two steps, where so many sessions may be attached
  abbrev pub Kept : State (Option J) (View D) → Type 0
  Kept s =
      (master : ℕ) × (d : RosterView D) × (cells : ℕ → Cell D) × Holds letter master d cells s
      × GateOk limit (child_slots (length s.homes)) (slice_index_or s.words (child_slots (length s.homes)) 0) (gate_of d) cells
      × History limit d cells (child_slots (length s.homes)) × Latches (child_slots (length s.homes)) s.words d cells × Seats s.views d cells
