-- When the acts that are due may be done at the board.
use Rattle.std.specs.{Prelude.{◌≡◌, ◌≢◌, ℕ, ◌+◌, ◌<◌, ◌≤◌, Bool, true, false, not, ◌||◌, if◌then◌else◌, List, [], ◌∷◌, Option, None, Some, Result, Ok, length, slice_set}, List.AllByRecursion}
use Rattle.pm_board.specs.{pm_exit.declared.child.Kind.Kind, pm_supervisor.{Children.is_startup_child, Supervisor.Shared}, Gate.Gate, Places.{is_auxiliary, MayAssign, lost, slot_at, used_in}, pm_board_words.{GateWords.MayQuit, declared.views.{RosterStep.RosterStep, RosterView.RosterView}}, Models.{HasAssigned, MayOpen}}
use Rattle.pm_board.specs.pm_exit.declared.child.Kind.TheVariants as kind
use Rattle.pm_state.specs.{pm_modes.Strength.is_immediate, declared.{action.Action.Action, machine.Machine.Machine}, Facts.is_init, Shows.{Call, Exits}, TurnRules.is_not_running}
use Rattle.pm_state.specs.declared.action.Action.TheVariants as action
use Rattle.pm_supervisor_journal.specs.{Roll.without, declared.{act.{Act.Act, GenerationsSpent.GenerationsSpent}, roll.Enrolled.Enrolled}}
use Rattle.pm_board.specs.pm_board_words.declared.views.RosterStep.TheVariants as step
use Rattle.pm_board.specs.pm_board_words.declared.views.Signal.TheVariants as signal
use Rattle.pm_supervisor_journal.specs.declared.act.Act.TheVariants as act
use Rattle.pm_board_acts.specs.{Board.{Shows, after_steps, seats_of}, Seating.sends, declared.audience.Audience.TheVariants.{Everyone, Stoppable, Checkpointer}}

-- no child of this kind is there
abbrev pub NoneIs : Kind → List Enrolled → Type 0
NoneIs kind roll = AllByRecursion (λ c. c.kind ≢ kind) roll

-- The acts may be done one after the other, by a gate that is so and with these children: a kind is started of which no child is
-- there, the gate is opened once and with no startup child, and a generation begins with nobody.
abbrev pub MayDo : List Action → Gate → List Enrolled → Type 0
MayDo [] gate roll = Unit {0}
MayDo (action.Start kind ∷ acts) gate roll =
    (is_auxiliary kind ≡ true) × NoneIs kind roll × ((pid : ℕ) → MayDo acts gate (record { pid = pid; kind = kind } ∷ roll))
MayDo (action.Quit why ∷ acts) gate roll = MayQuit gate.noticed why × MayDo acts (record gate { noticed = Some why }) roll
MayDo (action.Ready ∷ acts) gate roll =
    (gate.is_open ≡ false) × NoneIs kind.Startup roll × MayDo acts (record gate { is_open = true; noticed = None }) roll
MayDo (action.Reset ∷ acts) gate roll =
    (roll ≡ []) × MayDo acts (record { generation = gate.generation + 1; is_open = false; noticed = None }) roll
MayDo (_ ∷ acts) gate roll = MayDo acts gate roll

-- up to a next generation the acts start only children of such kinds
abbrev pub StartOnly : (Kind → Type 0) → List Action → Type 0
StartOnly such [] = Unit {0}
StartOnly such (action.Start kind ∷ acts) = such kind × StartOnly such acts
StartOnly such (action.Reset ∷ acts) = Unit {0}
StartOnly such (_ ∷ acts) = StartOnly such acts

-- a next generation begins among them
abbrev pub renews : List Action → Bool
renews [] = false
renews (action.Reset ∷ acts) = true
renews (_ ∷ acts) = renews acts

-- The machine may still start such a child in the present generation: a startup child only at first, and another only where
-- neither a crash nor an immediate request stands, or after a startup child that is there.
abbrev pub may_start : Kind → Machine → Bool
may_start kind m =
    if is_startup_child kind then is_init m.state
    else not (m.fatal || is_immediate m.shutdown) || not (is_not_running m.startup)

-- what acts leave of the gate
abbrev pub gate_by : List Action → Gate → Gate
gate_by [] gate = gate
gate_by (action.Quit why ∷ acts) gate = gate_by acts (record gate { noticed = Some why })
gate_by (action.Ready ∷ acts) gate = gate_by acts (record gate { is_open = true; noticed = None })
gate_by (action.Reset ∷ acts) gate = gate_by acts (record { generation = gate.generation + 1; is_open = false; noticed = None })
gate_by (_ ∷ acts) gate = gate_by acts gate

-- the gate of what is shared
abbrev pub gate_shown : Shared → Gate
gate_shown s = record { generation = s.generation; is_open = s.is_open; noticed = s.noticed }

-- the slot of a child that serves no connection
abbrev pub slot_of : Kind → ℕ
slot_of kind.Checkpointer = 1
slot_of kind.Writer = 2
slot_of _ = 0

-- the steps of an act that starts no child
abbrev pub steps_for : Act → ℕ → List (Option Enrolled) → List RosterStep
steps_for (act.Quit why) g seats = step.Quit why g ∷ sends Everyone (signal.Quit why) g seats
steps_for act.Terminate g seats = sends Stoppable signal.Terminate g seats
steps_for act.KillAll g seats = sends Everyone signal.Kill g seats
steps_for act.AskCheckpoint g seats = sends Checkpointer signal.Checkpoint g seats
steps_for (act.Ready generation) g seats = step.Ready g ∷ []
steps_for (act.Reset generation) g seats = step.Reset (g + 1) ∷ []
steps_for _ g seats = []

module _ {D : Type 0} where
  -- no auxiliary child of this kind's slot has died attached in the present generation
  abbrev pub HasLostNone : RosterView D → Kind → Type 0
  HasLostNone d kind = is_auxiliary kind ≡ true → lost is_auxiliary d.generation (slot_at d (slot_of kind)).past ≡ 0

  -- In the slot of each kind of which a child is due to be started, or may still be started after the acts that are due,
  -- none has died attached in the present generation.
  pub record StartsAfresh (d : RosterView D) (acts : List Action) (m : Machine) : Type 0 where
    pub due : StartOnly (HasLostNone d) acts
    pub later : (kind : Kind) → renews acts ≡ false → may_start kind m ≡ true → HasLostNone d kind
    -- no child was of a generation that is to come
    pub past : (k : ℕ) → AllByRecursion (λ x. x.offer.generation ≤ d.generation) (slot_at d k).past

  -- the roster sees who sits where
  abbrev pub ShowsNow : RosterView D → List (Option Enrolled) → Type 0
  ShowsNow d seats = Shows d (record { seats = seats; generation = d.generation })

  -- an act may be done at the board
  abbrev pub MayPerform : Act → RosterView D → List (Option Enrolled) → Type 0
  MayPerform (act.Start pid kind) d seats = (is_auxiliary kind ≡ true) × MayAssign d (slot_of kind) pid kind × (slot_of kind < length seats)
  MayPerform (act.Quit why) d seats = MayQuit d.noticed why
  MayPerform (act.Ready generation) d seats = MayOpen d
  MayPerform (act.Reset generation) d seats = (used_in d.slots ≡ 0) × (generation ≡ d.generation + 1)
  MayPerform _ d seats = Unit {0}

  -- it is done
  abbrev pub Performs : Act → (ordered : Kind → D) → RosterView D → List (Option Enrolled) → RosterView D → List (Option Enrolled) → Type 0
  Performs (act.Start pid kind) ordered d seats e seats' =
      HasAssigned (slot_of kind) pid kind (ordered kind) d e × (seats' ≡ slice_set seats (slot_of kind) (Some (record { pid = pid; kind = kind })))
  Performs a ordered d seats e seats' = (e ≡ after_steps d (steps_for a d.generation seats)) × (seats' ≡ seats)

  -- it is done, where there was one
  abbrev pub IsDone : Result (Option Act) GenerationsSpent → (ordered : Kind → D) → RosterView D → RosterView D → Type 0
  IsDone (Ok (Some a)) ordered d e = Performs a ordered d (seats_of d) e (seats_of e)
  IsDone answer ordered d e = e ≡ d

-- the children after a call's own entry
abbrev pub roll_behind : Call → List Enrolled → List Enrolled
roll_behind (Exits pid kind status was_active now) roll = without pid roll
roll_behind _ roll = roll
