-- The laws, one for each function of `chained.rt`, whose contract it is.
use Rattle.std.specs.{Prelude.{◌≡◌, ℕ, List, [], ◌∷◌, length}, List.AllByRecursion}
use Rattle.pm_supervisor_chain.specs.Steps.{ChildRun}
use Rattle.pm_board.specs.{pm_board_words.declared.views.RosterView.RosterView, pm_supervisor.{declared.Limits.Limits, Steps.Trace}}
use Rattle.pm_supervisor_journal.specs.{pm_state.{declared.machine.Machine.Machine, InStep.{ServerState, IsInStep}, Journal.acts_of_call, Shows.{Call, IsFit}}, Stands.behind, Roll.roll_of}
use Rattle.pm_board_acts.specs.{Acts.{MayDo, gate_by, gate_shown, roll_behind}, Seating.{Move, Reads, Request, asked_by, journal_of}, Standing.{Goes, IsBoardOf, View}, Runs.{AreGatheredRuns, EndsAreRuns, IsOnBoard}}

-- once the posts were taken in, each end that the journal tells of is that of a run
abbrev pub EndsOfTheJournalAreRuns : Type 0 → Type 0
EndsOfTheJournalAreRuns D =
    (count : ℕ) (moves : List Move) (d : RosterView D) (runs : ℕ → List ChildRun) → length d.slots ≡ count
    → IsBoardOf count moves d → AreGatheredRuns runs d → AllByRecursion (IsOnBoard count) moves
    → EndsAreRuns count runs (journal_of count moves)

-- the acts that a call asks for may be done at a gate that is as the supervisor has it, with the supervisor's children
abbrev pub CallsMayBeDone : Type 0
CallsMayBeDone =
    (limits : Limits) (p : ServerState) (call : Call) → IsInStep limits p → IsFit limits p.machine p.trace call
    → MayDo (acts_of_call p.machine call) (gate_shown p.trace.now.shared) (roll_behind call (roll_of p.trace.now.shared.children))

-- a call's acts leave the gate as the supervisor has it after the call
abbrev pub CallsLeaveTheGate : Type 0
CallsLeaveTheGate =
    (m : Machine) (h : Trace) (call : Call)
    → gate_shown (behind m call h).now.shared ≡ gate_by (acts_of_call m call) (gate_shown h.now.shared)

-- a line of the console that asks for nothing, or to kill a child that isn't there, is read, and nothing else happens
abbrev pub LinesMayAskForNothing : Type 0 → Type 0
LinesMayAskForNothing D =
    (v : View D) (line : List ℕ) (asks : Request) (at : ℕ) → asked_by asks at v.seats ≡ []
    → Goes (Reads line asks at ∷ []) v v
