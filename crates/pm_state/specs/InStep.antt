-- A server: its journal, its machine and the supervisor that the machine shows.
use Rattle.std.specs.Prelude.{◌≡◌, ℕ, ◌+◌, Bool, true, false, List, [], ◌∷◌}
use Rattle.pm_supervisor.specs.{declared.Limits.Limits, Between.detached, Steps.{Trace, IsRun, all_happened}}
use Rattle.pm_state.specs.{declared.{action.Action.Action, machine.Machine.Machine}, Shows.{Call, Accepts, Starts, Exits, Asks, Ticks, TakesTurn, events_of_call, events_in}, Facts.{Holds, NothingDue}, Journal.{Replay, Agrees, AreLegal, AsksSmart, IsMoment, acts_of_call, all_replayed, entries_of_call, machine_with_reports, settled}}
use Rattle.pm_state.specs.declared.action.Action.TheVariants as act
use Rattle.pm_state.specs.declared.event.PmEvent.TheVariants as entry

-- what the journal leaves, the machine, and the supervisor with its past
pub record ServerState : Type 0 where
  pub replay : Replay
  pub machine : Machine
  pub trace : Trace

abbrev pub server_state : Replay → Machine → Trace → ServerState
server_state r m h = record { replay = r; machine = m; trace = h }

-- what the journal leaves is the machine, and but for who is attached what the supervisor shares
pub record IsInStep (limits : Limits) (p : ServerState) : Type 0 where
  pub agrees : Agrees p.replay p.machine
  pub shown : p.replay.shown ≡ detached p.trace.now.shared
  pub holds : Holds limits p.machine p.trace
  -- each start that was asked for is reported
  pub reported : NothingDue p.machine

-- the reports of the starts among the acts: pids rise by one
abbrev pub reports_of : ℕ → List Action → List Call
reports_of last [] = []
reports_of last (act.Start kind ∷ acts) = Starts (last + 1) kind ∷ reports_of (last + 1) acts
reports_of last (_ ∷ acts) = reports_of last acts

-- a call, and the reports of the starts that it asks for
abbrev pub with_reports : ServerState → Call → List Call
with_reports p call =
    call ∷ reports_of (all_happened p.trace (events_of_call p.machine call)).now.shared.last_pid (acts_of_call p.machine call)

-- after a call whose acts are done and noted, and whose starts are reported
abbrev pub behind_call : ℕ → ServerState → Call → ServerState
behind_call kept p call =
    record {
      replay = all_replayed p.replay (entries_of_call kept p.replay p.machine call);
      machine = machine_with_reports p.machine call;
      trace = all_happened p.trace (events_in p.machine (with_reports p call));
    }

-- when a server makes a call that it may make: pids rise by one, moments never fall, an accept comes right after a turn, and
-- after the last pid a smart shutdown is asked for
abbrev pub IsTimely : (ℕ → Bool) → Replay → Machine → Call → Type 0
IsTimely gives r m (Accepts pid) = (r.asks_smart ≡ false) × (settled m ≡ m) × (pid ≡ r.shown.last_pid + 1)
IsTimely gives r m (Exits pid kind status was_active now) = (r.asks_smart ≡ false) × IsMoment gives r now
IsTimely gives r m (Asks mode now) = (r.asks_smart ≡ true → AsksSmart (entry.Asked mode now)) × IsMoment gives r now
IsTimely gives r m (Ticks now) = (r.asks_smart ≡ false) × IsMoment gives r now
IsTimely gives r m TakesTurn = r.asks_smart ≡ false
IsTimely gives r m _ = ⊥

-- what the call writes is legal, the call and the reports are a run of the supervisor, and after them all are in step again
pub record KeepsStep (gives : ℕ → Bool) (limits : Limits) (kept : ℕ) (p : ServerState) (call : Call) : Type 0 where
  pub legal : AreLegal gives p.replay (entries_of_call kept p.replay p.machine call)
  pub run : IsRun limits p.trace (events_in p.machine (with_reports p call))
  pub in_step : IsInStep limits (behind_call kept p call)
