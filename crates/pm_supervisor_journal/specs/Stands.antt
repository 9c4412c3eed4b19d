-- What holds of a supervisor at work at every moment.
use Rattle.std.specs.Prelude.{◌≡◌, ℕ, ◌+◌, ◌<◌, ◌≤◌, Bool, true, false, ◌||◌, if◌then◌else◌, List, ◌∷◌, Option, IfSome, is_some}
use Rattle.pm_state.specs.{pm_exit.declared.child.Kind.Kind, pm_modes.Strength.is_immediate, pm_admit.declared.PmState.PmState, pm_supervisor.{declared.Limits.Limits, Steps.{SupervisorEvent, Trace, IsRun, all_happened, empty_trace}}, declared.{event.PmEvent.PmEvent, machine.Machine.Machine}, Shows.{Call, events_of_call, events_in}, Starts.{Owes, has_end, starts_in}, Journal.{Replay, IsLegal, AreLegal, acts_of_call, all_replayed, all_reported, dues, entries_of, last_pid, replay_begun, settled}, InStep.{IsInStep, reports_of}}
use Rattle.pm_state.specs.pm_admit.declared.PmState.TheVariants as state
use Rattle.pm_supervisor_journal.specs.{Roll.roll_of, Standing.Standing}

-- every moment may stand in the journal
abbrev pub any_moment : ℕ → Bool
any_moment at = true

-- what is remembered is what the entries leave
pub record Remembers (s : Standing) (r : Replay) : Type 0 where
  pub children : s.children ≡ roll_of r.shown.children
  pub last_pid : s.last_pid ≡ r.shown.last_pid
  pub generation : s.generation ≡ r.shown.generation
  pub moment : s.moment ≡ r.moment
  pub owes_smart : s.owes_smart ≡ r.asks_smart

-- the entries of the acts that are due
abbrev pub entries_due : Standing → Replay → List PmEvent
entries_due s r = entries_of 0 s.called_at r (dues s.due)

-- the acts that are due may come next, and after them journal, machine and supervisor are in step
pub record IsComing (limits : Limits) (s : Standing) (r : Replay) (h : Trace) : Type 0 where
  pub legal : AreLegal any_moment r (entries_due s r)
  pub in_step :
      IsInStep limits (record { replay = all_replayed r (entries_due s r); machine = all_reported s.due s.machine; trace = h })
  pub owes : Owes s.due s.machine
  pub ended : (s.ended || has_end s.due) ≡ s.machine.ended

-- pids

abbrev pub any_kind : Kind → Bool
any_kind kind = true

-- once a shutdown was asked for, so many children may still be started besides those that are due
abbrev pub starts_left_in : PmState → Bool → ℕ
starts_left_in state.Init crashed = 2
starts_left_in state.Startup crashed = 1
starts_left_in state.Run crashed = 1
starts_left_in state.StopBackends crashed = 1
starts_left_in state.WaitBackends crashed = if crashed then 0 else 1
starts_left_in _ crashed = 0

abbrev pub starts_left : Machine → ℕ
starts_left m = starts_left_in m.state (m.fatal || is_immediate m.shutdown)

-- no pid is above this one: after the last pid a few children are still started
abbrev pub highest_pid : ℕ
highest_pid = last_pid + 6

-- pids are left for all children that may still be started
pub record HasPids (s : Standing) : Type 0 where
  -- a smart shutdown is owed only after the last pid
  pub owed : s.owes_smart ≡ true → last_pid ≤ s.last_pid
  pub not_asked : is_some s.machine.shutdown ≡ false → s.owes_smart ≡ false → s.last_pid < last_pid
  pub few : is_some s.machine.shutdown ≡ false → s.last_pid + starts_in any_kind s.due ≤ last_pid + 4
  pub asked : is_some s.machine.shutdown ≡ true → s.last_pid + (starts_in any_kind s.due + starts_left s.machine) ≤ highest_pid

-- this supervisor's past is a run from its start
pub record HasRun (limits : Limits) (h : Trace) : Type 0 where
  pub events : List SupervisorEvent
  pub run : IsRun limits empty_trace events
  pub leaves : h ≡ all_happened empty_trace events

-- the supervisor at work stands where its journal, told or not, and this supervisor with its past do
pub record Stands (limits : Limits) (told : Option (List PmEvent)) (s : Standing) (h : Trace) : Type 0 where
  pub journal : List PmEvent
  pub told_is : IfSome told (λ entries. entries ≡ journal)
  pub legal : IsLegal limits any_moment journal
  pub remembers : Remembers s (all_replayed (replay_begun limits) journal)
  pub coming : IsComing limits s (all_replayed (replay_begun limits) journal) h
  pub past : HasRun limits h
  pub pids : HasPids s

-- the supervisor after a call and the starts that it asks for
abbrev pub behind : Machine → Call → Trace → Trace
behind m call h =
    let called : Trace = all_happened h (events_of_call m call) in
    all_happened h (events_in m (call ∷ reports_of called.now.shared.last_pid (acts_of_call m call)))

-- a supervisor at work: what its journal tells, and where it stands
pub record AtWork : Type 0 where
  pub told : Option (List PmEvent)
  pub standing : Standing

-- it has come to where it stands from its start
abbrev pub HasPast : AtWork → Type 0
HasPast work = (limits : Limits) × (h : Trace) × Stands limits work.told work.standing h

-- whatever its past was, it goes on with this call
abbrev pub GoesOnBy : Call → AtWork → AtWork → Type 0
GoesOnBy call before now =
    (limits : Limits) (h : Trace) → Stands limits before.told before.standing h
    → Stands limits now.told now.standing (behind before.standing.machine call h)

-- and here with no call of the machine
abbrev pub GoesOn : AtWork → AtWork → Type 0
GoesOn before now = (limits : Limits) (h : Trace) → Stands limits before.told before.standing h → Stands limits now.told now.standing h

-- after the acts that are due no move that leaves no entry waits, so that a connection may be accepted
abbrev pub IsSettled : Standing → Type 0
IsSettled s = settled (all_reported s.due s.machine) ≡ all_reported s.due s.machine
