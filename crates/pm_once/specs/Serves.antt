-- What a server serves: connections, one after another.
use Rattle.std.specs.Prelude.{◌≡◌, ◌⊎◌, ℕ, ◌+◌, ◌≤◌, Bool, true, false, if◌then◌else◌, List, [], ◌∷◌, length, map, All, Option, option_map, Result, Err, IfErr, IfSome, OnOk}
use Rattle.pm_server.specs.pm_admit.declared.Cac.TheVariants as decisions
use Rattle.pm_keys.specs.CancelKey.{cancel_key}
use Rattle.pm_server.specs.{pm_outside.Visits.Visits, pm_supervisor_journal.{declared.supervision.Taken.Taken, Due.{IsIdle, is_last_drawn}}, Journal.{accepted_in, asked_in}, declared.end.ServerEnd.{ServerEnd, TheVariants.NoMemory}}
use Rattle.pm_once_acts.specs.{pm_supervisor_chain.Steps.{Step, journal_of}, Steps.sessions_in}
use Rattle.pm_once.specs.{Goes.{Goes, IsEndOf, StaysOpen}, Service.{Connection, IsServedAs, run_of, with_connections, with_end}, View.View}

-- it was accepted, and not refused
abbrev pub taken_for : Connection → Taken
taken_for connection = record { pid = connection.pid; decision = decisions.Ok }

-- the port gave these links, which came back, and then its end, if it did
abbrev pub passed : List Connection → Bool → Visits → Visits
passed connections ended visits = if ended then with_end (with_connections connections visits) else with_connections connections visits

-- its session is told by the link's bytes and by what was noted, under the key of its pid
abbrev pub IsServed : (seed : List ℕ) → (limit : ℕ) → (gives : ℕ → Type 0) → Connection → Type 0
IsServed seed limit gives connection = IsServedAs (cancel_key seed connection.pid) limit gives connection

-- their links have the numbers after this one, in order
abbrev pub AreNumbered : ℕ → List Connection → Type 0
AreNumbered last [] = Unit {0}
AreNumbered last (connection ∷ connections) = (connection.given.number ≡ last + 1) × AreNumbered (last + 1) connections

-- The connections in their order: the n-th link is that of the n-th connection accepted, and its child's run is the n-th of
-- a session.
pub record HasServed (seed : List ℕ) (limit : ℕ) (gives : ℕ → Type 0) (connections : List Connection) (ended : Bool) (steps : List Step) (before now : Option Visits) : Type 0 where
  pub visits : now ≡ option_map (passed connections ended) before
  pub numbers : IfSome before (λ visits. AreNumbered (length visits.given) connections)
  pub each : All (IsServed seed limit gives) connections
  pub accepted : accepted_in (journal_of steps) ≡ map taken_for connections
  pub sessions : sessions_in steps ≡ map run_of connections

-- A call of a server that may serve connections: these steps more.
pub record Serves (gives : ℕ → Type 0) (result : Result (Unit {0}) ServerEnd) (connections : List Connection) (ended : Bool) (steps : List Step) (before now : View) : Type 0 where
  pub goes : Goes gives steps before now
  pub stays : OnOk result (StaysOpen steps before now)
  pub ends : IfErr result (λ end. IsEndOf end steps now)
  pub idle : OnOk result (IsIdle now.work.standing)
  -- links are served only where they are asked for, and they are asked for until the port's end, or after the last pid
  pub deaf : before.listens ≡ false → (now.listens ≡ false) × (connections ≡ []) × (ended ≡ false)
  pub at_end : ended ≡ true → now.listens ≡ false
  -- after the port's end a shutdown was asked for, unless memory was short
  pub asked : ended ≡ true → (1 ≤ length (asked_in (journal_of steps))) ⊎ (result ≡ Err NoMemory)
  pub drawn : is_last_drawn before.work.standing.last_pid ≡ true → is_last_drawn now.work.standing.last_pid ≡ true
  pub why : now.listens ≡ false → (before.listens ≡ false) ⊎ ((ended ≡ true) ⊎ (is_last_drawn now.work.standing.last_pid ≡ true))
