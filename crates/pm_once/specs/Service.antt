-- The connections that a server serves, one after another.
use Rattle.std.specs.Prelude.{◌≡◌, ◌≢◌, ℕ, ◌≤◌, Bool, true, false, List, [], ◌∷◌, ◌++◌, length, map, All, None, Some, unwrap_or}
use Rattle.pm_session.specs.pm_admit.declared.Cac.TheVariants as decisions
use Rattle.pm_exit.specs.declared.child.Kind.TheVariants as kinds
use Rattle.pm_exit.specs.declared.child.Status.{Status}
use Rattle.pm_exit.specs.declared.child.Status.TheVariants as statuses
use Rattle.pm_once_lives.specs.pm_child_life.Life.{Child, Told, nothing_told}
use Rattle.pm_session.specs.{pm_outside.{Traffic.IsFresh, Visits.{Visit, Visits}, Added.Added}, pm_query.{Calls.{User, newcomer}, declared.book.BookEntry.BookEntry}, pm_session_exchange.{Exchange.{LinkView, HasFailed}, Sent.{Turn, Cancelled}, declared.ending.Cause.{Cause, TheVariants.{DecisionRefused, GateRefused, Panicked, ToldToTerminate, ToldToQuit, Killed, Overtaken}}}, Session.{Ending, HasAskedFor, HasCancelled, HasCome, HeedsTold, IsAttachedBehind, IsSession, IsCaused, between, status_of}}
use Rattle.pm_supervisor_chain.specs.Steps.{ChildRun}

-- One connection: its child's pid and generation, its link as it was given and as it came back, how its queries were answered,
-- how its session ended, and what was noted of it.
pub record Connection : Type 0 where
  pub pid : ℕ
  pub generation : ℕ
  pub given : LinkView
  pub back : LinkView
  pub turns : List Turn
  pub ending : Ending
  pub noted : List BookEntry

-- ---- its session

-- by what the session of a child ends that nobody refuses, tells anything or overtakes
abbrev pub IsOfItself : Cause → Type 0
IsOfItself DecisionRefused = ⊥
IsOfItself (GateRefused refusal) = ⊥
IsOfItself ToldToTerminate = ⊥
IsOfItself (ToldToQuit reason) = ⊥
IsOfItself Killed = ⊥
IsOfItself Overtaken = ⊥
IsOfItself _ = Unit {0}

-- so it ended, and no query of it was cancelled
pub record IsAlone (connection : Connection) : Type 0 where
  pub cause : IsOfItself connection.ending.cause
  pub exit : connection.ending.exit ≡ connection.ending.cause
  pub uncancelled : All (λ turn. turn ≢ Cancelled) connection.turns

-- the child as a user of the store
abbrev pub user_in : Connection → User
user_in connection = newcomer (Some connection.generation) connection.pid connection.generation

-- A link on which nothing had passed came back after the session of a child with this key, which was admitted into its
-- generation and was given no signal. The session is told by the link's bytes and by what was noted.
pub record IsServedAs (key limit : ℕ) (gives : ℕ → Type 0) (connection : Connection) : Type 0 where
  pub told : Told
  pub fresh : IsFresh connection.given.traffic
  pub same : connection.back.number ≡ connection.given.number
  pub later : connection.given.faults ≤ connection.back.faults
  pub session : IsSession Added decisions.Ok (user_in connection) key connection.turns connection.ending
      (HasFailed connection.given connection.back) (between connection.back.traffic (Some []) (Some connection.noted))
  pub ungiven : told.given ≡ []
  -- it asked for its signals at each turn, has heeded what it was given, and is attached only where it crashed
  pub asked : HasAskedFor connection.turns (Some nothing_told) (Some told)
  pub heeded : HeedsTold (status_of connection.ending) told
  pub child : Child
  pub attached : IsAttachedBehind connection.ending connection.generation child.attached
  pub cancels : HasCancelled connection.ending.cause connection.back.traffic (Some told)
  -- it came to the gate as its client's user
  pub come : HasCome connection.back.traffic (Some told)
  pub caused : IsCaused connection.ending connection.turns connection.generation decisions.Ok connection.back.traffic
      (HasFailed connection.given connection.back) (Some told) limit gives
  pub alone : IsAlone connection

-- its child panicked, since the log can't be written
abbrev pub is_panic : Cause → Bool
is_panic Panicked = true
is_panic _ = false

abbrev pub has_panicked : Connection → Bool
has_panicked connection = is_panic connection.ending.exit

-- a child that was ended by a signal
abbrev pub is_signal : Status → Bool
is_signal (statuses.Code code) = false
is_signal (statuses.Signal number) = true

-- the run of its child
abbrev pub run_of : Connection → ChildRun
run_of connection = record {
  pid = connection.pid;
  kind = kinds.Backend;
  generation = connection.generation;
  noted = connection.noted;
  status = status_of connection.ending;
  was_active = has_panicked connection;
  kept = None;
}

-- ---- all of them

abbrev pub visit_of : Connection → Visit
visit_of connection = record {
  number = connection.back.number;
  traffic = connection.back.traffic;
  faults_given = connection.given.faults;
  faults_back = connection.back.faults;
}

-- the port gave a link that had failed so often
abbrev pub with_link : ℕ → Visits → Visits
with_link faults visits = record visits { given = visits.given ++ faults ∷ [] }

-- the port gave these links, and they came back
abbrev pub with_connections : List Connection → Visits → Visits
with_connections connections visits = record visits {
  given = visits.given ++ map (λ connection. connection.given.faults) connections;
  back = visits.back ++ map visit_of connections;
}

-- the port gave its end, which it may have given before
abbrev pub with_end : Visits → Visits
with_end visits = record visits { ended_behind = Some (unwrap_or visits.ended_behind (length visits.given)) }
