-- What steps tell: which may come next, how they end, and the runs of sessions among them.
use Rattle.std.specs.{Prelude.{Option, Some, ◌≡◌, List, [], ◌∷◌, ◌++◌}, List.flat_map}
use Rattle.pm_server.specs.pm_state.declared.event.PmEvent.TheVariants as entry
use Rattle.pm_supervisor_chain.specs.Steps.{Step, Notes, RunsOn, Renews, ChildRun, Runs, journal_of}
use Rattle.pm_server.specs.{pm_state.declared.event.PmEvent.PmEvent, pm_exit.declared.child.Kind.Kind, Journal.accepted_in, pm_supervisor_journal.declared.exit.ChildExit.ChildExit}
use Rattle.pm_server.specs.pm_exit.declared.child.Kind.TheVariants as kinds

-- any step may follow this one, but for a renewal
abbrev pub IsFree : Option Step → Type 0
IsFree (Some (RunsOn run)) = ⊥
IsFree (Some (Notes (entry.Reset generation))) = ⊥
IsFree _ = Unit {0}

-- it is no renewal of the store
abbrev pub IsNoRenewal : Step → Type 0
IsNoRenewal (Renews generation gone) = ⊥
IsNoRenewal _ = Unit {0}

-- the last of them is this entry
abbrev pub EndsWith : PmEvent → List Step → Type 0
EndsWith last steps = (front : List Step) × (steps ≡ front ++ Notes last ∷ [])

-- ---- runs of children

abbrev pub if_session : Kind → ChildRun → List ChildRun
if_session kinds.Backend run = run ∷ []
if_session _ run = []

abbrev pub session_by : Step → List ChildRun
session_by (Runs run at) = if_session run.kind run
session_by (RunsOn run) = if_session run.kind run
session_by _ = []

-- the runs of sessions
abbrev pub sessions_in : List Step → List ChildRun
sessions_in steps = flat_map session_by steps

-- nobody was accepted, and no session ran
pub record ServesNone (steps : List Step) : Type 0 where
  pub accepted : accepted_in (journal_of steps) ≡ []
  pub sessions : sessions_in steps ≡ []

-- the end of a run
abbrev pub exit_of : ChildRun → ChildExit
exit_of run = record { pid = run.pid; kind = run.kind; status = run.status; was_active = run.was_active; kept = run.kept }
