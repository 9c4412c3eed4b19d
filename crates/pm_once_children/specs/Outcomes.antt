-- What the last child came to that used the store and serves no connection, and what is known of the store by it.
use Rattle.std.specs.Prelude.{ℕ, Option, None, Some, IfSome, Bool, true, ◌≡◌, [], ◌⊎◌, List}
use Rattle.pm_server.specs.{pm_disk.Cause.Rose, pm_segment.{Moment.Moment, Redos.{IsAtLastEpoch, IsCleanAt}, Moves.Moves}, Ends.HasRefused, declared.end.{StartWhy.TheVariants.{Redo, Killed}, ServerEnd.{ServerEnd, TheVariants.{Clean, Abnormal, NoMemory}}, Why.TheVariants.{AfterCrash, RestartOff, StartupFailed}}, pm_supervisor.declared.Ending.Ending}
use Rattle.pm_once_children.specs.{declared.{checkpointer.Closed.TheVariants.{Made, Crashed, Full, Short}, outcome.Outcome.{Outcome, TheVariants.{Refused, Closed}}, auxiliaries.Auxiliaries.Auxiliaries}, AuxiliaryRuns.{IsRefusedRun, startup_or, IsRefusedLast, AreToldBehind, heard_in, nothing_heard}, Auxiliaries.heard_of}
use Rattle.pm_server.specs.pm_supervisor.declared.Ending.TheVariants as endings
use Rattle.pm_once_acts.specs.pm_supervisor_chain.Steps.{ChildRun, Step, journal_of}

-- the last auxiliary child that used the store came to this, and nobody has used it since
abbrev pub HasComeTo : Option Outcome → (from : ℕ) → Moment → Type 0
HasComeTo None from at = Unit {0}
HasComeTo (Some (Refused (Redo fault))) from at = HasRefused fault from at
HasComeTo (Some (Refused Killed)) from at = ⊥
HasComeTo (Some (Closed Made)) from at = (epoch : ℕ) × IsCleanAt epoch at.live at.rows at.files
HasComeTo (Some (Closed Crashed)) from at = Rose from at.faults
HasComeTo (Some (Closed Full)) from at = IfSome at.files (λ files. ∥ IsAtLastEpoch files ∥₁)
HasComeTo (Some (Closed Short)) from at = Unit {0}

-- ---- the end of a server

-- how the server ends where its machine does: by what the last auxiliary child came to, or since its log is broken. There is
-- nothing else but want of memory after such an end
abbrev pub end_in : Ending → Option Outcome → Bool → ServerEnd
end_in endings.Clean (Some (Closed Made)) broken = Clean
end_in endings.AfterCrash (Some (Closed Full)) broken = Abnormal AfterCrash
end_in endings.AfterCrash outcome true = Abnormal AfterCrash
end_in endings.StartupFailed (Some (Refused why)) broken = Abnormal (StartupFailed why)
end_in endings.RestartOff outcome broken = Abnormal RestartOff
end_in ending outcome broken = NoMemory

-- ---- after the run of a child

-- nobody has used the store
pub record Stays (before now : Moment) : Type 0 where
  pub moves : Moves [] before now
  pub rows : now.rows ≡ before.rows
  pub live : now.live ≡ before.live
  pub files : now.files ≡ before.files
  pub faults : now.faults ≡ before.faults

-- a startup child that is refused leaves why, and no other child does
abbrev pub ComesTo : ChildRun → (before now : Option Outcome) → Type 0
ComesTo run before (Some (Refused why)) =
    IsRefusedRun why run ⊎ ((before ≡ Some (Refused why)) × ((last : Option ChildRun) → startup_or last run.kind run ≡ last))
ComesTo run before _ = Unit {0}

-- the last child that came to something was refused so
abbrev pub IsRefusedSo : Option Outcome → List Step → Type 0
IsRefusedSo (Some (Refused why)) steps = IsRefusedLast why steps
IsRefusedSo _ steps = Unit {0}

-- The children that serve no connection were told what the journal says, each ran by that, and what the last of them came to
-- is what it answered.
pub record AreCaused (steps : List Step) (auxiliaries : Auxiliaries) (outcome : Option Outcome) : Type 0 where
  pub told_so : heard_of auxiliaries ≡ heard_in (journal_of steps)
  pub runs : AreToldBehind nothing_heard steps
  pub refused : IsRefusedSo outcome steps
