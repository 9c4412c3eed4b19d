-- The laws of steps, one for each function of `laws.rt`, whose contract it is.
use Rattle.std.specs.{Prelude.{◌≡◌, ℕ, Bool, List, [], ◌∷◌, ◌++◌, None, Some, IsSomeAnd}, List.last_or}
use Rattle.pm_state.specs.{pm_supervisor.{declared.Limits.Limits, Children.child_of}, Journal.IsLegal, InStep.{ServerState, IsInStep}}
use Rattle.pm_supervisor_chain.specs.{Chain.IsChained, Steps.{ChildRun, Step, AreSteps, IsThere, MayStep, book_by, journal_by, journal_of, lost_after, lost_in, whole_book}}

abbrev pub StepsAreChained : Type 0
StepsAreChained =
    (limits : Limits) (gives : ℕ → Bool) (steps : List Step) → IsLegal limits gives (journal_of steps) → AreSteps limits steps
    → IsChained (journal_of steps) (whole_book steps)

-- one step more
pub record StepsGoOn : Type 0 where
  pub begins : (limits : Limits) → AreSteps limits []
  pub step :
      (limits : Limits) (before : List Step) (step : Step) → AreSteps limits before → MayStep limits before step
      → AreSteps limits (before ++ step ∷ [])
  pub journal : (before : List Step) (step : Step) → journal_of (before ++ step ∷ []) ≡ journal_of before ++ journal_by step
  pub book : (before : List Step) (step : Step) → whole_book (before ++ step ∷ []) ≡ whole_book before ++ book_by step
  pub lost : (before : List Step) (step : Step) → lost_in (before ++ step ∷ []) ≡ lost_after (lost_in before) step
  pub last : (before : List Step) (step : Step) → last_or None (before ++ step ∷ []) ≡ Some step
  -- where journal, machine and supervisor are in step, a child that is there is of the present generation
  pub there :
      (limits : Limits) (server : ServerState) (run : ChildRun) → IsInStep limits server
      → IsSomeAnd (child_of run.pid server.replay.shown.children) (λ child. child.kind ≡ run.kind)
      → run.generation ≡ server.replay.shown.generation → IsThere server.replay run
