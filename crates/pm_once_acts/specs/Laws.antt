-- A law of the book of a run: a function of `laws.rt` has it as its contract.
use Rattle.std.specs.{Prelude.List, List.AllByRecursion}
use Rattle.pm_server.specs.{pm_supervisor.declared.Limits.Limits, Story.HasOneGeneration}
use Rattle.pm_supervisor_chain.specs.Steps.{AreSteps, Step, whole_book}
use Rattle.pm_once_acts.specs.Steps.{IsNoRenewal}

-- a store that was never renewed was opened once
abbrev pub OpensOnce : Type 0
OpensOnce = (limits : Limits) (steps : List Step) → AreSteps limits steps → AllByRecursion IsNoRenewal steps → HasOneGeneration (whole_book steps)
