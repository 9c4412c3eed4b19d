-- How a workload may end.
use Rattle.pm_top.specs.declared.status.Top.{Top, TheVariants.{Done, OutFault, NoMemory}}

abbrev pub IsWorkloadEnd : Top → Type 0
IsWorkloadEnd Done = Unit {0}
IsWorkloadEnd OutFault = Unit {0}
IsWorkloadEnd NoMemory = Unit {0}
IsWorkloadEnd _ = ⊥
