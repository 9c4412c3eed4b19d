-- The entries of a journal's last generation.
use Rattle.std.specs.Prelude.{Bool, true, false, List, [], ◌∷◌, ◌++◌, fold}
use Rattle.pm_serve_crew.specs.pm_state.declared.event.PmEvent.{PmEvent}
use Rattle.pm_serve_crew.specs.pm_state.declared.event.PmEvent.TheVariants as entry

abbrev pub latest_after : List PmEvent → PmEvent → List PmEvent
latest_after entries (entry.Reset generation) = []
latest_after entries e = entries ++ e ∷ []

-- those after the last Reset, or all where there is none
abbrev pub latest : List PmEvent → List PmEvent
latest journal = fold latest_after [] journal

abbrev pub ends_redo : PmEvent → Bool
ends_redo (entry.RedoEnded generation kept) = true
ends_redo _ = false
