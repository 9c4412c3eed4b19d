-- The moments of a journal.
use Rattle.std.specs.{Prelude.{ℕ, List}, List.AllByRecursion}
use Rattle.pm_state.specs.declared.event.PmEvent.{PmEvent}
use Rattle.pm_state.specs.declared.event.PmEvent.TheVariants as entry

-- the moment of an entry, if it has one, is such a one
abbrev pub IsGiven : (ℕ → Type 0) → PmEvent → Type 0
IsGiven Gives (entry.Exited pid kind status was_active at) = Gives at
IsGiven Gives (entry.Asked mode at) = Gives at
IsGiven Gives (entry.KillSent at) = Gives at
IsGiven Gives _ = Unit {0}

-- and so is that of each
abbrev pub AreGiven : (ℕ → Type 0) → List PmEvent → Type 0
AreGiven Gives journal = AllByRecursion (IsGiven Gives) journal
