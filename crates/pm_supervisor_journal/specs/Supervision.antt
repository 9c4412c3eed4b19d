-- What clauses see of a supervisor at work.
use Rattle.std.specs.Prelude.{ℕ, ◌≤◌, List, Option}
use Rattle.pm_state.specs.declared.event.PmEvent.{PmEvent}
use Rattle.pm_supervisor_journal.specs.{declared.supervision.Supervision.Supervision, Standing.{Standing, standing_of}, Stands.AtWork}

abbrev pub standing : {J : Type 0} {g : _} → Supervision J g → Standing
standing s = standing_of s.memory

-- the entries so far, where the journal tells them
abbrev pub told : {J : Type 0} {g : _} → Supervision J g → Option (List PmEvent)
told {g = g} s = g.entries s.journal

-- both
abbrev pub at_work : {J : Type 0} {g : _} → Supervision J g → AtWork
at_work s = record { told = told s; standing = standing s }

-- there is room for so many entries, and for the children that they tell of
pub record HasRoom {J : Type 0} {g : _} (count : ℕ) (s : Supervision J g) : Type 0 where
  pub entries : count ≤ g.spare s.journal
  pub children : count ≤ s.memory.roll.room
