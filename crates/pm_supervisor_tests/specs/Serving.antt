-- When calls of a supervisor at work may be made.
use Rattle.std.specs.Prelude.{◌≡◌, false, []}
use Rattle.pm_supervisor_journal.specs.{Standing.Standing, Stands.{AtWork, HasPast}}

-- it has come to where it stands from its start, and all of its acts are done
abbrev pub IsServing : AtWork → Type 0
IsServing work = HasPast work × (work.standing.due ≡ [])

-- it hasn't ended, and no shutdown is owed
abbrev pub IsUnowed : Standing → Type 0
IsUnowed s = (s.ended ≡ false) × (s.owes_smart ≡ false)
