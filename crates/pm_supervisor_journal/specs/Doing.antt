-- What an act needs before it is done.
use Rattle.std.specs.Prelude.{◌≡◌, ℕ, ◌<◌, ◌-◌, ◌^◌, false}
use Rattle.pm_state.specs.{declared.{action.Action.Action, event.PmEvent.PmEvent, machine.Machine.Machine}, Machine.IsDue}
use Rattle.pm_state.specs.declared.action.Action.TheVariants as action
use Rattle.pm_state.specs.declared.event.PmEvent.TheVariants as entry
use Rattle.pm_supervisor_journal.specs.Standing.{Standing, last_generation}

-- there is a further pid, or a further generation, where the act draws one
abbrev pub HasNumbers : Action → Standing → Type 0
HasNumbers (action.Start kind) s = s.last_pid < 2 ^ 32 - 1
HasNumbers action.Reset s = s.generation < last_generation
HasNumbers _ s = Unit {0}

-- a start may be reported
abbrev pub MayReport : Action → Machine → Type 0
MayReport (action.Start kind) m = (m.ended ≡ false) × IsDue m kind
MayReport _ m = Unit {0}

-- how many children an entry puts on the roll
abbrev pub room_for : PmEvent → ℕ
room_for (entry.Started pid kind) = 1
room_for (entry.Accepted pid decision) = 1
room_for _ = 0
