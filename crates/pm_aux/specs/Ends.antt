-- How a child ends that serves no connection, by its cause.
use Rattle.std.specs.Prelude.{◌≡◌, ◌≢◌, ℕ, Bool, true, false, if◌then◌else◌, Option, None, Some, Result, Ok}
use Rattle.pm_exit.specs.declared.child.Status.{Status, TheVariants.{Code, Signal}}
use Rattle.pm_child_life.specs.declared.life.GateNo.{GateNo}
use Rattle.pm_query.specs.{pm_record.declared.fault.RedoFault.RedoFault, declared.store.StoreNo.StoreNo, Calls.{DiskFact, unread_for}}
use Rattle.pm_query.specs.declared.store.StoreNo.TheVariants as stores
use Rattle.pm_aux.specs.declared.{aux_done.AuxDone.AuxDone, cause.AuxiliaryEnd.{AuxiliaryEnd, TheVariants.{Redone, Refused, TurnedAway, ToldToTerminate, ToldToQuit, Killed}}}

-- after such a refusal what is shared may be half changed, or is another generation's
abbrev pub status_refused : StoreNo → Status
status_refused (stores.Stale mine found) = Signal 6
status_refused stores.Disk = Signal 6
status_refused (stores.Broken since) = Signal 6
status_refused _ = Code 1

abbrev pub status_by : AuxiliaryEnd → Status
status_by (Refused refusal) = status_refused refusal
status_by (TurnedAway refusal) = Code 2
status_by ToldToTerminate = Code 1
status_by (ToldToQuit reason) = Code 2
status_by Killed = Signal 9
status_by _ = Code 0

-- the refusal of the store, if it was one
abbrev pub fault_by : AuxiliaryEnd → Option StoreNo
fault_by (Refused refusal) = Some refusal
fault_by _ = None

-- how many commits its redo kept, if it made one
abbrev pub kept_by : AuxiliaryEnd → Option ℕ
kept_by (Redone kept) = Some kept
kept_by _ = None

abbrev pub done_by : AuxiliaryEnd → AuxDone
done_by cause = record { status = status_by cause; fault = fault_by cause; kept = kept_by cause }

-- ---- what it lets go

abbrev pub lets_go_refused : StoreNo → Bool
lets_go_refused (stores.Stale mine found) = false
lets_go_refused stores.Disk = false
lets_go_refused (stores.Broken since) = false
lets_go_refused _ = true

-- A child lets go of the store and of its attachment. It stays inside where what is shared may be half changed, and where it has
-- to end at once.
abbrev pub lets_go : AuxiliaryEnd → Bool
lets_go (Refused refusal) = lets_go_refused refusal
lets_go (ToldToQuit reason) = false
lets_go Killed = false
lets_go _ = true

-- the generation that the gate let it into, by what the gate answered it, if it was there
abbrev pub let_in : Option (Result ℕ GateNo) → Option ℕ
let_in (Some (Ok generation)) = Some generation
let_in _ = None

-- where it is attached after its end
abbrev pub attached_behind : AuxiliaryEnd → Option (Result ℕ GateNo) → Option ℕ
attached_behind cause gate = if lets_go cause then None else let_in gate

-- Who ends by another generation is told the last one that the store has met.
abbrev pub IsMetBehind : (met : ℕ) → (fault : Option StoreNo) → Type 0
IsMetBehind met (Some (stores.Stale mine found)) = (found ≡ met) × (mine ≢ found)
IsMetBehind met _ = Unit {0}

-- who tells that the log can't be read has learned the reason
abbrev pub LearnsWhy : (learned : DiskFact → Type 0) → Option StoreNo → Type 0
LearnsWhy learned refusal = (fault : RedoFault) → refusal ≡ Some (stores.Redo fault) → learned (unread_for fault)
