-- Slots for connections.
use Rattle.std.specs.Prelude.{◌≡◌, ℕ, ◌<◌, List, Option, None, length}
use Rattle.pm_board_acts.specs.{pm_admit.declared.Cac.Cac, pm_supervisor_journal.declared.roll.Enrolled.Enrolled, Board.seat_at, Standing.SeatServes, pm_supervisor.Steps.kind_for}

-- nobody sits there, and a child may that answers a connection so decided
abbrev pub IsFreeFor : Cac → ℕ → List (Option Enrolled) → Type 0
IsFreeFor decision slot seats =
    (slot < length seats) × (seat_at slot seats ≡ None) × SeatServes (length seats) slot (kind_for decision)
