-- How many bytes a message's front asks for.
use Rattle.std.proofs.Common.{ℕ, ◌≤◌, List, arith}
use Rattle.pm_startup.specs.pm_wire.Frontend.{Wants, its_type, its_length, its_body}
use Rattle.pm_session_exchange.specs.Room.{buffer_bytes}

pub wanted_fits : (unread : List ℕ) (wanted : ℕ) → Wants unread wanted → wanted ≤ buffer_bytes
wanted_fits unread wanted (its_type none is) = omega (arith, is)
wanted_fits unread wanted (its_length kind part is simple few is_wanted) = omega (arith, is_wanted)
wanted_fits unread wanted (its_body seen part is within more is_wanted) = omega (arith, is_wanted, within)
