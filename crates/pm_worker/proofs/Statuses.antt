-- The status by which a session exits fits into a slot's word.
use Rattle.std.proofs.Common.{ℕ, ◌<◌, arith}
use Rattle.pm_session.specs.{pm_startup.declared.packet.StartFault.{StartFault, TheVariants.{Length, Version, NoUser, Replication, Malformed, PqOption}}, pm_session_exchange.{declared.ending.Cause.{Cause, TheVariants.{Terminated, Cancelling, LinkEnded, LinkFailed, TimedOut, PacketRefused, MessageRefused, DecisionRefused, GateRefused, ShortOfMemory, Panicked, ToldToTerminate, ToldToQuit, Killed, Overtaken}}, Ends.status_by}}
use Rattle.pm_board.specs.pm_board_words.Words.{status_number}

none : 0 < 256
none = omega arith

one : 1 < 256
one = omega arith

two : 2 < 256
two = omega arith

six : 6 < 256
six = omega arith

nine : 9 < 256
nine = omega arith

fits_refused : (fault : StartFault) → status_number (status_by (PacketRefused fault)) < 256
fits_refused (Length seen) = none
fits_refused (Version major minor) = one
fits_refused NoUser = one
fits_refused Replication = one
fits_refused (Malformed at) = one
fits_refused PqOption = one

pub fits : (cause : Cause) → status_number (status_by cause) < 256
fits Terminated = none
fits Cancelling = none
fits LinkEnded = none
fits LinkFailed = one
fits TimedOut = one
fits (PacketRefused fault) = fits_refused fault
fits (MessageRefused fault) = one
fits DecisionRefused = one
fits (GateRefused refusal) = one
fits ShortOfMemory = one
fits Panicked = six
fits ToldToTerminate = one
fits (ToldToQuit reason) = two
fits Killed = nine
fits Overtaken = six
