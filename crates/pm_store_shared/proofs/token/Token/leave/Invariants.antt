use Rattle.std.specs.Prelude.{None}
use Rattle.pm_store_shared.specs.{Grows.NotesLeave, Passes.without_pass, Told.passes_of}
use Rattle.pm_store_shared.proofs.token.Token.leave.Given as goal

abbrev pub ghosts-give : goal.ghosts-give
ghosts-give g a = record { told = NotesLeave a._before.pid a._ask.now; passes = without_pass a._before.pid a._before.generation (passes_of a.seat.now.me.0); lent = None }
