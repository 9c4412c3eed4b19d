use Rattle.std.specs.Prelude.{None}
use Rattle.pm_store_shared.specs.{Passes.renewed_pass, Told.{IsNothing, passes_of}}
use Rattle.pm_store_shared.proofs.token.Token.checkpoint_drop.Given as goal

abbrev pub ghosts-give : goal.ghosts-give
ghosts-give g a = record { told = IsNothing; passes = renewed_pass a._before a._now (passes_of a.seat.now.me.0); lent = None }
