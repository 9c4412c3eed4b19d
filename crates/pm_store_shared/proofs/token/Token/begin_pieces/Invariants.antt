use Rattle.std.specs.Prelude.{None}
use Rattle.pm_segment.specs.{pm_query.Calls.user_of, Passes.view_of}
use Rattle.pm_store_shared.specs.{Passes.renewed_pass, Piecewise.BeginsOrNot, Told.passes_of}
use Rattle.pm_store_shared.proofs.token.Token.begin_pieces.Given as goal

abbrev pub ghosts-give : goal.ghosts-give
ghosts-give g a = record { told = BeginsOrNot (user_of None (view_of a._before)) a._answer.now; passes = renewed_pass a._before a._now (passes_of a.seat.now.me.0); lent = None }
