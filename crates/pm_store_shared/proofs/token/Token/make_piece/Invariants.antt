use Rattle.std.specs.Prelude.{None, Some}
use Rattle.pm_segment.specs.{pm_query.Calls.user_of, Passes.view_of}
use Rattle.pm_store_shared.specs.{Passes.renewed_pass, Piecewise.MakesOrNot, Told.{IsNothing, passes_of}}
use Rattle.pm_store_shared.proofs.token.Token.make_piece.Given as goal

abbrev pub ghosts-give : goal.ghosts-give
ghosts-give g a = record { told = MakesOrNot (user_of None (view_of a._before)) a._answer.now; passes = renewed_pass a._before a._now (passes_of a.seat.now.me.0); lent = None }

abbrev pub ghosts-give-2 : goal.ghosts-give-2
ghosts-give-2 g a = record { told = IsNothing; passes = renewed_pass a._before a._now (passes_of a.seat.now.me.0); lent = Some (record { disk = a._ask.now; batch = a._answer.now; generation = a._before.generation }) }
