use Rattle.std.proofs.Common.{rules}
use Rattle.pm_postmaster.proofs.Cleared.{as_many_seats}
use Rattle.pm_postmaster.proofs.accepting.first_free.Goals as goal

pub seated-requires : goal.seated-requires
seated-requires g c = let same = as_many_seats c.args.roster.now.knows in search (rules, same)
