use Rattle.pm_segment.specs.Moment.{moment}
use Rattle.pm_once.proofs.session.serve_link.Given as goal

abbrev pub ghosts-serve_at_home : goal.ghosts-serve_at_home
ghosts-serve_at_home g a = record { home = (moment a.store).generation }
