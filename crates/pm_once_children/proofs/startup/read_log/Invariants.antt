use Rattle.pm_segment.specs.Moment.{moment}
use Rattle.pm_once_children.proofs.startup.read_log.Given as goal

abbrev pub ghosts-redo_at_home : goal.ghosts-redo_at_home
ghosts-redo_at_home g a = record { home = (moment a.store.now).generation }
