use Rattle.pm_segment.specs.Moment.{moment}
use Rattle.pm_once_children.proofs.checkpointer.write_last.Given as goal

abbrev pub ghosts-close_at_home : goal.ghosts-close_at_home
ghosts-close_at_home g a = record { home = (moment a.store.now).generation }
