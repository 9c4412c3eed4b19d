use Rattle.std.proofs.Common.{length}
use Rattle.pm_top_words.proofs.fitting.«+option_misfit».Given as goal

abbrev pub decreases-option_misfit : goal.decreases-option_misfit
decreases-option_misfit l = length l.words.now
