use Rattle.std.proofs.Common.{◌≡◌}
use Rattle.pm_board.specs.pm_board_words.declared.views.Work.TheVariants.{Idle}
use Rattle.pm_board_tests.proofs.one_slot.work.Given as goal

abbrev pub invariant-loop : goal.invariant-loop
invariant-loop g l = (goal.iterator-loop g).can_next l.iterator' × (goal.iterator-loop g).is_finite l.iterator' × (l.post.knows.work ≡ Idle)
