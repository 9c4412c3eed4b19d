use Rattle.pm_board.proofs.Children.{count_assigned, count_released, a_free_slot}
use Rattle.pm_board.proofs.laws.counts_children.Goals as goal

pub returns : goal.returns
returns c = record { assigned = count_assigned; released = count_released; free = a_free_slot }
