use Rattle.std.proofs.Common.{ap}
use Rattle.pm_board_tests.specs.TwoCounters.{IsOneBefore}
use Rattle.pm_board_tests.proofs.Counters as laws
use Rattle.pm_board_tests.proofs.two_parts.begin.Goals as goal

pub take-requires-clause-may : goal.take-requires-clause-may
take-requires-clause-may c = laws.may_take c.in_ok-table.seat.id c.in_ok-table.seat.more.0

pub give-requires-clause-may : goal.give-requires-clause-may
give-requires-clause-may c =
    let took = laws.took_fresh (λ _ w. IsOneBefore c.in_ok-table.seat.me.0 w) c.in-Some.field-0 _ c.take.new.seat.more (ap (λ z. z.more) c.in_ok-table.ensures.3) c.in-Some.ensures.taken in
    laws.may_give c.take.new.seat.id 0 0 c.take.new.seat.more.0 (ap (λ x. x.0) took)
