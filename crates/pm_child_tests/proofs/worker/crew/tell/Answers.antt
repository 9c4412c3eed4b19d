use Rattle.std.proofs.Common.{rules, ap}
use Rattle.pm_board.specs.Places.{IsAssigned}
use Rattle.pm_child_tests.proofs.Crews as crews
use Rattle.pm_child_tests.proofs.worker.crew.tell.Goals as goal

pub returns-then-is_some-clause-manned : goal.returns-then-is_some-clause-manned
returns-then-is_some-clause-manned c =
    let child : IsAssigned c.args.roster.now.knows c.args.slot = search rules in
    crews.sent_manned _ _ _ (c.send.ensures.knows child.1.0 child.1.1) c.requires.0

pub returns-then-is_some-clause-pid : goal.returns-then-is_some-clause-pid
returns-then-is_some-clause-pid c =
    let child : IsAssigned c.args.roster.now.knows c.args.slot = search rules in
    ap (λ z. z.notes.last_pid) (c.send.ensures.knows child.1.0 child.1.1)
