use Rattle.pm_supervisor_tests.proofs.server.exit.Goals as goal

pub act_all-requires : goal.act_all-requires
act_all-requires c = let past = c.requires.0 in (past.0, _, c.in_ok-exited.ensures.stands past.0 past.1 past.2)
