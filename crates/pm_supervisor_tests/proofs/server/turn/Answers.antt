use Rattle.pm_supervisor_tests.proofs.server.turn.Goals as goal

pub act_all-requires : goal.act_all-requires
act_all-requires c = let past = c.requires.serving.0 in (past.0, _, c.in_ok-turn.ensures.stands past.0 past.1 past.2)
