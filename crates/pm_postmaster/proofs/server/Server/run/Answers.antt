use Rattle.pm_postmaster.{specs.View.view_of, proofs.Going.{alive_on, none_done}}
use Rattle.pm_postmaster.proofs.server.Server.run.Goals as goal

pub turns-init : goal.turns-init
turns-init g c = record { keeps = none_done g.C.Clock.gives (view_of c.args.self.now); idle = c.requires.idle }

pub turn-requires-clause-alive : goal.turn-requires-clause-alive
turn-requires-clause-alive g c = alive_on g.C.Clock.gives _ _ c.turns.invariant.keeps c.requires.alive

pub returns-in-Err : goal.returns-in-Err
returns-in-Err g c = λ outset was. c.in-Err.ensures.goes outset (c.turns.invariant.keeps outset was)

pub turns-preserved-in-Ok-true : goal.turns-preserved-in-Ok-true
turns-preserved-in-Ok-true g c = record { keeps = λ outset was. c.in-Ok-true.ensures.goes outset (c.turns.invariant.keeps outset was); idle = c.in-Ok-true.ensures.idle }

pub turns-preserved : goal.turns-preserved
turns-preserved g c = record { keeps = λ outset was. c.in-Ok-false.ensures.goes outset (c.turns.invariant.keeps outset was); idle = c.in-Ok-false.ensures.idle }
