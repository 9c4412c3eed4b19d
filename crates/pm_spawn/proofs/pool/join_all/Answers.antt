use Rattle.std.proofs.Common.{rules, map}
use Rattle.pm_spawn.{specs.Works.work_of, proofs.Works.given_all}
use Rattle.pm_spawn.proofs.pool.join_all.Goals as goal

pub returns-clause-outputs : goal.returns-clause-outputs
returns-clause-outputs g c =
    given_all g.W.Task.gives work_of c.loop-thread.running.items c.loop-thread.outputs.items (map work_of c.args.running.items) (search rules)
    c.loop-thread.invariant.completes
