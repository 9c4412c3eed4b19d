use Rattle.std.proofs.Common.{ap, arith, length}
use Rattle.pm_stage.{specs.Naming.times_named, proofs.Counting.{at_of, times_few}}
use Rattle.pm_stage.proofs.Stage.add.Goals as goal

pub count_all-requires-clause-room : goal.count_all-requires-clause-room
count_all-requires-clause-room c = λ key.
    let commits = c.self.inside.commits.items in
    omega (arith, at_of c.self.inside.names (λ k. times_named k commits) c.self.invariant.2 key, times_few commits key c.self.invariant.1, c.self.invariant.0, ap length c.changes.ensures.list, c.requires.commit.few)
