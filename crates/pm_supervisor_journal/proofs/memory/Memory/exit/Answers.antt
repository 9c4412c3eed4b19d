use Rattle.std.proofs.Common.{arith}
use Rattle.pm_state.specs.Machine.{Exited}
use Rattle.pm_supervisor_journal.proofs.memory.Memory.exit.Goals as goal

pub owe-requires : goal.owe-requires
owe-requires c =
    let exit = c.args.exit in
    rw c.exited-actions.ensures.acts
    (omega (arith, c.requires.room, c.tells_of_each_start.ensures.few c.args.self.now.core (Exited exit.pid exit.kind exit.status exit.was_active c.args.at)))
