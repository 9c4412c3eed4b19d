use Rattle.std.proofs.Common.{arith}
use Rattle.pm_state.specs.Machine.{Turned}
use Rattle.pm_supervisor_journal.proofs.memory.Memory.turn.Goals as goal

pub owe-requires : goal.owe-requires
owe-requires c =
    rw c.turn-actions.ensures.acts (omega (arith, c.requires.room, c.tells_of_each_start.ensures.few c.args.self.now.core Turned))
