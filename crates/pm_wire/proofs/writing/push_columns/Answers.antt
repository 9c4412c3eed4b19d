use Rattle.std.proofs.{Common.{[], length, ap, arith}, lemmas.List.length-append}
use Rattle.pm_wire.specs.Sizes.{columns_short}
use Rattle.pm_wire.proofs.writing.push_columns.Goals as goal

pub push_message-requires : goal.push_message-requires
push_message-requires c = omega (arith, columns_short c.args.shape, ap length c.description.ensures, length-append c.description.result.now [])
