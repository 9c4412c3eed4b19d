use Rattle.pm_wire.{specs.Backend.IsBack, proofs.StreamLaws.{split_one_way, split_in_pieces}}
use Rattle.pm_wire_back.proofs.BackAgain.{back_apart}
use Rattle.pm_wire_back.proofs.laws.back_stream_has_one_reading.Goals as goal

pub returns-clause-one_way : goal.returns-clause-one_way
returns-clause-one_way c = split_one_way IsBack back_apart

pub returns-clause-in_pieces : goal.returns-clause-in_pieces
returns-clause-in_pieces c = split_in_pieces IsBack
