use Rattle.pm_wire.{specs.Frontend.IsFront, proofs.{Apart.front_apart, StreamLaws.{split_one_way, split_in_pieces}}}
use Rattle.pm_wire.proofs.laws.front_stream_has_one_reading.Goals as goal

pub returns-clause-one_way : goal.returns-clause-one_way
returns-clause-one_way c = split_one_way IsFront front_apart

pub returns-clause-in_pieces : goal.returns-clause-in_pieces
returns-clause-in_pieces c = split_in_pieces IsFront
