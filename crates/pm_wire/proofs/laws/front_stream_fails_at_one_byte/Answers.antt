use Rattle.pm_wire.{specs.{Frontend.IsFront, Failing.{FrontFails, place_of}}, proofs.{StreamLaws.fails_in_pieces, Faults.{front_fails_once, front_fails_for_good}}}
use Rattle.pm_wire.proofs.laws.front_stream_fails_at_one_byte.Goals as goal

pub returns-clause-once : goal.returns-clause-once
returns-clause-once c = front_fails_once

pub returns-clause-for_good : goal.returns-clause-for_good
returns-clause-for_good c = front_fails_for_good

pub returns-clause-in_pieces : goal.returns-clause-in_pieces
returns-clause-in_pieces c = fails_in_pieces IsFront FrontFails place_of
