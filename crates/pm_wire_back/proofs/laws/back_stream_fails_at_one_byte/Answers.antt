use Rattle.pm_wire.{specs.{Backend.IsBack, Failing.place_of}, proofs.StreamLaws.fails_in_pieces}
use Rattle.pm_wire_back.{specs.Failing.BackFails, proofs.BackFaults.{back_fails_once, back_fails_for_good}}
use Rattle.pm_wire_back.proofs.laws.back_stream_fails_at_one_byte.Goals as goal

pub returns-clause-once : goal.returns-clause-once
returns-clause-once c = back_fails_once

pub returns-clause-for_good : goal.returns-clause-for_good
returns-clause-for_good c = back_fails_for_good

pub returns-clause-in_pieces : goal.returns-clause-in_pieces
returns-clause-in_pieces c = fails_in_pieces IsBack BackFails place_of
