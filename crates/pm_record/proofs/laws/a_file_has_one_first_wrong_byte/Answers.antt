use Rattle.pm_record.proofs.Files.{one_place, wrong_nothing}
use Rattle.pm_record.proofs.laws.a_file_has_one_first_wrong_byte.Goals as goal

pub returns-clause-one : goal.returns-clause-one
returns-clause-one c = one_place

pub returns-clause-nothing : goal.returns-clause-nothing
returns-clause-nothing c = wrong_nothing
