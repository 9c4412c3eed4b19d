use Rattle.pm_record.proofs.ContentLaws.{one_content_of}
use Rattle.pm_record.proofs.laws.a_file_stands_for_one_content.Goals as goal

pub returns : goal.returns
returns c = one_content_of
