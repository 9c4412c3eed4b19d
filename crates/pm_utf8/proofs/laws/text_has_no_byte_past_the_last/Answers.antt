use Rattle.pm_utf8.specs.{Utf8.boundary, States.{boundary_sound, bytes_below, each_below}}
use Rattle.pm_utf8.proofs.laws.text_has_no_byte_past_the_last.Goals as goal

pub returns : goal.returns
returns c bytes state e = each_below bytes (bytes_below bytes boundary state boundary_sound e)
