use Rattle.pm_utf8.specs.Characters.{accepts, is_utf8}
use Rattle.pm_utf8.proofs.laws.text_ends_between_characters.Goals as goal

pub returns : goal.returns
returns c bytes = (accepts bytes, is_utf8 bytes)
