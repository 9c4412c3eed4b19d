-- What a line on its way to the console holds.
use Rattle.std.specs.Prelude.{ℕ, List, take}
use Rattle.pm_outside_net.specs.declared.mailbox.Line.{Line}

-- its bytes
abbrev pub line_bytes : Line → List ℕ
line_bytes line = take line.length line.bytes
