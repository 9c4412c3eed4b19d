-- How a message of the server is shown.
use Rattle.std.specs.{Prelude.{ℕ, Bool, true, false, List, [], ◌++◌, codes}, Fmt.signed_decimal, List.flat_map}
use Rattle.pm_wire.specs.Backend.{BackMessage, Ready, Pair, One, Complete, Fault, Notice, Saying, severity_word, tag_text}

-- an error or a notice: SEVERITY:  CODE text
abbrev pub told_text : Saying → List ℕ
told_text s = severity_word s.severity ++ codes ":  " ++ s.code ++ codes " " ++ s.text

-- A row is shown as its values with a bar between them, and what a statement did by its tag, one a line. Other messages aren't
-- shown.
abbrev pub line_of : BackMessage → List ℕ
line_of (Pair key value) = signed_decimal key ++ codes "|" ++ value ++ codes "\n"
line_of (One text) = text ++ codes "\n"
line_of (Complete tag) = tag_text tag ++ codes "\n"
line_of (Fault s) = told_text s ++ codes "\n"
line_of (Notice s) = told_text s ++ codes "\n"
line_of _ = []

abbrev pub lines_of : List BackMessage → List ℕ
lines_of messages = flat_map line_of messages

-- whether the server waits for the next query
abbrev pub is_ready : BackMessage → Bool
is_ready Ready = true
is_ready _ = false
