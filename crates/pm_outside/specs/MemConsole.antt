-- What a console in memory stands for, and what one question does to it.
use Rattle.std.specs.Prelude.{◌≡◌, ◌≢◌, ℕ, Bool, true, false, List, [], ◌∷◌, map, take, drop, None}
use Rattle.pm_outside.specs.{Calls.Calls, declared.{console.Asked.{Asked, TheVariants.{Line, NotYet, End, Failed}}, mem_console.{MemConsole.MemConsole, ScriptLine.ScriptLine}}}

-- a line as it is given
abbrev pub cut_line : ScriptLine → List ℕ
cut_line line = take 64 line.text.items

-- the lines that it has given
abbrev pub lines_given : MemConsole → List (List ℕ)
lines_given console = map cut_line (take console.given console.lines.items)

-- the lines that it will still give
abbrev pub lines_left : MemConsole → List ScriptLine
lines_left console = drop console.given console.lines.items

-- its calls so far, and those that fail
abbrev pub console_calls : MemConsole → Calls
console_calls console = console.calls

-- whether a call failed
abbrev pub is_asked_failed : Asked → Bool
is_asked_failed (Line count) = false
is_asked_failed NotYet = false
is_asked_failed End = false
is_asked_failed Failed = true

-- the first of these lines waits for something
abbrev pub FirstWaits : List ScriptLine → Type 0
FirstWaits [] = ⊥
FirstWaits (line ∷ lines) = line.behind ≢ None

-- the first of these lines is given so, and these are left after it
abbrev pub GivesFirst : List ScriptLine → List ℕ → List ScriptLine → Type 0
GivesFirst [] bytes rest = ⊥
GivesFirst (line ∷ lines) bytes rest = (bytes ≡ cut_line line) × (rest ≡ lines)

-- the first line that was left; nothing yet where it waits for something; the end where none was. These are left now.
abbrev pub GivesLine : List ScriptLine → Asked → List ℕ → List ScriptLine → Type 0
GivesLine lines (Line count) into rest = GivesFirst lines (take count into) rest
GivesLine lines NotYet into rest = FirstWaits lines × (rest ≡ lines)
GivesLine lines End into rest = (lines ≡ []) × (rest ≡ [])
GivesLine lines Failed into rest = rest ≡ lines
