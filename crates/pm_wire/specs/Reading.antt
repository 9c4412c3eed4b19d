-- Reading from left to right, as it is done: what the bytes at hand begin with.
use Rattle.std.specs.Prelude.{ℕ, ◌+◌, ◌-◌, List, [], ◌∷◌, length, take, drop, position, Option, Some, None, nat_lt, ◌==◌, if◌then◌else◌}
use Rattle.byteorder.specs.Endian.{big_number}
use Rattle.pm_wire.specs.{Letters.{letter_Q, letter_X}, declared.take.{Take.{Take, TheVariants.{Whole, Short, Bad}}, WireFault.TheVariants.BadLength}, Frontend.{FrontMessage, Query, BadQuery, LongQuery, Terminate, Extended, Other, is_extended}}

-- what was read, with its value seen by view
abbrev pub seen_by : {X Y : Type 0} → (X → Y) → Take X → Take Y
seen_by view (Whole value used) = Whole (view value) used
seen_by view (Short wanted) = Short wanted
seen_by view (Bad fault) = Bad fault

-- the bytes before the first zero, where that is the last byte
abbrev pub text_before : Option ℕ → List ℕ → Option (List ℕ)
text_before None bytes = None
text_before (Some end) bytes = if end + 1 == length bytes then Some (take end bytes) else None

unfoldable pub text_of : List ℕ → Option (List ℕ)
text_of bytes = text_before (position (λ b. b == 0) bytes) bytes

abbrev pub query_or_bad : Option (List ℕ) → FrontMessage
query_or_bad None = BadQuery
query_or_bad (Some text) = Query text

-- after the type and the length
abbrev pub query_of_length : ℕ → List ℕ → Take FrontMessage
query_of_length seen rest =
    if nat_lt seen 4 then Bad (BadLength seen)
    else if nat_lt 65541 seen then Whole (LongQuery seen) 5
    else if nat_lt (length rest) (seen - 4) then Short (seen + 1)
    else Whole (query_or_bad (text_of (take (seen - 4) rest))) (seen + 1)

abbrev pub terminate_of_length : ℕ → Take FrontMessage
terminate_of_length seen = if seen == 4 then Whole Terminate 5 else Bad (BadLength seen)

-- after the type
unfoldable pub query_of : List ℕ → Take FrontMessage
query_of rest = if nat_lt (length rest) 4 then Short 5 else query_of_length (big_number 4 rest) (drop 4 rest)

unfoldable pub terminate_of : List ℕ → Take FrontMessage
terminate_of rest = if nat_lt (length rest) 4 then Short 5 else terminate_of_length (big_number 4 rest)

unfoldable pub front_of : List ℕ → Take FrontMessage
front_of [] = Short 1
front_of (kind ∷ rest) =
    if kind == letter_Q then query_of rest
    else if kind == letter_X then terminate_of rest
    else if is_extended kind then Whole (Extended kind) 1
    else Whole (Other kind) 1
