-- What a session has room for.
use Rattle.std.specs.Prelude.{ℕ, ◌≤◌, List, length}
use Rattle.pm_query.specs.pm_facts.Zeros.{HasNoZero}

-- The bytes of a buffer: those that came in and weren't looked at yet, or those that wait to be sent. A query of 65,536
-- bytes with what stands around it is shorter, and so is the longest message that is said.
abbrev pub buffer_bytes : ℕ
buffer_bytes = 66048

-- the text of a query as it comes in: no longer than is read, and without a zero byte
abbrev pub IsQueryString : List ℕ → Type 0
IsQueryString text = HasNoZero text × (length text ≤ 65536)

-- the words of a fault, which may say a token of the query
abbrev pub IsFaultString : List ℕ → Type 0
IsFaultString message = HasNoZero message × (length message ≤ 65573)
