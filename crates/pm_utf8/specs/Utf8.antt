-- UTF-8 as a rule on each byte and what stands before it (Unicode, Table 3-7).
use Rattle.std.specs.{Prelude.{◌≡◌, ℕ, ◌-◌, ◌≤◌, ◌<◌, ◌==◌, nat_lt, if◌then◌else◌, List, [], ◌∷◌, Option, Some, None}, Option.option_and_then, Str.Lossy.{second_byte_min, second_byte_max}}
use Rattle.pm_utf8.specs.declared.Awaited.{Awaited}

-- so many bytes of a character are to come, its second not among them
abbrev pub continued : ℕ → Awaited
continued more = record { more = more; low = 128; high = 191 }

-- between characters
abbrev pub boundary : Awaited
boundary = continued 0

-- after the first byte of a character, of which so many are to come
abbrev pub begun : ℕ → ℕ → Awaited
begun more byte = record { more = more; low = second_byte_min byte; high = second_byte_max byte }

-- what may follow the first byte of a character
abbrev pub lead : ℕ → Option Awaited
lead byte =
    if nat_lt byte 128 then Some boundary
    else if nat_lt byte 194 then None
    else if nat_lt byte 224 then Some (begun 1 byte)
    else if nat_lt byte 240 then Some (begun 2 byte)
    else if nat_lt byte 245 then Some (begun 3 byte)
    else None

-- what may follow a byte
abbrev pub after : Awaited → ℕ → Option Awaited
after state byte =
    if state.more == 0 then lead byte
    else if nat_lt byte state.low then None
    else if nat_lt state.high byte then None
    else Some (continued (state.more - 1))

-- what may follow the bytes, or none where one of them can't stand where it does
abbrev pub run : Awaited → List ℕ → Option Awaited
run state [] = Some state
run state (b ∷ bs) = option_and_then (λ next. run next bs) (after state b)

-- what holds of every state that bytes lead to
pub record IsSound (state : Awaited) : Type 0 where
  pub closes : state.more ≡ 0 → state ≡ boundary
  pub low : 128 ≤ state.low
  pub order : state.low ≤ state.high
  pub high : state.high < 192
