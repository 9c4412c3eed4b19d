-- How a file is read: from left to right, with the first wrong byte that is met. What it stands for doesn't rest on this.
use Rattle.std.specs.{Prelude.{◌≡◌, ℕ, zero, suc, ◌+◌, ◌*◌, ◌/◌, ◌^◌, ◌≤◌, ◌⊎◌, ◌&&◌, ◌||◌, nat_le, Bool, List, [], ◌∷◌, length, Option, Some, None, false, Result, Ok, Err, if◌then◌else◌}, Option.unwrap_or}
use Rattle.pm_utf8.specs.{declared.Awaited.Awaited, Utf8.{boundary, after}}
use Rattle.pm_record.specs.declared.{number.Ranges.Ranges, fault.Unread.Unread}
use Rattle.pm_record.specs.declared.fault.Unread.TheVariants as unread

-- A value and the bytes after it; or how many bytes are left from the first wrong one on, none where they end too early.
abbrev pub Read : Type 0 → Type 0
Read X = Result (X × List ℕ) ℕ

infixl 10 ◌>>=◌
abbrev pub ◌>>=◌ : {A B : Type 0} → Result A ℕ → (A → Result B ℕ) → Result B ℕ
(Ok x) >>= f = f x
(Err left) >>= f = Err left

-- What a function returned, seen by view, is what reading gives, unless memory ran out.
abbrev pub Fails : {Y : Type 0} → Unread → Result Y ℕ → Type 0
Fails unread.NoMemory read = Unit {0}
Fails (unread.Bad left) read = read ≡ Err left

abbrev pub Gives : {X Y : Type 0} → (X → Y) → Result X Unread → Result Y ℕ → Type 0
Gives view (Ok x) read = read ≡ Ok (view x)
Gives view (Err e) read = Fails e read

-- how many bytes are left where reading stops
abbrev pub left_of : {X : Type 0} → Result X ℕ → Option ℕ
left_of (Ok x) = None
left_of (Err left) = Some left

-- one byte that passes a test
abbrev pub byte_at : (ℕ → Bool) → List ℕ → Read ℕ
byte_at may [] = Err 0
byte_at may (b ∷ bytes) = if may b then Ok (b, bytes) else Err (suc (length bytes))

-- A number of so many bytes, after a part of it that was read: `may` says whether a number whose first bytes are this
-- one may stand here when so many are still to come.
unfoldable pub number_at : (ℕ → ℕ → Bool) → ℕ → ℕ → List ℕ → Read ℕ
number_at may zero value bytes = Ok (value, bytes)
number_at may (suc n) value bytes = do
  b ← byte_at (λ b. may (value * 256 + b) n) bytes
  number_at may n (value * 256 + b.0) b.1

-- ---- ranges

-- whether a number from low to high has this value in front of its last bytes, which have so many values
abbrev pub in_part : ℕ → ℕ → ℕ → ℕ → Bool
in_part low high value span = nat_le low high && (nat_le (low / span) value && nat_le value (high / span))

abbrev pub may_begin : Ranges → ℕ → ℕ → Bool
may_begin ranges value span = in_part ranges.low ranges.high value span || in_part ranges.low2 ranges.high2 value span

abbrev pub may_be : Ranges → ℕ → ℕ → Bool
may_be ranges value k = may_begin ranges value (256 ^ k)

abbrev pub IsWithin : Ranges → ℕ → Type 0
IsWithin ranges x = ((ranges.low ≤ x) × (x ≤ ranges.high)) ⊎ ((ranges.low2 ≤ x) × (x ≤ ranges.high2))

-- ---- text

abbrev pub has_room : Option Awaited → ℕ → Bool
has_room None n = false
has_room (Some next) n = nat_le next.more n

-- whether a byte may stand here with so many bytes after it
abbrev pub may_follow : Awaited → ℕ → ℕ → Bool
may_follow state n b = has_room (after state b) n

abbrev pub next_of : Awaited → ℕ → Awaited
next_of state b = unwrap_or (after state b) boundary

-- the bytes of a text, so many of them
unfoldable pub text_at : ℕ → Awaited → List ℕ → Read (List ℕ)
text_at zero state bytes = Ok ([], bytes)
text_at (suc n) state bytes = do
  b ← byte_at (may_follow state n) bytes
  text ← text_at n (next_of state b.0) b.1
  Ok (b.0 ∷ text.0, text.1)

-- ---- a test

-- a word that passes a test; one that doesn't is wrong at its last byte
abbrev pub checked : {X : Type 0} → (X → Bool) → Read X → Read X
checked test (Ok p) = if test p.0 then Ok p else Err (suc (length p.1))
checked test (Err left) = Err left
