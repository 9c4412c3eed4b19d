-- How a change is read, where so many changes and commits of the same body come after it.
use Rattle.std.specs.{Prelude.{ℕ, ◌+◌, ◌-◌, ◌*◌, ◌==◌, ◌&&◌, ◌||◌, nat_le, nat_lt, nat_eq, min, max, ℤ, Bool, List, Ok, if◌then◌else◌}, Int.{w64, cast_signed}}
use Rattle.pm_rows.specs.{declared.commit.Change.{Change, TheVariants.{Put, Del}}, Limits.max_value_bytes, Longest.{max_change_bytes, max_commit_bytes}}
use Rattle.pm_utf8.specs.Utf8.{boundary}
use Rattle.pm_record.specs.{declared.number.Ranges.Ranges, Reading.{Read, ◌>>=◌, byte_at, number_at, may_be, text_at}}

-- ---- how many bytes changes and commits can take

-- the least that so many changes and then so many commits take, and the most
abbrev pub least : ℕ → ℕ → ℕ
least n c = 9 * n + 11 * c

abbrev pub most : ℕ → ℕ → ℕ
most n c = max_change_bytes * n + max_commit_bytes * c

-- whether they can take exactly so many: deletions alone take the least, and a put takes at least four more
abbrev pub fills : ℕ → ℕ → ℕ → Bool
fills n c left = nat_eq left (least n c) || (nat_le (least n c + 4) left && nat_le left (most n c))

-- ---- reading

abbrev pub any64 : Ranges
any64 = record { low = 0; high = 18446744073709551615; low2 = 1; high2 = 0 }

abbrev pub key_at : List ℕ → Read ℤ
key_at bytes = number_at (may_be any64) 8 0 bytes >>= λ key. Ok (cast_signed w64 key.0, key.1)

-- a text after its length, which is within ranges
abbrev pub string_at : Ranges → List ℕ → Read (List ℕ)
string_at ranges bytes = number_at (may_be ranges) 4 0 bytes >>= λ count. text_at count.0 boundary count.1

-- a put's value leaves what the changes and commits after it can take
abbrev pub value_ranges : ℕ → ℕ → ℕ → Ranges
value_ranges n c left = record {
  low = left - (13 + least n c);
  high = min (left - (13 + least n c)) max_value_bytes;
  low2 = max (left - (13 + most n c)) (if nat_lt left (17 + least n c) then 1 else 0);
  high2 = min (left - (17 + least n c)) max_value_bytes;
}

abbrev pub may_tag : ℕ → ℕ → ℕ → ℕ → Bool
may_tag n c left tag =
    (tag == 1 && (nat_le (13 + least n c) left && nat_le left (max_change_bytes + most n c))) || (tag == 2 && (nat_le 9 left && fills n c (left - 9)))

abbrev pub put_at : Ranges → List ℕ → Read Change
put_at ranges bytes = do
  key ← key_at bytes
  value ← string_at ranges key.1
  Ok (Put key.0 value.0, value.1)

abbrev pub del_at : List ℕ → Read Change
del_at bytes = do
  key ← key_at bytes
  Ok (Del key.0, key.1)

unfoldable pub change_at : ℕ → ℕ → ℕ → List ℕ → Read Change
change_at n c left bytes = do
  tag ← byte_at (may_tag n c left) bytes
  if tag.0 == 2 then del_at tag.1 else put_at (value_ranges n c left) tag.1
