-- How the base of a file is read: its header, and rows whose keys rise, each of which leaves room for the keys after it.
use Rattle.std.specs.{Prelude.{ℕ, ◌+◌, ◌-◌, ◌%◌, min, nat_lt, nat_eq, ℤ, List, Ok, if◌then◌else◌}, Int.{w64, cast_signed, cast_unsigned}}
use Rattle.std.specs.FinMap as map
use Rattle.pm_rows.specs.{Fold.RowMap, Limits.{max_rows, max_value_bytes}}
use Rattle.pm_record.specs.{declared.{number.Ranges.Ranges, base.Base.Base}, Reading.{Read, ◌>>=◌, number_at, may_be}, Repeated.{stepped, through_at}, Changes.{any64, string_at}}

-- the place of a word among the keys, from the lowest on
abbrev pub place_of : ℕ → ℕ
place_of word = (word + 9223372036854775808) % 18446744073709551616

abbrev pub place : ℤ → ℕ
place key = place_of (cast_unsigned w64 key)

-- words of keys from this place on, with room for so many after it
abbrev pub key_ranges : ℕ → ℕ → Ranges
key_ranges n from = record {
  low = from - 9223372036854775808;
  high = 9223372036854775807 - n;
  low2 = min (from + 9223372036854775808) 18446744073709551615;
  high2 = if nat_lt from 9223372036854775808 then 18446744073709551615 else 0;
}

abbrev pub any_text : Ranges
any_text = record { low = 0; high = max_value_bytes; low2 = 1; high2 = 0 }

abbrev pub row_at : ℕ → ℕ → List ℕ → Read (ℤ × List ℕ)
row_at n from bytes = do
  key ← number_at (may_be (key_ranges n from)) 8 0 bytes
  value ← string_at any_text key.1
  Ok ((cast_signed w64 key.0, value.0), value.1)

-- from which place on the next key may stand, and the rows
abbrev pub added : ℕ × RowMap → ℤ × List ℕ → ℕ × RowMap
added state row = (min (place row.0 + 1) 18446744073709551615, map.insert state.1 row.0 row.1)

abbrev pub row_step : ℕ → ℕ × RowMap → List ℕ → Read (ℕ × RowMap)
row_step n state bytes = stepped added state (row_at n state.0 bytes)

abbrev pub row_counts : Ranges
row_counts = record { low = 0; high = max_rows; low2 = 1; high2 = 0 }

abbrev pub rows_at : List ℕ → Read RowMap
rows_at bytes = do
  count ← number_at (may_be row_counts) 4 0 bytes
  rows ← through_at row_step count.0 (0, map.empty) count.1
  Ok (rows.0.1, rows.1)

-- magic and version, as one number
abbrev pub magic_ranges : Ranges
magic_ranges = record { low = 5784680539303659265; high = 5784680539303659265; low2 = 1; high2 = 0 }

abbrev pub bit_ranges : Ranges
bit_ranges = record { low = 0; high = 1; low2 = 1; high2 = 0 }

unfoldable pub base_at : List ℕ → Read Base
base_at bytes = do
  magic ← number_at (may_be magic_ranges) 8 0 bytes
  epoch ← number_at (may_be any64) 8 0 magic.1
  clean ← number_at (may_be bit_ranges) 1 0 epoch.1
  count ← number_at (may_be any64) 8 0 clean.1
  rows ← rows_at count.1
  Ok (record { epoch = epoch.0; clean = nat_eq clean.0 1; count = count.0; rows = rows.0 }, rows.1)
