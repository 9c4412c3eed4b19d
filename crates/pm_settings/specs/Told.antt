-- What a session has told of the settings that are kept as they are told, and which value each setting has.
use Rattle.std.specs.Prelude.{◌≡◌, ℕ, ◌≤◌, List, length, All, Option, Some, None, unwrap_or, replicate, slice_index_or, slice_set}
use Rattle.pm_settings.specs.{declared.setting.Setting.{Setting, TheVariants.{ApplicationName, ClientMinMessages, DateStyle, ExtraFloatDigits, IntervalStyle, SearchPath, TimeZone}}, Names.{max_setting_bytes, row_of}}

-- the place of a setting among these
abbrev pub place_of : Setting → Option ℕ
place_of ApplicationName = Some 0
place_of ClientMinMessages = Some 1
place_of DateStyle = Some 2
place_of ExtraFloatDigits = Some 3
place_of IntervalStyle = Some 4
place_of SearchPath = Some 5
place_of TimeZone = Some 6
place_of _ = None

-- by places, what was told of each, if anything was
abbrev pub Told : Type 0
Told = List (Option (List ℕ))

abbrev pub told_at : Told → Option ℕ → Option (List ℕ)
told_at told None = None
told_at told (Some place) = slice_index_or told place None

-- the value that a setting has: what was told of it, or its own
abbrev pub value_of : Told → Setting → List ℕ
value_of told setting = unwrap_or (told_at told (place_of setting)) (row_of setting).value

abbrev pub with_at : Told → Option ℕ → Option (List ℕ) → Told
with_at told None value = told
with_at told (Some place) value = slice_set told place value

-- this was told of a setting last, or nothing. Of one that isn't kept as it is told nothing is kept
abbrev pub with_told : Told → Setting → Option (List ℕ) → Told
with_told told setting value = with_at told (place_of setting) value

abbrev pub nothing_told : Told
nothing_told = replicate 7 None

-- ---- limits

abbrev pub bytes_of : Option (List ℕ) → ℕ
bytes_of None = 0
bytes_of (Some value) = length value

pub record IsTold (told : Told) : Type 0 where
  pub places : length told ≡ 7
  pub short : All (λ value. bytes_of value ≤ max_setting_bytes) told
