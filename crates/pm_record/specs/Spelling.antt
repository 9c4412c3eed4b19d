-- The bytes of a log file's parts: docs/LOG_FORMAT.md.
use Rattle.std.specs.{Prelude.{ℕ, ℤ, Bool, true, false, List, ◌∷◌, ◌++◌, length}, Int.{w16, w32, w64, to_be_bytes, cast_unsigned}, List.flat_map}
use Rattle.std.specs.FinMap as map
use Rattle.pm_rows.specs.{declared.commit.Change.{Change, TheVariants.{Put, Del}}, Fold.RowMap}

-- a change: its tag and its key, and for a put the value after its length
abbrev pub change_bytes : Change → List ℕ
change_bytes (Put key value) = 1 ∷ to_be_bytes w64 (cast_unsigned w64 key) ++ to_be_bytes w32 (length value) ++ value
change_bytes (Del key) = 2 ∷ to_be_bytes w64 (cast_unsigned w64 key)

-- a commit: the number of its changes, and the changes
abbrev pub commit_bytes : List Change → List ℕ
commit_bytes changes = to_be_bytes w16 (length changes) ++ flat_map change_bytes changes

-- the body of a batch: the number of its commits, and the commits
abbrev pub body_bytes : List (List Change) → List ℕ
body_bytes batch = to_be_bytes w32 (length batch) ++ flat_map commit_bytes batch

-- a batch behind its gate: the length of its body, and the body
abbrev pub batch_bytes : List (List Change) → List ℕ
batch_bytes batch = to_be_bytes w32 (length (body_bytes batch)) ++ body_bytes batch

-- a row: its key, and its value after the value's length
abbrev pub row_bytes : ℤ × List ℕ → List ℕ
row_bytes row = to_be_bytes w64 (cast_unsigned w64 row.0) ++ to_be_bytes w32 (length row.1) ++ row.1

-- the rows of a base: their number, and each in rising order of its key
abbrev pub rows_bytes : RowMap → List ℕ
rows_bytes rows = to_be_bytes w32 (map.len rows) ++ flat_map row_bytes (map.entries rows)

abbrev pub clean_byte : Bool → ℕ
clean_byte true = 1
clean_byte false = 0

-- a file behind its gate, up to its first batch: magic, version, epoch, clean, count and rows
abbrev pub base_bytes : ℕ → Bool → ℕ → RowMap → List ℕ
base_bytes epoch clean count rows =
    0x50 ∷ 0x47 ∷ 0x50 ∷ 0x4D ∷ 0x4C ∷ 0x4F ∷ 0x47 ∷ 1 ∷ to_be_bytes w64 epoch ++ clean_byte clean ∷ to_be_bytes w64 count ++ rows_bytes rows

-- the part of that in front of the rows, with their number
abbrev pub header_bytes : ℕ → Bool → ℕ → ℕ → List ℕ
header_bytes epoch clean count rows =
    0x50 ∷ 0x47 ∷ 0x50 ∷ 0x4D ∷ 0x4C ∷ 0x4F ∷ 0x47 ∷ 1 ∷ to_be_bytes w64 epoch ++ clean_byte clean ∷ to_be_bytes w64 count ++ to_be_bytes w32 rows

-- so many bytes
abbrev pub header_length : ℕ
header_length = 29
