-- What the types of the table's columns are: a key is a bigint, and a value is a text.
use Rattle.std.specs.{Prelude.{ℕ, ℤ, List, FitsSigned}, Int.w64, Str.IsUtf8}
use Rattle.pm_rows.specs.declared.commit.Change.{Change, TheVariants.{Put, Del}}

-- the key of a change fits 64 bits, and its value is UTF-8
abbrev pub IsTypedChange : Change → Type 0
IsTypedChange (Put key value) = FitsSigned w64 key × IsUtf8 value
IsTypedChange (Del key) = FitsSigned w64 key

-- and so those of a row
abbrev pub IsTypedRow : ℤ × List ℕ → Type 0
IsTypedRow row = FitsSigned w64 row.0 × IsUtf8 row.1
