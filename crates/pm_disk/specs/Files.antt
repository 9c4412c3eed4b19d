-- The two files of the commit log, as lists of bytes.
use Rattle.std.specs.Prelude.{ℕ, ◌+◌, List, ◌++◌, length, take, drop}
use Rattle.pm_disk.specs.declared.disk.Which.{Which, TheVariants.{A, B}}

pub record Files : Type 0 where
  pub a : List ℕ
  pub b : List ℕ

-- the bytes of one of them
abbrev pub file_of : Files → Which → List ℕ
file_of files A = files.a
file_of files B = files.b

-- the files with these bytes in one of them
abbrev pub with_file : Files → Which → List ℕ → Files
with_file files A bytes = record { a = bytes; b = files.b }
with_file files B bytes = record { a = files.a; b = bytes }

-- the one beside it
abbrev pub other : Which → Which
other A = B
other B = A

-- a file with these bytes at that place, over what stood there, and as long as they need
abbrev pub overwritten : List ℕ → ℕ → List ℕ → List ℕ
overwritten old at bytes = take at old ++ bytes ++ drop (at + length bytes) old
