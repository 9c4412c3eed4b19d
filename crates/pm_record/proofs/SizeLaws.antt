-- How long a base is.
use Rattle.std.{proofs.{Common.{◌≡◌, ℕ, ℤ, Bool, List, [], ◌∷◌, ◌++◌, length, map, sum_by, refl, sym, ◌∙◌, arith, append_assoc, length-append}, lemmas.List.{Concat.length-flat_map, Sums.sum_by-cons}}, specs.{Int.{w32, w64, to_be_bytes, cast_unsigned}, List.flat_map, FinMap.{entries, len}}}
use Rattle.pm_rows.specs.{Fold.RowMap, Size.{row_size, size_of}}
use Rattle.pm_record.specs.Spelling.{base_bytes, clean_byte, header_bytes, header_length, row_bytes}

four : (n : ℕ) → length (to_be_bytes w32 n) ≡ 4
four n = refl

eight : (n : ℕ) → length (to_be_bytes w64 n) ≡ 8
eight n = refl

-- a base is its header, and its rows after it
pub base_parts : (epoch : ℕ) (clean : Bool) (count : ℕ) (rows : RowMap) → base_bytes epoch clean count rows ≡ header_bytes epoch clean count (len rows) ++ flat_map row_bytes (entries rows)
base_parts epoch clean count rows =
    let front : List ℕ = 0x50 ∷ 0x47 ∷ 0x50 ∷ 0x4D ∷ 0x4C ∷ 0x4F ∷ 0x47 ∷ 1 ∷ to_be_bytes w64 epoch ++ clean_byte clean ∷ to_be_bytes w64 count in
    sym (append_assoc front (to_be_bytes w32 (len rows)) (flat_map row_bytes (entries rows)))

pub header_long : (epoch : ℕ) (clean : Bool) (count rows : ℕ) → length (header_bytes epoch clean count rows) ≡ header_length
header_long epoch clean count rows = refl

pub row_long : (row : ℤ × List ℕ) → length (row_bytes row) ≡ row_size row.1
row_long row = omega (
  arith,
  length-append (to_be_bytes w64 (cast_unsigned w64 row.0)) (to_be_bytes w32 (length row.1) ++ row.1),
  length-append (to_be_bytes w32 (length row.1)) row.1,
  eight (cast_unsigned w64 row.0),
  four (length row.1),
)

all_rows : (rows : List (ℤ × List ℕ)) → sum_by (λ row. length (row_bytes row)) rows ≡ sum_by row_size (map (λ row. row.1) rows)
all_rows [] = refl
all_rows (row ∷ rows) = omega (
  arith,
  sum_by-cons (λ row. length (row_bytes row)) row rows,
  sum_by-cons row_size row.1 (map (λ row. row.1) rows),
  row_long row,
  all_rows rows,
)

-- its rows take what the crate of the rows says
pub rows_long : (rows : RowMap) → length (flat_map row_bytes (entries rows)) ≡ size_of rows
rows_long rows = length-flat_map row_bytes (entries rows) ∙ all_rows (entries rows)
