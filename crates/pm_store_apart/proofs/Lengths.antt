-- How long a log's file is.
use Rattle.std.{proofs.{Common.{◌≡◌, ℕ, ℤ, Bool, ◌+◌, ◌≤◌, List, [], ◌∷◌, ◌++◌, length, map, sum_by, refl, ap, arith, length-append}, lemmas.List.{Concat.length-flat_map, Sums.{sum_by-append, sum_by-cons}}}, specs.{Int.{w32, w64, to_be_bytes, cast_unsigned}, List.flat_map, FinMap.{entries, len}}}
use Rattle.pm_query.specs.{pm_rows.{declared.commit.Change.Change, Fold.RowMap, Size.{row_size, size_of}}, pm_record.{Spelling.{base_bytes, batch_bytes, clean_byte, row_bytes, rows_bytes}, StandsFor.{AreBatches, Content, StandsFor, commits_of, standing_of}}, BookLaws.CommitsAddTheirBytes}
use Rattle.pm_query.specs.pm_rows.LogSize as log
use Rattle.pm_store_apart.specs.Stands.{bytes_of_rows}

-- ---- a base

four : (n : ℕ) → length (to_be_bytes w32 n) ≡ 4
four n = refl

eight : (n : ℕ) → length (to_be_bytes w64 n) ≡ 8
eight n = refl

row_length : (row : ℤ × List ℕ) → length (row_bytes row) ≡ row_size row.1
row_length row = omega (
  arith,
  length-append (to_be_bytes w64 (cast_unsigned w64 row.0)) (to_be_bytes w32 (length row.1) ++ row.1),
  length-append (to_be_bytes w32 (length row.1)) row.1,
  eight (cast_unsigned w64 row.0),
  four (length row.1),
)

all_rows : (rows : List (ℤ × List ℕ)) → sum_by (λ row. length (row_bytes row)) rows ≡ sum_by row_size (map (λ row. row.1) rows)
all_rows [] = refl
all_rows (row ∷ rows) = omega (
  arith,
  sum_by-cons (λ row. length (row_bytes row)) row rows,
  sum_by-cons row_size row.1 (map (λ row. row.1) rows),
  row_length row,
  all_rows rows,
)

rows_length : (rows : RowMap) → length (rows_bytes rows) ≡ 4 + size_of rows
rows_length rows = omega (
  arith,
  length-append (to_be_bytes w32 (len rows)) (flat_map row_bytes (entries rows)),
  four (len rows),
  length-flat_map row_bytes (entries rows),
  all_rows (entries rows),
)

pub base_size : (epoch : ℕ) (clean : Bool) (count : ℕ) (rows : RowMap) → 2 + length (base_bytes epoch clean count rows) ≡ bytes_of_rows rows
base_size epoch clean count rows = omega (
  arith,
  length-append (to_be_bytes w64 epoch) (clean_byte clean ∷ to_be_bytes w64 count ++ rows_bytes rows),
  length-append (to_be_bytes w64 count) (rows_bytes rows),
  eight epoch,
  eight count,
  rows_length rows,
)

-- ---- a base with batches after it

-- the bytes of a batch are counted by the crate of the rows
abbrev pub NeedsAreCounted : Type 0
NeedsAreCounted = (batch : List (List Change)) → 1 + length (batch_bytes batch) ≡ log.need_of batch

batches_length : NeedsAreCounted → (bytes : List ℕ) (batches : List (List (List Change))) → AreBatches bytes batches → sum_by log.commit_length (flat_map (λ batch. batch) batches) ≤ length bytes
batches_length needs bytes [] are = omega arith
batches_length needs bytes (batch ∷ batches) (gate, next, is_open, is, are) = omega (
  arith,
  ap length is,
  length-append (batch_bytes batch) next,
  needs batch,
  batches_length needs next batches are,
  sum_by-append log.commit_length batch (flat_map (λ b. b) batches),
)

-- a file isn't shorter than a base of the rows that it stands for
pub stands_size : NeedsAreCounted → CommitsAddTheirBytes → (bytes : List ℕ) (content : Content) (end : ℕ) → StandsFor bytes content end → bytes_of_rows (standing_of content).rows ≤ end + 1
stands_size needs grow bytes content end stands =
    let spelled = stands.spelled in
    let base = base_bytes content.epoch content.clean content.base_count content.base_rows in
    omega (
      arith,
      stands.place,
      ap length spelled.parts,
      length-append base spelled.behind,
      base_size content.epoch content.clean content.base_count content.base_rows,
      batches_length needs spelled.behind content.batches spelled.batches,
      grow content.base_rows (commits_of content),
    )
