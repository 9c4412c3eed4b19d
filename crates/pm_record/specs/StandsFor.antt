-- What the bytes of one log file stand for.
use Rattle.std.specs.{Prelude.{◌≡◌, ◌≢◌, ℕ, ◌+◌, ◌^◌, ◌≤◌, ◌<◌, ℤ, Bool, List, [], ◌∷◌, ◌++◌, length, take, All, FitsSigned}, Int.w64, List.flat_map, Str.IsUtf8}
use Rattle.std.specs.FinMap as map
use Rattle.pm_rows.specs.{declared.commit.Change.Change, Batch.IsBatch, Fold.{RowMap, folded}, Standing.{Standing, after}, Limits.{max_value_bytes, IsWithinRowLimits}}
use Rattle.pm_record.specs.Spelling.{base_bytes, batch_bytes}

-- ---- what a file may stand for

-- A base, and batches of commits after it.
pub record Content : Type 0 where
  pub epoch : ℕ
  pub clean : Bool
  pub base_rows : RowMap
  pub base_count : ℕ
  pub batches : List (List (List Change))

-- the commits of all its batches, in order
abbrev pub commits_of : Content → List (List Change)
commits_of content = flat_map (λ batch. batch) content.batches

abbrev pub base_of : Content → Standing
base_of content = record { rows = content.base_rows; count = content.base_count }

-- the rows and the number of its commits: all that a reader of the file gets from it
abbrev pub standing_of : Content → Standing
standing_of content = after (base_of content) (commits_of content)

-- one batch more
abbrev pub with_batch : Content → List (List Change) → Content
with_batch content batch = record content { batches = content.batches ++ batch ∷ [] }

-- the next epoch, whose base is all of this
abbrev pub checkpointed : Content → Bool → Content
checkpointed content clean = record {
  epoch = content.epoch + 1;
  clean = clean;
  base_rows = (standing_of content).rows;
  base_count = (standing_of content).count;
  batches = [];
}

-- ---- the limits

-- a row of a base
abbrev pub IsRow : ℤ × List ℕ → Type 0
IsRow row = FitsSigned w64 row.0 × IsUtf8 row.1 × (length row.1 ≤ max_value_bytes)

-- Commits may come after this: it keeps the limits after each of them.
pub record MayFollow (standing : Standing) (commits : List (List Change)) : Type 0 where
  pub limits : (n : ℕ) → n ≤ length commits → IsWithinRowLimits (folded standing.rows (take n commits))
  pub number : standing.count + length commits < 2 ^ 64

-- A batch that may come after this.
pub record MayAppend (standing : Standing) (batch : List (List Change)) : Type 0 where
  pub batch_is : IsBatch batch
  pub follows : MayFollow standing batch

-- A content within the limits.
pub record IsContent (content : Content) : Type 0 where
  pub epoch : content.epoch < 2 ^ 64
  pub rows : All IsRow (map.entries content.base_rows)
  pub batches : All IsBatch content.batches
  pub follows : MayFollow (base_of content) (commits_of content)

-- ---- the spelling

-- batches, each behind an open gate
abbrev pub AreBatches : List ℕ → List (List (List Change)) → Type 0
AreBatches bytes [] = bytes ≡ []
AreBatches bytes (batch ∷ batches) =
    (gate : ℕ) × (next : List ℕ) × (gate ≢ 0) × (bytes ≡ gate ∷ batch_bytes batch ++ next) × AreBatches next batches

-- A file up to its closed gate: an open gate, the base, and the batches.
pub record Spells (front : List ℕ) (content : Content) : Type 0 where
  pub gate : ℕ
  pub behind : List ℕ
  pub is_open : gate ≢ 0
  pub parts : front ≡ gate ∷ base_bytes content.epoch content.clean content.base_count content.base_rows ++ behind
  pub batches : AreBatches behind content.batches

-- The bytes stand for this content, and their closed gate is at that place: what is in front of it spells the content,
-- and what is after it is free.
pub record StandsFor (bytes : List ℕ) (content : Content) (end : ℕ) : Type 0 where
  pub front : List ℕ
  pub free : List ℕ
  pub parts : bytes ≡ front ++ 0 ∷ free
  pub place : end ≡ length front
  pub spelled : Spells front content
  pub limits : IsContent content
