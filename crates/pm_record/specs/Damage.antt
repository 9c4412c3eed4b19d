-- Where a file is damaged: at the first byte that nothing after it mends.
use Rattle.std.specs.{Prelude.{◌≡◌, ◌≢◌, ◌⊎◌, ℕ, ◌+◌, ◌^◌, ◌≤◌, ◌<◌, Bool, List, [], ◌∷◌, ◌++◌, length, take, All}, List.flat_map}
use Rattle.std.specs.FinMap as map
use Rattle.pm_rows.specs.{declared.commit.Change.Change, Fold.{RowMap, folded}, Limits.{max_rows, IsWithinRowLimits}, Standing.Standing, Batch.IsBatch}
use Rattle.pm_record.specs.{Spelling.{base_bytes, batch_bytes, commit_bytes}, StandsFor.{Content, StandsFor, Spells, IsContent, IsRow, standing_of}}

-- the bytes are those of the whole up to some byte of it
abbrev pub IsFrontOf : List ℕ → List ℕ → Type 0
IsFrontOf bytes whole = (byte : ℕ) × (more : List ℕ) × (whole ≡ bytes ++ byte ∷ more)

-- The front of a base: some base begins so. Whether its rows are small enough shows at its last byte, which isn't here.
pub record BeginsBase (bytes : List ℕ) : Type 0 where
  pub epoch : ℕ
  pub clean : Bool
  pub count : ℕ
  pub rows : RowMap
  pub epoch_fits : epoch < 2 ^ 64
  pub count_fits : count < 2 ^ 64
  pub rows_are : All IsRow (map.entries rows)
  pub rows_few : map.len rows ≤ max_rows
  pub begins : IsFrontOf bytes (base_bytes epoch clean count rows)

-- a batch up to and with so many of its commits
abbrev pub first_bytes : ℕ → List (List Change) → ℕ
first_bytes n batch = 8 + length (flat_map commit_bytes (take n batch))

-- The front of a batch after this, without its gate: some batch begins so, for which the number of commits has room. Its
-- commits that are whole here keep the limits on rows; whether one does shows at its last byte.
pub record BeginsBatch (standing : Standing) (bytes : List ℕ) : Type 0 where
  pub batch : List (List Change)
  pub batch_is : IsBatch batch
  pub number : standing.count + length batch < 2 ^ 64
  pub limits : (n : ℕ) → n ≤ length batch → first_bytes n batch ≤ length bytes → IsWithinRowLimits (folded standing.rows (take n batch))
  pub begins : IsFrontOf bytes (batch_bytes batch)

-- the front of what comes after whole batches: nothing yet, or an open gate and the front of one more
abbrev pub BeginsNext : Standing → List ℕ → Type 0
BeginsNext standing bytes = (bytes ≡ []) ⊎ ((gate : ℕ) × (behind : List ℕ) × (gate ≢ 0) × (bytes ≡ gate ∷ behind) × BeginsBatch standing behind)

-- An open gate, and the front of a base behind it.
pub record EndsInBase (bytes : List ℕ) : Type 0 where
  pub gate : ℕ
  pub behind : List ℕ
  pub is_open : gate ≢ 0
  pub parts : bytes ≡ gate ∷ behind
  pub base : BeginsBase behind

-- A base and some batches, whole and within the limits, and the front of what comes after them.
pub record EndsBehindBase (bytes : List ℕ) : Type 0 where
  pub content : Content
  pub front : List ℕ
  pub next : List ℕ
  pub parts : bytes ≡ front ++ next
  pub spelled : Spells front content
  pub limits : IsContent content
  pub begins : BeginsNext (standing_of content) next

-- The bytes of an open file can go on: nothing is wrong so far, and something is wanting.
abbrev pub CanGoOn : List ℕ → Type 0
CanGoOn bytes = EndsInBase bytes ⊎ EndsBehindBase bytes

-- nothing is wrong with the bytes: they can go on, or stand for something
abbrev pub IsRight : List ℕ → Type 0
IsRight bytes = CanGoOn bytes ⊎ ((content : Content) × (end : ℕ) × StandsFor bytes content end)

-- The first wrong byte is at this place: the bytes in front of it can go on, and with it, whatever bytes come after it,
-- they are wrong. Where the file is cut, the place is its length.
pub record IsFirstWrong (bytes : List ℕ) (at : ℕ) : Type 0 where
  pub front : List ℕ
  pub rest : List ℕ
  pub parts : bytes ≡ front ++ rest
  pub place : at ≡ length front
  pub goes_on : CanGoOn front
  pub wrong : (byte : ℕ) (others : List ℕ) → rest ≡ byte ∷ others
      → (more : List ℕ) → All (λ b. b < 256) more → IsRight (front ++ byte ∷ more) → ⊥
