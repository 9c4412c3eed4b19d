-- What stands in a file that is being made, and what its calls leave.
use Rattle.std.specs.Prelude.{◌≡◌, ℕ, ◌+◌, ◌-◌, ◌^◌, ◌<◌, ◌≤◌, Bool, true, false, List, ◌∷◌, [], ◌++◌, length, min, Option, None, Some}
use Rattle.pm_record.specs.{pm_disk.{declared.disk.Which.Which, Files.{Files, file_of, other}, Disk.{Only, Torn}}, pm_rows.{declared.commit.Change.Change, Fold.RowMap}, Spelling.base_bytes, StandsFor.{AreBatches, Content, IsContent, StandsFor, checkpointed, standing_of}}
use Rattle.pm_log.specs.{Half.{Half, half_at, left_of, most_in_piece, over_of, piece_bytes, whole_of}, Log.Lives, declared.{log.Log.Log, making.Stepped.{Stepped, TheVariants.{More, Ready}}}}

-- these batches more
abbrev pub with_batches : Content → List (List (List Change)) → Content
with_batches content later = record content { batches = content.batches ++ later }

-- the bytes of the base of a content, behind the file's gate
abbrev pub base_in : Content → List ℕ
base_in content = base_bytes content.epoch content.clean content.base_count content.base_rows

-- Beside a log in this file, whose gate is at that end, the other file is being made. The log's content is what it was
-- when that began, and the batches that were appended since; these stand in the file from that place on. What is to
-- stand behind the other file's gate is the base of all that stood then, and a copy of these batches: a part of it is
-- made, and the rest of that file is free. Nothing is said of the gate: that a stop leaves it closed is said of the log
-- (`Rests`).
pub record Makes (half : Half) (file : Which) (end : ℕ) (content : Content) (files : Files) : Type 0 where
  pub began : Content
  pub later : List (List (List Change))
  pub content_is : content ≡ with_batches began later
  pub limits : IsContent (checkpointed began false)
  pub epoch_is : half.epoch ≡ began.epoch + 1
  pub base_is : half.base ≡ 1 ∷ base_in (checkpointed began false)
  -- the log's file: what stood then, the batches since, and what is from its gate on
  pub front : List ℕ
  pub since : List ℕ
  pub rest : List ℕ
  pub file_is : file_of files file ≡ front ++ (since ++ rest)
  pub from_is : half.from ≡ length front
  pub end_is : end ≡ length front + length since
  pub batches : AreBatches since later
  -- the other file: its gate, what is made, and free bytes; and what is left to make
  pub gate : ℕ
  pub made : List ℕ
  pub left : List ℕ
  pub free : List ℕ
  pub whole : half.base ++ since ≡ 1 ∷ (made ++ left)
  pub beside : file_of files (other file) ≡ gate ∷ (made ++ free)
  pub done_is : half.done ≡ 1 + length made

-- all of it is made, and stands there durably behind the gate, with a closed gate behind it
pub record IsReady (half : Half) (file : Which) (end : ℕ) (content : Content) (files : Files) (images : Files → Type 0) : Type 0 where
  pub makes : Makes half file end content files
  pub nothing_left : makes.left ≡ []
  pub behind : List ℕ
  pub closed : makes.free ≡ 0 ∷ behind
  pub durable : Only (other file) (file_of files (other file)) images

-- a write behind a file's gate, stopped anywhere
abbrev pub TornBehind : Which → Files → Files → Type 0
TornBehind file earlier image = (at : ℕ) × (count : ℕ) × (1 ≤ at) × Torn file at count earlier image

-- It is the one that is under way in this log.
pub record IsUnderWay (log : Log) (half : Half) : Type 0 where
  pub making : log.making ≡ Some (over_of half)
  pub from : half.from ≤ log.end
  pub done : half.done ≤ whole_of half log.end
  pub number : whole_of half log.end < 2 ^ 64

-- its last step has made all of it durable, and nothing was appended since
pub record IsWhole (log : Log) (half : Half) : Type 0 where
  pub ready : half.ready ≡ true
  pub whole : half.done ≡ whole_of half log.end

-- ---- a step

-- of so many bytes that are left this many make a piece
pub record IsPieceOf (left count : ℕ) : Type 0 where
  pub some : 1 ≤ left
  pub enough : min piece_bytes left ≤ count
  pub within : count ≤ left
  pub few : count ≤ most_in_piece

-- It writes a piece of what is left of the part that it is at. Where nothing is left, all is made durable, and there
-- alone.
abbrev pub IsStep : Half → Half → ℕ → Stepped → Type 0
IsStep half new end More = (count : ℕ) × IsPieceOf (left_of half end) count × (new ≡ record half { done = half.done + count; ready = false })
IsStep half new end Ready = (half.done ≡ whole_of half end) × (new ≡ record half { ready = true })

abbrev pub HasStepped : Half → Half → Which → ℕ → Files → Files → (Files → Type 0) → Stepped → Type 0
HasStepped half new file end files now images More = (content : Content) → Makes half file end content files → Makes new file end content now
HasStepped half new file end files now images Ready = (content : Content) → Makes half file end content files → IsReady new file end content now images

-- so it is where so many bytes were written, or where all is made
abbrev pub HasPiece : (base : List ℕ) (from done : ℕ) (file : Which) (end : ℕ) (files now : Files) (images : Files → Type 0) → Option ℕ → Type 0
HasPiece base from done file end files now images (Some count) =
    (epoch : ℕ) (ready : Bool) (content : Content) → Makes (half_at epoch base from done ready) file end content files
    → Makes (half_at epoch base from (done + count) false) file end content now
HasPiece base from done file end files now images None =
    (epoch : ℕ) (ready : Bool) (content : Content) → Makes (half_at epoch base from done ready) file end content files
    → IsReady (half_at epoch base from done true) file end content now images

-- the same of every base of that length, which is written
abbrev pub HasCopied : (base_end from done : ℕ) (file : Which) (end : ℕ) (files now : Files) (images : Files → Type 0) → Option ℕ → Type 0
HasCopied base_end from done file end files now images piece = (base : List ℕ) → length base ≡ base_end → HasPiece base from done file end files now images piece

-- a piece of what is left to copy; none where nothing is left
abbrev pub IsCopy : (base_end from done end : ℕ) → Option ℕ → Type 0
IsCopy base_end from done end (Some count) = IsPieceOf (base_end + (end - from) - done) count
IsCopy base_end from done end None = done ≡ base_end + (end - from)

-- ---- the beginning

-- the rows are those of a content that stands in the log's file, and the other file has its gate
pub record MayBegin (log : Log) (rows : RowMap) (content : Content) (files : Files) : Type 0 where
  pub stands : StandsFor (file_of files log.file) content log.end
  pub epoch : log.epoch ≡ content.epoch
  pub count : log.count ≡ (standing_of content).count
  pub rows_are : rows ≡ (standing_of content).rows
  pub beside : 1 ≤ length (file_of files (other log.file))

-- nothing is written yet
abbrev pub begun : Log → RowMap → Half
begun log rows = record {
  epoch = log.epoch + 1;
  base = 1 ∷ base_bytes (log.epoch + 1) false log.count rows;
  from = log.end;
  done = 1;
  ready = false;
}

-- ---- the end

-- the log goes on in the other file, in the next epoch, with the same rows and count
pub record HasSwitched (new : Log) (content : Content) (files : Files) (images : Files → Type 0) : Type 0 where
  pub next : Content
  pub same : standing_of next ≡ standing_of content
  pub epoch : next.epoch ≡ content.epoch + 1
  pub unclean : next.clean ≡ false
  pub lives : Lives new next files images
