-- What appending a batch leaves, at any moment and after it.
use Rattle.std.specs.Prelude.{◌≡◌, ◌⊎◌, ℕ, ◌+◌, ◌-◌, List, ◌∷◌, [], ◌++◌, length, take}
use Rattle.pm_record.specs.{pm_disk.{declared.disk.Which.Which, Files.{Files, file_of}}, pm_rows.{declared.commit.Change.Change, Standing.{Standing, after}}, Spelling.batch_bytes, StandsFor.{Content, MayAppend, standing_of, with_batch}, Pair.MeansIn, OnDisk.{Rests, Throughout}}

-- the files mean one of the two, each in so many bytes
abbrev pub MeansOneOf : Standing → ℕ → Standing → ℕ → Files → Type 0
MeansOneOf one bytes other more image = MeansIn image one bytes ⊎ MeansIn image other more

-- an open gate, a batch, and the next gate, closed
abbrev pub IsSpelled : List ℕ → List (List Change) → Type 0
IsSpelled bytes batch = bytes ≡ 1 ∷ (batch_bytes batch ++ (0 ∷ []))

-- While a batch is appended behind the gate of a log that rests on the disk, a stop leaves what stood there before, or
-- that with the whole batch.
abbrev pub KeepsAppending : Which → ℕ → List ℕ → Files → ℕ → ℕ → (ℕ → Files → Type 0) → (ℕ → Files → Type 0) → Type 0
KeepsAppending file end bytes files from to before now =
    (content : Content) (batch : List (List Change)) → Rests file content end files (before from) → MayAppend (standing_of content) batch → IsSpelled bytes batch
    → Throughout from to now (MeansOneOf (standing_of content) (end + 1) (after (standing_of content) batch) (end + length bytes))

-- and then the log rests there with the batch
abbrev pub HasAppended : Which → ℕ → List ℕ → Files → Files → (Files → Type 0) → (Files → Type 0) → Type 0
HasAppended file end bytes files now images_before images_now =
    (content : Content) (batch : List (List Change)) → Rests file content end files images_before → MayAppend (standing_of content) batch → IsSpelled bytes batch
    → Rests file (with_batch content batch) (end + (length bytes - 1)) now images_now

-- and what stood in front of the gate stands there still, with these bytes behind it
abbrev pub GrowsBehind : Which → ℕ → List ℕ → Files → Files → Type 0
GrowsBehind file end bytes files now = (rest : List ℕ) × (file_of now file ≡ take end (file_of files file) ++ (bytes ++ rest))
