-- What a store keeps of its book and its disk, from the moment at which it got them.
use Rattle.std.specs.{Prelude.{◌≡◌, ◌⊎◌, ℕ, ◌+◌, ◌-◌, ◌≤◌, true, false, List, [], ◌∷◌, drop, All, Option, None, Some, IfSome}, List.Contains}
use Rattle.pm_query.specs.{pm_disk.Files.Files, pm_rows.{Fold.RowMap, Limits.max_file_bytes, Size.size_of, Standing.Standing}, pm_record.Pair.{Means, MeansIn}, declared.book.BookEntry.BookEntry, History.{History, beginning, count_of, number, rows_of}, Book.{Base, IsLegal, faults_here, faults_of, generation_of, has_checkpoint, history_of, is_closed, kept_by_redo, last_tick, needs_of, standing_of}, Durable.{HoldsFrom, IsWithin, Keeps, MeansAsOne}}
use Rattle.pm_store_apart.specs.{declared.live.Live.Live, Children.IsAttendedBy, Fronts.{flushed_of, whole_of}, Moment.{Moment, Told}, Rests.RestsAt, Unread.{breaks_unread, has_break, has_redo}}

-- The disk as the store got it: the files as they read, and its counts of calls and of faults.
pub record Origin : Type 0 where
  pub files : Option Files
  pub tick : ℕ
  pub faults : ℕ

-- up to this tick whatever a stop leaves means what it could mean at first
abbrev pub IsOpening : Origin → ℕ → (ℕ → Files → Type 0) → Type 0
IsOpening origin upto images = (t : ℕ) → origin.tick ≤ t → t ≤ upto → (image : Files) → images t image → MeansAsOne Means (images origin.tick) image

-- a fault's count isn't above this one
abbrev pub IsFaultBy : ℕ → ℕ × ℕ → Type 0
IsFaultBy now fault = fault.1 ≤ now

-- The disk's count of faults is at least that at first and that of each fault in the book.
pub record CountsFaults (first now : ℕ) (book : List BookEntry) : Type 0 where
  pub later : first ≤ now
  pub each : All (IsFaultBy now) (faults_of book)

-- ---- before the first redo

-- an entry without a tick
abbrev pub HasNoTick : BookEntry → Type 0
HasNoTick entry = (start mark : ℕ) → IsWithin start mark entry

-- Nothing is in the history yet, from whatever base: no redo has ended. The files read as they did, unless a fault of the disk
-- was noted.
pub record HasWaited (origin : Origin) (at : Moment) (book : List BookEntry) : Type 0 where
  pub unread : at.live ≡ None
  pub legal : (base : Base) → base.faults ≡ origin.faults → IsLegal base book
  pub fresh : (base : Base) → history_of base book ≡ beginning (standing_of base)
  pub begun : 1 ≤ at.generation
  pub generation : generation_of book ≡ at.generation
  pub attended : IsAttendedBy at.inside book
  pub no_redo : has_redo book ≡ false
  pub unredone : kept_by_redo book ≡ None
  pub none_here : faults_here book ≡ None
  pub skipped : has_checkpoint book ≡ at.skipped
  pub unclosed : is_closed book ≡ false
  pub no_ticks : All HasNoTick book
  pub no_time : last_tick book ≡ 0
  pub no_needs : needs_of book ≡ 0
  pub counted : CountsFaults origin.faults at.faults book
  pub reached : origin.tick ≤ at.ticks
  pub reads : (has_break book ≡ true) ⊎ (at.files ≡ origin.files)

-- ---- after it

-- no fault is after the redo while the log goes on, and else the one that broke it is among them
abbrev pub TellsBreak : Option ℕ → ℕ → Option (List (ℕ × ℕ)) → Type 0
TellsBreak None count here = here ≡ Some []
TellsBreak (Some since) count here = (first : ℕ × ℕ) × (rest : List (ℕ × ℕ)) × (here ≡ Some (first ∷ rest)) × Contains (first ∷ rest) (since, count)

-- how long a file of these rows alone is, up to and with its closed gate
abbrev pub bytes_of_rows : RowMap → ℕ
bytes_of_rows rows = 31 + size_of rows

-- how long the log may have become, with all that is staged: as it was found, with all commits that were answered since, and
-- 1,024 bytes for a checkpoint
abbrev pub most_bytes : Base → List BookEntry → ℕ
most_bytes base book = base.bytes + 1024 + needs_of book

-- The book is legal from its base, and rows and log are its replay: the rows with all of its commits, the log with those up
-- to the flushed number, and those after that are staged. No more are acknowledged than are flushed.
pub record HasGone (base : Base) (at : Moment) (live : Live) (book : List BookEntry) : Type 0 where
  pub read : at.live ≡ Some live
  pub legal : IsLegal base book
  pub begun : 1 ≤ at.generation
  pub generation : generation_of book ≡ at.generation
  pub attended : IsAttendedBy at.inside book
  pub redone : kept_by_redo book ≡ Some live.kept
  pub closed : is_closed book ≡ live.closed
  pub broken : TellsBreak live.log.since live.faults (faults_here book)
  pub known : (since : ℕ) → live.log.since ≡ Some since → live.faults ≤ at.faults
  pub rows_are : at.rows ≡ rows_of (history_of base book)
  pub count_is : live.log.since ≡ None → whole_of live ≡ count_of (history_of base book)
  pub behind : live.log.since ≡ None → drop (flushed_of live - base.count) (history_of base book).commits ≡ at.staged
  pub base_is : (history_of base book).base ≡ standing_of base
  pub base_fits : bytes_of_rows base.rows ≤ base.bytes
  pub based : base.count ≤ flushed_of live
  pub acked : (history_of base book).acked ≤ flushed_of live
  pub fits : live.log.since ≡ None → live.log.end + 1 + live.needs ≤ most_bytes base book
  pub limit : live.log.limit ≡ max_file_bytes
  pub in_time : last_tick book ≤ live.mark
  pub marked : live.mark ≤ at.ticks
  pub counted : CountsFaults base.faults at.faults book

-- It has come into a later generation after its first redo, and its log isn't read there yet. The book is legal from its
-- base.
pub record HasRenewed (base : Base) (at : Moment) (book : List BookEntry) : Type 0 where
  pub unread : at.live ≡ None
  pub legal : IsLegal base book
  pub later : 2 ≤ at.generation
  pub generation : generation_of book ≡ at.generation
  pub attended : IsAttendedBy at.inside book
  pub unredone : kept_by_redo book ≡ None
  pub none_here : faults_here book ≡ None
  pub skipped : has_checkpoint book ≡ at.skipped
  pub unclosed : is_closed book ≡ false
  pub base_is : (history_of base book).base ≡ standing_of base
  pub base_fits : bytes_of_rows base.rows ≤ base.bytes
  pub in_time : last_tick book ≤ at.ticks
  pub counted : CountsFaults base.faults at.faults book

-- after its first redo, in this generation or an earlier one
abbrev pub HasBegun : Base → Moment → List BookEntry → Type 0
HasBegun base at book = ((live : Live) × HasGone base at live book) ⊎ HasRenewed base at book

-- It is the first generation, or the disk tells its files: no later redo is known to keep what is acknowledged where the
-- disk tells nothing.
abbrev pub IsSure : Moment → Type 0
IsSure at = (at.generation ≡ 1) ⊎ ((files : Files) × (at.files ≡ Some files))

-- the files mean it, in at most so many bytes
abbrev pub MeansWithin : ℕ → Files → Standing → Type 0
MeansWithin most files standing = (bytes : ℕ) × (bytes ≤ most) × MeansIn files standing bytes

-- a log that goes on lives with the number of the history up to which it is flushed
abbrev pub IsAnchored : Moment → History → Type 0
IsAnchored at history = (live : Live) → at.live ≡ Some live → live.log.since ≡ None
    → IfSome at.files (λ files. ∥ RestsAt live at.rows at.staged files (at.images at.ticks) (number history (flushed_of live)) ∥₁)

-- At every tick whatever a stop leaves is as a durable run has it, and now it is no longer than the log may have become.
-- What is flushed are the commits that the log has made durable.
pub record HasHeld (origin : Origin) (base : Base) (at : Moment) (book : List BookEntry) : Type 0 where
  pub start : ℕ
  pub begun : origin.tick ≤ start
  pub opening : IsOpening origin start at.images
  pub mark : ℕ
  pub mark_is : (live : Live) → at.live ≡ Some live → mark ≡ live.mark
  pub flushed : ℕ
  pub flushed_is : (live : Live) → at.live ≡ Some live → flushed ≡ flushed_of live
  pub keeps : Keeps Means base book start mark at.ticks flushed at.images
  pub lengths : (image : Files) → at.images at.ticks image → HoldsFrom (MeansWithin (most_bytes base book)) flushed (history_of base book) image
  pub anchored : IsAnchored at (history_of base book)

-- ---- from one to the other: of the book wherever it tells, in the first generation or where the disk tells as well, and
-- of the disk's stops where both tell

-- before the first redo
abbrev pub WaitsFrom : Origin → Moment → Type 0
WaitsFrom origin at = IfSome at.book (HasWaited origin at) × Told at (λ book. IsOpening origin at.ticks at.images)

-- after it, with what it found for its base
abbrev pub GoesFrom : Origin → Base → Moment → Type 0
GoesFrom origin base at = IfSome at.book (λ book. IsSure at → HasBegun base at book) × Told at (HasHeld origin base at)

-- the files that the store got mean the base, where they are told, unless a fault of the disk stands in the book before its
-- first redo
abbrev pub IsBaseOf : Origin → Base → List BookEntry → Type 0
IsBaseOf origin base book =
    (breaks_unread book ≡ true) ⊎ IfSome origin.files (λ files. MeansIn files (standing_of base) base.bytes)

-- it has come past its first redo
pub record Begins (origin : Origin) (at : Moment) : Type 0 where
  pub base : Base
  pub faults : base.faults ≡ origin.faults
  pub found : IfSome at.book (IsBaseOf origin base)
  pub goes : GoesFrom origin base at
