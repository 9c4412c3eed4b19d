-- What a run of a server leaves in its two files, after whatever crash cycles.
use Rattle.std.specs.{Prelude.{◌≡◌, ◌⊎◌, ℕ, ◌≤◌, true, false, List, [], ◌∷◌, Option, Some, IfSome}, List.AllByRecursion}
use Rattle.pm_query.specs.{pm_disk.{Files.Files, declared.disk.Which.Which}, pm_record.{Pair.{Means, MeansIn, PairStandsFor}, StandsFor.{Content, standing_of}}, History.{History, count_of, number}, Book.{Base, IsLegal, history_of, standing_of as base_standing}, Durable.{IsDurable, MeansAsOne}, declared.book.BookEntry.{BookEntry, TheVariants.{Answered, Opened, Redone, Released}}}
use Rattle.pm_segment.specs.Unread.{breaks_unread, has_redo}
use Rattle.pm_server.specs.{Views.DiskView, declared.end.ServerEnd.{ServerEnd, TheVariants.Clean}}

-- ---- before the first redo has ended

abbrev pub IsNoAnswer : BookEntry → Type 0
IsNoAnswer (Answered pid script reply commit front tick) = ⊥
IsNoAnswer (Released pid front tick) = ⊥
IsNoAnswer _ = Unit {0}

-- No redo has ended, and no query was answered. At every tick whatever a stop leaves means what a stop could have left at first,
-- where the disk tells.
pub record KeepsMeaning (book : List BookEntry) (before now : DiskView) : Type 0 where
  pub unanswered : AllByRecursion IsNoAnswer book
  pub unredone : has_redo book ≡ false
  pub keeps : IfSome now.files (λ _. (t : ℕ) → before.ticks ≤ t → t ≤ now.ticks
      → (image : Files) → now.images t image → MeansAsOne Means (before.images before.ticks) image)

-- ---- after it

-- The base is what the files meant that were handed in, and so many bytes, where they are told, unless a fault of the disk
-- stands in the book before its first redo. Where it tells its files at the end, at every tick whatever a stop leaves means a
-- number of the history at that tick that holds every acknowledged commit.
pub record HoldsHistory (base : Base) (book : List BookEntry) (before now : DiskView) : Type 0 where
  pub base_is : (breaks_unread book ≡ true) ⊎ IfSome before.files (λ files. MeansIn files (base_standing base) base.bytes)
  pub durable : IfSome now.files (λ _. IsDurable Means base book before.ticks now.ticks before.images now.images)

-- The files mean all commits of the history, and the log is clean: it says so, and no batch stands after its base.
pub record IsClean (history : History) (files : Files) : Type 0 where
  pub file : Which
  pub content : Content
  pub end : ℕ
  pub pair : PairStandsFor files file content end
  pub is : standing_of content ≡ number history (count_of history)
  pub clean : content.clean ≡ true
  pub nothing_behind : content.batches ≡ []

-- They are so, and so is whatever a stop leaves.
abbrev pub AreLeftClean : History → DiskView → Files → Type 0
AreLeftClean history now files = ∥ IsClean history files ∥₁ × ((image : Files) → now.images now.ticks image → ∥ IsClean history image ∥₁)

-- ---- the whole

abbrev pub IsNoOpening : BookEntry → Type 0
IsNoOpening (Opened generation) = ⊥
IsNoOpening _ = Unit {0}

-- the store was opened once
abbrev pub HasOneGeneration : List BookEntry → Type 0
HasOneGeneration [] = Unit {0}
HasOneGeneration (first ∷ book) = AllByRecursion IsNoOpening book

-- it has one generation, or the disk tells its files
abbrev pub IsSure : List BookEntry → Option Files → Type 0
IsSure book files = HasOneGeneration book ⊎ ((its : Files) × (files ≡ Some its))

-- What a run leaves that was handed an empty book: a book that is legal from a base, and files that at every tick hold its
-- history from its first redo on, and before it mean what they meant. After a clean end they stand for all its commits, and so
-- does whatever a stop leaves.
pub record IsStory (end : ServerEnd) (before now : DiskView) (book : List BookEntry) : Type 0 where
  pub base : Base
  pub faults_are : base.faults ≡ before.faults
  pub legal : IsSure book now.files → IsLegal base book
  pub stops : KeepsMeaning book before now ⊎ HoldsHistory base book before now
  pub clean : end ≡ Clean → IfSome now.files (λ files. ∥ IsClean (history_of base book) files ∥₁)
  pub leaves_clean : end ≡ Clean → IfSome now.files (λ _. (image : Files) → now.images now.ticks image → ∥ IsClean (history_of base book) image ∥₁)
