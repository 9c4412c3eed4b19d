-- Disk and book, as they come back where no pool was made.
use Rattle.std.specs.Prelude.{◌≡◌, ◌⊎◌, [], ◌∷◌}
use Rattle.pm_query.specs.pm_disk.declared.disk.Disk as Disk
use Rattle.pm_segment.specs.pm_outside.declared.chronicle.Chronicle as Chronicle
use Rattle.pm_query.specs.declared.book.BookEntry.{BookEntry, TheVariants.Opened}
use Rattle.pm_segment.specs.{declared.segment.Segment.Segment, Moment.{book_of, disk_of}}
use Rattle.pm_store_shared.specs.Behind.{Behind}

module _ {D B : Type 0} (g : Disk.Ghosts D) (h : Chronicle.Ghosts B BookEntry) where
  -- They are those of a store that got this disk, and has noted nothing but its first generation.
  abbrev pub IsOpenedAlone : D → D → B → Type 0
  IsOpenedAlone first disk book = (store : Segment D B g h) × Behind first (Opened 1 ∷ []) store × (disk ≡ disk_of store) × (book ≡ book_of store)

  -- They are as they were given, or of such a store.
  abbrev pub IsGivenBack : D → B → D → B → Type 0
  IsGivenBack first given disk book = ((disk ≡ first) × (h.entries book ≡ h.entries given)) ⊎ IsOpenedAlone first disk book
