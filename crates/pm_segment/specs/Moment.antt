-- A store with its disk, at one moment.
use Rattle.std.specs.Prelude.{◌≡◌, List, Option}
use Rattle.pm_query.specs.declared.book.BookEntry.{BookEntry}
use Rattle.pm_store_apart.specs.declared.apart.Apart.{Apart}
use Rattle.pm_segment.specs.declared.segment.Segment.{Segment}
pub use Rattle.pm_store_apart.specs.Moment.{Moment, over_of, over_as, over, alone, KeepsLog, HasLogAt, HasDiskAt, Told}

-- the disk and the book that it holds, and all that it has but for the disk
abbrev pub disk_of : {D B : Type 0} {g h : _} → Segment D B g h → D
disk_of segment = segment.disk

abbrev pub apart_of : {D B : Type 0} {g h : _} → Segment D B g h → Apart D B g h
apart_of segment = segment.apart

abbrev pub book_of : {D B : Type 0} {g h : _} → Segment D B g h → B
book_of segment = segment.apart.book

-- the moment of a store whose book tells this
abbrev pub moment_of : {D B : Type 0} {g h : _} → Option (List BookEntry) → Segment D B g h → Moment
moment_of book segment = over_of book segment.commits segment.disk segment.apart

-- a store as it is now
abbrev pub moment : {D B : Type 0} {g h : _} → Segment D B g h → Moment
moment segment = over_as segment.commits segment.disk segment.apart

-- disk and log are as they were, and what is staged
abbrev pub HasDiskOf : {D B : Type 0} {g h : _} → Segment D B g h → Segment D B g h → Type 0
HasDiskOf before now =
    (disk_of now ≡ disk_of before) × ((moment now).live ≡ (moment before).live) × ((moment now).staged ≡ (moment before).staged)

-- and so are the rows
abbrev pub HasLogOf : {D B : Type 0} {g h : _} → Segment D B g h → Segment D B g h → Type 0
HasLogOf before now =
    (disk_of now ≡ disk_of before) × ((moment now).live ≡ (moment before).live) × ((moment now).rows ≡ (moment before).rows)
    × ((moment now).staged ≡ (moment before).staged)
