-- What a token's calls learn of the disk.
use Rattle.std.specs.Prelude.{◌≡◌, ℕ, false, List, Option, None, Some, IfSome}
use Rattle.pm_query.specs.pm_disk.declared.disk.Disk as Disk
use Rattle.pm_query.specs.{pm_disk.Files.Files, Calls.{DiskFact, unread_for, flushed_to}, declared.book.BookEntry.BookEntry, pm_record.declared.fault.RedoFault.RedoFault}
use Rattle.pm_segment.specs.pm_outside.declared.chronicle.Chronicle as Chronicle
use Rattle.pm_segment.specs.{pm_store_apart.declared.{apart.Apart.Apart, live.Live.Live}, Fronts.flushed_of, Moment.over, Rests.IsAtRest, pm_redo.Found.IsReason, Unread.{has_break, has_redo}}
use Rattle.pm_store_shared.specs.{Behind.BehindAt, Log.Continues}

-- Where no fault of the disk is among these entries, and no redo has ended, this is why the files can't be read that a store was handed.
abbrev pub IsUnread : (files : Option Files) → (past : List BookEntry) → RedoFault → Type 0
IsUnread files past fault = has_break past ≡ false → has_redo past ≡ false → IfSome files (IsReason fault)

module _ {D B : Type 0} (g : Disk.Ghosts D) (h : Chronicle.Ghosts B BookEntry) where
  -- At some moment, after the first of these entries, the store's log was flushed up to this number.
  pub record WasFlushed (first : D) (past : List BookEntry) (front : ℕ) : Type 0 where
    pub log : List BookEntry
    pub within : Continues log past
    pub disk : D
    pub apart : Apart D B g h
    pub stood : BehindAt g first log (over disk apart)
    pub rests : IsAtRest disk apart
    pub its : Live
    pub read : apart.live ≡ Some its
    pub reached : front ≡ flushed_of its

  -- so it is known of a store that got this disk, after these entries
  abbrev pub Learned : (first : Option D) → (past : List BookEntry) → DiskFact → Type 0
  Learned None past fact = Unit {0}
  Learned (Some first) past (unread_for fault) = IsUnread (g.seen first) past fault
  Learned (Some first) past (flushed_to front) = WasFlushed first past front
