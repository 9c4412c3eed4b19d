-- What the calls of a store do from one moment to another.
use Rattle.std.specs.{Prelude.{◌≡◌, ◌⊎◌, ℕ, ◌+◌, ◌≤◌, ◌||◌, true, false, List, [], All, Option, None, Some, is_some}, FinMap.empty}
use Rattle.pm_outside.specs.Added.{Added}
use Rattle.pm_query.specs.{pm_disk.Cause.Rose, pm_record.OnDisk.GoesOn, declared.book.BookEntry.{BookEntry, TheVariants.Broke}, Book.Base}
use Rattle.pm_store_apart.specs.{declared.live.Live.Live, Children.{times_behind, times_in}, Epochs.{BeganIn, IsAheadBy, epochs_in}, Moment.Moment, Passes.{IsFlushed, IsStaged}, Stands.{Begins, GoesFrom, Origin, WaitsFrom}, Unread.{has_break, has_redo}}

-- all that a store keeps of its own is as it was
pub record IsAsBefore (before now : Moment) : Type 0 where
  pub book : now.book ≡ before.book
  pub generation : now.generation ≡ before.generation
  pub inside : now.inside ≡ before.inside
  pub rows : now.rows ≡ before.rows
  pub live : now.live ≡ before.live
  pub skipped : now.skipped ≡ before.skipped
  pub commits : now.commits ≡ before.commits
  pub staged : now.staged ≡ before.staged

-- a fault that was noted shows in the disk's count, which has risen from this one
abbrev pub IsShown : ℕ → ℕ → BookEntry → Type 0
IsShown from faults (Broke pid since count) = Rose from faults
IsShown from faults _ = Unit {0}

-- and so does the one that broke the log
abbrev pub IsShownAt : ℕ → ℕ → Option ℕ → Type 0
IsShownAt from faults None = Unit {0}
IsShownAt from faults (Some since) = Rose from faults

abbrev pub BreakIsShown : ℕ → ℕ → Option Live → Type 0
BreakIsShown from faults None = Unit {0}
BreakIsShown from faults (Some live) = IsShownAt from faults live.log.since

-- the count isn't below this one, and has risen from it where the log is broken
pub record IsCountedFrom (from faults : ℕ) (live : Option Live) : Type 0 where
  pub later : from ≤ faults
  pub shown : BreakIsShown from faults live

pub record CountsEntries (from : ℕ) (entries : List BookEntry) (faults : ℕ) (live : Option Live) : Type 0 where
  pub counted : IsCountedFrom from faults live
  pub each : All (IsShown from faults) entries

-- The log is read where it was, or where a redo is among these entries. While it isn't, the files read as they did, unless a
-- fault of the disk is among them.
pub record StaysUnread (entries : List BookEntry) (before now : Moment) : Type 0 where
  pub read : is_some now.live ≡ (is_some before.live || has_redo entries)
  pub files : now.live ≡ None → (has_break entries ≡ true) ⊎ (now.files ≡ before.files)

-- These entries were noted. What held from a beginning holds from it still, or the first redo has come; what a stop could
-- leave before is as it was, and each fault that was noted was counted, whether book and disk tell or not.
pub record Spans (entries : List BookEntry) (before now : Moment) : Type 0 where
  pub notes : Added entries before.book now.book
  pub time : GoesOn before.ticks now.ticks before.images now.images
  pub later : before.faults ≤ now.faults
  pub counts : (from : ℕ) → IsCountedFrom from before.faults before.live → CountsEntries from entries now.faults now.live
  pub waits : (origin : Origin) → WaitsFrom origin before → WaitsFrom origin now ⊎ Begins origin now
  pub goes_on : (origin : Origin) (base : Base) → GoesFrom origin base before → GoesFrom origin base now

-- The same within one generation: each child is inside as often as the entries make of how often it was, what was taken is so
-- still, and what was flushed, and the log has come one epoch further for each checkpoint that was made.
pub record Moves (entries : List BookEntry) (before now : Moment) : Type 0 where
  pub spans : Spans entries before now
  pub generation : now.generation ≡ before.generation
  pub commits : now.commits ≡ before.commits
  pub attends : (pid : ℕ) → times_in pid now.inside ≡ times_behind entries pid (times_in pid before.inside)
  pub unread : StaysUnread entries before now
  pub staged : (front : Option ℕ) → IsStaged front before.live → IsStaged front now.live
  pub flushed : (front : Option ℕ) → IsFlushed front before.live → IsFlushed front now.live
  pub began : (first : ℕ) → BeganIn first before.live → BeganIn first now.live
  pub ahead : (many : ℕ) → IsAheadBy many before.live → IsAheadBy (many + epochs_in entries) now.live

-- From one generation to the next. These entries were noted, nobody is inside, there are no rows, nothing is staged, and the
-- log isn't read.
-- What held from a beginning holds from it still.
pub record Renews (entries : List BookEntry) (before now : Moment) : Type 0 where
  pub notes : Added entries before.book now.book
  pub generation : now.generation ≡ before.generation + 1
  pub inside : now.inside ≡ []
  pub rows : now.rows ≡ empty
  pub unread : now.live ≡ None
  pub unskipped : now.skipped ≡ false
  pub commits : now.commits ≡ before.commits
  pub unstaged : now.staged ≡ []
  pub counts : (from : ℕ) → IsCountedFrom from before.faults before.live → IsCountedFrom from now.faults now.live
  pub waits : (origin : Origin) → WaitsFrom origin before → WaitsFrom origin now
  pub goes_on : (origin : Origin) (base : Base) → GoesFrom origin base before → GoesFrom origin base now
