-- What the calls of a store do that need no disk.
use Rattle.std.specs.{FinMap.{empty}, Prelude.{◌≡◌, List, [], ◌∷◌, ◌++◌, Option, None, Some, false}}
use Rattle.pm_query.specs.{pm_rows.declared.commit.Change.Change, declared.book.BookEntry.{BookEntry, TheVariants.Opened}}
use Rattle.pm_outside.specs.Added.{Added}
use Rattle.pm_log.specs.declared.log.Log.{Log}
use Rattle.pm_store_apart.specs.{declared.{apart.Apart.Apart, commits.Commits.Commits, live.Live.Live}, Moment.over_as, Moves.{Moves, Renews}, Rests.IsAtRest}

-- It has just been made over a book that tells this: in its first generation, with no rows, nobody inside, and its log not read.
pub record IsNew {D B : Type 0} {g h : _} (told : Option (List BookEntry)) (apart : Apart D B g h) : Type 0 where
  pub book : Added (Opened 1 ∷ []) told (h.entries apart.book)
  pub generation : apart.generation ≡ 1
  pub inside : apart.inside ≡ []
  pub rows : apart.rows ≡ empty
  pub unread : apart.live ≡ None
  pub unskipped : apart.skipped ≡ false
  pub staged : apart.stage.commits ≡ []

-- the log is read, and this
abbrev pub HasLog : Log → Option Live → Type 0
HasLog log None = ⊥
HasLog log (Some live) = live.log ≡ log

-- a store does so from the one disk to the other, in whichever way it writes commits
abbrev pub MovesOn : {D B : Type 0} {g h : _} → List BookEntry → (disk_before : D) → (before : Apart D B g h) → (disk_now : D) → (now : Apart D B g h) → Type 0
MovesOn entries disk_before before disk_now now = (ways : Commits) → Moves entries (over_as ways disk_before before) (over_as ways disk_now now)

abbrev pub RenewsOn : {D B : Type 0} {g h : _} → List BookEntry → (before now : Apart D B g h) → Type 0
RenewsOn {D} entries before now = (ways : Commits) (disk : D) → Renews entries (over_as ways disk before) (over_as ways disk now)

-- These entries were noted, and whatever the disk is, that is what a store does. The log is as it was and rests on the disk still,
-- more may be staged, and the disk is lent as it was.
pub record Grows {D B : Type 0} {g h : _} (entries : List BookEntry) (before now : Apart D B g h) : Type 0 where
  pub moves : (ways : Commits) (disk : D) → Moves entries (over_as ways disk before) (over_as ways disk now)
  pub rests : (disk : D) → IsAtRest disk before → IsAtRest disk now
  pub log : (log : Log) → HasLog log before.live → HasLog log now.live
  pub more : List (List Change)
  pub staged : now.stage.commits ≡ before.stage.commits ++ more
  pub lent : now.lent ≡ before.lent
