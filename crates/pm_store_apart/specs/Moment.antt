-- A store at one moment.
use Rattle.std.specs.Prelude.{◌≡◌, ℕ, Bool, List, Option, None, IfSome}
use Rattle.pm_query.specs.{pm_disk.Files.Files, pm_rows.{declared.commit.Change.Change, Fold.RowMap}, declared.book.BookEntry.BookEntry}
use Rattle.pm_store_apart.specs.declared.{apart.Apart.Apart, commits.Commits.{Commits, TheVariants.Staged}, live.Live.Live}

-- The book where it tells, the generation, the pids of the children inside, the rows, the log after this generation's
-- redo, whether a checkpoint was left out before that, when commits are written, and those that wait for that. Of the disk: the files as they read, what a stop may leave after
-- so many calls, and its counts of calls and faults.
pub record Moment : Type 1 where
  pub book : Option (List BookEntry)
  pub generation : ℕ
  pub inside : List ℕ
  pub rows : RowMap
  pub live : Option Live
  pub skipped : Bool
  pub commits : Commits
  pub staged : List (List Change)
  pub files : Option Files
  pub images : ℕ → Files → Type 0
  pub ticks : ℕ
  pub faults : ℕ

-- ---- a store apart from its disk, over any disk

-- the moment of one whose book tells this, with commits written in this way
abbrev pub over_of : {D B : Type 0} {g h : _} → Option (List BookEntry) → Commits → D → Apart D B g h → Moment
over_of {g = g} book ways disk apart = record {
  book = book;
  generation = apart.generation;
  inside = apart.inside;
  rows = apart.rows;
  live = apart.live;
  skipped = apart.skipped;
  commits = ways;
  staged = apart.stage.commits;
  files = g.seen disk;
  images = g.images disk;
  ticks = g.ticks disk;
  faults = g.faults disk;
}

abbrev pub over_as : {D B : Type 0} {g h : _} → Commits → D → Apart D B g h → Moment
over_as {h = h} ways disk apart = over_of (h.entries apart.book) ways disk apart

-- the store with this disk, where commits are staged
abbrev pub over : {D B : Type 0} {g h : _} → D → Apart D B g h → Moment
over disk apart = over_as Staged disk apart

-- and with a disk that tells nothing
abbrev pub alone : {D B : Type 0} {g h : _} → Apart D B g h → Moment
alone {h = h} apart = record {
  book = h.entries apart.book;
  generation = apart.generation;
  inside = apart.inside;
  rows = apart.rows;
  live = apart.live;
  skipped = apart.skipped;
  commits = Staged;
  staged = apart.stage.commits;
  files = None;
  images = λ t image. ⊥;
  ticks = 0;
  faults = 0;
}

-- log, rows and what is staged are as they were
abbrev pub KeepsLog : {D B : Type 0} {g h : _} → Apart D B g h → Apart D B g h → Type 0
KeepsLog before now =
    ((alone now).live ≡ (alone before).live) × ((alone now).rows ≡ (alone before).rows) × ((alone now).staged ≡ (alone before).staged)

-- and so is the disk
abbrev pub HasLogAt : {D B : Type 0} {g h : _} → (disk_before : D) → (before : Apart D B g h) → (disk_now : D) → (now : Apart D B g h) → Type 0
HasLogAt disk_before before disk_now now =
    (disk_now ≡ disk_before) × ((alone now).live ≡ (alone before).live) × ((alone now).rows ≡ (alone before).rows) × ((alone now).staged ≡ (alone before).staged)

-- disk, log and what is staged are as they were
abbrev pub HasDiskAt : {D B : Type 0} {g h : _} → (disk_before : D) → (before : Apart D B g h) → (disk_now : D) → (now : Apart D B g h) → Type 0
HasDiskAt disk_before before disk_now now =
    (disk_now ≡ disk_before) × ((alone now).live ≡ (alone before).live) × ((alone now).staged ≡ (alone before).staged)

-- ---- where all is told

-- so it is of the book, where book and disk tell
abbrev pub Told : Moment → (List BookEntry → Type 0) → Type 0
Told at Holds = IfSome at.book (λ book. IfSome at.files (λ files. Holds book))
