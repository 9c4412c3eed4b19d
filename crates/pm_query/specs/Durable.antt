-- What a stop leaves of a history. Which standings two files mean is the log's to say: `Means` stands for that.
use Rattle.std.specs.Prelude.{ℕ, ◌≤◌, ◌<◌, List, All}
use Rattle.pm_disk.specs.Files.{Files}
use Rattle.pm_query.specs.{declared.book.BookEntry.{BookEntry, TheVariants.{Answered, Released}}, History.{History, count_of, number}, Book.{Base, history_of}, AtTick.history_at}
use Rattle.pm_rows.specs.Standing.{Standing}

-- the image means a number of the history that is at least this one
abbrev pub HoldsFrom : (Files → Standing → Type 0) → ℕ → History → Files → Type 0
HoldsFrom Means least history image = ∥ ((n : ℕ) × (least ≤ n) × (n ≤ count_of history) × Means image (number history n)) ∥₁

-- one that holds every acknowledged commit
abbrev pub HoldsAcknowledged : (Files → Standing → Type 0) → History → Files → Type 0
HoldsAcknowledged Means history image = HoldsFrom Means history.acked history image

-- the image means whatever some outcome of an earlier stop means
abbrev pub MeansAsOne : (Files → Standing → Type 0) → (Files → Type 0) → Files → Type 0
MeansAsOne Means before image = ∥ ((earlier : Files) × before earlier × ((standing : Standing) → Means earlier standing → Means image standing)) ∥₁

-- an answer or a release has a tick from the one to the other
abbrev pub IsWithin : ℕ → ℕ → BookEntry → Type 0
IsWithin start mark (Answered pid script reply commit front tick) = (start ≤ tick) × (tick ≤ mark)
IsWithin start mark (Released pid front tick) = (start ≤ tick) × (tick ≤ mark)
IsWithin start mark _ = Unit {0}

-- What a whole run leaves, from its first tick to now. From some tick on, which is no later than any entry's, whatever a
-- stop leaves means a number of the history at that tick that holds every acknowledged commit. Up to that tick it means
-- what a stop could have left at the beginning.
pub record IsDurable (Means : Files → Standing → Type 0) (base : Base) (book : List BookEntry) (from now : ℕ) (images_before images_now : ℕ → Files → Type 0) : Type 0 where
  pub start : ℕ
  pub begun : from ≤ start
  pub reached : start ≤ now
  pub entries : All (IsWithin start now) book
  pub opening : (t : ℕ) → from ≤ t → t ≤ start → (image : Files) → images_now t image → MeansAsOne Means (images_before from) image
  pub numbers : (t : ℕ) → start ≤ t → t ≤ now → (image : Files) → images_now t image → HoldsAcknowledged Means (history_at base book t) image

-- What a store keeps meanwhile. The mark is a tick that no entry's is above. Up to it whatever a stop leaves is as above,
-- for good; from it on it means a number of the whole history that is at least the flushed one.
pub record Keeps (Means : Files → Standing → Type 0) (base : Base) (book : List BookEntry) (start mark now flushed : ℕ) (images : ℕ → Files → Type 0) : Type 0 where
  pub begun : start ≤ mark
  pub marked : mark ≤ now
  pub entries : All (IsWithin start mark) book
  pub acked : (history_of base book).acked ≤ flushed
  pub whole : flushed ≤ count_of (history_of base book)
  pub past : (t : ℕ) → start ≤ t → t < mark → (image : Files) → images t image → HoldsAcknowledged Means (history_at base book t) image
  pub since : (t : ℕ) → mark ≤ t → t ≤ now → (image : Files) → images t image → HoldsFrom Means flushed (history_of base book) image
