-- The epochs of a log within one generation.
use Rattle.std.specs.Prelude.{◌≡◌, ℕ, ◌+◌, true, List, Option, None, Some, sum_by}
use Rattle.pm_query.specs.declared.book.BookEntry.{BookEntry, TheVariants.CheckpointEnded}
use Rattle.pm_store_apart.specs.declared.live.Live.{Live}

-- a checkpoint that was made begins an epoch
abbrev pub begun_by : BookEntry → ℕ
begun_by (CheckpointEnded pid true clean) = 1
begun_by _ = 0

-- how many epochs these entries begin
abbrev pub epochs_in : List BookEntry → ℕ
epochs_in entries = sum_by begun_by entries

-- the generation's first redo found the log in this epoch
abbrev pub BeganIn : ℕ → Option Live → Type 0
BeganIn first None = ⊥
BeganIn first (Some live) = live.epoch ≡ first

-- Where the log isn't broken, it has come so many epochs further since. Before that redo it has come none.
abbrev pub IsAheadBy : ℕ → Option Live → Type 0
IsAheadBy many None = many ≡ 0
IsAheadBy many (Some live) = live.log.since ≡ None → live.log.epoch ≡ live.epoch + many
