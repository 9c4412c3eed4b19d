-- One of the files that a stop may leave: the fill stands in each place written since the last sync, and the file may
-- end before that.
use Rattle.std.specs.{Prelude.{◌≡◌, ℕ, ◌+◌, ◌==◌, ◌%◌, if◌then◌else◌, List, map, fold, length, take, slice_index}, List.range_with_len}
use Rattle.pm_disk.specs.{Files.overwritten, Past.{State, changed}, declared.mem_file.{Change.Change, Replayed.Replayed, Span.Span}}

-- so many bytes of the fill, over and over from its first on, or of 0 where it has none
abbrev pub filled : List ℕ → ℕ → List ℕ
filled fill count = map (λ k. if length fill == 0 then 0 else slice_index fill (k % length fill)) (range_with_len 0 count)

-- with the fill in each span, one after another
abbrev pub spoiled : List ℕ → List ℕ → List Span → List ℕ
spoiled fill bytes spans = fold (λ image span. overwritten image span.at (filled fill span.count)) bytes spans

-- and past the length at the last sync are at most so many bytes
abbrev pub stopped : List ℕ → ℕ → State → List ℕ
stopped fill beyond state = take (length state.synced + beyond) (spoiled fill state.read state.written)

-- the parts of the state of which that is made
pub record Tells (replayed : Replayed) (state : State) : Type 0 where
  pub read : state.read ≡ replayed.bytes.items
  pub synced : length state.synced ≡ replayed.synced
  pub written : state.written ≡ replayed.written.items

-- a change made again
abbrev pub Redone : Change → Replayed → Replayed → Type 0
Redone change old new = (state : State) → Tells old state → Tells new (changed state change)
