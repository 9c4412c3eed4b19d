-- What a file in memory has been through, and what a stop after some tick may leave of it.
use Rattle.std.specs.Prelude.{◌≡◌, ◌⊎◌, ℕ, ◌+◌, ◌<◌, ◌≤◌, nat_le, List, [], ◌∷◌, ◌++◌, length, All, filter, fold, slice_get}
use Rattle.pm_disk.specs.{Files.overwritten, declared.mem_file.{Change.{Change, TheVariants.{Written, Synced}}, Entry.Entry, Span.Span}}

-- One file: its bytes as they read, those at its last sync that succeeded, and what was written since.
pub record State : Type 0 where
  pub read : List ℕ
  pub synced : List ℕ
  pub written : List Span

-- a new file
abbrev pub empty : State
empty = record { read = []; synced = []; written = [] }

abbrev pub after_write : State → ℕ → List ℕ → State
after_write state at bytes = record {
  read = overwritten state.read at bytes;
  synced = state.synced;
  written = state.written ++ record { at = at; count = length bytes } ∷ [];
}

abbrev pub after_sync : State → State
after_sync state = record { read = state.read; synced = state.read; written = [] }

abbrev pub changed : State → Change → State
changed state (Written at bytes) = after_write state at bytes.items
changed state Synced = after_sync state

-- the file after so many calls to its disk: the changes up to there
unfoldable pub state_at : List Entry → ℕ → State
state_at past tick = fold (λ state entry. changed state entry.change) empty (filter (λ entry. nat_le entry.tick tick) past)

-- no span covers the place
abbrev pub IsOutside : List Span → ℕ → Type 0
IsOutside spans i = All (λ span. (i < span.at) ⊎ (span.at + span.count ≤ i)) spans

-- A stop leaves what was synced, in all places but those written since; after its end may stand anything.
pub record MayLeave (state : State) (image : List ℕ) : Type 0 where
  pub no_shorter : length state.synced ≤ length image
  pub outside : (i : ℕ) → i < length state.synced → IsOutside state.written i → slice_get image i ≡ slice_get state.synced i
  pub unwritten : state.written ≡ [] → image ≡ state.synced

-- the entries are of no later call, and lead to these bytes, which a stop may leave
pub record IsKept (past : List Entry) (bytes : List ℕ) (ticks : ℕ) : Type 0 where
  pub earlier : All (λ entry. entry.tick ≤ ticks) past
  pub reads : (state_at past ticks).read ≡ bytes
  pub left : MayLeave (state_at past ticks) bytes

-- One call more has changed the file so. What it was after an earlier one stays.
pub record AddsChange (ticks : ℕ) (old new : List Entry) (after : State → State) : Type 0 where
  pub earlier : All (λ entry. entry.tick ≤ ticks + 1) new
  pub past : (t : ℕ) → t ≤ ticks → state_at new t ≡ state_at old t
  pub now : state_at new (ticks + 1) ≡ after (state_at old ticks)
