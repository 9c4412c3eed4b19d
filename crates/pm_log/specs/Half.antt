-- A file that is being made, and how much a step of that writes.
use Rattle.std.specs.Prelude.{ℕ, ◌+◌, ◌-◌, nat_lt, cond, Bool, List, length, Option, None, Some}
use Rattle.pm_record.specs.pm_rows.Limits.{max_value_bytes}

-- a step writes so many bytes, where they are left
abbrev pub piece_bytes : ℕ
piece_bytes = 1048576

-- a row isn't split, so it may be one row more: a key, the length of its value, and the value
abbrev pub most_in_piece : ℕ
most_in_piece = piece_bytes + (8 + 4 + max_value_bytes)

-- and its file is made durable after so many of them
abbrev pub pieces_per_sync : ℕ
pieces_per_sync = 4

-- Its epoch, an open gate with the base behind it, where the log's gate stood when it was begun, up to which place it is
-- written, and whether all of it was made durable.
pub record Half : Type 0 where
  pub epoch : ℕ
  pub base : List ℕ
  pub from : ℕ
  pub done : ℕ
  pub ready : Bool

-- its length up to its closed gate, once all is copied that stands in front of the log's gate
abbrev pub whole_of : Half → ℕ → ℕ
whole_of half end = length half.base + (end - half.from)

-- what is left of the part that it is at: of the base, and then of what is copied
abbrev pub left_in : List ℕ → ℕ → ℕ → ℕ → ℕ
left_in base from done end = cond (nat_lt done (length base)) (length base - done) (length base + (end - from) - done)

abbrev pub left_of : Half → ℕ → ℕ
left_of half end = left_in half.base half.from half.done end

-- by how many bytes it will be longer than the log's file
abbrev pub over_of : Half → ℕ
over_of half = length half.base - half.from

-- so many bytes more than the log's file, if a file is being made
abbrev pub more_of : Option ℕ → ℕ
more_of None = 0
more_of (Some over) = over

abbrev pub half_at : ℕ → List ℕ → ℕ → ℕ → Bool → Half
half_at epoch base from done ready = record { epoch = epoch; base = base; from = from; done = done; ready = ready }
