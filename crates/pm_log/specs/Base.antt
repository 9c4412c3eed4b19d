-- A base that is spelled piece by piece.
use Rattle.std.specs.{Prelude.{◌≡◌, ◌<◌, ◌≤◌, ℕ, zero, suc, false, List, [], ◌∷◌, ◌++◌, length, drop, All}, List.flat_map}
use Rattle.pm_record.specs.{pm_rows.Limits.max_rows, Spelling.{header_bytes, row_bytes}, StandsFor.IsRow}
use Rattle.pm_log.specs.{Half.{most_in_piece, piece_bytes, pieces_per_sync}, declared.base.Base.Base}

-- the header stands before the first row
abbrev pub head_at : Base → ℕ → List ℕ
head_at base zero = header_bytes base.epoch false base.count (length base.rows.items)
head_at base (suc n) = []

-- what isn't spelled yet, where that row is the next one
abbrev pub unspelled : Base → ℕ → List ℕ
unspelled base next = head_at base next ++ flat_map row_bytes (drop next base.rows.items)

-- an open gate, and the base behind it
abbrev pub whole_base : Base → List ℕ
whole_base base = 1 ∷ unspelled base 0

-- its rows are within the limits, and the next one is among them or the end
pub record MaySpell (base : Base) (next : ℕ) : Type 0 where
  pub rows : All IsRow base.rows.items
  pub few : length base.rows.items ≤ max_rows
  pub within : next ≤ length base.rows.items

-- These bytes are what isn't spelled, up to another row: as many as make a piece, or all.
pub record HasSpelled (base : Base) (next at : ℕ) (bytes : List ℕ) : Type 0 where
  pub further : next ≤ at
  pub within : at ≤ length base.rows.items
  pub parts : unspelled base next ≡ bytes ++ flat_map row_bytes (drop at base.rows.items)
  pub enough : length bytes < piece_bytes → at ≡ length base.rows.items
  pub few : length bytes ≤ most_in_piece

-- A file that is being made from it is written up to that place, in front of what isn't spelled yet, and there is room
-- for a piece.
pub record IsMaking (base : Base) (base_end next done unsynced capacity : ℕ) : Type 0 where
  pub may : MaySpell base next
  pub end_is : base_end ≡ length (whole_base base)
  pub some : 1 ≤ done
  pub left : done < length (whole_base base) → drop done (whole_base base) ≡ unspelled base next
  pub synced : unsynced < pieces_per_sync
  pub room : most_in_piece ≤ capacity
