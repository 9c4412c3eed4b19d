-- Tokens outside the list that they came in.
use Rattle.std.specs.Prelude.{◌≡◌, ℕ, ◌+◌, ◌<◌, List, Some, length, slice_get, slice_index_or}
use Rattle.atomic_table.specs.Seated.{TableId}
use Rattle.pm_store_shared.specs.Told.{TokenModel}

module _ {F : Type 0} where
  -- it is still the same token
  abbrev pub IsSame : TokenModel F → TokenModel F → Type 0
  IsSame before now = (now.table ≡ before.table) × (now.number ≡ before.number)

  -- so it is at each place
  abbrev pub AreSame : List (TokenModel F) → List (TokenModel F) → Type 0
  AreSame before now = (i : ℕ) (d : TokenModel F) → i < length before → IsSame (slice_index_or before i d) (slice_index_or now i d)

  -- all n tokens of this table: those in the list by their numbers, and the others after them, the last one first
  pub record AreParted (table : TableId) (n : ℕ) (listed others : List (TokenModel F)) : Type 0 where
    pub all : length listed + length others ≡ n
    pub first : (k : ℕ) (token : TokenModel F) → slice_get listed k ≡ Some token → (token.table ≡ table) × (token.number ≡ k)
    pub last : (k : ℕ) (token : TokenModel F) → slice_get others k ≡ Some token → (token.table ≡ table) × (token.number + (k + 1) ≡ n)
