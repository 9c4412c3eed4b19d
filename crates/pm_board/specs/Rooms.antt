-- What contracts see of a board's memory, before anything lies at its home.
use Rattle.std.specs.Prelude.{◌≡◌, ℕ, ◌≤◌, List, [], Some, length, slice_get}
use Rattle.atomic_table.specs.Seated.{TableId}
use Rattle.pm_board_words.specs.declared.views.SessionLimit.{SessionLimit}

pub record RoomModel : Type 0 where
  pub slots : ℕ
  pub session_limit : SessionLimit

-- so many holds on the words of one table
abbrev pub AreShares : TableId → ℕ → List TableId → Type 0
AreShares table count shares = (length shares ≡ count) × ((k : ℕ) (share : TableId) → slice_get shares k ≡ Some share → share ≡ table)

-- there are no posts yet, and so many fit
abbrev pub HasRoom : {P : Type 0} → ℕ → List P → ℕ → Type 0
HasRoom count posts capacity = (posts ≡ []) × (count ≤ capacity)
