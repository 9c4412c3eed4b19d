-- What a token's calls make of its list.
use Rattle.std.specs.Prelude.{◌≡◌, ℕ, Bool, true, false, List, [], ◌∷◌, ◌++◌, Result, Ok, Err}
use Rattle.pm_segment.specs.{pm_query.declared.{book.BookEntry.{BookEntry, TheVariants.Detached}, store.StoreNo.StoreNo}, pm_store_apart.declared.pass.Pass.Pass}
use Rattle.pm_store_shared.specs.{declared.views.Noted.Noted, Log.{Continues, entries_of}, Told.TokenModel}

-- The token is the same one, its list got exactly these entries, at its end, and what it finds begins with what it found.
pub record Grew {F : Type 0} (entries : List BookEntry) (before now : TokenModel F) : Type 0 where
  pub table : now.table ≡ before.table
  pub number : now.number ≡ before.number
  pub first : now.first ≡ before.first
  pub added : List Noted
  pub own : now.own ≡ before.own ++ added
  pub added_are : entries_of added ≡ entries
  pub past : Continues before.past now.past

-- the passes after an enter
abbrev pub passes_entered : Result Pass StoreNo → List Pass → List Pass
passes_entered (Ok pass) ps = ps ++ pass ∷ []
passes_entered (Err refusal) ps = ps

-- the leave of this child was noted, or nothing was
abbrev pub NotesLeave : ℕ → Bool → List BookEntry → Type 0
NotesLeave pid true entries = entries ≡ Detached pid ∷ []
NotesLeave pid false entries = entries ≡ []
