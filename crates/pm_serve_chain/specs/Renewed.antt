-- What journal and book of a server of many connections tell alike of its generations.
use Rattle.std.specs.Prelude.{◌≡◌, ℕ, List, [], ◌∷◌, ◌++◌}
use Rattle.pm_serve_crew.specs.{pm_query.declared.book.BookEntry.BookEntry, pm_state.declared.event.PmEvent.PmEvent, pm_supervisor_chain.Chain.{AgreeOnGenerations, AreDistinct, RedosAreTold, gone_from, lost_from}}

-- The children that ended while their slots were active are gone, in that order, and then whoever else was still inside; each once.
pub record BeginsWithLost (gone lost : List ℕ) : Type 0 where
  pub others : List ℕ
  pub is : gone ≡ lost ++ others
  pub once : AreDistinct gone

abbrev pub LostAreGone : List (List ℕ) → List (List ℕ) → Type 0
LostAreGone [] lost = Unit {0}
LostAreGone (pids ∷ gone) [] = ⊥
LostAreGone (pids ∷ gone) (those ∷ lost) = BeginsWithLost pids those × LostAreGone gone lost

-- They tell of the same generations, of those lost before each, and each end of redo in the book whose child has ended is told.
pub record AgreeOnRenewals (journal : List PmEvent) (book : List BookEntry) : Type 0 where
  pub generations : AgreeOnGenerations journal book
  pub redos_told : RedosAreTold journal book
  pub gone : LostAreGone (gone_from [] book) ([] ∷ lost_from [] journal)
