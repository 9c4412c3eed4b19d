-- Whom the supervisor gave up before each generation that it began.
use Rattle.std.specs.Prelude.{◌≡◌, ◌⊎◌, ◌≤◌, ℕ, List, [], ◌∷◌, ◌++◌, slice_index_or}
use Rattle.pm_session_answers.specs.pm_query.declared.book.BookEntry.{BookEntry, TheVariants.{Opened, Gone}}
use Rattle.pm_board_acts.specs.{pm_state.declared.event.PmEvent.PmEvent, pm_supervisor_chain.Chain.{AgreeOnGenerations, gone_from, lost_from}}
use Rattle.pm_store_shared.specs.{pm_segment.Children.times_in, declared.views.Noted.Noted, Log.entries_of, Renewed.AreApart}

-- first the lost ones, in that order, and then others, each once and none of the lost
pub record BeginsWithThose (gone lost : List ℕ) : Type 0 where
  pub others : List ℕ
  pub is : gone ≡ lost ++ others
  pub apart : AreApart lost others

-- so it is for each generation that was opened
abbrev pub EachBeginsSo : (gone lost : List (List ℕ)) → Type 0
EachBeginsSo [] lost = Unit {0}
EachBeginsSo (pids ∷ gone) [] = ⊥
EachBeginsSo (pids ∷ gone) (those ∷ lost) = BeginsWithThose pids those × EachBeginsSo gone lost

-- the child that is gone by this entry was attached, so often, or it was lost
abbrev pub WasInside : BookEntry → (attached : ℕ) → (lost : List (List ℕ)) → Type 0
WasInside (Gone pid) attached lost = (1 ≤ attached) ⊎ (1 ≤ times_in pid (slice_index_or lost 0 []))
WasInside _ attached lost = Unit {0}

-- who was lost after this entry
abbrev pub lost_behind : BookEntry → List (List ℕ) → List (List ℕ)
lost_behind (Opened generation) (those ∷ lost) = lost
lost_behind _ lost = lost

-- so it is for each child that was noted as gone, where these were lost in one generation after the other
abbrev pub WereInside : List Noted → (lost : List (List ℕ)) → Type 0
WereInside [] lost = Unit {0}
WereInside (x ∷ own) lost = WasInside x.entry x.attached lost × WereInside own (lost_behind x.entry lost)

-- The shared side opened the generations that the journal begins, and noted as gone before each those that the journal lost, and
-- nobody else but who was attached in the book just before.
pub record RenewsAsTold (journal : List PmEvent) (own : List Noted) : Type 0 where
  pub generations : AgreeOnGenerations journal (entries_of own)
  pub gone : EachBeginsSo (gone_from [] (entries_of own)) ([] ∷ lost_from [] journal)
  pub inside : WereInside own ([] ∷ lost_from [] journal)
