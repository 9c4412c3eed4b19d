-- The journal of a run of a server.
use Rattle.std.specs.Prelude.{◌≡◌, ◌⊎◌, ℕ, ◌<◌, List, [], ◌∷◌, Option}
use Rattle.pm_supervisor_journal.specs.{pm_state.{pm_modes.declared.Mode.Mode, declared.event.PmEvent.PmEvent, Journal.IsLegal}, pm_supervisor.declared.Limits.Limits, declared.supervision.Taken.Taken, Moments.AreGiven, pm_outside.Added.Added, Stands.any_moment}
use Rattle.pm_supervisor_journal.specs.pm_state.declared.event.PmEvent.TheVariants as entry

-- These entries were added. They were legal at every moment, and the clock gave their moments.
pub record IsJournal (limits : Limits) (gives : ℕ → Type 0) (journal : List PmEvent) (before now : Option (List PmEvent)) : Type 0 where
  pub noted : Added journal before now
  pub legal : IsLegal limits any_moment journal
  pub given : AreGiven gives journal

-- ---- moments

-- the clock gives this one, or it is the last one before, which isn't the first of all
abbrev pub IsMoment : (ℕ → Type 0) → ℕ → ℕ → Type 0
IsMoment gives before at = gives at ⊎ ((at ≡ before) × (0 < before))

-- so it is with those of these entries, and with the last one now
pub record Times (gives : ℕ → Type 0) (before : ℕ) (entries : List PmEvent) (now : ℕ) : Type 0 where
  pub each : AreGiven (IsMoment gives before) entries
  pub last : (now ≡ before) ⊎ gives now

-- ---- requests, and connections

abbrev pub asked_in : List PmEvent → List Mode
asked_in [] = []
asked_in (entry.Asked mode at ∷ journal) = mode ∷ asked_in journal
asked_in (_ ∷ journal) = asked_in journal

abbrev pub accepted_in : List PmEvent → List Taken
accepted_in [] = []
accepted_in (entry.Accepted pid decision ∷ journal) = record { pid = pid; decision = decision } ∷ accepted_in journal
accepted_in (_ ∷ journal) = accepted_in journal
