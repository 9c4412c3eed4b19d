-- What the journal of a server says of its end, and of the children that end in it.
use Rattle.std.specs.{Prelude.{◌≡◌, ◌⊎◌, ℕ, Bool, true, false, List, [], ◌∷◌, ◌++◌}, List.AllByRecursion}
use Rattle.pm_state.specs.pm_exit.declared.child.Kind.TheVariants as kinds
use Rattle.pm_state.specs.{pm_exit.declared.child.{Kind.Kind, Status.TheVariants.Code}, pm_supervisor.{declared.{Ending.Ending, Limits.Limits}, Children.{is_dead_end, is_startup_child}}, declared.event.PmEvent.PmEvent, Journal.{Follows, all_replayed, replay_begun}}
use Rattle.pm_supervisor_journal.specs.Stands.{any_moment}
use Rattle.pm_state.specs.declared.event.PmEvent.TheVariants as entry

-- ---- entries

-- it begins no next generation
abbrev pub IsNoReset : PmEvent → Type 0
IsNoReset (entry.Reset generation) = ⊥
IsNoReset _ = Unit {0}

-- no child of such a kind ends by it
abbrev pub IsNoEndOf : (Kind → Bool) → PmEvent → Type 0
IsNoEndOf test (entry.Exited pid kind status was_active at) = test kind ≡ false
IsNoEndOf test _ = Unit {0}

-- nor is one started by it
abbrev pub IsNoStartOf : (Kind → Bool) → PmEvent → Type 0
IsNoStartOf test (entry.Started pid kind) = test kind ≡ false
IsNoStartOf test _ = Unit {0}

-- a startup child that ends by it has exit code 0 or 1
abbrev pub EndsStartupByCode : PmEvent → Type 0
EndsStartupByCode (entry.Exited pid kinds.Startup status was_active at) = (status ≡ Code 0) ⊎ (status ≡ Code 1)
EndsStartupByCode _ = Unit {0}

-- It starts no child and no generation, and no child ends by it but one that refuses a connection.
abbrev pub StartsNothing : PmEvent → Type 0
StartsNothing (entry.Started pid kind) = ⊥
StartsNothing (entry.Accepted pid decision) = ⊥
StartsNothing (entry.Reset generation) = ⊥
StartsNothing (entry.Exited pid kind status was_active at) = is_dead_end kind ≡ true
StartsNothing _ = Unit {0}

-- ---- whole journals

-- at most one of these isn't so: behind each that isn't, all are
abbrev pub AllButOne : (PmEvent → Type 0) → List PmEvent → Type 0
AllButOne P [] = Unit {0}
AllButOne P (e ∷ journal) = (P e ⊎ AllByRecursion P journal) × AllButOne P journal

-- at most one child of such a kind ends
abbrev pub EndsAtMostOnce : (Kind → Bool) → List PmEvent → Type 0
EndsAtMostOnce test journal = AllButOne (IsNoEndOf test) journal

-- and at most one is started
abbrev pub StartsAtMostOnce : (Kind → Bool) → List PmEvent → Type 0
StartsAtMostOnce test journal = AllButOne (IsNoStartOf test) journal

-- A server of one generation: where it ends, it ends so; and at most one startup child is started, and ends, with exit code 0 or 1.
pub record EndsSo (how : Ending) (limits : Limits) (journal : List PmEvent) : Type 0 where
  pub ends : (front : List PmEvent) (ending : Ending) → journal ≡ front ++ entry.Ended ending ∷ [] → ending ≡ how
  pub no_reset : AllByRecursion IsNoReset journal
  -- the next entry can't begin another generation
  pub none_next : (generation : ℕ) → ¬ (Follows any_moment (all_replayed (replay_begun limits) journal) (entry.Reset generation))
  pub codes : AllByRecursion EndsStartupByCode journal
  pub one_startup : EndsAtMostOnce is_startup_child journal
  pub one_start : StartsAtMostOnce is_startup_child journal
