-- The law of ends, where nobody outside asks to kill a child or to stop at once.
use Rattle.std.specs.{Prelude.{◌≡◌, ℕ, Bool, true, List}, List.AllByRecursion}
use Rattle.pm_state.specs.{pm_exit.declared.child.{Kind.TheVariants.{Checkpointer, Startup}, Status.TheVariants.Code}, pm_supervisor.{declared.Limits.Limits, Children.is_startup_child}, declared.event.PmEvent.PmEvent, Exits.is_shutdown, Journal.{IsLegal, replay_begun}}
use Rattle.pm_supervisor_journal.specs.Stands.{any_moment}
use Rattle.pm_state.specs.pm_supervisor.declared.Ending.TheVariants as endings
use Rattle.pm_state.specs.declared.event.PmEvent.TheVariants as entry
use Rattle.pm_supervisor_crashes.specs.{Crashes.{HasNoCrash, IsFirstCrash, IsUnasked, stands_behind}, Ends.{EndsSo, IsNoEndOf, StartsNothing}}

pub record EndsForCause : Type 0 where
  -- without a crash the server ends clean
  pub clean :
      (limits : Limits) (journal : List PmEvent) → IsLegal limits any_moment journal → AllByRecursion IsUnasked journal
      → HasNoCrash (replay_begun limits) journal → EndsSo endings.Clean limits journal
  -- where a startup child crashes first, with code 1, its startup has failed, and it is the only one that ends
  pub failed :
      (limits : Limits) (journal : List PmEvent) (pid at : ℕ) (was_active : Bool) → IsLegal limits any_moment journal
      → AllByRecursion IsUnasked journal → (first : IsFirstCrash limits journal (entry.Exited pid Startup (Code 1) was_active at))
      → EndsSo endings.StartupFailed limits journal × AllByRecursion (IsNoEndOf is_startup_child) first.before
      × AllByRecursion StartsNothing first.behind
  -- where a checkpointer does, while the last checkpoint is waited for, it ends after a crash
  pub unclosed :
      (limits : Limits) (journal : List PmEvent) (pid at : ℕ) (was_active : Bool) → IsLegal limits any_moment journal
      → AllByRecursion IsUnasked journal → (first : IsFirstCrash limits journal (entry.Exited pid Checkpointer (Code 1) was_active at))
      → is_shutdown (stands_behind limits first.before).state ≡ true
      → EndsSo endings.AfterCrash limits journal × AllByRecursion StartsNothing first.behind
