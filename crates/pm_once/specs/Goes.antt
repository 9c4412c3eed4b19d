-- What a server's calls do from one moment to another, and what holds of it at every moment.
use Rattle.std.specs.{Prelude.{◌≡◌, ◌⊎◌, ℕ, true, List, ◌++◌, None, Some, is_some, Result, IfErr, IfSome, OnOk}, List.{AllByRecursion, last_or}}
use Rattle.pm_server.specs.{pm_supervisor.{declared.Limits.Limits, Steps.Trace}, pm_segment.{Children.times_in, Moves.{StaysUnread, Spans}, Redos.is_broken}, pm_outside.Added.Added, pm_supervisor_journal.{Standing.first_due, Stands.Stands, Due.AreOurs}, Journal.{Times, asked_in}, pm_server_lines.Log.{HasSaid, LogView}, declared.end.{ServerEnd.{ServerEnd, TheVariants.{Clean, Abnormal, NoThread, NoMemory}}, Why.TheVariants.{AfterCrash, StartupFailed, RestartOff, GenerationsSpent}}}
use Rattle.pm_server.specs.pm_supervisor.declared.Ending.TheVariants as endings
use Rattle.pm_server.specs.pm_state.declared.action.Action.TheVariants as act
use Rattle.pm_server.specs.pm_state.declared.event.PmEvent.TheVariants as entry
use Rattle.pm_once_acts.specs.{pm_supervisor_chain.Steps.{Step, AreSteps, book_of, journal_of, lost_in}, Acts.AsksAsDue, Steps.{IsFree, IsNoRenewal, EndsWith, ServesNone}}
use Rattle.pm_once_children.specs.{Auxiliaries.AreThere, declared.{checkpointer.Closed.TheVariants.{Full, Made}, outcome.Outcome.TheVariants.{Closed, Refused}}, Outcomes.AreCaused}
use Rattle.pm_once.specs.{Knows.Knows, Undisturbed.IsDisturbedAt, View.View}

-- ---- at every moment

-- how a server began: by what limits, with what log, and with what count of its disk's faults
pub record Outset : Type 0 where
  pub limits : Limits
  pub log : LogView
  pub faults : ℕ

-- These are the steps so far.
pub record IsAt (outset : Outset) (steps : List Step) (v : View) : Type 0 where
  pub past : Trace
  pub stands : Stands outset.limits (Some (journal_of steps)) v.work.standing past
  pub told : IfSome v.work.told (λ entries. entries ≡ journal_of steps)
  pub are_steps : AreSteps outset.limits steps
  pub lost_is : v.lost ≡ lost_in steps
  pub said : HasSaid (journal_of steps) outset.log v.log
  pub auxiliaries : AreThere v.auxiliaries v.work.standing
  pub asks : AsksAsDue (asked_in (journal_of steps)) v.listens v.work.standing
  pub acts : AreOurs (is_some v.work.standing.machine.shutdown) v.work.standing.due
  pub causes : AreCaused steps v.auxiliaries v.outcome
  pub disturbed : IsDisturbedAt outset.faults steps v

-- The store is in the generation of the supervisor, and inside it are those that ended there.
pub record IsOpen (steps : List Step) (v : View) : Type 0 where
  pub free : IsFree (last_or None steps)
  pub same : v.store.generation ≡ v.work.standing.generation
  pub inside : (pid : ℕ) → times_in pid v.store.inside ≡ times_in pid v.lost

-- it has come to where it is from its start
abbrev pub IsRunning : View → Type 0
IsRunning v = (outset : Outset) × (steps : List Step) × IsAt outset steps v × IsOpen steps v

-- ---- from one moment to another

-- These steps more.
pub record Goes (gives : ℕ → Type 0) (steps : List Step) (before now : View) : Type 0 where
  pub at : (outset : Outset) (earlier : List Step) → IsAt outset earlier before → IsOpen earlier before → IsAt outset (earlier ++ steps) now
  pub journal : Added (journal_of steps) before.work.told now.work.told
  pub times : Times gives before.work.standing.moment (journal_of steps) now.work.standing.moment
  pub store : Spans (book_of steps) before.store now.store
  -- without a renewal the store is in its generation
  pub still : AllByRecursion IsNoRenewal steps → now.store.generation ≡ before.store.generation
  pub unread : AllByRecursion IsNoRenewal steps → StaysUnread (book_of steps) before.store now.store
  pub knows : (from : ℕ) → Knows from before → Knows from now

-- it can go on after them
abbrev pub StaysOpen : List Step → View → View → Type 0
StaysOpen steps before now = (earlier : List Step) → IsOpen earlier before → IsOpen (earlier ++ steps) now

-- ---- ends

-- how a server ends by its journal, and by what the last auxiliary child came to
abbrev pub IsEndOf : ServerEnd → List Step → View → Type 0
IsEndOf Clean steps v = EndsWith (entry.Ended endings.Clean) steps × (v.outcome ≡ Some (Closed Made))
IsEndOf (Abnormal AfterCrash) steps v =
    EndsWith (entry.Ended endings.AfterCrash) steps × ((v.outcome ≡ Some (Closed Full)) ⊎ (is_broken v.store.live ≡ true))
IsEndOf (Abnormal RestartOff) steps v = EndsWith (entry.Ended endings.RestartOff) steps
IsEndOf (Abnormal (StartupFailed why)) steps v =
    EndsWith (entry.Ended endings.StartupFailed) steps × (v.outcome ≡ Some (Refused why))
IsEndOf (Abnormal GenerationsSpent) steps v =
    (v.work.standing.generation ≡ 4294967295) × (first_due v.work.standing.due ≡ Some act.Reset)
IsEndOf NoThread steps v = ⊥
IsEndOf NoMemory steps v = Unit {0}

-- ---- a call of a server that may end it

pub record Does (gives : ℕ → Type 0) (result : Result (Unit {0}) ServerEnd) (steps : List Step) (before now : View) : Type 0 where
  pub goes : Goes gives steps before now
  pub stays : OnOk result (StaysOpen steps before now)
  pub ends : IfErr result (λ end. IsEndOf end steps now)
  pub serves : ServesNone steps
