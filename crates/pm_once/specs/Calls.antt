-- What the parts of a server's calls do.
use Rattle.std.specs.{Prelude.{IsOk, ◌≡◌, ◌⊎◌, ℕ, ◌+◌, ◌≤◌, Bool, true, false, if◌then◌else◌, List, [], ◌∷◌, ◌++◌, length, None, Some, Result, Ok, Err, IfErr, OnOk}, declared.alloc.AllocError.AllocError}
use Rattle.pm_server.specs.{pm_exit.declared.child.Kind.Kind, pm_supervisor.declared.Ending.Ending, pm_disk.Cause.Rose, pm_segment.{Moves.{IsCountedFrom, Moves}, Redos.is_broken}, pm_supervisor_journal.{declared.{act.Act.Act, exit.ChildExit.ChildExit}, Roll.kind_in, Standing.{IsAtRest, Standing, exiting, made}, Stands.IsSettled, Due.{IsIdle, is_last_drawn, AreSays}}, pm_outside.Added.Added, Acted.LogBehind, Journal.{accepted_in, asked_in}, declared.end.ServerEnd.{ServerEnd, TheVariants.NoMemory}, Renewed.HasRenewed}
use Rattle.pm_server.specs.pm_exit.declared.child.Kind.TheVariants as kinds
use Rattle.pm_server.specs.pm_admit.declared.Cac.TheVariants as decisions
use Rattle.pm_once_acts.specs.{pm_supervisor_chain.Steps.{ChildRun, IsRunOf, Step, journal_of}, Acts.{Keeps, IsPresent}, Steps.{if_session, sessions_in}}
use Rattle.pm_server.specs.pm_supervisor_journal.declared.act.Act.TheVariants as act
use Rattle.pm_once.specs.{Goes.{Does, Goes, StaysOpen}, Knows.Knows, View.View, declared.admitted.Admitted.Admitted}
use Rattle.pm_once_children.specs.{Auxiliaries.{AreThere, HasLess, auxiliaries_after, heard_of, IsOff}, AuxiliaryRuns.IsRunAs, Calm.IsFineExit, Outcomes.{end_in, Stays, ComesTo}}

-- ---- an act

abbrev pub end_by : Ending → View → ServerEnd
end_by ending v = end_in ending v.outcome (is_broken v.store.live)

-- the store and those that it lost, after an act that may have renewed it: nothing was noted where memory was short
abbrev pub StoreBehind : Act → Result (Unit {0}) ServerEnd → View → View → Type 0
StoreBehind (act.Reset generation) (Ok done) before now =
    (now.outcome ≡ None) × (now.lost ≡ []) × (others : List ℕ) × HasRenewed generation before.lost others before.store now.store
StoreBehind (act.Reset generation) (Err end) before now =
    (now.outcome ≡ None) × (now.lost ≡ before.lost) × Moves [] before.store now.store
StoreBehind _ result before now =
    (now.outcome ≡ before.outcome) × (now.lost ≡ before.lost) × Stays before.store now.store

abbrev pub EndBehind : Act → Result (Unit {0}) ServerEnd → View → Type 0
EndBehind (act.Reset generation) result before = IfErr result (λ end. end ≡ NoMemory)
EndBehind (act.End ending) result before = result ≡ Err (end_by ending before)
EndBehind _ result before = result ≡ Ok tt

-- where memory is short
abbrev pub short_if : Result (Unit {0}) AllocError → Result (Unit {0}) ServerEnd
short_if (Ok done) = Ok tt
short_if (Err short) = Err NoMemory

-- all but the store and those that it lost is as it was
pub record RestBehind (before now : View) : Type 0 where
  pub auxiliaries : now.auxiliaries ≡ before.auxiliaries
  pub log : now.log ≡ before.log
  pub work : now.work ≡ before.work
  pub listens : now.listens ≡ before.listens

abbrev pub RenewsStore : ℕ → Result (Unit {0}) AllocError → View → View → Type 0
RenewsStore generation result before now = RestBehind before now × StoreBehind (act.Reset generation) (short_if result) before now

-- an act is done, all but its entry
pub record Performs (a : Act) (result : Result (Unit {0}) ServerEnd) (before now : View) : Type 0 where
  pub auxiliaries : now.auxiliaries ≡ auxiliaries_after a before.auxiliaries
  pub log : LogBehind a before.log now.log
  pub store : StoreBehind a result before now
  pub ends : EndBehind a result before
  pub listens : now.listens ≡ before.listens

abbrev pub outcome : Result Bool ServerEnd → Result (Unit {0}) ServerEnd
outcome (Ok on) = Ok tt
outcome (Err end) = Err end

-- ---- acts, one after the other

-- the first act that is due was done, or there was none
pub record DoesNext (result : Result Bool ServerEnd) (steps : List Step) (before now : View) : Type 0 where
  pub does : Does (λ at. ⊥) (outcome result) steps before now
  pub keeps : Keeps before.work.standing now.work.standing
  pub fewer : result ≡ Ok true → length now.work.standing.due + 1 ≡ length before.work.standing.due
  pub none_due : result ≡ Ok false → now.work.standing.due ≡ []
  pub ended : OnOk result (now.work.standing.ended ≡ before.work.standing.ended)
  pub says : AreSays before.work.standing.due → AreSays now.work.standing.due × (now.work.standing.owes_smart ≡ before.work.standing.owes_smart)
  pub listens : now.listens ≡ before.listens

-- and where all that are due are lines, the store is as it was. `view` is a server at a moment, and `store` its store.
abbrev pub DoesOne : {S X : Type 0} → (view : S → View) → (store : S → X) → Result Bool ServerEnd → (before now : S) → Type 0
DoesOne view store result before now =
    (steps : List Step) × DoesNext result steps (view before) (view now)
    × (AreSays (view before).work.standing.due → IsOk result × (store now ≡ store before))

-- all acts that were due were done
pub record Acts (result : Result (Unit {0}) ServerEnd) (steps : List Step) (before now : View) : Type 0 where
  pub does : Does (λ at. ⊥) result steps before now
  pub keeps : Keeps before.work.standing now.work.standing
  pub none_due : OnOk result (now.work.standing.due ≡ [])
  pub says : AreSays before.work.standing.due → now.work.standing.owes_smart ≡ before.work.standing.owes_smart
  pub ended : OnOk result (now.work.standing.ended ≡ before.work.standing.ended)
  pub listens : now.listens ≡ before.listens

-- ---- the run of a child

-- A child that is there has run, and its end isn't noted yet.
pub record HasRun (run : ChildRun) (before now : View) : Type 0 where
  pub is_run : IsRunOf run
  pub there : kind_in run.pid before.work.standing.children ≡ Some run.kind
  pub generation : run.generation ≡ before.store.generation
  pub off : IsOff run.kind now.auxiliaries
  pub auxiliaries : (s : Standing) → AreThere before.auxiliaries s → AreThere now.auxiliaries s
  pub work : now.work ≡ before.work
  pub store : Moves run.noted before.store now.store
  pub knows : (from : ℕ) → Knows from before → Knows from now
  pub told : IsRunAs (heard_of before.auxiliaries) run.kind run
  pub less : HasLess before.auxiliaries now.auxiliaries
  pub sound : (from : ℕ) → IsCountedFrom from before.store.faults before.store.live → (run.kind ≡ kinds.Backend → IsFineExit run) ⊎ Rose from now.store.faults
  pub came : ComesTo run before.outcome now.outcome
  pub lost : now.lost ≡ before.lost
  pub log : now.log ≡ before.log
  pub listens : now.listens ≡ before.listens

-- the end of a child is noted at this moment
pub record NotesExit (gives : ℕ → Type 0) (exit : ChildExit) (at : ℕ) (before now : View) : Type 0 where
  pub given : gives at
  pub standing : now.work.standing ≡ made (exiting exit at before.work.standing) before.work.standing
  pub told : Added (exiting exit at before.work.standing).entries before.work.told now.work.told
  pub lost : now.lost ≡ (if exit.was_active then before.lost ++ exit.pid ∷ [] else before.lost)
  pub store : Stays before.store now.store
  pub outcome : now.outcome ≡ before.outcome
  pub log : now.log ≡ before.log
  pub auxiliaries : now.auxiliaries ≡ before.auxiliaries
  pub listens : now.listens ≡ before.listens

-- it isn't noted, since memory is short
pub record NotesNoExit (before now : View) : Type 0 where
  pub standing : now.work.standing ≡ before.work.standing
  pub told : now.work.told ≡ before.work.told
  pub lost : now.lost ≡ before.lost
  pub store : Stays before.store now.store
  pub outcome : now.outcome ≡ before.outcome
  pub log : now.log ≡ before.log
  pub auxiliaries : now.auxiliaries ≡ before.auxiliaries
  pub listens : now.listens ≡ before.listens

-- a smart shutdown was asked for
pub record Asks (gives : ℕ → Type 0) (result : Result (Unit {0}) ServerEnd) (steps : List Step) (before now : View) : Type 0 where
  pub does : Does gives result steps before now
  pub auxiliaries : (pid : ℕ) (kind : Kind) → IsPresent (Some pid) kind before.work.standing → IsPresent (Some pid) kind now.work.standing
  pub idle : OnOk result (IsIdle now.work.standing)
  pub opened : StaysOpen steps before now
  pub rests : IsAtRest now.work.standing
  pub drawn : is_last_drawn before.work.standing.last_pid ≡ true → is_last_drawn now.work.standing.last_pid ≡ true
  pub deaf : now.listens ≡ false
  pub short : IfErr result (λ end. end ≡ NoMemory)
  pub asked : (1 ≤ length (asked_in (journal_of steps))) ⊎ (result ≡ Err NoMemory)

-- a child that serves no connection has run
pub record HasAuxiliaryRun (run : ChildRun) (before now : View) : Type 0 where
  pub ran : HasRun run before now
  pub alone : if_session run.kind run ≡ []

-- all acts that are due were done, and the shutdown was asked for that is owed after the last pid
pub record Finishes (gives : ℕ → Type 0) (result : Result (Unit {0}) ServerEnd) (steps : List Step) (before now : View) : Type 0 where
  pub does : Does gives result steps before now
  pub idle : OnOk result (IsIdle now.work.standing)
  pub deaf : (now.listens ≡ before.listens) ⊎ ((now.listens ≡ false) × (is_last_drawn now.work.standing.last_pid ≡ true))
  pub drawn : is_last_drawn before.work.standing.last_pid ≡ true → is_last_drawn now.work.standing.last_pid ≡ true

-- A connection was taken under this pid, and the shutdown was asked for that is owed where it is the last.
pub record Admits (gives : ℕ → Type 0) (admitted : Admitted) (steps : List Step) (before now : View) : Type 0 where
  pub goes : Goes gives steps before now
  pub opened : StaysOpen steps before now
  pub rests : IsAtRest now.work.standing
  pub unowed : OnOk admitted.settled (now.work.standing.owes_smart ≡ false)
  pub there : IsPresent (Some admitted.pid) kinds.Backend now.work.standing
  pub first : 1 ≤ admitted.pid
  pub accepted : accepted_in (journal_of steps) ≡ record { pid = admitted.pid; decision = decisions.Ok } ∷ []
  pub sessions : sessions_in steps ≡ []
  pub deaf : (now.listens ≡ before.listens) ⊎ ((now.listens ≡ false) × (is_last_drawn now.work.standing.last_pid ≡ true))
  pub drawn : is_last_drawn before.work.standing.last_pid ≡ true → is_last_drawn now.work.standing.last_pid ≡ true

-- the machine was let do what it does by itself, and its acts were done
pub record Turns (result : Result (Unit {0}) ServerEnd) (steps : List Step) (before now : View) : Type 0 where
  pub does : Does (λ at. ⊥) result steps before now
  pub rests : OnOk result (IsAtRest now.work.standing)
  pub settled : OnOk result (IsSettled now.work.standing)
  pub drawn : is_last_drawn before.work.standing.last_pid ≡ true → is_last_drawn now.work.standing.last_pid ≡ true
  pub listens : now.listens ≡ before.listens
