-- What an act does that was noted and done at the board.
use Rattle.std.specs.Prelude.{◌≡◌, ◌==◌, ℕ, ◌++◌, Bool, true, false, if◌then◌else◌, List, [], Option, None, Some, Result, Ok, Err, IfErr}
use Rattle.pm_server.specs.{pm_exit.declared.child.Status.{Status, TheVariants.{Code, Signal}}, pm_supervisor_journal.declared.act.Act.Act, Acted.LogBehind, pm_query.declared.store.StoreNo.{StoreNo, TheVariants.{Redo as RedoNo, NoMemory as MemoryNo}}, pm_record.declared.fault.RedoFault.{RedoFault, TheVariants.NoMemory as ShortOfMemory}, declared.end.{ServerEnd.{ServerEnd, TheVariants.{Clean, Abnormal, NoMemory}}, StartWhy.TheVariants.{Redo, Killed}, Why.TheVariants.{AfterCrash, StartupFailed, RestartOff}}, pm_segment.Renewal.renewal, pm_supervisor.declared.Ending.Ending}
use Rattle.pm_server.specs.pm_supervisor_journal.declared.act.Act.TheVariants as act
use Rattle.pm_store_shared.specs.{Renewed.AreApart, Told.HasRenewed}
use Rattle.pm_server.specs.pm_supervisor.declared.Ending.TheVariants as endings
use Rattle.pm_postmaster.specs.{declared.came.{Came.Came, LastCame.LastCame}, View.View}

abbrev pub is_short : RedoFault → Bool
is_short ShortOfMemory = true
is_short _ = false

abbrev pub is_killed : Status → Bool
is_killed (Signal number) = number == 9
is_killed (Code code) = false

-- by the refusal of the store that a startup child told
abbrev pub refused_by : Option StoreNo → ServerEnd
refused_by (Some (RedoNo fault)) = if is_short fault then NoMemory else Abnormal (StartupFailed (Redo fault))
refused_by _ = NoMemory

-- how a server ends whose startup child came out so
abbrev pub failed_by : Came → ServerEnd
failed_by came = if is_killed came.status then Abnormal (StartupFailed Killed) else refused_by came.fault

-- how it ends where no startup child brought the data up to date, by the last one, if there was one
abbrev pub after_start : Option Came → ServerEnd
after_start None = NoMemory
after_start (Some came) = failed_by came

-- by the refusal of the store that a checkpointer told
abbrev pub crashed_by : Option StoreNo → ServerEnd
crashed_by (Some MemoryNo) = NoMemory
crashed_by _ = Abnormal AfterCrash

-- how it ends after a crash, by its last checkpointer, if there was one: a shutdown whose last checkpoint was short of memory is no
-- crash
abbrev pub after_crash : Option Came → ServerEnd
after_crash None = Abnormal AfterCrash
after_crash (Some came) = crashed_by came.fault

-- how it ends where its machine does
abbrev pub end_by : Ending → LastCame → ServerEnd
end_by endings.Clean came = Clean
end_by endings.AfterCrash came = after_crash came.checkpointer
end_by endings.RestartOff came = Abnormal RestartOff
end_by endings.StartupFailed came = after_start came.startup

module _ {D C : Type 0} where
  -- all but the log, the store and those that were lost is as it was
  abbrev pub Rests : View D C → View D C → Type 0
  Rests before now = now ≡ record before { log = now.log; shared = now.shared; lost = now.lost }

  -- the store, and those that were lost
  abbrev pub StoreBehind : Act → Result (Unit {0}) ServerEnd → View D C → View D C → Type 0
  StoreBehind (act.Reset generation) (Ok done) before now =
      (now.lost ≡ []) × (others : List ℕ) × AreApart before.lost others × HasRenewed before.shared generation others (renewal (before.lost ++ others) generation) now.shared
  StoreBehind _ result before now = (now.lost ≡ before.lost) × (now.shared ≡ before.shared)

  abbrev pub EndBehind : Act → Result (Unit {0}) ServerEnd → View D C → Type 0
  EndBehind (act.Reset generation) result before = IfErr result (λ end. end ≡ NoMemory)
  EndBehind (act.End ending) result before = result ≡ Err (end_by ending before.came)
  EndBehind _ result before = result ≡ Ok tt

  pub record Performs (a : Act) (result : Result (Unit {0}) ServerEnd) (before now : View D C) : Type 0 where
    pub rests : Rests before now
    pub log : LogBehind a before.log now.log
    pub store : StoreBehind a result before now
    pub ends : EndBehind a result before
