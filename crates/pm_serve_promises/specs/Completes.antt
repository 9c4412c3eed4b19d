-- When a server of many connections ends well.
use Rattle.std.specs.{Prelude.{◌≡◌, ◌≢◌, ◌⊎◌, ℕ, [], ◌∷◌, List, Some}, List.{AllByRecursion, Contains}}
use Rattle.pm_server.specs.{pm_disk.{Cause.Rose, Files.Files}, pm_exit.declared.child.Status.TheVariants.Signal, pm_query.declared.store.StoreNo.TheVariants.{Full, NoMemory, Redo}, pm_state.declared.event.PmEvent.PmEvent, declared.{conf.Conf.Conf, end.ServerEnd.{ServerEnd, TheVariants.{Clean, NoMemory as ShortOfMemory}}}}
use Rattle.pm_server.specs.pm_record.declared.fault.RedoFault.TheVariants as redo
use Rattle.pm_server.specs.pm_state.declared.event.PmEvent.TheVariants as entry
use Rattle.pm_postmaster.specs.{pm_board.pm_board_words.declared.views.RosterView.RosterView, pm_board_acts.{Board.ended_of, Seating.ends}, pm_store_remains.Remains.AreReadable, pm_worker.{declared.mail.MailTold.MailTold, Runs.Run}, Outside.ServeView, Served.IsServed}
use Rattle.pm_serve_first_crash.specs.{pm_supervisor_crashes.Crashes.{IsFirstCrash, IsUnasked}, Causes.WasRefused}
use Rattle.pm_serve_promises.specs.Runs.{journal_in, runs_in}

-- it isn't the end of a child by signal 6
abbrev pub IsNoAbort : PmEvent → Type 0
IsNoAbort (entry.Exited pid kind status was_active at) = status ≢ Signal 6
IsNoAbort _ = Unit {0}

-- the entry tells of the end of one of these, whom the store refused for want of memory
abbrev pub EndsShort : List Run → PmEvent → Type 0
EndsShort runs e =
    (run : Run) × Contains runs run × (ends e ≡ ended_of run.child ∷ []) × (WasRefused NoMemory run ⊎ WasRefused (Redo redo.NoMemory) run)

module _ {conf : Conf} {end : ServerEnd} {board : RosterView MailTold} {before now : ServeView} (run : IsServed conf end board before now) where
  -- Nobody asked to kill a child or to stop at once, the disk didn't fail, the files that were handed in can be read, no checkpoint lacked
  -- an epoch, and no child ended by signal 6, as one does that found the store in another generation.
  pub record IsUntroubled : Type 0 where
    pub unasked : AllByRecursion IsUnasked (journal_in run)
    pub unfailed : ¬ (Rose before.outside.disk.faults now.outside.disk.faults)
    pub first : Files
    pub handed_in : before.outside.disk.files ≡ Some first
    pub read : AreReadable first
    pub epochs : AllByRecursion (λ r. (need : ℕ) → ¬ (WasRefused (Full need 0) r)) (runs_in run)
    pub no_abort : AllByRecursion IsNoAbort (journal_in run)

  -- It ended clean or for want of memory, and whoever crashed first, if anybody did, was short of memory.
  pub record HasCompleted : Type 0 where
    pub ends : (end ≡ Clean) ⊎ (end ≡ ShortOfMemory)
    pub short : (e : PmEvent) → IsFirstCrash conf.limits (journal_in run) e → EndsShort (runs_in run) e
