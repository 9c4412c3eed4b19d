-- What the first crash of a run of a server of many connections is due to.
use Rattle.std.specs.Prelude.{◌≡◌, ◌⊎◌}
use Rattle.pm_server.specs.{pm_state.declared.event.PmEvent.PmEvent, declared.{conf.Conf.Conf, end.{ServerEnd.{ServerEnd, TheVariants.Abnormal}, Why.TheVariants.{AfterCrash, RestartOff}}}}
use Rattle.pm_postmaster.specs.{pm_board.pm_board_words.declared.views.RosterView.RosterView, pm_worker.declared.mail.MailTold.MailTold, Outside.ServeView, Served.{IsServed, manner_by, slots_by}}
use Rattle.pm_serve_first_crash.specs.{pm_supervisor_crashes.Crashes.{IsFirstCrash, stands_behind}, Causes.HasCause}
use Rattle.pm_serve_promises.specs.Runs.{journal_in}

module _ {conf : Conf} {end : ServerEnd} {board : RosterView MailTold} {before now : ServeView} (run : IsServed conf end board before now) where
  -- its first crash has a cause, and there was one if it ended as after a crash
  pub record CrashesForCause : Type 0 where
    pub cause : (e : PmEvent) (first : IsFirstCrash conf.limits (journal_in run) e)
        → HasCause (manner_by conf before) (stands_behind conf.limits first.before) (slots_by conf.limits) run.left.runs e
    pub crashed : (end ≡ Abnormal AfterCrash) ⊎ (end ≡ Abnormal RestartOff) → (e : PmEvent) × IsFirstCrash conf.limits (journal_in run) e
