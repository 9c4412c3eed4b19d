-- What the first crash of a run of a server of many connections is due to.
use Rattle.std.{proofs.Common.{◌≡◌, ◌⊎◌, inl, inr, List, [], ◌∷◌, ◌++◌, ap, subst, ◌∙◌, append_assoc}, specs.List.AllByRecursion}
use Rattle.pm_server.specs.{pm_disk.Cause.Rose, pm_supervisor.declared.{Ending.Ending, Limits.Limits}, pm_state.{declared.event.PmEvent.PmEvent, Laws.RestartsSafely}, declared.{conf.Conf.Conf, end.{ServerEnd.{ServerEnd, TheVariants.Abnormal}, Why.TheVariants.{AfterCrash, RestartOff}}}}
use Rattle.pm_server.specs.pm_supervisor.declared.Ending.TheVariants as endings
use Rattle.pm_server.specs.pm_state.declared.event.PmEvent.TheVariants as entry
use Rattle.pm_serve_first_crash.{specs.{pm_supervisor_crashes.Crashes.{IsFirstCrash, IsHarmless, IsUnasked, stands_behind}, Causes.{HasCause, IsUnprovoked}}, proofs.BlameLaws.{has_cause, has_crashed, unfailed_unbroken}}
use Rattle.pm_postmaster.specs.{pm_board.pm_board_words.declared.views.RosterView.RosterView, pm_worker.declared.mail.MailTold.MailTold, Outside.ServeView, Served.{IsServed, manner_by, slots_by}, Serving.{EndsWith, IsEndBehind}}
use Rattle.pm_serve_promises.specs.{Crashes.CrashesForCause, Runs.journal_in}

-- the first crash of the first entries is that of all
first_of_all : (limits : Limits) (front rest journal : List PmEvent) (e : PmEvent) → journal ≡ front ++ rest → IsFirstCrash limits front e → IsFirstCrash limits journal e
first_of_all limits front rest journal e is first = record {
  before = first.before;
  behind = first.behind ++ rest;
  is = is ∙ ap (λ (es : List PmEvent). es ++ rest) first.is ∙ append_assoc first.before (e ∷ first.behind) rest;
  none = first.none;
  crash = first.crash;
}

module _ (safely : RestartsSafely) (conf : Conf) (end : ServerEnd) (board : RosterView MailTold) (before now : ServeView) (run : IsServed conf end board before now) (unasked : AllByRecursion IsUnasked (journal_in run)) (unfailed : ¬ (Rose before.outside.disk.faults now.outside.disk.faults)) where
  abbrev pub unprovoked : IsUnprovoked conf.limits (manner_by conf before) (slots_by conf.limits) run.moves board run.own run.book
  unprovoked = record {
    legal = run.journal.legal;
    unasked = unasked;
    unbroken = unfailed_unbroken before.outside.disk now.outside.disk now.outside.book run.book run.remains unfailed;
    board_is = run.board_is;
    left = run.left;
    once = run.once;
  }

  pub its_cause : (e : PmEvent) (first : IsFirstCrash conf.limits (journal_in run) e)
      → HasCause (manner_by conf before) (stands_behind conf.limits first.before) (slots_by conf.limits) run.left.runs e
  its_cause e first =
      has_cause safely conf.limits (manner_by conf before) (slots_by conf.limits) run.moves board run.own run.book unprovoked e first

  crashed_by : (how : Ending) → (IsHarmless (entry.Ended how) → ⊥) → EndsWith (entry.Ended how) (journal_in run) → (e : PmEvent) × IsFirstCrash conf.limits (journal_in run) e
  crashed_by how harmful ends =
      let crashed =
      has_crashed safely conf.limits (manner_by conf before) (slots_by conf.limits) run.moves board run.own run.book unprovoked ends.0 (entry.Ended how) [] ends.1 harmful in
      (crashed.0, first_of_all conf.limits ends.0 (entry.Ended how ∷ []) (journal_in run) crashed.0 ends.1 crashed.1)

  has_one : (end ≡ Abnormal AfterCrash) ⊎ (end ≡ Abnormal RestartOff) → (e : PmEvent) × IsFirstCrash conf.limits (journal_in run) e
  has_one (inl after) = crashed_by endings.AfterCrash (λ harmless. harmless) (subst (λ (x : ServerEnd). IsEndBehind conf.limits x (journal_in run)) after run.ends)
  has_one (inr off) = crashed_by endings.RestartOff (λ harmless. harmless) (subst (λ (x : ServerEnd). IsEndBehind conf.limits x (journal_in run)) off run.ends).0

  pub crashes_for_cause : CrashesForCause run
  crashes_for_cause = record { cause = its_cause; crashed = has_one }
