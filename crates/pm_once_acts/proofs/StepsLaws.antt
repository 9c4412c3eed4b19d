-- Steps of a server, some after others, and the openings of the store in their book.
use Rattle.std.{proofs.{Common.{◌≡◌, List, ◌++◌, [], ◌∷◌, refl, ◌∙◌, ap, ℕ, inl, inr, sym, subst}, lemmas.Grind.flat_map-append}, specs.{List.AllByRecursion, Prelude.{map, Bool, true, false, if◌then◌else◌}}}
use Rattle.pm_server.{specs.{pm_facts.Lists.{each_both, each_first, each_second}, pm_supervisor_journal.declared.supervision.Taken.Taken, Journal.accepted_in, pm_query.declared.book.BookEntry.{TheVariants.{Opened, Gone, Attached, Redone, Answered, Released, Detached, CheckpointEnded, Broke, LogFull}, BookEntry}, Story.IsNoOpening, pm_supervisor.declared.Limits.Limits}, proofs.JournalLaws.accepted_in-append}
use Rattle.pm_supervisor_chain.{specs.Steps.{Step, journal_of, book_by, book_of, ChildRun, Notes, Renews, Runs, RunsOn, IsWorkOf, IsRunOf, AreStepsBehind}, proofs.FoldsLaws.journal-append}
use Rattle.pm_once_acts.specs.Steps.{session_by, sessions_in, ServesNone, IsNoRenewal}

pub book-append : (one two : List Step) → book_of (one ++ two) ≡ book_of one ++ book_of two
book-append one two = flat_map-append book_by one two

pub sessions-append : (one two : List Step) → sessions_in (one ++ two) ≡ sessions_in one ++ sessions_in two
sessions-append one two = flat_map-append session_by one two

-- ---- steps

pub serves_nothing : ServesNone []
serves_nothing = record { accepted = refl; sessions = refl }

pub serves_both : (one two : List Step) → ServesNone one → ServesNone two → ServesNone (one ++ two)
serves_both one two first second = record {
  accepted = ap accepted_in (journal-append one two) ∙ accepted_in-append (journal_of one) (journal_of two)
      ∙ ap (λ (l : List Taken). l ++ accepted_in (journal_of two)) first.accepted ∙ second.accepted;
  sessions = sessions-append one two ∙ ap (λ (l : List ChildRun). l ++ sessions_in two) first.sessions ∙ second.sessions;
}

-- a store that was opened once was never renewed
pub no_renewal : (steps : List Step) → AllByRecursion IsNoOpening (book_of steps) → AllByRecursion IsNoRenewal steps
no_renewal [] all = tt
no_renewal (Notes noted ∷ steps) all = (tt, no_renewal steps all)
no_renewal (Runs run at ∷ steps) all = (tt, no_renewal steps (each_second IsNoOpening run.noted (book_of steps) all))
no_renewal (RunsOn run ∷ steps) all = (tt, no_renewal steps (each_second IsNoOpening run.noted (book_of steps) all))
no_renewal (Renews generation gone ∷ steps) all =
    absurd (each_second IsNoOpening (map Gone gone) (Opened generation ∷ []) (each_first IsNoOpening (map Gone gone ++ Opened generation ∷ []) (book_of steps) all)).0

-- ---- and a store that was never renewed was opened once

is_no_opening : (run : ChildRun) (e : BookEntry) → IsWorkOf run e → IsNoOpening e
is_no_opening run (Opened generation) of_it = of_it
is_no_opening run (Attached pid generation) of_it = tt
is_no_opening run (Redone pid generation kept) of_it = tt
is_no_opening run (Answered pid script reply commit front tick) of_it = tt
is_no_opening run (Released pid front tick) of_it = tt
is_no_opening run (Detached pid) of_it = tt
is_no_opening run (Gone pid) of_it = tt
is_no_opening run (CheckpointEnded pid done clean) of_it = tt
is_no_opening run (Broke pid since faults) of_it = tt
is_no_opening run (LogFull pid script need room) of_it = tt

no_opening : (run : ChildRun) (work : List BookEntry) → AllByRecursion (IsWorkOf run) work → AllByRecursion IsNoOpening work
no_opening run [] of_it = tt
no_opening run (e ∷ work) of_it = (is_no_opening run e of_it.0, no_opening run work of_it.1)

none_leaving : (active : Bool) (pid : ℕ) → AllByRecursion IsNoOpening (if active then [] else Detached pid ∷ [])
none_leaving true pid = tt
none_leaving false pid = (tt, tt)

none_by : (run : ChildRun) → IsRunOf run → AllByRecursion IsNoOpening run.noted
none_by run is = elim is.use_of_store [
  | inl outside ↦ subst (AllByRecursion IsNoOpening) (sym outside.noted) tt
  | inr entered ↦ subst (AllByRecursion IsNoOpening) (sym entered.noted)
      (tt, each_both IsNoOpening entered.work _ (no_opening run entered.work entered.of_it) (none_leaving run.was_active run.pid))
]

pub opened_once : (limits : Limits) (before steps : List Step) → AreStepsBehind limits before steps → AllByRecursion IsNoRenewal steps → AllByRecursion IsNoOpening (book_of steps)
opened_once limits before [] are once = tt
opened_once limits before (Notes noted ∷ steps) are once = opened_once limits (before ++ Notes noted ∷ []) steps are.1 once.1
opened_once limits before (Runs run at ∷ steps) are once =
    each_both IsNoOpening run.noted (book_of steps) (none_by run are.0.fits.1) (opened_once limits (before ++ Runs run at ∷ []) steps are.1 once.1)
opened_once limits before (RunsOn run ∷ steps) are once =
    each_both IsNoOpening run.noted (book_of steps) (none_by run are.0.fits.1) (opened_once limits (before ++ RunsOn run ∷ []) steps are.1 once.1)
opened_once limits before (Renews generation gone ∷ steps) are once = absurd once.0
