-- A whole run.
use Rattle.std.{proofs.{Common.{◌≡◌, ◌⊎◌, inl, inr, ℕ, ◌+◌, ◌≤◌, List, [], ◌∷◌, ◌++◌, length, Option, None, Some, Result, Err, refl, sym, ◌∙◌, ap, subst, arith}, lemmas.{List.{Folds.list_any-append, Elements.All-nil}, Bool.or_parts, Option.same_Some}, Math.Bool.or-true}, specs.{Prelude.{Bool, true, false, is_some, IfSome}, List.{AllByRecursion, last_or, list_any}}}
use Rattle.pm_server.{specs.{pm_facts.Bools.never_both, pm_disk.Cause.Rose, pm_modes.declared.Mode.{Mode, TheVariants.Smart}, pm_state.{declared.event.PmEvent.PmEvent, Journal.{Follows, all_replayed, replay_begun}, Laws.RestartsSafely, Restarts.AreAsSet}, pm_query.declared.book.BookEntry.{BookEntry, TheVariants.Opened}, pm_segment.{Children.times_in, Moves.BreakIsShown, pm_store_apart.declared.live.Live.Live}, Journal.{IsMoment, asked_in, IsJournal}, Ends.{IsBook, end_line}, declared.end.{ServerEnd.{ServerEnd, TheVariants.{Clean, Abnormal, NoThread, NoMemory}}, Why.TheVariants.{AfterCrash, StartupFailed, RestartOff, GenerationsSpent}}}, proofs.JournalLaws.all_weaker}
use Rattle.pm_supervisor.{specs.{Children.one_if, declared.Limits.Limits, Steps.empty_trace}, proofs.CountLaws.at_most_one}
use Rattle.pm_server.specs.pm_state.declared.event.PmEvent.TheVariants as entry
use Rattle.pm_supervisor.specs.declared.Ending.TheVariants as endings
use Rattle.pm_server.specs.pm_state.declared.action.Action.TheVariants as act
use Rattle.pm_outside.{specs.Added.Added, proofs.AddedLaws.{added_both, added_none}}
use Rattle.pm_supervisor_chain.{specs.{Laws.StepsGoOn, Steps.{AreSteps, AreStepsBehind, MayFollow, MayStep, Notes, Renews, Runs, RunsOn, Step, book_of, journal_by, journal_of, replay_of, whole_book}}, proofs.FoldsLaws.journal-append}
use Rattle.pm_supervisor_journal.{specs.{Laws.{GoesOnOverItsJournal, KeepsALegalJournal}, Standing.{Standing, first_due, nothing_done}, Stands.{Remembers, Stands, any_moment}, Due.{AreOurs, IsIdle, is_last_drawn}}, proofs.EndsLaws.{last_set, spent_next}}
use Rattle.pm_once_children.specs.{Outcomes.{AreCaused, IsRefusedSo}, pm_once_acts.{Acts.AsksAsDue, Steps.{EndsWith, IsNoRenewal}}, Auxiliaries.{AreThere, nobody}, Calm.{HasFineSession, IsCalm, is_behind_crash}, AuxiliaryRuns.{AreToldBehind, nothing_heard}, declared.{auxiliaries.Auxiliaries.Auxiliaries, outcome.Outcome.Outcome}}
use Rattle.pm_once.{specs.{Goes.{IsAt, IsEndOf, IsOpen, IsRunning, Outset}, Once.{IsAsked, IsOnceEnd, is_spent_of_pids}, Serves.Serves, Service.Connection, View.View}, proofs.Undisturbed.spent_disturbed}
use Rattle.pm_server_lines.{specs.Log.{HasLogged, LogView, Says, log_of, opened}, proofs.LogLaws.{logged_by, printed_more, said_first}}

-- a server before it does anything
pub record HasBegun (limits : Limits) (v : View) : Type 0 where
  pub standing : v.work.standing ≡ nothing_done limits
  pub told : IfSome v.work.told (λ es. es ≡ [])
  pub unbroken : v.log.is_cut ≡ false
  pub lost : v.lost ≡ []
  pub auxiliaries : v.auxiliaries ≡ nobody
  pub outcome : v.outcome ≡ None
  pub unread : v.store.live ≡ None
  pub listens : v.listens ≡ true
  pub generation : v.store.generation ≡ 1
  pub inside : v.store.inside ≡ []

abbrev outset_of : Limits → View → Outset
outset_of limits v = record { limits = limits; log = v.log; faults = v.store.faults }

begins_at : StepsGoOn → GoesOnOverItsJournal → (limits : Limits) (v : View) → HasBegun limits v → IsAt (outset_of limits v) [] v
begins_at goes work limits v begun = record {
  past = empty_trace;
  stands = subst (λ (s : Standing). Stands limits (Some []) s empty_trace) (sym begun.standing) (work.begins limits);
  told = begun.told;
  are_steps = goes.begins limits;
  lost_is = begun.lost;
  said = said_first v.log begun.unbroken;
  auxiliaries = subst (λ (h : Auxiliaries). AreThere h v.work.standing) (sym begun.auxiliaries) (record { startup = tt; checkpointer = tt; writer = tt });
  asks = subst (λ (s : Standing). AsksAsDue [] v.listens s) (sym begun.standing) (record { smart = All-nil (λ (m : Mode). m ≡ Smart); few = omega (arith, at_most_one v.listens) });
  acts = subst (λ (s : Standing). AreOurs (is_some s.machine.shutdown) s.due) (sym begun.standing) tt;
  causes = subst (λ (h : Auxiliaries). AreCaused [] h v.outcome) (sym begun.auxiliaries)
      (subst (λ (o : Option Outcome). AreCaused [] nobody o) (sym begun.outcome) (record { told_so = refl; runs = tt; refused = tt }));
  disturbed = record {
    counted = record { later = omega arith; shown = subst (λ (l : Option Live). BreakIsShown v.store.faults v.store.faults l) (sym begun.unread) tt };
    stage = inr (inr (subst (λ (s : Standing). IsCalm s v.auxiliaries) (sym begun.standing) (subst (λ (h : Auxiliaries). IsCalm (nothing_done limits) h) (sym begun.auxiliaries)
        (record { unasked = refl; stage = inr tt; acts = tt; unheard = refl; startup = inl refl }))));
    restarts = λ is. cc;
    sessions = inl tt;
  };
}

begins_open : (limits : Limits) (v : View) → HasBegun limits v → IsOpen [] v
begins_open limits v begun = record {
  free = tt;
  same = begun.generation ∙ sym (ap (λ (s : Standing). s.generation) begun.standing);
  inside = λ pid. ap (times_in pid) (begun.inside ∙ sym begun.lost);
}

pub begins_running : StepsGoOn → GoesOnOverItsJournal → (limits : Limits) (v : View) → HasBegun limits v → IsRunning v
begins_running goes work limits v begun = (outset_of limits v, [], begins_at goes work limits v begun, begins_open limits v begun)

pub begins_idle : (limits : Limits) (v : View) → HasBegun limits v → IsIdle v.work.standing
begins_idle limits v begun = record {
  rests = record { none_due = ap (λ (s : Standing). s.due) begun.standing; goes_on = ap (λ (s : Standing). s.ended) begun.standing };
  unowed = ap (λ (s : Standing). s.owes_smart) begun.standing;
}

-- ---- at its end

never_zero : (gives : ℕ → Type 0) (n : ℕ) → n ≡ 0 → (at : ℕ) → IsMoment gives n at → gives at
never_zero gives n zero at (inl given) = given
never_zero gives n zero at (inr old) = absurd (omega (arith, old.1, zero))

remembered : (limits : Limits) (journal : List PmEvent) (s : Standing) (h : _) → Stands limits (Some journal) s h → Remembers s (all_replayed (replay_begun limits) journal)
remembered limits journal s h stands = subst (λ (j : List PmEvent). Remembers s (all_replayed (replay_begun limits) j)) (sym stands.told_is) stands.remembers

pub whole_journal : StepsGoOn → GoesOnOverItsJournal → KeepsALegalJournal → (limits : Limits) (gives : ℕ → Type 0) (end : ServerEnd) (cs : List Connection) (ended : Bool) (steps : List Step) (v now : View) → HasBegun limits v
    → Serves gives (Err end) cs ended steps v now → IsJournal limits gives (journal_of steps) v.work.told now.work.told × AreSteps limits steps
whole_journal goes work legal limits gives end cs ended steps v now begun serves =
    let at : IsAt (outset_of limits v) steps now = serves.goes.at (outset_of limits v) [] (begins_at goes work limits v begun) (begins_open limits v begun) in (
      record {
        noted = serves.goes.journal;
        legal = legal.legal limits (journal_of steps) now.work.standing at.past at.stands;
        given = all_weaker (IsMoment gives v.work.standing.moment) gives (never_zero gives v.work.standing.moment (ap (λ (s : Standing). s.moment) begun.standing)) (journal_of steps) serves.goes.times.each;
      },
      at.are_steps,
    )

pub whole_asked : StepsGoOn → GoesOnOverItsJournal → (limits : Limits) (gives : ℕ → Type 0) (end : ServerEnd) (cs : List Connection) (ended : Bool) (steps : List Step) (v now : View) → HasBegun limits v
    → Serves gives (Err end) cs ended steps v now → IsAsked limits end ended steps
whole_asked goes work limits gives end cs ended steps v now begun serves =
    let at : IsAt (outset_of limits v) steps now = serves.goes.at (outset_of limits v) [] (begins_at goes work limits v begun) (begins_open limits v begun) in
    let same : now.work.standing.last_pid ≡ (replay_of limits steps).shown.last_pid = (remembered limits (journal_of steps) now.work.standing at.past at.stands).last_pid in
    let asked = asked_in (journal_of steps) in
    let few : length asked + one_if now.work.standing.owes_smart + one_if now.listens ≤ 1 + one_if (is_spent_of_pids limits steps) =
    subst (λ (n : ℕ). length asked + one_if now.work.standing.owes_smart + one_if now.listens ≤ 1 + one_if (is_last_drawn n)) same at.asks.few in
    record {
      smart = at.asks.smart;
      few = omega (arith, few);
      cause = by_test (is_spent_of_pids limits steps) refl now.listens refl few (λ is. serves.why is) same;
      heeded = λ is. elim (serves.asked is) [ inl some ↦ inl some | inr short ↦ inr (same_end end NoMemory short) ];
    }
  where
    same_end : (one two : ServerEnd) → (let r : Result (Unit {0}) ServerEnd = Err one in r ≡ Err two) → one ≡ two
    same_end one two is = cc

    by_test : (drawn : Bool) → is_spent_of_pids limits steps ≡ drawn → (listens : Bool) → now.listens ≡ listens
        → length (asked_in (journal_of steps)) + one_if now.work.standing.owes_smart + one_if now.listens ≤ 1 + one_if (is_spent_of_pids limits steps)
        → (now.listens ≡ false → (v.listens ≡ false) ⊎ ((ended ≡ true) ⊎ (is_last_drawn now.work.standing.last_pid ≡ true))) → now.work.standing.last_pid ≡ (replay_of limits steps).shown.last_pid
        → (length (asked_in (journal_of steps)) ≡ 0) ⊎ ((ended ≡ true) ⊎ (is_spent_of_pids limits steps ≡ true))
    by_test true is listens hears few why same = inr (inr is)
    by_test false is true hears few why same = inl (omega (arith, few, ap one_if is, ap one_if hears))
    by_test false is false hears few why same = elim (why hears) [
      | inl deaf ↦ absurd (never_both v.listens begun.listens deaf)
      | inr (inl over) ↦ inr (inl over)
      | inr (inr drawn) ↦ inr (inr (subst (λ (n : ℕ). is_last_drawn n ≡ true) same drawn))
    ]

-- a server that isn't to restart
told_off : (limits : Limits) (steps : List Step) → AreAsSet limits (journal_of steps) → EndsWith (entry.Ended endings.RestartOff) steps → limits.restart_after_crash ≡ false
told_off limits steps set ends =
    (last_set limits (journal_of ends.0) (entry.Ended endings.RestartOff ∷ [])
    (subst (AreAsSet limits) (ap journal_of ends.1 ∙ journal-append ends.0 (Notes (entry.Ended endings.RestartOff) ∷ [])) set)).0

ended_by : (limits : Limits) (end : ServerEnd) (steps : List Step) (now : View) → now.work.standing.generation ≡ (replay_of limits steps).shown.generation
    → (now.work.standing.generation ≡ 4294967295 → first_due now.work.standing.due ≡ Some act.Reset → Follows any_moment (replay_of limits steps) (entry.Reset 4294967296)) → AreAsSet limits (journal_of steps) → IsRefusedSo now.outcome steps → IsEndOf end steps now → IsOnceEnd limits end steps
ended_by limits Clean steps now same next set refused ends = ends.0
ended_by limits (Abnormal AfterCrash) steps now same next set refused ends = ends.0
ended_by limits (Abnormal RestartOff) steps now same next set refused ends = (ends, told_off limits steps set ends)
ended_by limits (Abnormal (StartupFailed why)) steps now same next set refused ends = (ends.0, subst (λ (o : Option Outcome). IsRefusedSo o steps) ends.1 refused)
ended_by limits (Abnormal GenerationsSpent) steps now same next set refused ends = (sym same ∙ ends.0, next ends.0 ends.1)
ended_by limits NoThread steps now same next set refused ends = absurd ends
ended_by limits NoMemory steps now same next set refused ends = tt

pub whole_end : StepsGoOn → GoesOnOverItsJournal → KeepsALegalJournal → RestartsSafely → (limits : Limits) (gives : ℕ → Type 0) (end : ServerEnd) (cs : List Connection) (ended : Bool) (steps : List Step) (v now : View) → HasBegun limits v
    → Serves gives (Err end) cs ended steps v now → IsOnceEnd limits end steps
whole_end goes work legal safely limits gives end cs ended steps v now begun serves =
    let at : IsAt (outset_of limits v) steps now = serves.goes.at (outset_of limits v) [] (begins_at goes work limits v begun) (begins_open limits v begun) in
    ended_by limits end steps now (remembered limits (journal_of steps) now.work.standing at.past at.stands).generation (spent_next limits (journal_of steps) now.work.standing at.past at.stands)
    (safely.in_order limits any_moment (journal_of steps) (legal.legal limits (journal_of steps) now.work.standing at.past at.stands)).as_set at.causes.refused serves.ends

-- it stopped for want of a restart, or of a generation, only where a fault of the disk was counted
unrestarted_any : (steps : List Step) → EndsWith (entry.Ended endings.RestartOff) steps → list_any is_behind_crash (journal_of steps) ≡ true
unrestarted_any steps ends =
    ap (λ (l : List Step). list_any is_behind_crash (journal_of l)) ends.1 ∙ ap (list_any is_behind_crash) (journal-append ends.0 (Notes (entry.Ended endings.RestartOff) ∷ []))
    ∙ list_any-append is_behind_crash (journal_of ends.0) (entry.Ended endings.RestartOff ∷ []) ∙ or-true (list_any is_behind_crash (journal_of ends.0))

pub whole_rose : StepsGoOn → GoesOnOverItsJournal → (limits : Limits) (gives : ℕ → Type 0) (end : ServerEnd) (cs : List Connection) (ended : Bool) (steps : List Step) (v now : View) → HasBegun limits v
    → Serves gives (Err end) cs ended steps v now → (end ≡ Abnormal RestartOff) ⊎ (end ≡ Abnormal GenerationsSpent) → Rose v.store.faults now.store.faults
whole_rose goes work limits gives end cs ended steps v now begun serves why =
    let at : IsAt (outset_of limits v) steps now = serves.goes.at (outset_of limits v) [] (begins_at goes work limits v begun) (begins_open limits v begun) in
    elim why [
      | inl off ↦ at.disturbed.restarts (unrestarted_any steps (subst (λ (e : ServerEnd). IsEndOf e steps now) off serves.ends))
      | inr spent ↦ spent_disturbed v.store.faults now (subst (λ (e : ServerEnd). IsEndOf e steps now) spent serves.ends).1 at.acts at.disturbed.stage
    ]

-- a renewal stands after the reset of its generation
resets : (e : PmEvent) (generation : ℕ) (gone : List ℕ) → MayFollow (Some (Notes e)) (Renews generation gone) → is_behind_crash e ≡ true
resets (entry.Started pid kind) generation gone may = absurd may
resets (entry.Accepted pid decision) generation gone may = absurd may
resets (entry.Exited pid kind status was_active at) generation gone may = absurd may
resets (entry.Asked mode at) generation gone may = absurd may
resets (entry.KillAsked pid) generation gone may = absurd may
resets (entry.QuitSent why) generation gone may = absurd may
resets entry.TerminateSent generation gone may = absurd may
resets (entry.KillSent at) generation gone may = absurd may
resets entry.CheckpointAsked generation gone may = absurd may
resets (entry.RedoEnded own kept) generation gone may = absurd may
resets (entry.Ready own) generation gone may = absurd may
resets (entry.Reset next) generation gone may = refl
resets (entry.Said line) generation gone may = absurd may
resets (entry.Ended ending) generation gone may = absurd may

renewed_behind : (last : Option Step) (generation : ℕ) (gone : List ℕ) → MayFollow last (Renews generation gone) → (e : PmEvent) × (last ≡ Some (Notes e)) × (is_behind_crash e ≡ true)
renewed_behind None generation gone may = absurd may
renewed_behind (Some (Notes e)) generation gone may = (e, refl, resets e generation gone may)
renewed_behind (Some (Runs run at)) generation gone may = absurd may
renewed_behind (Some (RunsOn run)) generation gone may = absurd may
renewed_behind (Some (Renews next pids)) generation gone may = absurd may

-- what this step comes after, if it is an entry, is no crash
abbrev IsCalmStep : Option Step → Type 0
IsCalmStep last = (e : PmEvent) → last ≡ Some (Notes e) → is_behind_crash e ≡ false

no_renewals : StepsGoOn → (limits : Limits) (before steps : List Step) → AreStepsBehind limits before steps → IsCalmStep (last_or None before) → list_any is_behind_crash (journal_of steps) ≡ false → AllByRecursion IsNoRenewal steps
no_renewals goes limits before [] are calm none = tt
no_renewals goes limits before (step ∷ steps) are calm none =
    let parts = or_parts (list_any is_behind_crash (journal_by step)) (list_any is_behind_crash (journal_of steps)) (sym (list_any-append is_behind_crash (journal_by step) (journal_of steps)) ∙ none) in
    (first step are.0 parts.0, no_renewals goes limits (before ++ step ∷ []) steps are.1 (λ e is. calm_now step parts.0 e (same_Some _ _ (sym (goes.last before step) ∙ is))) parts.1)
  where
    first : (s : Step) → MayStep limits before s → list_any is_behind_crash (journal_by s) ≡ false → IsNoRenewal s
    first (Notes e) may none = tt
    first (Runs run at) may none = tt
    first (RunsOn run) may none = tt
    first (Renews generation gone) may none =
        let behind = renewed_behind (last_or None before) generation gone may.follows in
        absurd (never_both (is_behind_crash behind.0) behind.2 (calm behind.0 behind.1))

    calm_now : (s : Step) → list_any is_behind_crash (journal_by s) ≡ false → (e : PmEvent) → s ≡ Notes e → is_behind_crash e ≡ false
    calm_now s none e is = (or_parts (is_behind_crash e) false (subst (λ (x : Step). list_any is_behind_crash (journal_by x) ≡ false) is none)).0

-- it was opened once, or a fault of the disk was counted
pub whole_once : StepsGoOn → GoesOnOverItsJournal → (limits : Limits) (gives : ℕ → Type 0) (end : ServerEnd) (cs : List Connection) (ended : Bool) (steps : List Step) (v now : View) → HasBegun limits v
    → Serves gives (Err end) cs ended steps v now → AllByRecursion IsNoRenewal steps ⊎ Rose v.store.faults now.store.faults
whole_once goes work limits gives end cs ended steps v now begun serves =
    let at : IsAt (outset_of limits v) steps now = serves.goes.at (outset_of limits v) [] (begins_at goes work limits v begun) (begins_open limits v begun) in
    by_test at (list_any is_behind_crash (journal_of steps)) refl
  where
    by_test : IsAt (outset_of limits v) steps now → (crashed : Bool) → list_any is_behind_crash (journal_of steps) ≡ crashed → AllByRecursion IsNoRenewal steps ⊎ Rose v.store.faults now.store.faults
    by_test at true is = inr (at.disturbed.restarts is)
    by_test at false is = inl (no_renewals goes limits [] steps at.are_steps (λ e none. absurd (cc)) is)

-- each session's child has ended well, or a fault of the disk was counted
pub whole_sessions : StepsGoOn → GoesOnOverItsJournal → (limits : Limits) (gives : ℕ → Type 0) (end : ServerEnd) (cs : List Connection) (ended : Bool) (steps : List Step) (v now : View) → HasBegun limits v
    → Serves gives (Err end) cs ended steps v now → AllByRecursion HasFineSession steps ⊎ Rose v.store.faults now.store.faults
whole_sessions goes work limits gives end cs ended steps v now begun serves =
    let at : IsAt (outset_of limits v) steps now = serves.goes.at (outset_of limits v) [] (begins_at goes work limits v begun) (begins_open limits v begun) in
    at.disturbed.sessions

-- each child ran by what it was told
pub whole_runs : StepsGoOn → GoesOnOverItsJournal → (limits : Limits) (gives : ℕ → Type 0) (end : ServerEnd) (cs : List Connection) (ended : Bool) (steps : List Step) (v now : View) → HasBegun limits v
    → Serves gives (Err end) cs ended steps v now → AreToldBehind nothing_heard steps
whole_runs goes work limits gives end cs ended steps v now begun serves =
    let at : IsAt (outset_of limits v) steps now = serves.goes.at (outset_of limits v) [] (begins_at goes work limits v begun) (begins_open limits v begun) in
    at.causes.runs

-- the line of the end after those of the journal
pub whole_log : StepsGoOn → GoesOnOverItsJournal → (limits : Limits) (gives : ℕ → Type 0) (end : ServerEnd) (cs : List Connection) (ended : Bool) (steps : List Step) (v now : View) (last : LogView) → HasBegun limits v
    → Serves gives (Err end) cs ended steps v now → Says (end_line end) now.log last → HasLogged (log_of (journal_of steps) ++ end_line end) v.log.written last.written v.log.faults last.faults
whole_log goes work limits gives end cs ended steps v now last begun serves says =
    let at : IsAt (outset_of limits v) steps now = serves.goes.at (outset_of limits v) [] (begins_at goes work limits v begun) (begins_open limits v begun) in
    logged_by (log_of (journal_of steps) ++ end_line end) v.log last (printed_more (log_of (journal_of steps)) (end_line end) v.log now.log last at.said says)

book_by_end : (end : ServerEnd) (steps : List Step) (before now : Option (List BookEntry)) → Added (Opened 1 ∷ book_of steps) before now → IsBook (steps ≡ []) end (whole_book steps) before now
book_by_end NoMemory steps before now notes = inr notes
book_by_end NoThread steps before now notes = inr notes
book_by_end Clean steps before now notes = notes
book_by_end (Abnormal why) steps before now notes = notes

pub whole_book_is : (gives : ℕ → Type 0) (end : ServerEnd) (cs : List Connection) (ended : Bool) (steps : List Step) (v now : View) (before : Option (List BookEntry)) → Added (Opened 1 ∷ []) before v.store.book
    → Serves gives (Err end) cs ended steps v now → IsBook (steps ≡ []) end (whole_book steps) before now.store.book
whole_book_is gives end cs ended steps v now before opened serves =
    book_by_end end steps before now.store.book (added_both (Opened 1 ∷ []) (book_of steps) before v.store.book now.store.book opened serves.goes.store.notes)

-- ---- where the store couldn't be made

pub nothing_journal : (limits : Limits) (gives : ℕ → Type 0) (told : Option (List PmEvent)) → IsJournal limits gives [] told told
nothing_journal limits gives told = record { noted = added_none told; legal = tt; given = tt }

pub nothing_asked : (limits : Limits) → IsAsked limits NoMemory false []
nothing_asked limits = record { smart = All-nil (λ (m : Mode). m ≡ Smart); few = omega arith; cause = inl refl; heeded = λ is. inr refl }

pub nothing_logged : (first last : LogView) → first.is_cut ≡ false → Says (end_line NoMemory) first last → HasLogged (end_line NoMemory) first.written last.written first.faults last.faults
nothing_logged first last unbroken says =
    logged_by (end_line NoMemory) first last (printed_more [] (end_line NoMemory) first first last (said_first first unbroken) says)

-- between the sink that a log was opened for, and the one that it has left
pub logged_as : (text : List ℕ) (first last : LogView) (before now : Option (List ℕ)) (faults_before faults_now : ℕ) → first ≡ opened before faults_before → now ≡ last.written → faults_now ≡ last.faults
    → HasLogged text first.written last.written first.faults last.faults → HasLogged text before now faults_before faults_now
logged_as text first last before now faults_before faults_now at_first written faults logged =
    subst (λ (l : LogView). HasLogged text l.written now l.faults faults_now) at_first
    (subst (λ (w : Option (List ℕ)). HasLogged text first.written w first.faults faults_now) (sym written)
    (subst (λ (n : ℕ). HasLogged text first.written last.written first.faults n) (sym faults) logged))
