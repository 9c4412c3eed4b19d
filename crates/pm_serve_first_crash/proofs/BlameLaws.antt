-- The laws: the first crash of a server's journal has a cause, and a server that ends after a crash has had one.
use Rattle.std.{proofs.{Common.{◌≡◌, ◌⊎◌, inl, inr, ℕ, ◌+◌, ◌<◌, ◌≤◌, Bool, true, false, not, cond, ◌&&◌, ◌||◌, List, [], ◌∷◌, ◌++◌, Option, None, Some, Err, refl, sym, ap, subst, ◌∙◌, arith, append_assoc}, lemmas.{Bool.{both_ways, false≢true, true≢false}, List.Elements.recursion_from_All}}, specs.{Prelude.is_some, List.{AllByRecursion, fold}}}
use Rattle.pm_serve_crew.{specs.{pm_facts.Lists.{each_first, each_last}, pm_exit.{declared.child.{Kind.Kind, Status.TheVariants.Code}, Ends.{is_exit_0, is_exit_1}}, pm_supervisor.{declared.{Limits.Limits, Reason.{Reason, TheVariants.{Crash, Stop}}}, Steps.is_normal}, pm_state.{declared.{action.Action.Action, event.PmEvent.PmEvent, machine.Machine.Machine}, Exits.is_shutdown, Laws.RestartsSafely, Promises.{has_act, is_ask_checkpoint, is_terminate}, Journal.{IsLegal, Replay, all_replayed, replay_begun}}, pm_child_life.Life.{Checkpoint, Quit, Told, attempt, was_told}, pm_supervisor_journal.Stands.any_moment, pm_board.{pm_board_words.declared.views.{Offer.Offer, RosterStep.RosterStep, RosterView.RosterView}, Gate.first_gate, Heard.IsKnownAtLast, Latches.{AnsweredBefore, HeardRightly, doings_of, times_given, times_sent}}, pm_query.declared.book.BookEntry.{BookEntry, TheVariants.Broke}, pm_segment.{Moves.IsShown, Unread.is_break}, pm_board_acts.Seating.{Ended, Move, Notes, Seating, board_steps, empty, entries_from, journal_of, seating_by, seating_from, seating_of, steps_from}, pm_store_shared.declared.views.Noted.Noted, pm_worker.{declared.mail.MailTold.MailTold, Runs.told_in}, Left.Manner, pm_supervisor_chain.Chain.IsPidOf}, proofs.{pm_board.BoardLaws.sent-append, pm_board_acts.FoldingLaws.{seating-append, steps-append}, PidsLaws.pids_in}}
use Rattle.pm_store_remains.{specs.{pm_disk.Cause.Rose, pm_server.Views.DiskView, Remains.Remains}, proofs.{pm_state.ReplayLaws.{acts_in, ends_at, legal_behind, legal_front}, pm_server.CalmLaws.{is_closing, shuts}}}
use Rattle.pm_serve_crew.specs.pm_child_life.declared.life.GateNo.TheVariants as gate_no
use Rattle.pm_serve_crew.specs.pm_exit.declared.child.Class.TheVariants as class
use Rattle.pm_serve_crew.specs.pm_exit.declared.child.Kind.TheVariants as kinds
use Rattle.pm_serve_crew.specs.pm_state.declared.event.PmEvent.TheVariants as entry
use Rattle.pm_serve_crew.specs.pm_board.pm_board_words.declared.views.RosterStep.TheVariants as step
use Rattle.pm_supervisor_crashes.{specs.Crashes.{HasNoCrash, IsFirstCrash, IsHarmless, IsUnasked, is_crash, stands_behind}, proofs.FirstLaws.{FirstFrom, first_or_none, no_crash_more}}
use Rattle.pm_serve_first_crash.{specs.Causes.{HasCause, IsBlamed, IsUnbroken, IsUnprovoked}, proofs.{CalmLaws.{IsCalm, SoFar, nothing_so_far, told_after}, JournalLaws.{StaysCalm, checkpointer_there, never_again, stays_calm}, RunsLaws.{Outcome, EndedFine, WasKilled, WasToldToQuit, MetNotice, GaveUp, DiskFailed, HadNoRedo, WasShort, WasSpent, FoundOther, IsFineAs, outcome}, GivenLaws.{checkpoint_given, kill_given, number_of, quit_given, terminate_given}, SendsLaws.{SitsNowhere, final_sends, may_send, nowhere_from, quiet, quiet_before, quiet_gate, unreached, unsent}, FindLaws.{IsKnownRun, NotedAt, RunOf, gone, its_run, near, noted_at}}}

-- ---- which signals were sent before the first crash

no_kills : (es : List PmEvent) → AllByRecursion IsHarmless es → AllByRecursion IsUnasked es → AllByRecursion (λ e. may_send 3 e ≡ false) es
no_kills [] harmless unasked = tt
no_kills (e ∷ es) harmless unasked = (one e harmless.0 unasked.0, no_kills es harmless.1 unasked.1)
  where
    one : (e : PmEvent) → IsHarmless e → IsUnasked e → may_send 3 e ≡ false
    one (entry.QuitSent why) none unasked = absurd none
    one (entry.KillSent at) none unasked = absurd none
    one (entry.KillAsked pid) none unasked = absurd unasked
    one e none unasked = refl

no_quits : (reason : Reason) (es : List PmEvent) → AllByRecursion IsHarmless es → AllByRecursion (λ e. may_send (number_of (Quit reason)) e ≡ false) es
no_quits reason [] harmless = tt
no_quits reason (e ∷ es) harmless = (one reason e harmless.0, no_quits reason es harmless.1)
  where
    one : (reason : Reason) (e : PmEvent) → IsHarmless e → may_send (number_of (Quit reason)) e ≡ false
    one reason (entry.QuitSent why) none = absurd none
    one Crash e none = refl
    one Stop e none = refl

-- that sessions were told to end is remembered
terminate_before : (h : SoFar) (es : List PmEvent) → (fold told_after h es).terminate ≡ false → h.terminate ≡ false
terminate_before h [] none = none
terminate_before h (e ∷ es) none = one e (terminate_before (told_after h e) es none)
  where
    one : (e : PmEvent) → (told_after h e).terminate ≡ false → h.terminate ≡ false
    one entry.TerminateSent is = absurd (true≢false is)
    one entry.CheckpointAsked is = is
    one e is = is

no_terminates : (h : SoFar) (es : List PmEvent) → AllByRecursion IsHarmless es → (fold told_after h es).terminate ≡ false → AllByRecursion (λ e. may_send 2 e ≡ false) es
no_terminates h [] harmless none = tt
no_terminates h (e ∷ es) harmless none = (one e harmless.0 (terminate_before (told_after h e) es none), no_terminates (told_after h e) es harmless.1 none)
  where
    one : (e : PmEvent) → IsHarmless e → (told_after h e).terminate ≡ false → may_send 2 e ≡ false
    one entry.TerminateSent harmless is = absurd (true≢false is)
    one (entry.QuitSent why) harmless is = absurd harmless
    one e harmless is = refl

checkpoint_before : (h : SoFar) (es : List PmEvent) → (fold told_after h es).checkpoint ≡ false → h.checkpoint ≡ false
checkpoint_before h [] none = none
checkpoint_before h (e ∷ es) none = one e (checkpoint_before (told_after h e) es none)
  where
    one : (e : PmEvent) → (told_after h e).checkpoint ≡ false → h.checkpoint ≡ false
    one entry.CheckpointAsked is = absurd (true≢false is)
    one entry.TerminateSent is = is
    one e is = is

no_checkpoints : (h : SoFar) (es : List PmEvent) → AllByRecursion IsHarmless es → (fold told_after h es).checkpoint ≡ false → AllByRecursion (λ e. may_send 4 e ≡ false) es
no_checkpoints h [] harmless none = tt
no_checkpoints h (e ∷ es) harmless none = (one e harmless.0 (checkpoint_before (told_after h e) es none), no_checkpoints (told_after h e) es harmless.1 none)
  where
    one : (e : PmEvent) → IsHarmless e → (told_after h e).checkpoint ≡ false → may_send 4 e ≡ false
    one entry.CheckpointAsked harmless is = absurd (true≢false is)
    one (entry.QuitSent why) harmless is = absurd harmless
    one e harmless is = refl

-- ---- a first crash

-- who ended fine is no crash
fine_ends : (end : Ended) (m : Machine) (told : Told) (at : ℕ) → IsFineAs end.kind end.status end.was_active told → (was_told Checkpoint told → end.kind ≡ kinds.Checkpointer → is_shutdown m.state ≡ true)
    → is_crash m (entry.Exited end.pid end.kind end.status end.was_active at) ≡ false
fine_ends end m told at fine last = by end.kind refl fine
  where
    session : (code : Bool) → code ≡ true → end.was_active ≡ false → not (is_normal (cond (code && not end.was_active) class.Normal class.Crash) || false) ≡ false
    session code is out = rw (is, out) refl

    by : (k : Kind) → end.kind ≡ k → IsFineAs k end.status end.was_active told → is_crash m (entry.Exited end.pid k end.status end.was_active at) ≡ false
    by kinds.Startup is its = rw its refl
    by kinds.Checkpointer is its = rw (its.0, last its.1 is) refl
    by kinds.Writer is its = rw its refl
    by kinds.Worker is its = session (is_exit_0 end.status || is_exit_1 end.status) its.0 its.1
    by kinds.Backend is its = session (is_exit_0 end.status || is_exit_1 end.status) its.0 its.1
    by kinds.DeadEnd is its = session (is_exit_0 end.status || is_exit_1 end.status) its.0 its.1

gave_up : (end : Ended) (m : Machine) (at : ℕ) → end.kind ≡ kinds.Startup → end.status ≡ Code 1 → is_some m.shutdown ≡ true
    → is_crash m (entry.Exited end.pid end.kind end.status end.was_active at) ≡ false
gave_up end m at kind status asked = rw (kind, status, asked) refl

either : (b : Bool) → (b ≡ true) ⊎ (b ≡ false)
either true = inl refl
either false = inr refl

-- the end of a child is harmless
harmful_no_crash : (e : PmEvent) → (IsHarmless e → ⊥) → (m : Machine) → is_crash m e ≡ false
harmful_no_crash (entry.Exited pid kind status was_active at) harmful m = absurd (harmful tt)
harmful_no_crash e harmful m = refl

module _ (safely : RestartsSafely) (limits : Limits) (manner : Manner) (count : ℕ) (moves : List Move) (board : RosterView MailTold) (own : List Noted) (book : List BookEntry) (u : IsUnprovoked limits manner count moves board own book) where
  module _ (end : Ended) (at : ℕ) (first : IsFirstCrash limits (journal_of count moves) (entry.Exited end.pid end.kind end.status end.was_active at)) where
    abbrev e : PmEvent
    e = entry.Exited end.pid end.kind end.status end.was_active at

    abbrev met : Replay
    met = all_replayed (replay_begun limits) first.before

    abbrev m : Machine
    m = stands_behind limits first.before

    legal : IsLegal limits any_moment (first.before ++ e ∷ first.behind)
    legal = subst (IsLegal limits any_moment) first.is u.legal

    unasked : AllByRecursion IsUnasked first.before
    unasked = each_first IsUnasked first.before (e ∷ first.behind) (subst (AllByRecursion IsUnasked) first.is u.unasked)

    calm : StaysCalm nothing_so_far (replay_begun limits) first.before
    calm = stays_calm safely limits any_moment first.before (legal_front any_moment (replay_begun limits) first.before (e ∷ first.behind) legal) unasked first.none

    found : NotedAt (empty count) moves first.before e first.behind
    found = noted_at (empty count) moves first.before e first.behind refl first.is

    abbrev behind_front : Seating
    behind_front = seating_from (empty count) found.front

    abbrev behind_it : Seating
    behind_it = seating_by behind_front (Notes e found.slot)

    -- the steps of the board
    abbrev front_steps : List RosterStep
    front_steps = steps_from (empty count) found.front

    abbrev rest_steps : List RosterStep
    rest_steps = steps_from behind_it found.rest

    steps : board.notes.steps ≡ front_steps ++ step.Release end.pid end.kind behind_front.generation ∷ (rest_steps ++ u.board_is.last)
    steps =
        u.board_is.steps
        ∙ ap (λ (ms : List Move). board_steps count ms ++ u.board_is.last) found.is
        ∙ ap (λ (ss : List RosterStep). ss ++ u.board_is.last) (steps-append (empty count) found.front (Notes e found.slot ∷ found.rest))
        ∙ append_assoc front_steps (step.Release end.pid end.kind behind_front.generation ∷ rest_steps) u.board_is.last

    -- its pid is given to none after it
    fresh : IsPidOf end.pid (pids_in (entries_from behind_it found.rest)) → ⊥
    fresh there =
        never_again limits any_moment first.before first.behind end.pid end.kind end.status end.was_active at legal
        (subst (λ (es : List PmEvent). IsPidOf end.pid (pids_in es)) found.rest_is there)

    gone_then : SitsNowhere end.pid behind_it.seats
    gone_then = gone manner count moves board own book u.board_is u.left u.once u.unbroken end e refl found.slot found.front found.rest found.is refl

    gone_at_last : SitsNowhere end.pid (seating_of count moves).seats
    gone_at_last =
        subst (λ (s : Seating). SitsNowhere end.pid s.seats)
        (sym (ap (seating_of count) found.is ∙ seating-append (empty count) found.front (Notes e found.slot ∷ found.rest)))
        (nowhere_from end.pid behind_it found.rest fresh gone_then)

    -- so nothing was sent to it after its end
    none_behind : (n : ℕ) → times_sent n end.pid (rest_steps ++ u.board_is.last) ≡ 0
    none_behind n =
        sent-append n end.pid rest_steps u.board_is.last
        ∙ (let rest : times_sent n end.pid rest_steps ≡ 0 = unreached n end.pid behind_it found.rest fresh gone_then in
        let last : times_sent n end.pid u.board_is.last ≡ 0 = final_sends n end.pid (seating_of count moves).seats u.board_is.last gone_at_last u.board_is.final in
        (let none : times_sent n end.pid rest_steps + times_sent n end.pid u.board_is.last ≡ 0 = omega (arith, rest, last) in none))

    -- nor before it what none of the entries sends
    sent : (n : ℕ) → AllByRecursion (λ x. may_send n x ≡ false) first.before → times_sent n end.pid board.notes.steps ≡ 0
    sent n others =
        ap (times_sent n end.pid) steps
        ∙ sent-append n end.pid front_steps (step.Release end.pid end.kind behind_front.generation ∷ (rest_steps ++ u.board_is.last))
        ∙ (let front : times_sent n end.pid front_steps ≡ 0 = unsent n end.pid (empty count) found.front (subst (AllByRecursion (λ x. may_send n x ≡ false)) (sym found.front_is) others) in
        let none : times_sent n end.pid (rest_steps ++ u.board_is.last) ≡ 0 = none_behind n in
        (let all : times_sent n end.pid front_steps + (0 + times_sent n end.pid (rest_steps ++ u.board_is.last)) ≡ 0 = omega (arith, front, none) in all))

    last_asked : (checkpoint terminate : Bool) (acts : List Action) → IsCalm (record { checkpoint = checkpoint; terminate = terminate }) acts m → (terminate ≡ true → is_some m.shutdown ≡ true) × (checkpoint ≡ true → is_closing m ≡ true)
    last_asked checkpoint terminate acts its = (
      (λ is. subst (λ (b : Bool). not (b || has_act is_terminate acts) || is_some m.shutdown ≡ true) is its.ending),
      (λ is. subst (λ (b : Bool). not (b || has_act is_ask_checkpoint acts) || is_closing m ≡ true) is its.calm.closing),
    )

    asks : ((fold told_after nothing_so_far first.before).terminate ≡ true → is_some m.shutdown ≡ true) × ((fold told_after nothing_so_far first.before).checkpoint ≡ true → is_closing m ≡ true)
    asks = last_asked (fold told_after nothing_so_far first.before).checkpoint (fold told_after nothing_so_far first.before).terminate (acts_in met.due) calm.calm

    -- who was told to end by itself was told so in a shutdown
    asked : 0 < times_sent 2 end.pid board.notes.steps → is_some m.shutdown ≡ true
    asked some = by (either (fold told_after nothing_so_far first.before).terminate)
      where
        by : ((fold told_after nothing_so_far first.before).terminate ≡ true) ⊎ ((fold told_after nothing_so_far first.before).terminate ≡ false) → is_some m.shutdown ≡ true
        by (inl told) = asks.0 told
        by (inr untold) =
            let none : times_sent 2 end.pid board.notes.steps ≡ 0 =
            sent 2 (no_terminates nothing_so_far first.before calm.harmless untold) in
            absurd (omega (arith, some, none))

    -- and a checkpointer for the last checkpoint where the server waits for that
    closes : 0 < times_sent 4 end.pid board.notes.steps → end.kind ≡ kinds.Checkpointer → is_shutdown m.state ≡ true
    closes some kind = by (either (fold told_after nothing_so_far first.before).checkpoint)
      where
        by : ((fold told_after nothing_so_far first.before).checkpoint ≡ true) ⊎ ((fold told_after nothing_so_far first.before).checkpoint ≡ false) → is_shutdown m.state ≡ true
        by (inl told) =
            shuts m (asks.1 told)
            (checkpointer_there met end.pid end.kind kind
            (ends_at any_moment met end.pid end.kind end.status end.was_active at first.behind (legal_behind any_moment (replay_begun limits) first.before (e ∷ first.behind) legal))
            (safely.counts limits any_moment first.before (legal_front any_moment (replay_begun limits) first.before (e ∷ first.behind) legal)))
        by (inr untold) =
            let none : times_sent 4 end.pid board.notes.steps ≡ 0 =
            sent 4 (no_checkpoints nothing_so_far first.before calm.harmless untold) in
            absurd (omega (arith, some, none))

    -- nobody was told to end at once
    unquit : (reason : Reason) → times_sent (number_of (Quit reason)) end.pid board.notes.steps ≡ 0
    unquit Crash = sent 0 (no_quits Crash first.before calm.harmless)
    unquit Stop = sent 1 (no_quits Stop first.before calm.harmless)

    -- nor met a notice at the gate
    unnoticed : (o : Offer MailTold) (reason : Reason) (generation : ℕ) → AnsweredBefore (doings_of board) (record o { pid = end.pid }) (attempt false (Err (gate_no.Quit generation reason))) → ⊥
    unnoticed o reason generation (before, after, is, there, own, answer) =
        let before_quiet = quiet_before front_steps end.pid end.kind behind_front.generation (rest_steps ++ u.board_is.last) before after (sym steps ∙ is)
        (quiet (empty count) found.front (subst (AllByRecursion IsHarmless) (sym found.front_is) calm.harmless)) there.1 in
        absurd (let never : ◌≡◌ {A = Option Reason} None (Some reason) = sym (quiet_gate first_gate before before_quiet refl) ∙ answer.1 in cc)

    fine_never : is_crash m e ≡ false → ⊥
    fine_never fine = both_ways (is_crash m e) fine first.crash

    its : RunOf (IsKnownRun manner count moves board own book u.board_is u.left u.once u.unbroken) (u.left.runs found.slot) end
    its = its_run manner count moves board own book u.board_is u.left u.once u.unbroken end e refl found.slot found.front found.rest found.is

    -- what its run heard was meant for its pid
    heard : HeardRightly (doings_of board) (IsKnownAtLast board) (record its.run.child.offer { pid = end.pid }) its.run.heard
    heard = subst (λ (pid : ℕ). HeardRightly (doings_of board) (IsKnownAtLast board) (record its.run.child.offer { pid = pid }) its.run.heard) (ap (λ (x : Ended). x.pid) its.ended) its.holds.1

    was_sent : (n : ℕ) → 0 < times_given n its.run.heard.given → 0 < times_sent n end.pid board.notes.steps
    was_sent n some = (let all : times_given n its.run.heard.given ≤ times_sent n end.pid board.notes.steps = heard.sent n in omega (arith, some, all))

    blame : Outcome manner its.run → IsBlamed manner m its.run
    blame (EndedFine fine) =
        absurd (fine_never (fine_ends end m (told_in its.run) at (subst (λ (x : Ended). IsFineAs x.kind x.status x.was_active (told_in its.run)) its.ended fine)
        (λ told kind. closes (was_sent 4 (checkpoint_given its.run.heard its.run.asked told)) kind)))
    blame (WasKilled status told) =
        (let some : 0 < times_sent 3 end.pid board.notes.steps = was_sent 3 (kill_given its.run.heard its.run.asked told) in
        absurd (omega (arith, some, sent 3 (no_kills first.before calm.harmless unasked))))
    blame (WasToldToQuit reason told) =
        (let some : 0 < times_sent (number_of (Quit reason)) end.pid board.notes.steps = was_sent (number_of (Quit reason)) (quit_given reason its.run.heard its.run.asked told) in
        absurd (omega (arith, some, unquit reason)))
    blame (MetNotice generation reason met_it) = absurd (unnoticed its.run.child.offer reason generation (heard.shown (attempt false (Err (gate_no.Quit generation reason))) met_it))
    blame (GaveUp kind status told) =
        absurd (fine_never (gave_up end m at (sym (ap (λ (x : Ended). x.kind) its.ended) ∙ kind) (sym (ap (λ (x : Ended). x.status) its.ended) ∙ status)
        (asked (was_sent 2 (terminate_given its.run.heard its.run.asked told)))))
    blame (DiskFailed breaks) = absurd (breaks its.holds.2)
    blame (HadNoRedo cannot) = inl cannot
    blame (WasShort kind status refused told) = inr (inl (record {
      kind = kind;
      status = status;
      why = inl (closes (was_sent 4 (checkpoint_given its.run.heard its.run.asked told)) (sym (ap (λ (x : Ended). x.kind) its.ended) ∙ kind), refused);
    }))
    blame (WasSpent kind status need refused) = inr (inl (record { kind = kind; status = status; why = inr (need, refused) }))
    blame (FoundOther another) = inr (inr another)

    caused : HasCause manner m count u.left.runs e
    caused = record {
      slot = found.slot;
      near = near manner count moves board own book u.board_is u.left u.once u.unbroken end e refl found.slot found.front found.rest found.is;
      run = its.run;
      its = its.its;
      ended = ap (λ (x : Ended). x ∷ []) (sym its.ended);
      blamed = blame (outcome manner its.run its.holds.0);
    }

  -- The first crash of the journal is the end of a run that has one of these causes, and no other.
  pub has_cause : (e : PmEvent) (first : IsFirstCrash limits (journal_of count moves) e) → HasCause manner (stands_behind limits first.before) count u.left.runs e
  has_cause (entry.Exited pid kind status was_active at) first = caused (record { pid = pid; kind = kind; status = status; was_active = was_active }) at first
  has_cause other first = absurd (false≢true first.crash)

  -- Before each entry that isn't harmless there is a first crash, with such a cause.
  pub has_crashed : (front : List PmEvent) (later : PmEvent) (behind : List PmEvent) → journal_of count moves ≡ front ++ later ∷ behind → (IsHarmless later → ⊥)
      → (e : PmEvent) × (first : IsFirstCrash limits front e) × HasCause manner (stands_behind limits first.before) count u.left.runs e
  has_crashed front later behind is harmful = by (first_or_none (replay_begun limits) front)
    where
      by : FirstFrom (replay_begun limits) front ⊎ HasNoCrash (replay_begun limits) front
          → (e : PmEvent) × (first : IsFirstCrash limits front e) × HasCause manner (stands_behind limits first.before) count u.left.runs e
      by (inl f) = (
        f.entry,
        record { before = f.before; behind = f.behind; is = f.is; none = f.none; crash = f.crash },
        has_cause f.entry (record {
          before = f.before;
          behind = f.behind ++ later ∷ behind;
          is = is ∙ ap (λ (es : List PmEvent). es ++ later ∷ behind) f.is ∙ append_assoc f.before (f.entry ∷ f.behind) (later ∷ behind);
          none = f.none;
          crash = f.crash;
        }),
      )
      by (inr none) =
          absurd (harmful (each_last IsHarmless front later (stays_calm safely limits any_moment (front ++ later ∷ [])
          (legal_front any_moment (replay_begun limits) (front ++ later ∷ []) behind (subst (IsLegal limits any_moment) (is ∙ sym (append_assoc front (later ∷ []) behind)) u.legal))
          (each_first IsUnasked (front ++ later ∷ []) behind (subst (AllByRecursion IsUnasked) (is ∙ sym (append_assoc front (later ∷ []) behind)) u.unasked))
          (no_crash_more (replay_begun limits) front later none (harmful_no_crash later harmful (all_replayed (replay_begun limits) front).machine))).harmless))

-- ---- over a disk that didn't fail

-- no fault of the disk is noted whose count hasn't risen
pub unfailed_unbroken : (before now : DiskView) (told : Option (List BookEntry)) (book : List BookEntry) → Remains before now told book → ¬ (Rose before.faults now.faults) → IsUnbroken book
unfailed_unbroken before now told book remains unfailed = each book (recursion_from_All (IsShown before.faults now.faults) book remains.faults)
  where
    one : (e : BookEntry) → IsShown before.faults now.faults e → is_break e ≡ false
    one (Broke pid since faults) shown = absurd (unfailed shown)
    one e shown = refl

    each : (es : List BookEntry) → AllByRecursion (IsShown before.faults now.faults) es → IsUnbroken es
    each [] all = tt
    each (e ∷ es) all = (one e all.0, each es all.1)
