-- What an act comes to.
use Rattle.std.{proofs.Common.{◌≡◌, ◌≢◌, ℕ, ◌+◌, List, [], ◌∷◌, ◌++◌, refl, sym, ap, subst, ◌∙◌, map, arith, append-nil}, specs.Prelude.{Bool, true, false, if◌then◌else◌, Option, None, Some, Result, Ok, Err, is_some}}
use Rattle.pm_server.specs.{pm_exit.declared.child.{Kind.Kind, Status.{Status, TheVariants.{Code, Signal}}}, Acted.LogBehind, pm_server_lines.Log.LogView, pm_state.{Starts.has_end, Journal.{all_replayed, replay_begun}, Laws.RestartsSafely, Restarts.AreAsSet, declared.{action.Action.Action, event.PmEvent.PmEvent}}, declared.end.{ServerEnd.{ServerEnd, TheVariants.{Abnormal, NoMemory}}, StartWhy.TheVariants.{Redo, Killed}, Why.TheVariants.StartupFailed}, pm_query.declared.store.StoreNo.StoreNo, pm_segment.Renewal.renewal, pm_supervisor.{declared.{Ending.Ending, Limits.Limits}, Children.{is_checkpointer, is_startup_child}}}
use Rattle.pm_board_acts.{specs.{pm_board.{pm_board_words.declared.views.{PastChild.PastChild, RosterView.RosterView}, Children.CountsChildren, Places.slot_at, Gate.gate_of}, Acts.{MayPerform, IsDone as IsDoneAtBoard, Performs as PerformsAtBoard, MayDo}, Board.{seats_of, ended_of}, Calls.{slot_for, DoesNext, StandsStill}, Final.MayEndAnywhere, Seating.{Move, Notes, ended_at, journal_of}, Sitting.KeepsPast, Standing.view, pm_worker.declared.mail.MailTold.MailTold}, proofs.FoldingLaws.journal-more}
use Rattle.pm_supervisor_journal.{proofs.{EndsLaws.{last_set, spent_next}, NextsLaws.{first_is, next_given, next_spent, ended_kept, generation_kept}}, specs.{declared.act.{Act.Act, GenerationsSpent.GenerationsSpent}, Laws.KeepsALegalJournal, Standing.{Standing, act_for, done, entry_for, first_due, next_of}, Stands.any_moment}}
use Rattle.pm_board_acts.specs.Standing as seating
use Rattle.pm_server.specs.declared.end.Why.TheVariants as whys
use Rattle.pm_server.specs.pm_query.declared.store.StoreNo.TheVariants as nos
use Rattle.pm_serve_pool.specs.{pm_serve_crew.Renewals.RenewsAsTold, pm_store_shared.{declared.views.Noted.Noted, Log.all_behind, Renewed.AreApart, Told.{HasRenewed, SharedModel}}}
use Rattle.pm_server.specs.pm_state.declared.action.Action.TheVariants as action
use Rattle.pm_server.specs.pm_state.declared.event.PmEvent.TheVariants as entry
use Rattle.pm_server.specs.pm_supervisor.declared.Ending.TheVariants as endings
use Rattle.pm_postmaster.{specs.{declared.came.{Came.Came, LastCame.LastCame}, Acting.{EndBehind, Performs, end_by, is_killed, is_short, refused_by, after_crash, after_start, crashed_by}, Looking.came_of, Serving.{EndsWith, HasStopped, IsCausedBehind, IsEndBehind, IsServing, Outset, Renews, Stops, CrashedOtherwise, HasComeOut, RemembersLast}, View.View, Requests.{IsAsked, ended_in}}, proofs.{Acted.{Acts, Stands, acted, links_acted, served_acted, slots_acted, limit_acted}, Calling.{IsBeside, still}, Asked.asked_all, Owed.{acts_ask_none, end_due, owes_acted}, Going.{AsksAt, LeavesOutside, LeavesStore, asks_nothing, came_on, drawn_at, pid_at, renews_on, stopped_at}, Redoing.{acts_tell_none, redos_still, redos_told}, Renewing.{AreQuiet, renews_reset, renews_short}}}

-- an act tells of no loss, and of no generation but a reset
quiet_act : (a : Action) (s : Standing) → (a ≡ action.Reset → ⊥) → AreQuiet (entry_for a s ∷ [])
quiet_act (action.Start k) s other = record { since = λ so. refl; lost = λ so. refl; resets = refl }
quiet_act (action.Quit why) s other = record { since = λ so. refl; lost = λ so. refl; resets = refl }
quiet_act action.Terminate s other = record { since = λ so. refl; lost = λ so. refl; resets = refl }
quiet_act action.KillAll s other = record { since = λ so. refl; lost = λ so. refl; resets = refl }
quiet_act action.AskCheckpoint s other = record { since = λ so. refl; lost = λ so. refl; resets = refl }
quiet_act action.Ready s other = record { since = λ so. refl; lost = λ so. refl; resets = refl }
quiet_act action.Reset s other = absurd (other refl)
quiet_act (action.Say line) s other = record { since = λ so. refl; lost = λ so. refl; resets = refl }
quiet_act (action.End how) s other = record { since = λ so. refl; lost = λ so. refl; resets = refl }

-- it has ended after a crash
crash_so : (limits : Limits) (came : Option Came) (journal : List PmEvent) → EndsWith (entry.Ended endings.AfterCrash) journal → IsEndBehind limits (after_crash came) journal
crash_so limits None journal ends = ends
crash_so limits (Some came) journal ends = by came.fault
  where
    by : (fault : Option StoreNo) → IsEndBehind limits (crashed_by fault) journal
    by None = ends
    by (Some (nos.Redo fault)) = ends
    by (Some (nos.Stale mine found)) = ends
    by (Some nos.Disk) = ends
    by (Some (nos.Broken since)) = ends
    by (Some (nos.Full need room)) = ends
    by (Some nos.NoMemory) = tt

-- it has ended since no startup child brought the data up to date
start_so : (limits : Limits) (came : Option Came) (journal : List PmEvent) → EndsWith (entry.Ended endings.StartupFailed) journal → IsEndBehind limits (after_start came) journal
start_so limits None journal ends = tt
start_so limits (Some came) journal ends = by (is_killed came.status) came.fault
  where
    by : (killed : Bool) (fault : Option StoreNo) → IsEndBehind limits (if killed then Abnormal (StartupFailed Killed) else refused_by fault) journal
    by true fault = ends
    by false None = tt
    by false (Some (nos.Redo fault)) = short (is_short fault)
      where
        short : (b : Bool) → IsEndBehind limits (if b then NoMemory else Abnormal (StartupFailed (Redo fault))) journal
        short true = tt
        short false = ends
    by false (Some (nos.Stale mine found)) = tt
    by false (Some nos.Disk) = tt
    by false (Some (nos.Broken since)) = tt
    by false (Some (nos.Full need room)) = tt
    by false (Some nos.NoMemory) = tt

-- the machine has ended
ended_so : (limits : Limits) (how : Ending) (came : LastCame) (journal : List PmEvent) → EndsWith (entry.Ended how) journal → AreAsSet limits journal
    → IsEndBehind limits (end_by how came) journal
ended_so limits endings.Clean came journal ends set = ends
ended_so limits endings.AfterCrash came journal ends set = crash_so limits came.checkpointer journal ends
ended_so limits endings.RestartOff came journal ends set =
    (ends, (last_set limits ends.0 (entry.Ended endings.RestartOff ∷ []) (subst (AreAsSet limits) ends.1 set)).0)
ended_so limits endings.StartupFailed came journal ends set = start_so limits came.startup journal ends

killed_by : (status : Status) → is_killed status ≡ true → status ≡ Signal 9
killed_by (Signal number) is = ap Signal (let same : number ≡ 9 = grind (arith, is) in same)
killed_by (Code code) is = absurd (let no_ : false ≡ true = is in cc)

-- nobody was released yet but those that the moves tell of
out_so : (is_it : Kind → Bool) (k : ℕ) (moves : List Move) (came : Option Came) (past : List (PastChild MailTold)) → map ended_of past ≡ ended_at k moves → came ≡ came_of is_it past
    → HasComeOut is_it past k moves came
out_so is_it k moves came past told is = record { front = past; others = []; past_is = sym (append-nil past); told = told; came_is = sym is }

crash_caused : (came : Option Came) (moves : List Move) (d : RosterView MailTold) → HasComeOut is_checkpointer (slot_at d 1).past 1 moves came → IsCausedBehind (after_crash came) moves d
crash_caused None moves d out = record { came = None; out = out; other = tt }
crash_caused (Some came) moves d out = by came.fault refl
  where
    crashed : came.fault ≢ Some nos.NoMemory → CrashedOtherwise moves (slot_at d 1).past
    crashed other = record { came = Some came; out = out; other = other }

    by : (fault : Option StoreNo) → came.fault ≡ fault → IsCausedBehind (crashed_by fault) moves d
    by None faulted = crashed (λ short. (let both = sym faulted ∙ short in cc))
    by (Some (nos.Redo fault)) faulted = crashed (λ short. (let both = sym faulted ∙ short in cc))
    by (Some (nos.Stale mine found)) faulted = crashed (λ short. (let both = sym faulted ∙ short in cc))
    by (Some nos.Disk) faulted = crashed (λ short. (let both = sym faulted ∙ short in cc))
    by (Some (nos.Broken since)) faulted = crashed (λ short. (let both = sym faulted ∙ short in cc))
    by (Some (nos.Full need room)) faulted = crashed (λ short. (let both = sym faulted ∙ short in cc))
    by (Some nos.NoMemory) faulted = tt

start_caused : (came : Option Came) (moves : List Move) (d : RosterView MailTold) → HasComeOut is_startup_child (slot_at d 0).past 0 moves came → IsCausedBehind (after_start came) moves d
start_caused None moves d out = tt
start_caused (Some came) moves d out = by (is_killed came.status) refl came.fault refl
  where
    by : (killed : Bool) → is_killed came.status ≡ killed → (fault : Option StoreNo) → came.fault ≡ fault
        → IsCausedBehind (if killed then Abnormal (StartupFailed Killed) else refused_by fault) moves d
    by true kill fault faulted = record { came = came; out = out; reason_is = killed_by came.status kill }
    by false kill None faulted = tt
    by false kill (Some (nos.Redo fault)) faulted = short (is_short fault) refl
      where
        short : (b : Bool) → is_short fault ≡ b → IsCausedBehind (if b then NoMemory else Abnormal (StartupFailed (Redo fault))) moves d
        short true is = tt
        short false is = record { came = came; out = out; reason_is = (faulted, λ same. (let never : true ≡ false = ap is_short (sym same) ∙ is in absurd cc)) }
    by false kill (Some (nos.Stale mine found)) faulted = tt
    by false kill (Some nos.Disk) faulted = tt
    by false kill (Some (nos.Broken since)) faulted = tt
    by false kill (Some (nos.Full need room)) faulted = tt
    by false kill (Some nos.NoMemory) faulted = tt

caused_so : (how : Ending) (came : LastCame) (moves : List Move) (d : RosterView MailTold) → ((k : ℕ) → map ended_of (slot_at d k).past ≡ ended_at k moves) → RemembersLast came d
    → IsCausedBehind (end_by how came) moves d
caused_so endings.Clean came moves d told is = tt
caused_so endings.AfterCrash came moves d told is = crash_caused came.checkpointer moves d (out_so is_checkpointer 1 moves came.checkpointer (slot_at d 1).past (told 1) is.checkpointer)
caused_so endings.RestartOff came moves d told is = tt
caused_so endings.StartupFailed came moves d told is = start_caused came.startup moves d (out_so is_startup_child 0 moves came.startup (slot_at d 0).past (told 0) is.startup)

module _ {D C : Type 0} (gives : C → ℕ → Type 0) (counts : CountsChildren) (may : MayEndAnywhere MailTold) (legal : KeepsALegalJournal) (safely : RestartsSafely) where
  -- An act was noted, and done at the board.
  pub record IsDone (a : Action) (ordered : Kind → MailTold) (before mid : View D C) : Type 0 where
    pub first : first_due before.work.standing.due ≡ Some a
    pub goes : seating.Goes (Notes (entry_for a before.work.standing) (slot_for a) ∷ []) (view before.work before.board) (view mid.work mid.board)
    pub standing : mid.work.standing ≡ done a before.work.standing
    pub board : PerformsAtBoard (act_for a before.work.standing) ordered before.board (seats_of before.board) mid.board (seats_of mid.board)
    pub allowed : MayPerform (act_for a before.work.standing) before.board (seats_of before.board)
    pub past : KeepsPast before.board mid.board
    pub tells : is_some mid.work.told ≡ is_some before.work.told
    pub table : mid.table ≡ before.table
    pub shared : mid.shared ≡ before.shared
    pub log : mid.log ≡ before.log
    pub visits : mid.visits ≡ before.visits
    pub clock : mid.clock ≡ before.clock
    pub lost : mid.lost ≡ before.lost
    pub came : mid.came ≡ before.came
    pub lines : mid.lines ≡ before.lines
    pub listens : mid.listens ≡ before.listens

  module _ (outset : Outset D C) (a : Action) (ordered : Kind → MailTold) (before mid : View D C) (is : IsDone a ordered before mid) (was : IsServing gives outset before)
      (log : LogView) (shared : SharedModel D) (lost : List ℕ) (said : LogBehind (act_for a before.work.standing) mid.log log) where
    abbrev now : View D C
    now = record mid { log = log; shared = shared; lost = lost }

    -- the store's side is the same, or it was renewed
    record SameHome : Type 0 where
      pub table : shared.table ≡ mid.shared.table
      pub tokens : shared.tokens ≡ mid.shared.tokens
      pub joined : shared.joined ≡ mid.shared.joined
      pub disk : shared.first ≡ mid.shared.first

    acts : SameHome → Acts gives a before now
    acts home = record {
      first = is.first;
      goes = is.goes;
      standing = is.standing;
      links = λ n visits. links_acted counts n before.board mid.board (seats_of before.board) (seats_of mid.board) ordered visits (act_for a before.work.standing) is.board is.allowed;
      served = served_acted before.board mid.board (seats_of before.board) (seats_of mid.board) ordered (act_for a before.work.standing) is.board is.allowed;
      log = subst (λ (l : LogView). LogBehind (act_for a before.work.standing) l log) is.log said;
      visits = is.visits;
      slots = slots_acted before.board mid.board (seats_of before.board) (seats_of mid.board) ordered (act_for a before.work.standing) is.board;
      limit = limit_acted before.board mid.board (seats_of before.board) (seats_of mid.board) ordered (act_for a before.work.standing) is.board;
      leaves = record {
        table = is.table;
        home = home.table ∙ ap (λ (s : SharedModel D). s.table) is.shared;
        tokens = home.tokens ∙ ap (λ (s : SharedModel D). s.tokens) is.shared;
        joined = home.joined ∙ ap (λ (s : SharedModel D). s.joined) is.shared;
        disk = home.disk ∙ ap (λ (s : SharedModel D). s.first) is.shared;
        clock = is.clock;
        tells = is.tells;
      };
    }

    abbrev moves_now : List Move
    moves_now = was.moves ++ Notes (entry_for a before.work.standing) (slot_for a) ∷ []

    stands_now : SameHome → Stands gives outset moves_now now
    stands_now home = acted gives outset a before now (acts home) was

    journal_now : journal_of outset.count moves_now ≡ journal_of outset.count was.moves ++ entry_for a before.work.standing ∷ []
    journal_now = journal-more outset.count was.moves (Notes (entry_for a before.work.standing) (slot_for a))

    same_home : shared ≡ mid.shared → SameHome
    same_home same = record {
      table = ap (λ (s : SharedModel D). s.table) same;
      tokens = ap (λ (s : SharedModel D). s.tokens) same;
      joined = ap (λ (s : SharedModel D). s.joined) same;
      disk = ap (λ (s : SharedModel D). s.first) same;
    }

    -- and nothing was asked for
    asks_now : AsksAt gives moves_now now
    asks_now =
        asks_nothing gives outset (Notes (entry_for a before.work.standing) (slot_for a) ∷ []) before now (acts_ask_none a before.work.standing)
        (record { lines = is.lines; ended = ap ended_in is.visits; listens = is.listens })
        (owes_acted a before.work.standing mid.work.standing is.standing is.first was.at.stands.coming.owes) was

    -- nothing was renewed
    pub went_on : lost ≡ mid.lost → shared ≡ mid.shared → (a ≡ action.Reset → ⊥) → IsServing gives outset now
    went_on same_lost same other =
        let stands = stands_now (same_home same) in
        let leaves : LeavesStore gives before now = record {
          lost = same_lost ∙ is.lost;
          own = ap (λ (s : SharedModel D). s.own) same ∙ ap (λ (s : SharedModel D). s.own) is.shared;
          came = is.came;
          past = is.past;
        } in
        record {
          moves = moves_now;
          at = stands.at;
          holds = stands.holds;
          moments = stands.moments;
          generation = ap (λ (s : SharedModel D). s.generation) same ∙ (ap (λ (s : SharedModel D). s.generation) is.shared
              ∙ (was.generation ∙ sym (ap (λ (s : Standing). s.generation) is.standing ∙ generation_kept a before.work.standing other)));
          renews = subst (λ (es : List PmEvent). Renews es lost shared.own) (sym journal_now)
              (renews_on gives (journal_of outset.count was.moves) (entry_for a before.work.standing ∷ []) before now (quiet_act a before.work.standing other) leaves was.renews);
          redos = redos_still was.moves (Notes (entry_for a before.work.standing) (slot_for a) ∷ []) before.board mid.board (acts_tell_none a before.work.standing) is.past was.redos;
          came = came_on gives before now is.came is.past was.came;
          asks = asks_now;
        }

    -- the store was renewed
    pub renewed : a ≡ action.Reset → (others : List ℕ) → lost ≡ [] → AreApart mid.lost others
        → HasRenewed mid.shared (before.work.standing.generation + 1) others (renewal (mid.lost ++ others) (before.work.standing.generation + 1)) shared → IsServing gives outset now
    renewed reset others none apart has =
        let generation : ℕ = before.work.standing.generation + 1 in
        let stands = stands_now (record {
          table = ap (λ (s : SharedModel D). s.table) has.1;
          tokens = ap (λ (s : SharedModel D). s.tokens) has.1;
          joined = ap (λ (s : SharedModel D). s.joined) has.1;
          disk = ap (λ (s : SharedModel D). s.first) has.1;
        }) in
        let e : entry_for a before.work.standing ≡ entry.Reset generation = ap (λ (x : Action). entry_for x before.work.standing) reset in
        let owns : shared.own ≡ before.shared.own ++ all_behind has.0 (renewal (before.lost ++ others) generation) =
        ap (λ (s : SharedModel D). s.own) has.1 ∙ (ap (λ (s : SharedModel D). s.own ++ all_behind has.0 (renewal (mid.lost ++ others) generation)) is.shared
        ∙ ap (λ (l : List ℕ). before.shared.own ++ all_behind has.0 (renewal (l ++ others) generation)) is.lost) in
        record {
          moves = moves_now;
          at = stands.at;
          holds = stands.holds;
          moments = stands.moments;
          generation = ap (λ (s : SharedModel D). s.generation) has.1 ∙ sym (ap (λ (s : Standing). s.generation) is.standing
              ∙ ap (λ (x : Action). (done x before.work.standing).generation) reset);
          renews = subst (λ (es : List PmEvent). Renews es lost shared.own) (sym (journal_now ∙ ap (λ (x : PmEvent). journal_of outset.count was.moves ++ x ∷ []) e))
              (subst (λ (l : List ℕ). Renews (journal_of outset.count was.moves ++ entry.Reset generation ∷ []) l shared.own) (sym none)
              (subst (λ (own : List Noted). Renews (journal_of outset.count was.moves ++ entry.Reset generation ∷ []) [] own) (sym owns)
              (renews_reset (journal_of outset.count was.moves) before.lost before.shared.own generation has.0 others
              (subst (λ (l : List ℕ). AreApart l others) is.lost apart) has.2 was.renews)));
          redos = redos_still was.moves (Notes (entry_for a before.work.standing) (slot_for a) ∷ []) before.board mid.board (acts_tell_none a before.work.standing) is.past was.redos;
          came = came_on gives before now is.came is.past was.came;
          asks = asks_now;
        }

    -- there was no memory to renew it
    pub unrenewed : a ≡ action.Reset → shared ≡ mid.shared → HasStopped gives outset NoMemory now
    unrenewed reset same =
        let stands = stands_now (same_home same) in
        let ends = may.at outset.limits outset.count moves_now mid.work mid.board stands.at in
        let e : entry_for a before.work.standing ≡ entry.Reset (before.work.standing.generation + 1) = ap (λ (x : Action). entry_for x before.work.standing) reset in
        record {
          moves = moves_now;
          ending = ends.0;
          pids = ends.1;
          legal = legal.legal outset.limits (journal_of outset.count moves_now) mid.work.standing stands.at.past stands.at.stands;
          drawn = drawn_at legal outset.limits (journal_of outset.count moves_now) mid.work.standing stands.at.past stands.at.stands;
          told = stands.at.told;
          holds = stands.holds;
          ends = tt;
          cause = tt;
          asked = subst (λ (n : ℕ). IsAsked NoMemory moves_now mid.lines (ended_in mid.visits) n)
              (pid_at outset.limits (journal_of outset.count moves_now) mid.work.standing stands.at.past stands.at.stands)
              (asked_all NoMemory moves_now mid.lines (ended_in mid.visits) mid.listens mid.work.standing asks_now (λ owes. refl));
          renews = subst (λ (es : List PmEvent). RenewsAsTold es shared.own) (sym (journal_now ∙ ap (λ (x : PmEvent). journal_of outset.count was.moves ++ x ∷ []) e))
              (subst (λ (own : List Noted). RenewsAsTold (journal_of outset.count was.moves ++ entry.Reset (before.work.standing.generation + 1) ∷ []) own)
              (sym (ap (λ (s : SharedModel D). s.own) same ∙ ap (λ (s : SharedModel D). s.own) is.shared))
              (renews_short (journal_of outset.count was.moves) before.lost before.shared.own (before.work.standing.generation + 1) was.renews));
          opened = λ enough. absurd (enough refl);
          redos = redos_told moves_now mid.board stands.at.seated.had.ended
              (redos_still was.moves (Notes (entry_for a before.work.standing) (slot_for a) ∷ []) before.board mid.board (acts_tell_none a before.work.standing) is.past was.redos);
        }

  -- what the answer says
  abbrev pub Comes : Outset D C → Result (Unit {0}) ServerEnd → View D C → Type 0
  Comes outset (Ok ok) now = IsServing gives outset now
  Comes outset (Err end) now = HasStopped gives outset end now

  module _ (outset : Outset D C) (ordered : Kind → MailTold) (before mid : View D C) (was : IsServing gives outset before) (log : LogView) (shared : SharedModel D) (lost : List ℕ) where
    abbrev behind : View D C
    behind = record mid { log = log; shared = shared; lost = lost }

    plain : (a : Action) (result : Result (Unit {0}) ServerEnd) → IsDone a ordered before mid → LogBehind (act_for a before.work.standing) mid.log log
        → (lost ≡ mid.lost) × (shared ≡ mid.shared) → result ≡ Ok tt → (a ≡ action.Reset → ⊥) → Comes outset result behind
    plain a result is said same ok other =
        subst (λ (r : Result (Unit {0}) ServerEnd). Comes outset r behind) (sym ok) (went_on outset a ordered before mid is was log shared lost said same.0 same.1 other)

    -- where the end is due nothing is owed
    paid : (how : Ending) → IsDone (action.End how) ordered before mid → mid.work.standing.owes_smart ≡ true → ⊥
    paid how is owes =
        let s : Standing = before.work.standing in
        let due : has_end s.due ≡ true = ap has_end (first_is s.due (action.End how) is.first) in
        let ended : s.machine.ended ≡ true = end_due s.ended s.due s.machine was.at.stands.coming.ended due in
        let goes = (was.asks.owed (sym (ap (λ (t : Standing). t.owes_smart) is.standing) ∙ owes)).goes_on in
        (let no_ : true ≡ false = sym ended ∙ goes in cc)

    pub performed : (a : Action) (result : Result (Unit {0}) ServerEnd) → IsDone a ordered before mid → Performs (act_for a before.work.standing) result mid behind → Comes outset result behind
    unfolding went_on
    performed (action.Start k) result is by = plain (action.Start k) result is by.log by.store by.ends (λ e. absurd (cc))
    performed (action.Quit why) result is by = plain (action.Quit why) result is by.log by.store by.ends (λ e. absurd (cc))
    performed action.Terminate result is by = plain action.Terminate result is by.log by.store by.ends (λ e. absurd (cc))
    performed action.KillAll result is by = plain action.KillAll result is by.log by.store by.ends (λ e. absurd (cc))
    performed action.AskCheckpoint result is by = plain action.AskCheckpoint result is by.log by.store by.ends (λ e. absurd (cc))
    performed action.Ready result is by = plain action.Ready result is by.log by.store by.ends (λ e. absurd (cc))
    performed (action.Say line) result is by = plain (action.Say line) result is by.log by.store by.ends (λ e. absurd (cc))
    performed action.Reset (Ok ok) is by =
        renewed outset action.Reset ordered before mid is was log shared lost by.log refl by.store.1 by.store.0 by.store.2 by.store.3
    performed action.Reset (Err end) is by =
        subst (λ (x : ServerEnd). HasStopped gives outset x behind) (sym by.ends) (unrenewed outset action.Reset ordered before mid is was log shared lost by.log refl by.store.1)
    performed (action.End how) result is by =
        let now = went_on outset (action.End how) ordered before mid is was log shared lost by.log by.store.0 by.store.1 (λ e. absurd (cc)) in
        let journal : List PmEvent = journal_of outset.count now.moves in
        let last : EndsWith (entry.Ended how) journal = (journal_of outset.count was.moves, journal-more outset.count was.moves (Notes (entry.Ended how) (slot_for (action.End how)))) in
        let set = (safely.in_order outset.limits any_moment journal (legal.legal outset.limits journal mid.work.standing now.at.past now.at.stands)).as_set in
        subst (λ (r : Result (Unit {0}) ServerEnd). Comes outset r behind) (sym by.ends)
        (stopped_at gives may legal outset (end_by how mid.came) behind now (ended_so outset.limits how mid.came journal last set) (caused_so how mid.came now.moves mid.board now.at.seated.had.ended now.came)
        (λ owes. absurd (paid how is owes)))

  -- there is no further generation, and nothing was noted
  pub spent : (outset : Outset D C) (v : View D C) → IsServing gives outset v → v.work.standing.generation ≡ 4294967295 → first_due v.work.standing.due ≡ Some action.Reset
      → HasStopped gives outset (Abnormal whys.GenerationsSpent) v
  spent outset v was last first =
      let journal : List PmEvent = journal_of outset.count was.moves in
      stopped_at gives may legal outset (Abnormal whys.GenerationsSpent) v was (
        ap (λ (js : List PmEvent). (all_replayed (replay_begun outset.limits) js).shown.generation) was.at.stands.told_is ∙ (sym was.at.stands.remembers.generation ∙ last),
        spent_next outset.limits journal v.work.standing was.at.past was.at.stands last first,
      ) tt (λ owes. absurd ((was.asks.owed owes).someone nobody))
    where
      -- where a reset is due nobody is there
      nobody : v.work.standing.children ≡ []
      nobody = (subst (λ (acts : List Action). MayDo acts (gate_of v.board) v.work.standing.children) (first_is v.work.standing.due action.Reset first) was.at.may).0

  -- ---- the next act

  -- what was due first, where the supervisor gives this act
  pub done_next : (ordered : Kind → MailTold) (before mid : View D C) (a : Act) → (next_of before.work.standing).answer ≡ Ok (Some a)
      → mid.work.standing ≡ (next_of before.work.standing).after → DoesNext (Ok (Some a)) (view before.work before.board) (view mid.work mid.board)
      → PerformsAtBoard a ordered before.board (seats_of before.board) mid.board (seats_of mid.board) → MayPerform a before.board (seats_of before.board)
      → KeepsPast before.board mid.board → IsBeside gives before mid → LeavesOutside gives before mid
      → (x : Action) × (a ≡ act_for x before.work.standing) × IsDone x ordered before mid
  done_next ordered before mid a answer standing does board allowed past beside outside =
      let s : Standing = before.work.standing in
      let n = next_given s a answer in
      let x : Action = n.0 in
      let same : does.0 ≡ x = (let one : Some does.0 ≡ Some x = sym does.1 ∙ n.1.first in cc) in (
        x,
        n.1.act_is,
        record {
          first = n.1.first;
          goes = subst (λ (y : Action). seating.Goes (Notes (entry_for y s) (slot_for y) ∷ []) (view before.work before.board) (view mid.work mid.board)) same does.2;
          standing = standing ∙ n.1.after;
          board = subst (λ (y : Act). PerformsAtBoard y ordered before.board (seats_of before.board) mid.board (seats_of mid.board)) n.1.act_is board;
          allowed = subst (λ (y : Act). MayPerform y before.board (seats_of before.board)) n.1.act_is allowed;
          past = past;
          tells = beside.tells;
          table = beside.table;
          shared = beside.shared;
          log = beside.log;
          visits = outside.visits;
          lines = outside.lines;
          listens = outside.listens;
          clock = beside.clock;
          lost = beside.lost;
          came = beside.came;
        },
      )

  pub acts_on : (outset : Outset D C) (ordered : Kind → MailTold) (before mid now : View D C) (a : Act) (result : Result (Unit {0}) ServerEnd)
      → (next_of before.work.standing).answer ≡ Ok (Some a) → mid.work.standing ≡ (next_of before.work.standing).after
      → DoesNext (Ok (Some a)) (view before.work before.board) (view mid.work mid.board)
      → PerformsAtBoard a ordered before.board (seats_of before.board) mid.board (seats_of mid.board) → MayPerform a before.board (seats_of before.board)
      → KeepsPast before.board mid.board → IsBeside gives before mid → LeavesOutside gives before mid → Performs a result mid now → IsServing gives outset before → Comes outset result now
  acts_on outset ordered before mid now a result answer standing does board allowed past beside outside performs was =
      let d = done_next ordered before mid a answer standing does board allowed past beside outside in
      let literal : Performs (act_for d.0 before.work.standing) result mid (record mid { log = now.log; shared = now.shared; lost = now.lost }) =
      subst (λ (v : View D C). Performs (act_for d.0 before.work.standing) result mid v) performs.rests (subst (λ (y : Act). Performs y result mid now) d.1 performs) in
      subst (Comes outset result) (sym performs.rests) (performed outset ordered before mid was now.log now.shared now.lost d.0 result d.2 literal)

  -- the same, of an answer by its parts
  pub acts_of : (outset : Outset D C) (ordered : Kind → MailTold) (before mid now : View D C) (next : Result (Option Act) GenerationsSpent) (given : Option Act) (a : Act)
      (result : Result (Unit {0}) ServerEnd) → next ≡ Ok given → given ≡ Some a → next ≡ (next_of before.work.standing).answer
      → mid.work.standing ≡ (next_of before.work.standing).after → DoesNext next (view before.work before.board) (view mid.work mid.board)
      → IsDoneAtBoard next ordered before.board mid.board → ((x : Act) → next ≡ Ok (Some x) → MayPerform x before.board (seats_of before.board))
      → KeepsPast before.board mid.board → IsBeside gives before mid → LeavesOutside gives before mid → Performs a result mid now → IsServing gives outset before → Comes outset result now
  acts_of outset ordered before mid now next given a result one two answer standing does board allowed past beside outside performs was =
      let is : next ≡ Ok (Some a) = one ∙ ap (λ (o : Option Act). Ok o) two in
      acts_on outset ordered before mid now a result (sym answer ∙ is) standing
      (subst (λ (r : Result (Option Act) GenerationsSpent). DoesNext r (view before.work before.board) (view mid.work mid.board)) is does)
      (subst (λ (r : Result (Option Act) GenerationsSpent). IsDoneAtBoard r ordered before.board mid.board) is board) (allowed a is) past beside outside performs was

  -- an act that isn't the end leaves that it goes on
  pub goes_on_behind : (before mid now : View D C) (a : Act) → (next_of before.work.standing).answer ≡ Ok (Some a)
      → mid.work.standing ≡ (next_of before.work.standing).after → Performs a (Ok tt) mid now → now.work.standing.ended ≡ before.work.standing.ended
  goes_on_behind before mid now a answer standing performs =
      let s : Standing = before.work.standing in
      let n = next_given s a answer in
      let ends : EndBehind (act_for n.0 s) (Ok tt) mid = subst (λ (y : Act). EndBehind y (Ok tt) mid) n.1.act_is performs.ends in
      ap (λ (v : View D C). v.work.standing.ended) performs.rests ∙ (ap (λ (t : Standing). t.ended) (standing ∙ n.1.after)
      ∙ ended_kept n.0 s (λ how is. (let no_ : ◌≡◌ {A = Result (Unit {0}) ServerEnd} (Ok tt) (Err (end_by how mid.came)) = subst (λ (y : Action). EndBehind (act_for y s) (Ok tt) mid) is ends in absurd (cc))))

  -- there is no further generation
  pub spends : (before now : View D C) (none : GenerationsSpent) → IsBeside gives before now → LeavesOutside gives before now → (next_of before.work.standing).answer ≡ Err none
      → StandsStill (view before.work before.board) (view now.work now.board) → Stops gives (Abnormal whys.GenerationsSpent) before now
  spends before now none beside outside answer same = λ outset was.
      let n = next_spent before.work.standing none answer in
      spent outset now (still gives before now beside outside same.0 same.1 same.2 outset was) (ap (λ (t : Standing). t.generation) same.0 ∙ n.generation)
      (ap (λ (t : Standing). first_due t.due) same.0 ∙ n.reset)
