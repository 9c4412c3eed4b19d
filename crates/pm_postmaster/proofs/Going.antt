-- A server goes on, and ends.
use Rattle.std.{proofs.Common.{◌≡◌, ℕ, ◌≤◌, List, ◌++◌, refl, sym, ap, subst, ◌∙◌, length}, specs.Prelude.{Bool, true, Option, Some, IfSome, Result, Ok, Err, is_some}}
use Rattle.pm_server.{specs.{pm_supervisor_journal.{Laws.KeepsALegalJournal, Moments.AreGiven, Standing.Standing, Stands.{Stands, highest_pid}}, pm_supervisor.{declared.Limits.Limits, Steps.Trace, Children.{is_checkpointer, is_startup_child}}, pm_server_lines.Log.HasSaid, declared.end.ServerEnd.ServerEnd, pm_state.declared.event.PmEvent.PmEvent, pm_outside.Visits.Visits}, proofs.JournalLaws.all_given}
use Rattle.pm_board_acts.specs.{Chained.pids_accepted, Final.MayEndAnywhere, Seating.{Move, journal_of}, Sitting.KeepsPast, Standing.{IsAt, IsRunning, view}, pm_worker.declared.mail.MailTold.MailTold}
use Rattle.pm_store_shared.specs.declared.views.Noted.{Noted}
use Rattle.pm_postmaster.{specs.{Links.{AreServed, HasLinks, accepted_in}, Serving.{Goes, HasStopped, Holds, IsAlive, IsCausedBehind, IsEndBehind, IsServing, Keeps, Moments, Outset, Renews, StaysWith, Stops, last_pid_in, RemembersLast}, Looking.came_of, Requests.{AsksSoFar, IsAsked, ended_in, ended_short}, View.View, declared.came.LastCame.LastCame}, proofs.{Asked.{AsksNone, OwesOn, asked_all, asks_none}, Redoing.{TellNone, redos_still, redos_told}, Renewing.{AreQuiet, renews_as_told, renews_quiet}}}

-- the last pid of a journal is that of the standing after it
pub pid_at : (limits : Limits) (journal : List PmEvent) (s : Standing) (h : Trace) → Stands limits (Some journal) s h → s.last_pid ≡ last_pid_in limits journal
pid_at limits journal s h stands = stands.remembers.last_pid ∙ ap (last_pid_in limits) (sym stands.told_is)

-- no pid was drawn above the highest
pub drawn_at : KeepsALegalJournal → (limits : Limits) (journal : List PmEvent) (s : Standing) (h : Trace) → Stands limits (Some journal) s h → last_pid_in limits journal ≤ highest_pid
drawn_at legal limits journal s h stands =
    subst (λ (n : ℕ). n ≤ highest_pid) (pid_at limits journal s h stands) (legal.pids limits (Some journal) s h stands)

-- the connections of a journal
abbrev pub count_in : List PmEvent → ℕ
count_in journal = length (pids_accepted journal)

module _ {D C : Type 0} (gives : C → ℕ → Type 0) where
  -- what one thing leaves as it was
  pub record Leaves (before now : View D C) : Type 0 where
    pub table : now.table ≡ before.table
    pub home : now.shared.table ≡ before.shared.table
    pub tokens : now.shared.tokens ≡ before.shared.tokens
    pub joined : now.shared.joined ≡ before.shared.joined
    pub disk : now.shared.first ≡ before.shared.first
    pub clock : now.clock ≡ before.clock
    pub tells : is_some now.work.told ≡ is_some before.work.told

  -- what most things leave of the store's side, and of the children that were released
  pub record LeavesStore (before now : View D C) : Type 0 where
    pub lost : now.lost ≡ before.lost
    pub own : now.shared.own ≡ before.shared.own
    pub came : now.came ≡ before.came
    pub past : KeepsPast before.board now.board

  -- console and port are asked for nothing, but for a link
  pub record LeavesAsking (before now : View D C) : Type 0 where
    pub lines : now.lines ≡ before.lines
    pub ended : ended_in now.visits ≡ ended_in before.visits
    pub listens : now.listens ≡ before.listens

  -- and not for one either
  pub record LeavesOutside (before now : View D C) : Type 0 where
    pub visits : now.visits ≡ before.visits
    pub lines : now.lines ≡ before.lines
    pub listens : now.listens ≡ before.listens

  pub leaves_asking : (before now : View D C) → LeavesOutside before now → LeavesAsking before now
  leaves_asking before now leaves = record { lines = leaves.lines; ended = ap ended_in leaves.visits; listens = leaves.listens }

  abbrev pub AsksAt : List Move → View D C → Type 0
  AsksAt moves v = AsksSoFar moves v.lines (ended_in v.visits) v.listens v.work.standing

  -- whatever was asked for before, it is so after these moves too
  abbrev pub AsksOn : Outset D C → List Move → View D C → View D C → Type 0
  AsksOn outset more before now = (was : IsServing gives outset before) → AsksAt (was.moves ++ more) now

  pub asks_nothing : (outset : Outset D C) (more : List Move) (before now : View D C) → AsksNone more → LeavesAsking before now → OwesOn 0 before.work.standing now.work.standing
      → AsksOn outset more before now
  asks_nothing outset more before now none leaves owes was =
      asks_none was.moves more before.lines now.lines (ended_in before.visits) (ended_in now.visits) before.listens now.listens before.work.standing now.work.standing
      none leaves.lines leaves.ended leaves.listens owes was.asks

  -- where these entries tell of no loss, and these moves of no end of redo
  pub renews_on : (journal entries : List PmEvent) (before now : View D C) → AreQuiet entries → LeavesStore before now
      → Renews journal before.lost before.shared.own → Renews (journal ++ entries) now.lost now.shared.own
  renews_on journal entries before now quiet leaves was =
      subst (λ (l : List ℕ). Renews (journal ++ entries) l now.shared.own) (sym leaves.lost)
      (subst (λ (own : List Noted). Renews (journal ++ entries) before.lost own) (sym leaves.own) (renews_quiet journal before.lost before.shared.own entries quiet was))

  pub came_on : (before now : View D C) → now.came ≡ before.came → KeepsPast before.board now.board → RemembersLast before.came before.board → RemembersLast now.came now.board
  came_on before now came past was = record {
    startup = ap (λ (c : LastCame). c.startup) came ∙ (was.startup ∙ ap (came_of is_startup_child) (sym (past 0)));
    checkpointer = ap (λ (c : LastCame). c.checkpointer) came ∙ (was.checkpointer ∙ ap (came_of is_checkpointer) (sym (past 1)));
  }

  stays_on : (outset : Outset D C) (before now : View D C) → Leaves before now → StaysWith outset before → StaysWith outset now
  stays_on outset before now leaves was = record {
    table = leaves.table ∙ was.table;
    home = leaves.home ∙ was.home;
    tokens = leaves.tokens ∙ was.tokens;
    joined = leaves.joined ∙ was.joined;
    disk = leaves.disk ∙ was.disk;
    clock = leaves.clock ∙ was.clock;
  }

  -- These moves more, which leave these entries.
  pub record GoesBy (outset : Outset D C) (earlier more : List Move) (entries : List PmEvent) (before now : View D C) : Type 0 where
    pub journal : journal_of outset.count (earlier ++ more) ≡ journal_of outset.count earlier ++ entries
    pub given : AreGiven (gives outset.clock) entries
    pub said : HasSaid (journal_of outset.count earlier) outset.log before.log → HasSaid (journal_of outset.count earlier ++ entries) outset.log now.log
    pub links : IfSome before.visits (HasLinks (count_in (journal_of outset.count earlier)) before.board)
        → IfSome now.visits (HasLinks (count_in (journal_of outset.count earlier ++ entries)) now.board)
    pub numbered : is_some now.visits ≡ is_some before.visits
    pub served : AreServed (is_some before.visits) (accepted_in (journal_of outset.count earlier)) before.board
        → AreServed (is_some before.visits) (accepted_in (journal_of outset.count earlier ++ entries)) now.board
    pub leaves : Leaves before now
    pub slots : length now.board.slots ≡ length before.board.slots
    pub limit : now.board.session_limit ≡ before.board.session_limit

  pub holds_on : (outset : Outset D C) (earlier more : List Move) (entries : List PmEvent) (before now : View D C) → GoesBy outset earlier more entries before now
      → Holds gives outset earlier before → Holds gives outset (earlier ++ more) now
  holds_on outset earlier more entries before now by was = record {
    stays = stays_on outset before now by.leaves was.stays;
    slots = by.slots ∙ was.slots;
    limit = by.limit ∙ was.limit;
    tells = by.leaves.tells ∙ was.tells;
    times = subst (AreGiven (gives outset.clock)) (sym by.journal) (all_given (gives outset.clock) (journal_of outset.count earlier) entries was.times by.given);
    said = subst (λ (es : List PmEvent). HasSaid es outset.log now.log) (sym by.journal) (by.said was.said);
    links = subst (λ (es : List PmEvent). IfSome now.visits (HasLinks (count_in es) now.board)) (sym by.journal) (by.links was.links);
    served = subst (λ (b : Bool). AreServed b (accepted_in (journal_of outset.count (earlier ++ more))) now.board) (sym by.numbered)
        (subst (λ (es : List PmEvent). AreServed (is_some before.visits) (accepted_in es) now.board) (sym by.journal) (by.served was.served));
  }

  -- it goes on serving
  pub serves_on : (outset : Outset D C) (more : List Move) (entries : List PmEvent) (before now : View D C) → (was : IsServing gives outset before)
      → GoesBy outset was.moves more entries before now → IsAt outset.limits outset.count (was.moves ++ more) (view now.work now.board) → Moments (gives outset.clock) now.work.standing
      → now.shared.generation ≡ now.work.standing.generation → AreQuiet entries → TellNone more → LeavesStore before now → AsksOn outset more before now → IsServing gives outset now
  serves_on outset more entries before now was by at moments generation quiet none leaves asks = record {
    moves = was.moves ++ more;
    at = at;
    holds = holds_on outset was.moves more entries before now by was.holds;
    moments = moments;
    generation = generation;
    renews = subst (λ (es : List PmEvent). Renews es now.lost now.shared.own) (sym by.journal) (renews_on (journal_of outset.count was.moves) entries before now quiet leaves was.renews);
    redos = redos_still was.moves more before.board now.board none leaves.past was.redos;
    came = came_on before now leaves.came leaves.past was.came;
    asks = asks was;
  }

  -- A server at any moment may end, where its end is right, and where this was asked of it.
  pub stopped_as : MayEndAnywhere MailTold → KeepsALegalJournal → (outset : Outset D C) (end : ServerEnd) (v : View D C) (visits : Option Visits) (lines : Option (List (List ℕ))) (listens : Bool)
      → (was : IsServing gives outset v) → IsEndBehind outset.limits end (journal_of outset.count was.moves) → IsCausedBehind end was.moves v.board
      → IfSome visits (HasLinks (count_in (journal_of outset.count was.moves)) v.board) → is_some visits ≡ is_some v.visits → IsAsked end was.moves lines (ended_in visits) v.work.standing.last_pid
      → HasStopped gives outset end (record v { visits = visits; lines = lines; listens = listens })
  stopped_as may legal outset end v visits lines listens was by cause links numbered asked =
      let ends = may.at outset.limits outset.count was.moves v.work v.board was.at in
      let stays = was.holds.stays in
      record {
        moves = was.moves;
        ending = ends.0;
        pids = ends.1;
        legal = legal.legal outset.limits (journal_of outset.count was.moves) v.work.standing was.at.past was.at.stands;
        drawn = drawn_at legal outset.limits (journal_of outset.count was.moves) v.work.standing was.at.past was.at.stands;
        told = was.at.told;
        holds = record {
          stays = record { table = stays.table; home = stays.home; tokens = stays.tokens; joined = stays.joined; disk = stays.disk; clock = stays.clock };
          slots = was.holds.slots;
          limit = was.holds.limit;
          tells = was.holds.tells;
          times = was.holds.times;
          said = was.holds.said;
          links = links;
          served = subst (λ (b : Bool). AreServed b (accepted_in (journal_of outset.count was.moves)) v.board) (sym numbered) was.holds.served;
        };
        ends = by;
        cause = cause;
        asked = subst (λ (n : ℕ). IsAsked end was.moves lines (ended_in visits) n) (pid_at outset.limits (journal_of outset.count was.moves) v.work.standing was.at.past was.at.stands) asked;
        renews = renews_as_told (journal_of outset.count was.moves) v.lost v.shared.own was.renews;
        opened = λ enough. was.renews.opened;
        redos = redos_told was.moves v.board was.at.seated.had.ended was.redos;
      }

  -- the same where all was asked for that was to be, but for a smart shutdown that is owed where memory is short
  pub stopped_at : MayEndAnywhere MailTold → KeepsALegalJournal → (outset : Outset D C) (end : ServerEnd) (v : View D C) (was : IsServing gives outset v)
      → IsEndBehind outset.limits end (journal_of outset.count was.moves) → IsCausedBehind end was.moves v.board
      → (v.work.standing.owes_smart ≡ true → ended_short end ≡ true) → HasStopped gives outset end v
  stopped_at may legal outset end v was by cause short =
      stopped_as may legal outset end v v.visits v.lines v.listens was by cause was.holds.links refl
      (asked_all end was.moves v.lines (ended_in v.visits) v.listens v.work.standing was.asks short)

  pub goes_on : {T : Type 0} (result : Result T ServerEnd) (a b c : View D C) → Keeps gives a b → Goes gives result b c → Goes gives result a c
  goes_on (Ok done) a b c one two = λ outset was. two outset (one outset was)
  goes_on (Err end) a b c one two = λ outset was. two outset (one outset was)

  pub none_done : (v : View D C) → Keeps gives v v
  none_done v = λ outset was. was

  pub both_done : (a b c : View D C) → Keeps gives a b → Keeps gives b c → Keeps gives a c
  both_done a b c one two = λ outset was. two outset (one outset was)

  -- it went on, and ended then
  pub stops_on : (end : ServerEnd) (a b c : View D C) → Keeps gives a b → Stops gives end b c → Stops gives end a c
  stops_on end a b c one two = λ outset was. two outset (one outset was)

  pub alive_on : (a b : View D C) → Keeps gives a b → IsAlive gives a → IsAlive gives b
  alive_on a b one alive = (alive.0, one alive.0 alive.1)

  -- there are as many slots
  pub slots_kept : (a b : View D C) → Keeps gives a b → IsAlive gives a → length b.board.slots ≡ length a.board.slots
  slots_kept a b one alive = (one alive.0 alive.1).holds.slots ∙ sym alive.1.holds.slots

  -- it has come to where it is from its start
  pub running : (v : View D C) → IsAlive gives v → IsRunning (view v.work v.board)
  running v alive = (alive.0.limits, alive.0.count, alive.1.moves, alive.1.at)
