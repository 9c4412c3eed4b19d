-- The calls of a turn that tell of no child.
use Rattle.std.{proofs.Common.{◌≡◌, ℕ, List, [], ◌∷◌, ◌++◌, refl, sym, ap, subst, ◌∙◌, length, append-nil}, specs.Prelude.{Bool, true, false, if◌then◌else◌, Option, None, Some, IfSome, is_some}}
use Rattle.pm_board_acts.{specs.{pm_board.pm_board_words.declared.views.RosterView.RosterView, pm_modes.declared.Mode.Mode, Board.seats_of, Chained.pids_accepted, Seating.{Kill, Move, Reads, Request, Seating, asked_by, entries_by, is_seated, journal_of, seating_of}, Standing.view, pm_state.{declared.event.PmEvent.PmEvent, Journal.lines_of}}, proofs.FoldingLaws.{journal-more, none_more}}
use Rattle.pm_supervisor_journal.{proofs.NextsLaws.same_work, specs.{declared.roll.Enrolled.Enrolled, Moments.AreGiven, Standing.{Making, Standing, asking, made, ticking, turning}, Stands.AtWork}}
use Rattle.pm_server_lines.{specs.Log.HasSaid, proofs.LogLaws.said_same}
use Rattle.pm_worker.specs.{pm_outside.Visits.Visits, declared.mail.MailTold.MailTold}
use Rattle.pm_board_acts.specs.Standing as seating
use Rattle.pm_board_acts.specs.pm_state.declared.event.PmEvent.TheVariants as entry
use Rattle.pm_postmaster.{specs.{Links.HasLinks, Serving.{IsServing, Moments, Outset}, View.View}, proofs.{Asked.{accepted-append, none_asked, owes_none, owes_same}, Going.{AsksOn, GoesBy, Leaves, LeavesAsking, LeavesOutside, LeavesStore, asks_nothing, leaves_asking, serves_on}, Redoing.TellNone, Renewing.AreQuiet, Linking.links_same, Offers.{served_on, served_same}, Moments.{asked_moments, later_given, ticked_moments, turned_moments}}}

pub count_more : (journal more : List PmEvent) → pids_accepted more ≡ [] → length (pids_accepted (journal ++ more)) ≡ length (pids_accepted journal)
count_more journal more none =
    ap length (accepted-append journal more ∙ (ap (λ (l : List ℕ). pids_accepted journal ++ l) none ∙ append-nil (pids_accepted journal)))

pub quiet_none : AreQuiet []
quiet_none = record { since = λ so. refl; lost = λ so. refl; resets = refl }

-- links stay where they are, and are numbered where they were, whatever else the port tells
abbrev pub LinksStay : RosterView MailTold → (before now : Option Visits) → Type 0
LinksStay d before now = (is_some now ≡ is_some before) × ((n : ℕ) → IfSome before (HasLinks n d) → IfSome now (HasLinks n d))

pub links_stay : (d : RosterView MailTold) (before now : Option Visits) → now ≡ before → LinksStay d before now
links_stay d before now is = (ap is_some is, λ n has. subst (λ (v : Option Visits). IfSome v (HasLinks n d)) (sym is) has)

same_links : (n m : ℕ) (d e : RosterView MailTold) (visits now : Option Visits) → LinksStay d visits now → e.slots ≡ d.slots → m ≡ n
    → IfSome visits (HasLinks n d) → IfSome now (HasLinks m e)
same_links n m d e visits now stay slots count was = by now (stay.1 n was)
  where
    by : (v : Option Visits) → IfSome v (HasLinks n d) → IfSome v (HasLinks m e)
    by None has = tt
    by (Some its) has = subst (λ (x : ℕ). HasLinks x e its) (sym count) (links_same n d e its slots has)

module _ {D C : Type 0} (gives : C → ℕ → Type 0) where
  -- One thing more was done by the supervisor and its board, which accepts nobody and says nothing.
  pub record WorksOn (outset : Outset D C) (more : List Move) (entries : List PmEvent) (before now : View D C) : Type 0 where
    pub leaves : Leaves gives before now
    pub shared : now.shared.generation ≡ before.shared.generation
    pub log : now.log ≡ before.log
    pub visits : LinksStay before.board before.visits now.visits
    pub slots : now.board.slots ≡ before.board.slots
    pub limit : now.board.session_limit ≡ before.board.session_limit
    pub goes : seating.Goes more (view before.work before.board) (view now.work now.board)
    pub journal : (earlier : List Move) → seating.IsAt outset.limits outset.count earlier (view before.work before.board)
        → journal_of outset.count (earlier ++ more) ≡ journal_of outset.count earlier ++ entries
    pub given : AreGiven (gives outset.clock) entries
    pub unsaid : lines_of entries ≡ []
    pub alone : pids_accepted entries ≡ []
    pub moments : Moments (gives outset.clock) now.work.standing
    pub generation : now.work.standing.generation ≡ before.work.standing.generation
    pub quiet : AreQuiet entries
    pub none : TellNone more
    pub store : LeavesStore gives before now
    pub asks : AsksOn gives outset more before now

  pub works_on : (outset : Outset D C) (more : List Move) (entries : List PmEvent) (before now : View D C) → WorksOn outset more entries before now
      → IsServing gives outset before → IsServing gives outset now
  works_on outset more entries before now by was =
      let journal = by.journal was.moves was.at in
      let goes : GoesBy gives outset was.moves more entries before now = record {
        journal = journal;
        given = by.given;
        said = λ said. subst (HasSaid (journal_of outset.count was.moves ++ entries) outset.log) (sym by.log) (said_same (journal_of outset.count was.moves) entries outset.log before.log by.unsaid said);
        links = same_links _ _ before.board now.board before.visits now.visits by.visits by.slots (count_more (journal_of outset.count was.moves) entries by.alone);
        numbered = by.visits.0;
        served = served_on (is_some before.visits) (journal_of outset.count was.moves) entries before.board now.board by.alone (served_same before.board now.board by.slots);
        leaves = by.leaves;
        slots = ap length by.slots;
        limit = by.limit;
      } in
      serves_on gives outset more entries before now was goes (by.goes outset.limits outset.count was.moves was.at) by.moments
      (by.shared ∙ (was.generation ∙ sym by.generation)) by.quiet by.none by.store by.asks

  -- nothing was done
  pub still_on : (outset : Outset D C) (before now : View D C) → Leaves gives before now → LeavesOutside gives before now → now.shared.generation ≡ before.shared.generation → now.log ≡ before.log
      → now.work.standing ≡ before.work.standing → now.work.told ≡ before.work.told → now.board ≡ before.board
      → LeavesStore gives before now → IsServing gives outset before → IsServing gives outset now
  still_on outset before now leaves outside shared log standing told board store was =
      let same : view now.work now.board ≡ view before.work before.board =
      ap (λ (w : AtWork). view w now.board) (same_work before.work now.work standing told) ∙ ap (λ (b : RosterView MailTold). view before.work b) board in
      works_on outset [] [] before now (record {
        leaves = leaves;
        shared = shared;
        log = log;
        visits = links_stay before.board before.visits now.visits outside.visits;
        slots = ap (λ (b : RosterView MailTold). b.slots) board;
        limit = ap (λ (b : RosterView MailTold). b.session_limit) board;
        goes = λ limits count earlier is. subst (λ (ms : List Move). seating.IsAt limits count ms (view now.work now.board)) (sym (append-nil earlier))
            (subst (seating.IsAt limits count earlier) (sym same) is);
        journal = λ earlier is. none_more outset.count earlier;
        given = tt;
        unsaid = refl;
        alone = refl;
        moments = subst (Moments (gives outset.clock)) (sym standing) was.moments;
        generation = ap (λ (s : Standing). s.generation) standing;
        quiet = quiet_none;
        none = λ k. refl;
        store = store;
        asks = asks_nothing gives outset [] before now none_asked (leaves_asking gives before now outside) (owes_same before.work.standing now.work.standing standing);
      }) was

  -- the calls that tell of no child
  module _ (outset : Outset D C) (before now : View D C) (leaves : Leaves gives before now) (shared : now.shared.generation ≡ before.shared.generation)
      (log : now.log ≡ before.log) (visits : LinksStay before.board before.visits now.visits) (store : LeavesStore gives before now) where
    -- a call with these entries
    called_on : (making : Making) (more : List Move) → seating.Goes more (view before.work before.board) (view now.work now.board)
        → now.work.standing ≡ made making before.work.standing → now.board ≡ before.board
        → ((earlier : List Move) → journal_of outset.count (earlier ++ more) ≡ journal_of outset.count earlier ++ making.entries)
        → AreGiven (gives outset.clock) making.entries → lines_of making.entries ≡ [] → pids_accepted making.entries ≡ [] → AreQuiet making.entries → TellNone more → AsksOn gives outset more before now
        → (made making before.work.standing).generation ≡ before.work.standing.generation
        → Moments (gives outset.clock) (made making before.work.standing)
        → IsServing gives outset before → IsServing gives outset now
    called_on making more goes standing board journal given unsaid alone quiet none asks generation moments was =
        works_on outset more making.entries before now (record {
          leaves = leaves;
          shared = shared;
          log = log;
          visits = visits;
          slots = ap (λ (b : RosterView MailTold). b.slots) board;
          limit = ap (λ (b : RosterView MailTold). b.session_limit) board;
          goes = goes;
          journal = λ earlier is. journal earlier;
          given = given;
          unsaid = unsaid;
          alone = alone;
          moments = subst (Moments (gives outset.clock)) (sym standing) moments;
          generation = ap (λ (s : Standing). s.generation) standing ∙ generation;
          quiet = quiet;
          none = none;
          store = store;
          asks = asks;
        }) was

    -- nothing is asked for and no pid drawn, where none is owed
    unasked : LeavesAsking gives before now → before.work.standing.owes_smart ≡ false → now.work.standing.owes_smart ≡ before.work.standing.owes_smart
        → now.work.standing.last_pid ≡ before.work.standing.last_pid → AsksOn gives outset [] before now
    unasked asking unowed still pid = asks_nothing gives outset [] before now none_asked asking (owes_none before.work.standing now.work.standing unowed (still ∙ unowed) pid)

    pub ticked_on : (at : ℕ) → gives before.clock at → LeavesAsking gives before now → before.work.standing.owes_smart ≡ false → seating.Goes [] (view before.work before.board) (view now.work now.board)
        → now.work.standing ≡ made (ticking at before.work.standing) before.work.standing → now.board ≡ before.board
        → IsServing gives outset before → IsServing gives outset now
    ticked_on at given asking unowed goes standing board was =
        let its : gives outset.clock at = subst (λ (c : C). gives c at) was.holds.stays.clock given in
        called_on (ticking at before.work.standing) [] goes standing board (none_more outset.count) tt refl refl quiet_none (λ k. refl)
        (unasked asking unowed (ap (λ (s : Standing). s.owes_smart) standing) (ap (λ (s : Standing). s.last_pid) standing)) refl
        (ticked_moments (gives outset.clock) at before.work.standing (later_given (gives outset.clock) at before.work.standing its was.moments) was.moments) was

    pub turned_on : LeavesAsking gives before now → before.work.standing.owes_smart ≡ false → seating.Goes [] (view before.work before.board) (view now.work now.board)
        → now.work.standing ≡ made turning before.work.standing → now.board ≡ before.board
        → IsServing gives outset before → IsServing gives outset now
    turned_on asking unowed goes standing board was =
        called_on turning [] goes standing board (none_more outset.count) tt refl refl quiet_none (λ k. refl)
        (unasked asking unowed (ap (λ (s : Standing). s.owes_smart) standing) (ap (λ (s : Standing). s.last_pid) standing)) refl (turned_moments (gives outset.clock) before.work.standing was.moments) was

    -- a shutdown is asked for, by a move that is for that
    pub asked_on : (how : Mode) (at : ℕ) (move : Move) → gives before.clock at
        → ((s : Seating) → entries_by s move ≡ (asking how at before.work.standing).entries) → TellNone (move ∷ []) → AsksOn gives outset (move ∷ []) before now
        → seating.Goes (move ∷ []) (view before.work before.board) (view now.work now.board)
        → now.work.standing ≡ made (asking how at before.work.standing) before.work.standing → now.board ≡ before.board
        → IsServing gives outset before → IsServing gives outset now
    asked_on how at move given entries none asks goes standing board was =
        let its : gives outset.clock at = subst (λ (c : C). gives c at) was.holds.stays.clock given in
        let late = later_given (gives outset.clock) at before.work.standing its was.moments in
        called_on (asking how at before.work.standing) (move ∷ []) goes standing board
        (λ earlier. journal-more outset.count earlier move ∙ ap (λ (es : List PmEvent). journal_of outset.count earlier ++ es) (entries (seating_of outset.count earlier)))
        (late, tt) refl refl (record { since = λ so. refl; lost = λ so. refl; resets = refl }) none asks refl (asked_moments (gives outset.clock) how at before.work.standing late) was

    -- a child is asked to be killed, where it is there
    pub killed_on : (line : List ℕ) (pid at : ℕ) → AsksOn gives outset (Reads line (Kill pid) at ∷ []) before now
        → seating.Goes (Reads line (Kill pid) at ∷ []) (view before.work before.board) (view now.work now.board)
        → now.work.standing ≡ before.work.standing → now.board.slots ≡ before.board.slots → now.board.session_limit ≡ before.board.session_limit
        → IsServing gives outset before → IsServing gives outset now
    killed_on line pid at asks goes standing slots limit was =
        let seats = seats_of before.board in
        works_on outset (Reads line (Kill pid) at ∷ []) (asked_by (Kill pid) at seats) before now (record {
          leaves = leaves;
          shared = shared;
          log = log;
          visits = visits;
          slots = slots;
          limit = limit;
          goes = goes;
          journal = λ earlier is. journal-more outset.count earlier (Reads line (Kill pid) at)
              ∙ ap (λ (x : List (Option Enrolled)). journal_of outset.count earlier ++ asked_by (Kill pid) at x)
              (sym (is.seated.at_hand ∙ ap (λ (s : Seating). s.seats) is.seated.is_that));
          given = given_by (is_seated pid seats);
          unsaid = unsaid_by (is_seated pid seats);
          alone = alone_by (is_seated pid seats);
          moments = subst (Moments (gives outset.clock)) (sym standing) was.moments;
          generation = ap (λ (s : Standing). s.generation) standing;
          quiet = quiet_by (is_seated pid seats);
          none = λ k. refl;
          store = store;
          asks = asks;
        }) was
      where
        quiet_by : (b : Bool) → AreQuiet (if b then entry.KillAsked pid ∷ [] else [])
        quiet_by true = record { since = λ so. refl; lost = λ so. refl; resets = refl }
        quiet_by false = quiet_none

        given_by : (b : Bool) → AreGiven (gives outset.clock) (if b then entry.KillAsked pid ∷ [] else [])
        given_by true = (tt, tt)
        given_by false = tt

        unsaid_by : (b : Bool) → lines_of (if b then entry.KillAsked pid ∷ [] else []) ≡ []
        unsaid_by true = refl
        unsaid_by false = refl

        alone_by : (b : Bool) → pids_accepted (if b then entry.KillAsked pid ∷ [] else []) ≡ []
        alone_by true = refl
        alone_by false = refl

    -- a line is read that asks for nothing
    pub unheeded_on : (line : List ℕ) (asks : Request) (at : ℕ) → asked_by asks at (seats_of before.board) ≡ [] → AsksOn gives outset (Reads line asks at ∷ []) before now
        → seating.Goes (Reads line asks at ∷ []) (view before.work before.board) (view now.work now.board)
        → now.work.standing ≡ before.work.standing → now.board.slots ≡ before.board.slots → now.board.session_limit ≡ before.board.session_limit
        → IsServing gives outset before → IsServing gives outset now
    unheeded_on line request at nothing asks goes standing slots limit was =
        works_on outset (Reads line request at ∷ []) [] before now (record {
          leaves = leaves;
          shared = shared;
          log = log;
          visits = visits;
          slots = slots;
          limit = limit;
          goes = goes;
          journal = λ earlier is. journal-more outset.count earlier (Reads line request at)
              ∙ ap (λ (es : List PmEvent). journal_of outset.count earlier ++ es)
              (ap (λ (x : List (Option Enrolled)). asked_by request at x) (sym (is.seated.at_hand ∙ ap (λ (s : Seating). s.seats) is.seated.is_that)) ∙ nothing);
          given = tt;
          unsaid = refl;
          alone = refl;
          moments = subst (Moments (gives outset.clock)) (sym standing) was.moments;
          generation = ap (λ (s : Standing). s.generation) standing;
          quiet = quiet_none;
          none = λ k. refl;
          store = store;
          asks = asks;
        }) was
