-- The calls of a turn that tell of no child.
use Rattle.std.{proofs.Common.{◌≡◌, ℕ, ◌<◌, List, [], ◌∷◌, ◌++◌, refl, sym, ap, subst, ◌∙◌, append-nil, nat_eq, length}, specs.{List.flat_map, Prelude.{Bool, true, false, if◌then◌else◌, Option, Some, None, IfSome, Result, Ok, Err, OnErr, OnOk, is_some}}}
use Rattle.pm_state.specs.{pm_modes.declared.Mode.Mode, pm_supervisor.{declared.Limits.Limits, Steps.Trace}, declared.{action.Action.Action, event.PmEvent.PmEvent}, Journal.acts_of_call, Laws.TellsOfEachStart, Machine.IsReady, Shows.{Call, IsFit}}
use Rattle.pm_state.specs.declared.event.PmEvent.TheVariants as entry
use Rattle.pm_board.specs.{pm_board_words.declared.views.{RosterStep.RosterStep, RosterView.RosterView}, Gate.{Gate, gate_of}}
use Rattle.pm_board.specs.pm_board_words.declared.views.Signal.TheVariants as signal
use Rattle.pm_supervisor_journal.{specs.{declared.roll.Enrolled.Enrolled, Laws.{GoesOnOverItsJournal, KeepsALegalJournal}, Roll.kind_in, pm_outside.Added.Added, Standing.{IsAtRest, Making, MayAsk, Standing, asking, called, kill_entry, killed, later, made, ticking, turning}, Stands.{AtWork, Stands, behind}}, proofs.{ToldLaws.told_more, NextsLaws.noted-due}}
use Rattle.pm_board_acts.{specs.{declared.audience.Audience.TheVariants.One, Acts.{MayDo, StartsAfresh, gate_by, gate_shown, roll_behind}, Board.after_steps, Calls.{AsksFor, Makes, StandsStill}, Laws.LinesMayAskForNothing, Seating.{Move, Notes, Reads, PortEnds, PidsEnd, Kill, Seating, asked_by, entries_by, is_seated, journal_of, seating_of, sends, steps_of}, Standing.{AreOnRoll, Goes, IsAt, IsSeated, View, kind_seated}}, proofs.{Acting.{moved, same-gate}, Afresh.{afresh_called, afresh_still, stepped_same}, Calling.{afresh_noted, rested}, FoldingLaws.{journal-more, none_more}, Gating.calls_leave, Resting.call_may, Sends.same-generation, Starting.EndsOne}}

same_told : (told now : Option (List PmEvent)) → now ≡ told → Added [] told now
same_told None now is = is
same_told (Some es) now is = is ∙ ap (λ (xs : List PmEvent). Some xs) (sym (append-nil es))

-- a request
asked_entries : (how : Mode) (at : ℕ) (move : Move) (x : Seating) → AsksFor how at move → entries_by x move ≡ entry.Asked how at ∷ []
asked_entries how at (Notes noted k) x is = absurd is
asked_entries how at (Reads line asks now) x is = (λ i. asked_by (is.0 i) (is.1 i) x.seats)
asked_entries how at (PortEnds now) x is = (λ i. entry.Asked (sym is.0 i) (is.1 i) ∷ [])
asked_entries how at (PidsEnd now) x is = (λ i. entry.Asked (sym is.0 i) (is.1 i) ∷ [])

-- a child sits somewhere exactly where its pid is known
seated_somewhere : (pid : ℕ) (seats : List (Option Enrolled)) → is_seated pid seats ≡ is_some (kind_seated pid seats)
seated_somewhere pid [] = refl
seated_somewhere pid (None ∷ seats) = seated_somewhere pid seats
seated_somewhere pid (Some c ∷ seats) = by (nat_eq c.pid pid) (seated_somewhere pid seats)
  where
    by : (b : Bool) → is_seated pid seats ≡ is_some (kind_seated pid seats) → (if b then true else is_seated pid seats) ≡ is_some (if b then Some c.kind else kind_seated pid seats)
    by true same = refl
    by false same = same

module _ {D : Type 0} where
  -- another standing with the same children
  seated_as : (count : ℕ) (moves : List Move) (d : RosterView D) (seats : List (Option Enrolled)) (s t : Standing) → IsSeated count moves d seats s
      → t.children ≡ s.children → t.last_pid ≡ s.last_pid → t.generation ≡ s.generation → IsSeated count moves d seats t
  seated_as count moves d seats s t was children last same = record {
    seating = was.seating;
    is_that = was.is_that;
    at_hand = was.at_hand;
    steps = was.steps;
    shows = was.shows;
    generation = same ∙ was.generation;
    roll = subst (λ (n : ℕ). AreOnRoll t.children was.seating.seats n) (sym last) (subst (λ (cs : List Enrolled). AreOnRoll cs was.seating.seats s.last_pid) (sym children) was.roll);
    right = was.right;
    last_pid = was.last_pid ∙ sym last;
    connection = was.connection;
    had = was.had;
  }

  -- a call that tells of no child, with these moves
  call_goes : TellsOfEachStart → KeepsALegalJournal → (v : View D) (now : AtWork) (making : Making) (more : List Move) → IsAtRest v.work.standing
      → ((h : Trace) (limits : Limits) → IsReady v.work.standing.machine → IsFit limits v.work.standing.machine h making.call) → ((h : Trace) → EndsOne h making.call)
      → ((roll : List Enrolled) → roll_behind making.call roll ≡ roll) → (made making v.work.standing).children ≡ v.work.standing.children
      → ((count : ℕ) (earlier : List Move) → journal_of count (earlier ++ more) ≡ journal_of count earlier ++ making.entries)
      → ((count : ℕ) (earlier : List Move) → IsSeated count earlier v.board v.seats v.work.standing → IsSeated count (earlier ++ more) v.board v.seats (made making v.work.standing))
      → ((limits : Limits) (journal : List PmEvent) (h : Trace) → Stands limits (Some journal) v.work.standing h
      → Stands limits (Some (journal ++ making.entries)) (made making v.work.standing) (behind v.work.standing.machine making.call h))
      → now.standing ≡ made making v.work.standing → Added making.entries v.work.told now.told → Goes more v (record v { work = now })
  call_goes tells keeps v now making more rest fit ends still children journal seated stands after adds limits count earlier at =
      let s : Standing = v.work.standing in
      let call : Call = making.call in
      let h : Trace = behind s.machine call at.past in
      let acts : List Action = acts_of_call s.machine call in
      let due : (made making s).due ≡ acts = noted-due making.entries (called call s) in
      record {
        past = h;
        stands = subst (λ (x : Standing). Stands limits (Some (journal_of count (earlier ++ more))) x h) (sym after)
            (subst (λ (es : List PmEvent). Stands limits (Some es) (made making s) h) (sym (journal count earlier)) (stands limits (journal_of count earlier) at.past at.stands));
        told = subst (λ (es : List PmEvent). IfSome now.told (λ xs. xs ≡ es)) (sym (journal count earlier)) (told_more v.work.told now.told (journal_of count earlier) making.entries at.told adds);
        gate = subst (λ (x : Standing). gate_by x.due (gate_of v.board) ≡ gate_shown h.now.shared) (sym after)
            (ap (λ (xs : List Action). gate_by xs (gate_of v.board)) due
            ∙ (ap (gate_by acts) (rested rest.none_due at.gate) ∙ sym (calls_leave s.machine at.past call)));
        seated = subst (λ (x : Standing). IsSeated count (earlier ++ more) v.board v.seats x) (sym after) (seated count earlier at.seated);
        may = subst (λ (x : Standing). MayDo x.due (gate_of v.board) x.children) (sym after)
            (subst (λ (xs : List Action). MayDo xs (gate_of v.board) (made making s).children) (sym due)
            (subst (λ (cs : List Enrolled). MayDo acts (gate_of v.board) cs) (sym children)
            (call_may tells keeps limits count earlier v call at rest (λ g ready. fit g limits ready) still)));
        many = at.many;
        afresh = subst (λ (x : Standing). StartsAfresh v.board x.due x.machine) (sym after)
            (afresh_noted v.board making.entries (called call s)
            (afresh_called limits v.board v.board s.machine at.past call (keeps.holds limits (Some (journal_of count earlier)) s at.past at.stands rest.none_due).facts (ends at.past)
            (record { generation = refl; past = λ k. refl }) (subst (λ (xs : List Action). StartsAfresh v.board xs s.machine) rest.none_due at.afresh)));
      }

  still_seated : (v : View D) (t : Standing) → t.children ≡ v.work.standing.children → t.last_pid ≡ v.work.standing.last_pid → t.generation ≡ v.work.standing.generation
      → (count : ℕ) (earlier : List Move) → IsSeated count earlier v.board v.seats v.work.standing → IsSeated count (earlier ++ []) v.board v.seats t
  still_seated v t children last same count earlier was =
      subst (λ (ms : List Move). IsSeated count ms v.board v.seats t) (sym (append-nil earlier)) (seated_as count earlier v.board v.seats v.work.standing t was children last same)

  -- the time
  pub ticked_goes : GoesOnOverItsJournal → TellsOfEachStart → KeepsALegalJournal → (v : View D) (now : AtWork) (at : ℕ) → IsAtRest v.work.standing → v.work.standing.owes_smart ≡ false
      → now.standing ≡ made (ticking at v.work.standing) v.work.standing → now.told ≡ v.work.told → Goes [] v (record v { work = now })
  ticked_goes work tells keeps v now at rest unowed after told =
      let s : Standing = v.work.standing in
      call_goes tells keeps v now (ticking at s) [] rest (λ h limits ready. ready) (λ h. tt) (λ roll. refl) refl none_more (still_seated v (made (ticking at s) s) refl refl refl)
      (λ limits journal h stands. subst (λ (es : List PmEvent). Stands limits (Some es) (made (ticking at s) s) (behind s.machine (ticking at s).call h)) (sym (append-nil journal)) (work.ticks limits journal s h at stands rest unowed))
      after (same_told v.work.told now.told told)

  -- a turn
  pub turned_goes : GoesOnOverItsJournal → TellsOfEachStart → KeepsALegalJournal → (v : View D) (now : AtWork) → IsAtRest v.work.standing → v.work.standing.owes_smart ≡ false
      → now.standing ≡ made turning v.work.standing → now.told ≡ v.work.told → Goes [] v (record v { work = now })
  turned_goes work tells keeps v now rest unowed after told =
      let s : Standing = v.work.standing in
      call_goes tells keeps v now turning [] rest (λ h limits ready. ready) (λ h. tt) (λ roll. refl) refl none_more (still_seated v (made turning s) refl refl refl)
      (λ limits journal h stands. subst (λ (es : List PmEvent). Stands limits (Some es) (made turning s) (behind s.machine turning.call h)) (sym (append-nil journal)) (work.turns limits journal s h stands rest unowed))
      after (same_told v.work.told now.told told)

  asked_seated : (v : View D) (t : Standing) (how : Mode) (at : ℕ) (move : Move) → AsksFor how at move
      → t.children ≡ v.work.standing.children → t.last_pid ≡ v.work.standing.last_pid → t.generation ≡ v.work.standing.generation
      → (count : ℕ) (earlier : List Move) → IsSeated count earlier v.board v.seats v.work.standing → IsSeated count (earlier ++ move ∷ []) v.board v.seats t
  asked_seated v t how at (Notes noted k) is children last same count earlier was = absurd is
  asked_seated v t how at (Reads line asks now) is children last same count earlier was =
      moved count earlier v.board v.board v.seats v.work.standing t (Reads line asks now) [] was refl (λ i. flat_steps (sym (asked_entries how at (Reads line asks now) was.seating is) i))
      refl (λ x. refl) (λ j x. refl) (λ j. refl) children last same
    where
      flat_steps : List PmEvent → List RosterStep
      flat_steps es = flat_map (steps_of 0 was.seating) es
  asked_seated v t how at (PortEnds now) is children last same count earlier was =
      moved count earlier v.board v.board v.seats v.work.standing t (PortEnds now) [] was refl refl refl (λ x. refl) (λ j x. refl) (λ j. refl) children last same
  asked_seated v t how at (PidsEnd now) is children last same count earlier was =
      moved count earlier v.board v.board v.seats v.work.standing t (PidsEnd now) [] was refl refl refl (λ x. refl) (λ j x. refl) (λ j. refl) children last same

  pub asked_goes : GoesOnOverItsJournal → TellsOfEachStart → KeepsALegalJournal → (v : View D) (now : AtWork) (how : Mode) (at : ℕ) (move : Move) → IsAtRest v.work.standing → MayAsk how v.work.standing
      → AsksFor how (later at v.work.standing) move → now.standing ≡ made (asking how at v.work.standing) v.work.standing → Added (asking how at v.work.standing).entries v.work.told now.told
      → Goes (move ∷ []) v (record v { work = now })
  asked_goes work tells keeps v now how at move rest may is after adds =
      let s : Standing = v.work.standing in
      call_goes tells keeps v now (asking how at s) (move ∷ []) rest (λ h limits ready. ready) (λ h. tt) (λ roll. refl) refl
      (λ count earlier. journal-more count earlier move ∙ ap (λ (es : List PmEvent). journal_of count earlier ++ es) (asked_entries how (later at s) move (seating_of count earlier) is))
      (asked_seated v (made (asking how at s) s) how (later at s) move is refl refl refl)
      (λ limits journal h stands. work.asks limits journal s h how at stands rest may)
      after adds

  -- ---- a line

  -- that asks for nothing
  pub nothing_asked : LinesMayAskForNothing D
  nothing_asked v line asks at none limits count earlier is =
      let s : Standing = v.work.standing in
      let move : Move = Reads line asks at in
      let seats : v.seats ≡ (seating_of count earlier).seats = is.seated.at_hand ∙ ap (λ (x : Seating). x.seats) is.seated.is_that in
      let none_then : entries_by (seating_of count earlier) move ≡ [] = ap (asked_by asks at) (sym seats) ∙ none in
      let none_here : entries_by is.seated.seating move ≡ [] = ap (asked_by asks at) (sym is.seated.at_hand) ∙ none in
      let journal : journal_of count (earlier ++ move ∷ []) ≡ journal_of count earlier =
      journal-more count earlier move ∙ (ap (λ (es : List PmEvent). journal_of count earlier ++ es) none_then ∙ append-nil (journal_of count earlier)) in
      record {
        past = is.past;
        stands = subst (λ (es : List PmEvent). Stands limits (Some es) s is.past) (sym journal) is.stands;
        told = subst (λ (es : List PmEvent). IfSome v.work.told (λ xs. xs ≡ es)) (sym journal) is.told;
        gate = is.gate;
        seated = moved count earlier v.board v.board v.seats s s move [] is.seated refl (ap (flat_map (steps_of 0 is.seated.seating)) (sym none_here))
            refl (λ x. refl) (λ j x. refl) (λ j. refl) refl refl refl;
        may = is.may;
        many = is.many;
        afresh = is.afresh;
      }

  there_or_not : (limits : Limits) (count : ℕ) (moves : List Move) (v : View D) (pid : ℕ) → IsAt limits count moves v → is_seated pid v.seats ≡ is_some (kind_in pid v.work.standing.children)
  there_or_not limits count moves v pid at =
      ap (is_seated pid) at.seated.at_hand ∙ (seated_somewhere pid at.seated.seating.seats ∙ sym (ap is_some (at.seated.roll.same pid)))

  -- to kill a child that isn't there
  pub none_killed : (v : View D) (pid : ℕ) (line : List ℕ) (at : ℕ) → is_some (kind_in pid v.work.standing.children) ≡ false → Goes (Reads line (Kill pid) at ∷ []) v v
  none_killed v pid line at none limits count earlier is =
      nothing_asked v line (Kill pid) at (ap (λ (b : Bool). if b then entry.KillAsked pid ∷ [] else []) (there_or_not limits count earlier v pid is ∙ none)) limits count earlier is

  -- and one that is
  pub killed_goes : GoesOnOverItsJournal → (v w : View D) (pid : ℕ) (line : List ℕ) (at : ℕ) → IsAtRest v.work.standing → v.work.standing.owes_smart ≡ false
      → is_some (kind_in pid v.work.standing.children) ≡ true → w.work.standing ≡ killed pid v.work.standing → Added (kill_entry pid ∷ []) v.work.told w.work.told
      → w.board ≡ after_steps v.board (sends (One pid) signal.Kill v.board.generation v.seats) → w.seats ≡ v.seats → Goes (Reads line (Kill pid) at ∷ []) v w
  killed_goes work v w pid line at rest unowed there after adds board same limits count earlier is =
      let s : Standing = v.work.standing in
      let move : Move = Reads line (Kill pid) at in
      let ss : List RosterStep = sends (One pid) signal.Kill v.board.generation v.seats in
      let sits : is_seated pid v.seats ≡ true = there_or_not limits count earlier v pid is ∙ there in
      let kills : (xs : List (Option Enrolled)) → v.seats ≡ xs → asked_by (Kill pid) at xs ≡ entry.KillAsked pid ∷ [] =
      (λ xs seats. ap (λ (b : Bool). if b then entry.KillAsked pid ∷ [] else []) (ap (is_seated pid) (sym seats) ∙ sits)) in
      let journal : journal_of count (earlier ++ move ∷ []) ≡ journal_of count earlier ++ kill_entry pid ∷ [] =
      journal-more count earlier move
      ∙ ap (λ (es : List PmEvent). journal_of count earlier ++ es) (kills (seating_of count earlier).seats (is.seated.at_hand ∙ ap (λ (x : Seating). x.seats) is.seated.is_that)) in
      let gates : gate_of w.board ≡ gate_of v.board = ap gate_of board ∙ same-gate v.board (One pid) signal.Kill v.board.generation v.seats in
      let generation : w.board.generation ≡ v.board.generation = ap (λ (x : RosterView D). x.generation) board ∙ same-generation v.board (One pid) signal.Kill v.board.generation v.seats in
      record {
        past = is.past;
        stands = subst (λ (x : Standing). Stands limits (Some (journal_of count (earlier ++ move ∷ []))) x is.past) (sym after)
            (subst (λ (es : List PmEvent). Stands limits (Some es) (killed pid s) is.past) (sym journal) (work.kills limits (journal_of count earlier) s is.past pid is.stands rest unowed there));
        told = subst (λ (es : List PmEvent). IfSome w.work.told (λ xs. xs ≡ es)) (sym journal) (told_more v.work.told w.work.told (journal_of count earlier) (kill_entry pid ∷ []) is.told adds);
        gate = subst (λ (x : Standing). gate_by x.due (gate_of w.board) ≡ gate_shown is.past.now.shared) (sym after) (ap (gate_by s.due) gates ∙ is.gate);
        seated = subst (λ (xs : List (Option Enrolled)). IsSeated count (earlier ++ move ∷ []) w.board xs w.work.standing) (sym same)
            (subst (λ (x : Standing). IsSeated count (earlier ++ move ∷ []) w.board v.seats x) (sym after)
            (moved count earlier v.board w.board v.seats s (killed pid s) move ss is.seated board
            ((λ i. sends (One pid) signal.Kill (is.seated.shows.generation i) (is.seated.at_hand i))
            ∙ (sym (append-nil (sends (One pid) signal.Kill is.seated.seating.generation is.seated.seating.seats))
            ∙ ap (flat_map (steps_of 0 is.seated.seating)) (sym (kills is.seated.seating.seats is.seated.at_hand))))
            generation (λ x. refl) (λ j x. refl) (λ j. refl) refl refl refl));
        may = subst (λ (x : Standing). MayDo x.due (gate_of w.board) x.children) (sym after) (subst (λ (g : Gate). MayDo s.due g s.children) (sym gates) is.may);
        many = subst (λ (xs : List (Option Enrolled)). 7 < length xs) (sym same) is.many;
        afresh = subst (λ (x : Standing). StartsAfresh w.board x.due x.machine) (sym after)
            (afresh_still v.board w.board s.due s.machine
            (stepped_same v.board w.board ss board (same-generation v.board (One pid) signal.Kill v.board.generation v.seats)) is.afresh);
      }

  -- ---- what a call comes to

  pub makes_of : {T E A B : Type 0} (r : Result T E) (making : Making) (more : List Move) (v w : View D) → OnOk r (w.work.standing ≡ made making v.work.standing) → OnOk r A → OnErr r B
      → (w.work.standing ≡ made making v.work.standing → A → Goes more v w) → (B → StandsStill v w) → w.board ≡ v.board → w.seats ≡ v.seats → Makes r making more v w
  makes_of (Ok done) making more v w after also refused goes still board seats = (goes after also, after, board, seats)
  makes_of (Err error) making more v w after also refused goes still board seats = still refused
