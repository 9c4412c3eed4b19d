-- A supervisor's calls, over who sits where.
use Rattle.std.{proofs.{Common.{◌≡◌, ℕ, zero, suc, ◌+◌, ◌<◌, ◌≤◌, List, [], ◌∷◌, ◌++◌, refl, sym, ap, subst, ◌∙◌, length, set, map, arith, nat_eq, append-nil, append_assoc, length-set}, lemmas.{Bool.{Decides.nat_tests, eqb-true, eqb-false}, List.{set-get_or, get_or-set_same, get_or-set_other}}}, specs.{Option.unwrap_or, Prelude.{nat_lt, Bool, true, false, if◌then◌else◌, Option, Some, None, IfSome}}}
use Rattle.pm_board.specs.{pm_facts.Bools.by_test, pm_exit.declared.child.Kind.Kind, pm_supervisor.{declared.Limits.Limits, Steps.{Trace, kind_for}}, pm_board_words.declared.views.{Offer.Offer, RosterNotes.RosterNotes, RosterStep.{RosterStep, TheVariants.{Assign, Release}}, RosterView.RosterView, SlotView.SlotView, PastChild.PastChild}, declared.roster.Released.Released, Places.{is_connection, slot_at}, Models.HasAssigned, Gate.{Gate, gate_of}}
use Rattle.pm_supervisor_journal.{specs.{pm_state.{declared.{event.PmEvent.PmEvent, action.Action.Action}, Journal.acts_of_call}, declared.{exit.ChildExit.ChildExit, roll.Enrolled.Enrolled}, Laws.{GoesOnOverItsJournal, KeepsALegalJournal}, Roll.{kind_in, without}, pm_outside.Added.Added, Standing.{IsAtRest, MayTake, Standing, accepting, exiting, made, next_pid, decision_on, all_noted, called, ends_redo, exit_call, exit_entry, later, noted}, Stands.{HasPast, IsSettled, Stands, behind}}, proofs.{ToldLaws.{stands_told, told_more}, NextsLaws.noted-due}}
use Rattle.pm_supervisor_journal.specs.pm_state.declared.event.PmEvent.TheVariants as entry
use Rattle.pm_board_acts.{specs.{Seating.{Seating, Move, Notes, Begun, Ended, child, with_seat, seated, steps_of, begins, ends, ended_by, steps_by, begun_at, ended_at, seating_of, board_steps, journal_of}, Acts.{MayDo, StartsAfresh, gate_by, gate_shown}, Board.{Shows, ended_of, begun_of, seat_at, sitting}, Sitting.{HasReaped, StillRuns}, Standing.{View, IsAt, IsRunning, IsEnding, Goes, IsSeated, AreOnRoll, SeatServes}, Calls.{accepts, exits, exit_of, notes_in, EndsBehind, IsCutOff}}, proofs.{Afresh.{SamePast, afresh_called, afresh_still, became_same}, Gating.calls_leave, FoldingLaws.{journal-more, journal-notes, seating-more, steps-more, begun-more, ended-more}, Rolls.{on_roll_more, on_roll_less, found_kind, stood_before}, Rightly.{right_none, seats_of_all}, Sitting.{shows_set, had_begun, had_ended}}}
use Rattle.pm_board.specs.pm_board_words.declared.views.Letter as Letter

pub past_of : {D : Type 0} (v : View D) → IsRunning v → HasPast v.work
past_of v running = (running.0, running.3.past, stands_told running.0 v.work.told (journal_of running.1 running.2) v.work.standing running.3.past running.3.told running.3.stands)

kind_is : (c d : Enrolled) → Some c ≡ Some d → c.kind ≡ d.kind
kind_is c d e = cc

right_set : (seats : List (Option Enrolled)) (k : ℕ) (seat : Option Enrolled) → ((j : ℕ) (c : Enrolled) → seat_at j seats ≡ Some c → SeatServes (length seats) j c.kind)
    → ((c : Enrolled) → seat ≡ Some c → SeatServes (length seats) k c.kind)
    → (j : ℕ) (c : Enrolled) → seat_at j (set seats k seat) ≡ Some c → SeatServes (length (set seats k seat)) j c.kind
right_set seats k seat each here j c sits =
    subst (λ (n : ℕ). SeatServes n j c.kind) (sym (length-set seats k seat)) (by_test (nat_eq j k)
    (λ is. by_test (nat_lt k (length seats))
    (λ near. subst (λ (i : ℕ). SeatServes (length seats) i c.kind) (sym (eqb-true j k is))
    (here c (sym (get_or-set_same seats k seat None (ltb_lt k (length seats) near)) ∙ (ap (λ (i : ℕ). seat_at i (set seats k seat)) (sym (eqb-true j k is)) ∙ sits))))
    (λ far. each j c (sym (ap (seat_at j) (set_far seats k seat (ltb_ge k (length seats) far))) ∙ sits)))
    (λ isnt. each j c (sym (get_or-set_other seats k j seat None (eqb-false j k isnt)) ∙ sits)))
  where
    ltb_lt : (a b : ℕ) → nat_lt a b ≡ true → a < b
    ltb_lt a b e = grind (arith, nat_tests)

    ltb_ge : (a b : ℕ) → nat_lt a b ≡ false → b ≤ a
    ltb_ge a b e = grind (arith, nat_tests)

    set_far : {A : Type 0} (l : List A) (k : ℕ) (a : A) → length l ≤ k → set l k a ≡ l
    set_far [] k a far = refl
    set_far (x ∷ l) zero a far = absurd (omega arith)
    set_far (x ∷ l) (suc k) a far = ap (λ ys. x ∷ ys) (set_far l k a (omega arith))

last_of : (kind : Kind) (pid before : ℕ) → before ≤ pid → (if is_connection kind then pid else before) ≤ pid
last_of kind pid before le = both (is_connection kind)
  where
    both : (b : Bool) → (if b then pid else before) ≤ pid
    both true = (let e : pid ≤ pid = omega arith in e)
    both false = le

-- entries leave what is due, and the machine
pub afresh_noted : {D : Type 0} (d : RosterView D) (es : List PmEvent) (s : Standing) → StartsAfresh d s.due s.machine → StartsAfresh d (all_noted es s).due (all_noted es s).machine
afresh_noted d [] s was = was
afresh_noted d (e ∷ es) s was = afresh_noted d es (noted e s) was

pub rested : {due : List Action} {g h : Gate} → due ≡ [] → gate_by due g ≡ h → g ≡ h
rested {due} {g} {h} none is = sym (ap (λ (acts : List Action). gate_by acts g) none) ∙ is

module _ {D : Type 0} where
  -- a child sat down, by this entry
  pub sat_down : (count : ℕ) (moves : List Move) (d e : RosterView D) (seats seats' : List (Option Enrolled)) (s t : Standing) (k pid : ℕ) (kind : Kind) (given : D) (noted : PmEvent)
      → IsSeated count moves d seats s → k < length seats → seat_at k seats ≡ None → HasAssigned k pid kind given d e → s.last_pid < pid
      → seats' ≡ set seats k (Some (child pid kind))
      → ((x : Seating) → seated k noted x ≡ with_seat k (Some (child pid kind)) x) → ((x : Seating) → steps_of k x noted ≡ Assign k pid kind x.generation ∷ [])
      → ((g : ℕ) → begins g noted ≡ record { pid = pid; kind = kind; generation = g } ∷ []) → ends noted ≡ []
      → t.children ≡ child pid kind ∷ s.children → t.last_pid ≡ pid → t.generation ≡ s.generation → SeatServes (length seats) k kind
      → IsSeated count (moves ++ Notes noted k ∷ []) e seats' t
  sat_down count moves d e seats seats' s t k pid kind given noted was near free has above then_seats sits step begun ended children last generation serves =
      let o : Offer D = has.0 in
      let is : o ≡ record { pid = pid; kind = kind; generation = d.generation; given = given } = has.1 in
      let became = has.2 in
      let near' : k < length was.seating.seats = subst (λ (xs : List (Option Enrolled)). k < length xs) was.at_hand near in
      let free' : seat_at k was.seating.seats ≡ None = sym (ap (seat_at k) was.at_hand) ∙ free in
      let o_pid : o.pid ≡ pid = ap (λ (x : Offer D). x.pid) is in
      let o_kind : o.kind ≡ kind = ap (λ (x : Offer D). x.kind) is in
      let o_generation : o.generation ≡ was.seating.generation = ap (λ (x : Offer D). x.generation) is ∙ was.shows.generation in
      record {
        seating = with_seat k (Some (child pid kind)) was.seating;
        is_that = ap (with_seat k (Some (child pid kind))) was.is_that ∙ (sym (sits (seating_of count moves)) ∙ sym (seating-more count moves (Notes noted k)));
        at_hand = then_seats ∙ ap (λ (xs : List (Option Enrolled)). set xs k (Some (child pid kind))) was.at_hand;
        steps = ap (λ (n : RosterNotes). n.steps) became.notes_are
            ∙ (ap (λ (xs : List RosterStep). xs ++ Assign k o.pid o.kind o.generation ∷ []) was.steps
            ∙ (ap (λ (x : RosterStep). board_steps count moves ++ x ∷ []) (λ i. Assign k (o_pid i) (o_kind i) ((o_generation ∙ ap (λ (x : Seating). x.generation) was.is_that) i))
            ∙ (ap (λ (xs : List RosterStep). board_steps count moves ++ xs) (sym (append-nil (steps_of k (seating_of count moves) noted) ∙ step (seating_of count moves)))
            ∙ sym (steps-more count moves (Notes noted k)))));
        shows = shows_set d e was.seating k _ _ (Some (child pid kind)) was.shows near' became (o, refl, o_pid, o_kind, o_generation);
        generation = generation ∙ was.generation;
        roll = subst (λ (cs : List Enrolled). AreOnRoll cs (set was.seating.seats k (Some (child pid kind))) t.last_pid) (sym children)
            (subst (λ (n : ℕ). AreOnRoll (child pid kind ∷ s.children) (set was.seating.seats k (Some (child pid kind))) n) (sym last)
            (on_roll_more s.children was.seating.seats s.last_pid k pid kind was.roll above near' free'));
        right = right_set was.seating.seats k (Some (child pid kind)) was.right (λ c is. subst (λ (x : Kind). SeatServes (length was.seating.seats) k x) (kind_is (child pid kind) c is) (subst (λ (xs : List (Option Enrolled)). SeatServes (length xs) k kind) was.at_hand serves));
        last_pid = ap (λ (n : RosterNotes). n.last_pid) became.notes_are ∙ (o_pid ∙ sym last);
        connection = subst (λ (n : RosterNotes). n.last_connection ≤ n.last_pid) (sym became.notes_are)
            (last_of o.kind o.pid d.notes.last_connection (let low : d.notes.last_connection ≤ d.notes.last_pid = was.connection in let same : d.notes.last_pid ≡ s.last_pid = was.last_pid in let p : o.pid ≡ pid = o_pid in omega arith));
        had = had_begun count moves d e was.seating k (child pid kind) noted _ _ was.had was.is_that near' free' became refl begun ended
            (subst (λ (n : ℕ). SeatServes n k kind) (ap (λ (xs : List (Option Enrolled)). length xs) was.at_hand ∙ (ap (λ (x : Seating). length x.seats) was.is_that ∙ seats_of_all count moves)) serves);
      }

  -- a child was released, by this entry
  pub stood_up : {J : Type 0} (letter : Letter.Ghosts J D) (count : ℕ) (moves : List Move) (d e : RosterView D) (seats seats' : List (Option Enrolled)) (s t : Standing) (k : ℕ) (c : Enrolled) (released : Released J) (at : ℕ)
      → IsSeated count moves d seats s → k < length seats → seat_at k seats ≡ Some c → HasReaped letter k c released d e
      → seats' ≡ set seats k None
      → t.children ≡ without c.pid s.children → t.last_pid ≡ s.last_pid → t.generation ≡ s.generation
      → IsSeated count (moves ++ Notes (entry.Exited released.pid released.kind released.status released.was_active at) k ∷ []) e seats' t
  stood_up letter count moves d e seats seats' s t k c released at was near sits has then_seats children last generation =
      let o : Offer D = has.sits.offer in
      let noted : PmEvent = entry.Exited released.pid released.kind released.status released.was_active at in
      let near' : k < length was.seating.seats = subst (λ (xs : List (Option Enrolled)). k < length xs) was.at_hand near in
      let sits' : seat_at k was.seating.seats ≡ Some c = sym (ap (seat_at k) was.at_hand) ∙ sits in
      let o_pid : o.pid ≡ released.pid = has.sits.pid ∙ sym has.pid in
      let o_kind : o.kind ≡ released.kind = has.sits.kind ∙ sym has.kind in
      let o_generation : o.generation ≡ was.seating.generation = has.sits.generation ∙ was.shows.generation in
      record {
        seating = with_seat k None was.seating;
        is_that = ap (with_seat k None) was.is_that ∙ sym (seating-more count moves (Notes noted k));
        at_hand = then_seats ∙ ap (λ (xs : List (Option Enrolled)). set xs k None) was.at_hand;
        steps = ap (λ (n : RosterNotes). n.steps) has.became.notes_are
            ∙ (ap (λ (xs : List RosterStep). xs ++ Release o.pid o.kind o.generation ∷ []) was.steps
            ∙ (ap (λ (x : RosterStep). board_steps count moves ++ x ∷ []) (λ i. Release (o_pid i) (o_kind i) ((o_generation ∙ ap (λ (x : Seating). x.generation) was.is_that) i))
            ∙ sym (steps-more count moves (Notes noted k))));
        shows = shows_set d e was.seating k _ _ None was.shows near' has.became refl;
        generation = generation ∙ was.generation;
        roll = subst (λ (cs : List Enrolled). AreOnRoll cs (set was.seating.seats k None) t.last_pid) (sym children)
            (subst (λ (n : ℕ). AreOnRoll (without c.pid s.children) (set was.seating.seats k None) n) (sym last)
            (on_roll_less s.children was.seating.seats s.last_pid k c was.roll sits'));
        right = right_set was.seating.seats k None was.right (λ c is. absurd (let no_ : ◌≡◌ {A = Option Enrolled} None (Some c) = is in cc));
        last_pid = ap (λ (n : RosterNotes). n.last_pid) has.became.notes_are ∙ (was.last_pid ∙ sym last);
        connection = subst (λ (n : RosterNotes). n.last_connection ≤ n.last_pid) (sym has.became.notes_are) was.connection;
        had = had_ended count moves d e was.seating k c _ noted _ _ was.had was.is_that near' sits' has.became refl
            (λ i. record { pid = has.sits.pid i; kind = has.sits.kind i; generation = o_generation i }) refl
            (λ i. record { pid = sym o_pid i; kind = sym o_kind i; status = released.status; was_active = released.was_active } ∷ []);
      }

  -- who sits somewhere is on the roll
  pub on_the_roll : (count : ℕ) (moves : List Move) (d : RosterView D) (seats : List (Option Enrolled)) (s : Standing) (k : ℕ) (c : Enrolled) → IsSeated count moves d seats s → seat_at k seats ≡ Some c
      → kind_in c.pid s.children ≡ Some c.kind
  on_the_roll count moves d seats s k c was sits =
      was.roll.same c.pid ∙ found_kind k c was.seating.seats was.roll.apart (sym (ap (seat_at k) was.at_hand) ∙ sits)

  -- a connection was taken, and its child sat down
  pub admitted : GoesOnOverItsJournal → KeepsALegalJournal → (k pid : ℕ) (kind : Kind) (given : D) (v w : View D)
      → IsAtRest v.work.standing → IsSettled v.work.standing → MayTake v.work.standing
      → w.work.standing ≡ made (accepting v.work.standing) v.work.standing → Added (accepting v.work.standing).entries v.work.told w.work.told
      → pid ≡ next_pid v.work.standing → kind ≡ kind_for (decision_on v.work.standing)
      → k < length v.seats → seat_at k v.seats ≡ None → HasAssigned k pid kind given v.board w.board → w.seats ≡ set v.seats k (Some (child pid kind))
      → SeatServes (length v.seats) k (kind_for (decision_on v.work.standing))
      → Goes (accepts k v.work.standing) v w
  admitted work keeps k pid kind given v w rest settled_ may after adds pid_is kind_is near free has sits serves limits count earlier at =
      let s : Standing = v.work.standing in
      let e : PmEvent = entry.Accepted (next_pid s) (decision_on s) in
      let t : Standing = made (accepting s) s in
      let has' : HasAssigned k (next_pid s) (kind_for (decision_on s)) given v.board w.board =
      subst (λ (p : ℕ). HasAssigned k p (kind_for (decision_on s)) given v.board w.board) pid_is (subst (λ (x : Kind). HasAssigned k pid x given v.board w.board) kind_is has) in
      let sits' : w.seats ≡ set v.seats k (Some (child (next_pid s) (kind_for (decision_on s)))) =
      sits ∙ (λ i. set v.seats k (Some (child (pid_is i) (kind_is i)))) in
      record {
        past = behind s.machine (accepting s).call at.past;
        stands = subst (λ (x : Standing). Stands limits (Some (journal_of count (earlier ++ accepts k s))) x (behind s.machine (accepting s).call at.past)) (sym after)
            (subst (λ (es : List PmEvent). Stands limits (Some es) t (behind s.machine (accepting s).call at.past)) (sym (journal-more count earlier (Notes e k)))
            (work.accepts limits (journal_of count earlier) s at.past at.stands rest settled_ may));
        gate = subst (λ (x : Standing). gate_by x.due (gate_of w.board) ≡ gate_shown (behind s.machine (accepting s).call at.past).now.shared) (sym after)
            (ap gate_of has.2.whole ∙ (rested rest.none_due at.gate ∙ sym (calls_leave s.machine at.past (accepting s).call)));
        told = subst (λ (es : List PmEvent). IfSome w.work.told (λ xs. xs ≡ es)) (sym (journal-more count earlier (Notes e k))) (told_more v.work.told w.work.told (journal_of count earlier) (accepting s).entries at.told adds);
        seated = subst (λ (x : Standing). IsSeated count (earlier ++ accepts k s) w.board w.seats x) (sym after)
            (sat_down count earlier v.board w.board v.seats w.seats s t k (next_pid s) (kind_for (decision_on s)) given e at.seated near free has' (let up : s.last_pid < s.last_pid + 1 = omega arith in up)
            sits' (λ x. refl) (λ x. refl) (λ g. refl) refl refl refl refl serves);
        may = subst (λ (x : Standing). MayDo x.due (gate_of w.board) x.children) (sym after) tt;
        many = subst (λ (n : ℕ). 7 < n) (sym (ap length sits ∙ length-set v.seats k (Some (child pid kind)))) at.many;
        afresh = subst (λ (x : Standing). StartsAfresh w.board x.due x.machine) (sym after)
            (afresh_called limits v.board w.board s.machine at.past (accepting s).call (keeps.holds limits (Some (journal_of count earlier)) s at.past at.stands rest.none_due).facts tt
            (became_same k _ _ v.board w.board has.2 refl) (subst (λ (due : List Action). StartsAfresh v.board due s.machine) rest.none_due at.afresh));
      }

  -- nothing was noted, and whoever sits there sits there still
  pub looked : (count : ℕ) (moves : List Move) (d e : RosterView D) (seats : List (Option Enrolled)) (s : Standing) (k : ℕ) (c : Enrolled)
      → IsSeated count moves d seats s → k < length seats → seat_at k seats ≡ Some c → StillRuns k c d e → IsSeated count moves e seats s
  looked count moves d e seats s k c was near sits still =
      let near' : k < length was.seating.seats = subst (λ (xs : List (Option Enrolled)). k < length xs) was.at_hand near in
      let sits' : seat_at k was.seating.seats ≡ Some c = sym (ap (seat_at k) was.at_hand) ∙ sits in
      let same : with_seat k (Some c) was.seating ≡ was.seating =
      ap (λ (x : Option Enrolled). with_seat k x was.seating) (sym sits') ∙ ap (λ (xs : List (Option Enrolled)). record was.seating { seats = xs }) (set-get_or was.seating.seats k None) in
      let past : (j : ℕ) → (slot_at e j).past ≡ (slot_at d j).past = (λ j. by_test (nat_eq j k)
      (λ is. subst (λ (i : ℕ). (slot_at e i).past ≡ (slot_at d i).past) (sym (eqb-true j k is)) (ap (λ (y : SlotView D). y.past) still.became.here))
      (λ isnt. ap (λ (y : SlotView D). y.past) (still.became.others j (eqb-false j k isnt)))) in
      record {
        seating = was.seating;
        is_that = was.is_that;
        at_hand = was.at_hand;
        steps = ap (λ (n : RosterNotes). n.steps) still.became.notes_are ∙ was.steps;
        shows = subst (λ (x : Seating). Shows e x) same (shows_set d e was.seating k _ _ (Some c) was.shows near' still.became
            (still.sits.offer, refl, still.sits.pid, still.sits.kind, still.sits.generation ∙ was.shows.generation));
        generation = was.generation;
        roll = was.roll;
        right = was.right;
        last_pid = ap (λ (n : RosterNotes). n.last_pid) still.became.notes_are ∙ was.last_pid;
        connection = subst (λ (n : RosterNotes). n.last_connection ≤ n.last_pid) (sym still.became.notes_are) was.connection;
        had = record {
          begun = λ j. ap (λ (ps : List (PastChild D)). map begun_of ps ++ sitting was.seating.generation (seat_at j was.seating.seats)) (past j) ∙ was.had.begun j;
          ended = λ j. ap (map ended_of) (past j) ∙ was.had.ended j;
          right = was.had.right;
        };
      }

  pub none_noted : (v w : View D) → w.work.standing ≡ v.work.standing → w.work.told ≡ v.work.told → gate_of w.board ≡ gate_of v.board → SamePast v.board w.board → length w.seats ≡ length v.seats
      → ((limits : Limits) (count : ℕ) (moves : List Move) → IsAt limits count moves v → IsSeated count moves w.board w.seats v.work.standing) → Goes [] v w
  none_noted v w same told gates past count_same seated limits count earlier at =
      subst (λ (ms : List Move). IsAt limits count ms w) (sym (append-nil earlier)) (record {
        past = at.past;
        stands = subst (λ (x : Standing). Stands limits (Some (journal_of count earlier)) x at.past) (sym same) at.stands;
        told = subst (λ (t : Option (List PmEvent)). IfSome t (λ es. es ≡ journal_of count earlier)) (sym told) at.told;
        gate = subst (λ (x : Standing). gate_by x.due (gate_of w.board) ≡ gate_shown at.past.now.shared) (sym same) (ap (gate_by v.work.standing.due) gates ∙ at.gate);
        seated = subst (λ (x : Standing). IsSeated count earlier w.board w.seats x) (sym same) (seated limits count earlier at);
        may = subst (λ (x : Standing). MayDo x.due (gate_of w.board) x.children) (sym same) (subst (λ (g : Gate). MayDo v.work.standing.due g v.work.standing.children) (sym gates) at.may);
        many = subst (λ (n : ℕ). 7 < n) (sym count_same) at.many;
        afresh = subst (λ (x : Standing). StartsAfresh w.board x.due x.machine) (sym same) (afresh_still v.board w.board v.work.standing.due v.work.standing.machine past at.afresh);
      })

  -- an entry that is nothing at the board
  pub noted_more : (count : ℕ) (moves : List Move) (d : RosterView D) (seats : List (Option Enrolled)) (s : Standing) (k g n : ℕ)
      → IsSeated count moves d seats s → IsSeated count (moves ++ Notes (entry.RedoEnded g n) k ∷ []) d seats s
  noted_more count moves d seats s k g n was =
      let e : PmEvent = entry.RedoEnded g n in
      record {
        seating = was.seating;
        is_that = was.is_that ∙ sym (seating-more count moves (Notes e k));
        at_hand = was.at_hand;
        steps = was.steps ∙ (sym (append-nil (board_steps count moves)) ∙ sym (steps-more count moves (Notes e k)));
        shows = was.shows;
        generation = was.generation;
        roll = was.roll;
        right = was.right;
        last_pid = was.last_pid;
        connection = was.connection;
        had = record {
          begun = λ j. was.had.begun j ∙ (sym (append-nil (begun_at count j moves)) ∙ (ap (λ (bs : List Begun). begun_at count j moves ++ bs) (none (nat_eq k j)) ∙ sym (begun-more count j moves (Notes e k))));
          ended = λ j. was.had.ended j ∙ (sym (append-nil (ended_at j moves)) ∙ (ap (λ (es : List Ended). ended_at j moves ++ es) (none (nat_eq k j)) ∙ sym (ended-more j moves (Notes e k))));
          right = right_none count moves (Notes e k) (λ j. sym (none (nat_eq k j))) was.had.right;
        };
      }
    where
      none : {A : Type 0} (b : Bool) → ◌≡◌ {A = List A} [] (if b then [] else [])
      none true = refl
      none false = refl

  -- and with the end of redo, or without
  seated_with_redo : {J : Type 0} (letter : Letter.Ghosts J D) (count : ℕ) (earlier : List Move) (d e : RosterView D) (seats seats' : List (Option Enrolled)) (s : Standing) (k at kept : ℕ) (c : Enrolled) (released : Released J) (exit : ChildExit) (b : Bool)
      → exit.pid ≡ released.pid → exit.kind ≡ released.kind → exit.status ≡ released.status → exit.was_active ≡ released.was_active
      → IsSeated count earlier d seats s → k < length seats → seat_at k seats ≡ Some c → HasReaped letter k c released d e → seats' ≡ set seats k None
      → IsSeated count (earlier ++ notes_in k (exit_entry exit at ∷ (if b then entry.RedoEnded s.generation kept ∷ [] else []))) e seats'
      (all_noted (exit_entry exit at ∷ (if b then entry.RedoEnded s.generation kept ∷ [] else [])) (called (exit_call exit at) s))
  seated_with_redo letter count earlier d e seats seats' s k at kept c released exit b pid kind status active was near sits has then_seats =
      let E : PmEvent = exit_entry exit at in
      let t : Standing = noted E (called (exit_call exit at) s) in
      let children : t.children ≡ without c.pid s.children = ap (λ (p : ℕ). without p s.children) (pid ∙ has.pid) in
      let is : entry.Exited released.pid released.kind released.status released.was_active at ≡ E = (λ i. entry.Exited (sym pid i) (sym kind i) (sym status i) (sym active i) at) in
      let one : IsSeated count (earlier ++ Notes E k ∷ []) e seats' t =
      subst (λ (x : PmEvent). IsSeated count (earlier ++ Notes x k ∷ []) e seats' t) is
      (stood_up letter count earlier d e seats seats' s t k c released at was near sits has then_seats children refl refl) in
      both b one
    where
      both : (b : Bool) → IsSeated count (earlier ++ Notes (exit_entry exit at) k ∷ []) e seats' (noted (exit_entry exit at) (called (exit_call exit at) s))
          → IsSeated count (earlier ++ notes_in k (exit_entry exit at ∷ (if b then entry.RedoEnded s.generation kept ∷ [] else []))) e seats'
          (all_noted (exit_entry exit at ∷ (if b then entry.RedoEnded s.generation kept ∷ [] else [])) (called (exit_call exit at) s))
      both true one =
          subst (λ (ms : List Move). IsSeated count ms e seats' (noted (exit_entry exit at) (called (exit_call exit at) s)))
          (append_assoc earlier (Notes (exit_entry exit at) k ∷ []) (Notes (entry.RedoEnded s.generation kept) k ∷ []))
          (noted_more count (earlier ++ Notes (exit_entry exit at) k ∷ []) e seats' (noted (exit_entry exit at) (called (exit_call exit at) s)) k s.generation kept one)
      both false one = one

  -- the end of a child was noted
  pub exited_goes : {J : Type 0} (letter : Letter.Ghosts J D) → GoesOnOverItsJournal → (k now : ℕ) (c : Enrolled) (released : Released J) (kept : Option ℕ) (v w : View D)
      → IsAtRest v.work.standing → v.work.standing.owes_smart ≡ false → k < length v.seats → seat_at k v.seats ≡ Some c
      → HasReaped letter k c released v.board w.board → w.seats ≡ set v.seats k None
      → w.work.standing ≡ made (exiting (exit_of kept released) now v.work.standing) v.work.standing
      → Added (exiting (exit_of kept released) now v.work.standing).entries v.work.told w.work.told
      → (IsRunning v → MayDo w.work.standing.due (gate_of w.board) w.work.standing.children)
      → ((limits : Limits) (count : ℕ) (earlier : List Move) → IsAt limits count earlier v
      → StartsAfresh w.board (called (exiting (exit_of kept released) now v.work.standing).call v.work.standing).due (called (exiting (exit_of kept released) now v.work.standing).call v.work.standing).machine)
      → Goes (exits k (exit_of kept released) now v.work.standing) v w
  exited_goes letter work k now c released kept v w rest unowed near sits has then_seats after adds may fresh limits count earlier at =
      let s : Standing = v.work.standing in
      let exit : ChildExit = exit_of kept released in
      let es : List PmEvent = (exiting exit now s).entries in
      let t : Standing = made (exiting exit now s) s in
      let there : kind_in released.pid s.children ≡ Some released.kind =
      ap (λ (p : ℕ). kind_in p s.children) has.pid ∙ (on_the_roll count earlier v.board v.seats s k c at.seated sits ∙ ap Some (sym has.kind)) in
      let h : Trace = behind s.machine (exiting exit now s).call at.past in
      record {
        past = h;
        stands = subst (λ (x : Standing). Stands limits (Some (journal_of count (earlier ++ exits k exit now s))) x h) (sym after)
            (subst (λ (xs : List PmEvent). Stands limits (Some xs) t h) (sym (journal-notes count k earlier es))
            (work.exits limits (journal_of count earlier) s at.past exit now at.stands rest unowed there));
        gate = subst (λ (x : Standing). gate_by x.due (gate_of w.board) ≡ gate_shown h.now.shared) (sym after)
            (ap (λ (due : List Action). gate_by due (gate_of w.board)) (noted-due es (called (exiting exit now s).call s))
            ∙ (ap (gate_by (acts_of_call s.machine (exiting exit now s).call)) (ap gate_of has.became.whole ∙ rested rest.none_due at.gate)
            ∙ sym (calls_leave s.machine at.past (exiting exit now s).call)));
        told = subst (λ (xs : List PmEvent). IfSome w.work.told (λ ys. ys ≡ xs)) (sym (journal-notes count k earlier es)) (told_more v.work.told w.work.told (journal_of count earlier) es at.told adds);
        seated = subst (λ (x : Standing). IsSeated count (earlier ++ exits k exit now s) w.board w.seats x) (sym after) (seated_with_redo letter count earlier v.board w.board v.seats w.seats s k (later now s) (unwrap_or exit.kept 0) c released exit (ends_redo exit) refl refl refl refl at.seated near sits has then_seats);
        may = may (limits, count, earlier, at);
        many = subst (λ (n : ℕ). 7 < n) (sym (ap length then_seats ∙ length-set v.seats k None)) at.many;
        afresh = subst (λ (x : Standing). StartsAfresh w.board x.due x.machine) (sym after) (afresh_noted w.board es (called (exiting exit now s).call s) (fresh limits count earlier at));
      }

  -- it wasn't noted, since memory was short
  pub cut_off : {J : Type 0} (letter : Letter.Ghosts J D) (k : ℕ) (c : Enrolled) (released : Released J) (v w : View D)
      → k < length v.seats → seat_at k v.seats ≡ Some c → HasReaped letter k c released v.board w.board → w.seats ≡ set v.seats k None
      → w.work.standing ≡ v.work.standing → w.work.told ≡ v.work.told → IsCutOff v w
  cut_off letter k c released v w near sits has then_seats same told_same = (ending, (λ i. record { told = told_same i; standing = same i }), ap (λ (n : RosterNotes). n.last_pid) has.became.notes_are)
    where
      s : Standing
      s = v.work.standing

      noted_end : PmEvent
      noted_end = entry.Exited released.pid released.kind released.status released.was_active 0

      none_begun : (g : ℕ) (b : Bool) → (if b then begins g noted_end else []) ≡ []
      none_begun g true = refl
      none_begun g false = refl

      ending : EndsBehind v w
      ending limits count moves at =
          let now = stood_up letter count moves v.board w.board v.seats w.seats s (record s { children = without c.pid s.children }) k c released 0 at.seated near sits has then_seats refl refl refl in
          let p : now.seating ≡ record { seats = w.seats; generation = w.board.generation } = (λ i. record { seats = sym now.at_hand i; generation = sym now.shows.generation i }) in
          subst (λ (x : Seating). IsEnding count moves w.board x) p (record {
            last = steps_by (seating_of count moves) (Notes noted_end k);
            steps = now.steps ∙ steps-more count moves (Notes noted_end k);
            final = (tt, tt);
            stay = λ j x still. stood_before k j x (seating_of count moves).seats (subst (λ (y : Seating). seat_at j y.seats ≡ Some x) (now.is_that ∙ seating-more count moves (Notes noted_end k)) still);
            shows = now.shows;
            begun = λ j. now.had.begun j ∙ (begun-more count j moves (Notes noted_end k) ∙ (ap (λ (bs : List Begun). begun_at count j moves ++ bs) (none_begun (seating_of count moves).generation (nat_eq k j)) ∙ append-nil (begun_at count j moves)));
            ended = λ j. (ended_by j (Notes noted_end k), now.had.ended j ∙ ended-more j moves (Notes noted_end k));
            right = at.seated.had.right;
          })

  pub looked_then : (count : ℕ) (moves : List Move) (v w : View D) (k : ℕ) (c : Enrolled) → IsSeated count moves v.board v.seats v.work.standing
      → k < length v.seats → seat_at k v.seats ≡ Some c → StillRuns k c v.board w.board → w.seats ≡ v.seats → IsSeated count moves w.board w.seats v.work.standing
  looked_then count moves v w k c was near sits still same =
      subst (λ (xs : List (Option Enrolled)). IsSeated count moves w.board xs v.work.standing) (sym same) (looked count moves v.board w.board v.seats v.work.standing k c was near sits still)

  -- the child that was released is on the roll
  pub there_of : {J : Type 0} (letter : Letter.Ghosts J D) (v : View D) (k : ℕ) (c : Enrolled) (released : Released J) (exit : ChildExit) (kept : Option ℕ) (d e : RosterView D)
      → IsRunning v → seat_at k v.seats ≡ Some c → HasReaped letter k c released d e → exit ≡ exit_of kept released
      → kind_in exit.pid v.work.standing.children ≡ Some exit.kind
  there_of letter v k c released exit kept d e running sits has is =
      ap (λ (p : ℕ). kind_in p v.work.standing.children) (ap (λ (x : ChildExit). x.pid) is ∙ has.pid)
      ∙ (on_the_roll running.1 running.2 v.board v.seats v.work.standing k c running.3.seated sits ∙ ap Some (sym has.kind ∙ sym (ap (λ (x : ChildExit). x.kind) is)))
