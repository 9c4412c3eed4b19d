-- After the last entry.
use Rattle.std.{proofs.{Common.{◌≡◌, ◌≢◌, ℕ, suc, ◌+◌, ◌<◌, ◌≤◌, List, [], ◌∷◌, ◌++◌, refl, sym, ap, subst, ◌∙◌, length, set, get_or, map, arith, nat_eq, append-nil, append_assoc}, lemmas.{List.{get_or-set_same, get_or-set_other, get_or_past, map-append, set-get_or}, Bool.{eqb-false, eqb-true}}}, specs.{Prelude.{nat_lt, Option, Some, None}, List.AllByRecursion}}
use Rattle.pm_board.specs.{pm_facts.{Lists.each_both, Bools.by_test}, pm_supervisor.declared.Limits.Limits, pm_board_words.declared.views.{Offer.Offer, PastChild.PastChild, RosterNotes.RosterNotes, RosterStep.{RosterStep, TheVariants.Release}, RosterView.RosterView, Sight.TheVariants.Unused, SlotView.SlotView}, declared.roster.Released.Released, Places.{slot_at, slot_view}, Told.past_child}
use Rattle.pm_board.specs.pm_board_words.declared.views.Signal.TheVariants as signal
use Rattle.pm_board.specs.pm_board_words.declared.views.Letter as Letter
use Rattle.pm_supervisor_journal.specs.{declared.roll.Enrolled.Enrolled, Laws.KeepsALegalJournal, Stands.{AtWork, highest_pid}}
use Rattle.pm_board_acts.{specs.{declared.audience.Audience.TheVariants.Everyone, Board.{SeenAs, Shows, after_steps, begun_of, ended_of, seat_at, seats_of, sitting}, Final.{EndsWithNobody, IsEndingAt, KeepsEnding, MayEndAnywhere, NobodySits, seen}, Seating.{Begun, Ended, Move, Seating, begun_at, board_steps, ended_at, seating_of, sends, sends_from, with_seat}, Sitting.{HasReaped, StillRuns}, Standing.{IsAt, IsEnding, IsFinal, view}}, proofs.{Acting.same-numbers, Rolls.stood_before, Seen.as_many, Sends.{noted-steps, same-generation, same-slots, seats_kept, shows_sends}, Sitting.shows_set}}

-- who sits in these seats sits there in those too, that many seats further
abbrev StayAt : ℕ → List (Option Enrolled) → List (Option Enrolled) → Type 0
StayAt k seats among = (j : ℕ) (c : Enrolled) → seat_at j seats ≡ Some c → seat_at (j + k) among ≡ Some c

stay_next : (k : ℕ) (seat : Option Enrolled) (seats among : List (Option Enrolled)) → StayAt k (seat ∷ seats) among → StayAt (k + 1) seats among
stay_next k seat seats among stay j c sits = subst (λ (n : ℕ). seat_at n among ≡ Some c) (let same : suc j + k ≡ j + (k + 1) = omega arith in same) (stay (suc j) c sits)

-- a Kill may be sent after the last entry to who sits there
kills_final : (g k : ℕ) (seats among : List (Option Enrolled)) → StayAt k seats among → AllByRecursion (IsFinal among) (sends_from Everyone signal.Kill g k seats)
kills_final g k [] among stay = tt
kills_final g k (None ∷ seats) among stay = kills_final g (k + 1) seats among (stay_next k None seats among stay)
kills_final g k (Some c ∷ seats) among stay =
    (subst (λ (n : ℕ). seat_at n among ≡ Some c) (let same : 0 + k ≡ k = omega arith in same) (stay 0 c refl), kills_final g (k + 1) seats among (stay_next k (Some c) seats among stay))

-- ---- what is left

module _ {D : Type 0} where
  -- the children of a slot as they began
  abbrev had_in : RosterView D → ℕ → List Begun
  had_in d k = map begun_of (slot_at d k).past ++ sitting d.generation (seat_at k (seats_of d))

  abbrev EndedBehind : RosterView D → RosterView D → ℕ → Type 0
  EndedBehind d e k = (gone : List (PastChild D)) × (map ended_of (slot_at e k).past ≡ map ended_of (slot_at d k).past ++ map ended_of gone)

  -- who sits there after it sat there before
  abbrev Stays : RosterView D → RosterView D → Type 0
  Stays d e = (k : ℕ) (c : Enrolled) → seat_at k (seats_of e) ≡ Some c → seat_at k (seats_of d) ≡ Some c

  -- final, for whoever these are that sit there
  abbrev AreFinal : RosterView D → List RosterStep → Type 0
  AreFinal d more = (among : List (Option Enrolled)) → ((k : ℕ) (c : Enrolled) → seat_at k (seats_of d) ≡ Some c → seat_at k among ≡ Some c) → AllByRecursion (IsFinal among) more

  keeps_ending : (more : List RosterStep) (d e : RosterView D) → e.notes.steps ≡ d.notes.steps ++ more → AreFinal d more → Stays d e → (Shows d (seen d) → Shows e (seen e))
      → ((k : ℕ) → had_in e k ≡ had_in d k) → ((k : ℕ) → EndedBehind d e k) → e.notes.last_pid ≡ d.notes.last_pid → KeepsEnding d e
  keeps_ending more d e steps final stays shows begun ended last = record {
    ending = λ count moves was. record {
      last = was.last ++ more;
      steps = steps ∙ (ap (λ (xs : List RosterStep). xs ++ more) was.steps ∙ append_assoc (board_steps count moves) was.last more);
      final = each_both (IsFinal (seating_of count moves).seats) was.last more was.final (final (seating_of count moves).seats was.stay);
      stay = λ k c sits. was.stay k c (stays k c sits);
      shows = shows was.shows;
      begun = λ k. begun k ∙ was.begun k;
      ended = λ k.
          let p = ended k in let b = was.ended k in (
            b.0 ++ map ended_of p.0,
            p.1 ∙ (ap (λ (xs : List Ended). xs ++ map ended_of p.0) b.1 ∙ append_assoc (ended_at k moves) b.0 (map ended_of p.0)),
          );
      right = was.right;
    };
    last_pid = last;
  }

  pub same_keeps : (d e : RosterView D) → e ≡ d → KeepsEnding d e
  same_keeps d e is = record {
    ending = λ count moves was. subst (IsEndingAt count moves) (sym is) was;
    last_pid = ap (λ (x : RosterView D). x.notes.last_pid) is;
  }

  none_ended : (d e : RosterView D) (k : ℕ) → (slot_at e k).past ≡ (slot_at d k).past → EndedBehind d e k
  none_ended d e k same = ([], ap (map ended_of) same ∙ sym (append-nil (map ended_of (slot_at d k).past)))

  -- a Kill was sent to everyone
  pub killed_keeps : (d e : RosterView D) → e ≡ after_steps d (sends Everyone signal.Kill d.generation (seats_of d)) → KeepsEnding d e
  killed_keeps d e is =
      let ss : List RosterStep = sends Everyone signal.Kill d.generation (seats_of d) in
      let slots : e.slots ≡ d.slots = ap (λ (v : RosterView D). v.slots) is ∙ same-slots d ss in
      let seats : seats_of e ≡ seats_of d = seats_kept d e Everyone signal.Kill d.generation (seats_of d) is in
      let generation : e.generation ≡ d.generation = ap (λ (v : RosterView D). v.generation) is ∙ same-generation d Everyone signal.Kill d.generation (seats_of d) in
      let past : (k : ℕ) → (slot_at e k).past ≡ (slot_at d k).past = (λ k. ap (λ (xs : List (SlotView D)). (get_or xs k (slot_view [] Unused)).past) slots) in
      let same : seen e ≡ seen d = (λ i. record { seats = seats i; generation = generation i }) in
      keeps_ending ss d e (ap (λ (v : RosterView D). v.notes.steps) is ∙ noted-steps d ss) (λ among stay. kills_final d.generation 0 (seats_of d) among (λ j c sits. subst (λ (n : ℕ). seat_at n among ≡ Some c) (let same : j ≡ j + 0 = omega arith in same) (stay j c sits)))
      (λ k c sits. sym (ap (seat_at k) seats) ∙ sits)
      (λ shows. subst (Shows e) (sym same) (shows_sends d e (seen d) Everyone signal.Kill d.generation (seats_of d) shows is))
      (λ k. (λ i. map begun_of (past k i) ++ sitting (generation i) (seat_at k (seats i))))
      (λ k. none_ended d e k (past k))
      (ap (λ (v : RosterView D). v.notes.last_pid) is ∙ (same-numbers d ss).0)

  -- the child was found running
  pub running_keeps : (k : ℕ) (c : Enrolled) (d e : RosterView D) → k < length (seats_of d) → seat_at k (seats_of d) ≡ Some c → StillRuns k c d e → seats_of e ≡ seats_of d → KeepsEnding d e
  running_keeps k c d e near sits still seats =
      let generation : e.generation ≡ d.generation = ap (λ (v : RosterView D). v.generation) still.became.whole in
      let as_before : with_seat k (Some c) (seen d) ≡ seen d =
      ap (λ (x : Option Enrolled). with_seat k x (seen d)) (sym sits) ∙ ap (λ (xs : List (Option Enrolled)). record { seats = xs; generation = d.generation }) (set-get_or (seats_of d) k None) in
      let same : seen e ≡ seen d = (λ i. record { seats = seats i; generation = generation i }) in
      let past : (j : ℕ) → (slot_at e j).past ≡ (slot_at d j).past = (λ j. by_test (nat_eq j k)
      (λ is. subst (λ (i : ℕ). (slot_at e i).past ≡ (slot_at d i).past) (sym (eqb-true j k is)) (ap (λ (y : SlotView D). y.past) still.became.here))
      (λ isnt. ap (λ (y : SlotView D). y.past) (still.became.others j (eqb-false j k isnt)))) in
      keeps_ending [] d e (ap (λ (n : RosterNotes). n.steps) still.became.notes_are ∙ sym (append-nil d.notes.steps)) (λ among stay. tt) (λ k c sits. sym (ap (seat_at k) seats) ∙ sits)
      (λ shows. subst (Shows e) (as_before ∙ sym same) (shows_set d e (seen d) k _ _ (Some c) shows near still.became
      (still.sits.offer, refl, still.sits.pid, still.sits.kind, still.sits.generation)))
      (λ j. (λ i. map begun_of (past j i) ++ sitting (generation i) (seat_at j (seats i))))
      (λ j. none_ended d e j (past j))
      (ap (λ (n : RosterNotes). n.last_pid) still.became.notes_are)

  -- it was released
  pub released_keeps : {J : Type 0} (letter : Letter.Ghosts J D) (k : ℕ) (c : Enrolled) (released : Released J) (d e : RosterView D)
      → k < length (seats_of d) → seat_at k (seats_of d) ≡ Some c → HasReaped letter k c released d e → seats_of e ≡ set (seats_of d) k None → KeepsEnding d e
  released_keeps letter k c released d e near sits has seats =
      keeps_ending (Release o.pid o.kind o.generation ∷ []) d e (ap (λ (n : RosterNotes). n.steps) has.became.notes_are) (λ among stay. (tt, tt))
      (λ j x there_. stood_before k j x (seats_of d) (sym (ap (seat_at j) seats) ∙ there_))
      (λ shows. subst (Shows e) (λ i. record { seats = sym seats i; generation = sym generation i }) (shows_set d e (seen d) k _ _ None shows near has.became refl))
      (λ j. by_test (nat_eq j k)
      (λ is. subst (λ (i : ℕ). had_in e i ≡ had_in d i) (sym (eqb-true j k is)) here)
      (λ isnt. (λ i. map begun_of (there j (eqb-false j k isnt) i).past ++ sitting (generation i) (seat j (eqb-false j k isnt) i))))
      (λ j. by_test (nat_eq j k)
      (λ is. subst (EndedBehind d e) (sym (eqb-true j k is)) (gone ∷ [], ap (map ended_of) past ∙ map-append ended_of (slot_at d k).past (gone ∷ [])))
      (λ isnt. none_ended d e j (ap (λ (y : SlotView D). y.past) (there j (eqb-false j k isnt)))))
      (ap (λ (n : RosterNotes). n.last_pid) has.became.notes_are)
    where
      o : Offer D
      o = has.sits.offer

      gone : PastChild D
      gone = past_child o released.status released.was_active (letter.told released.job)

      generation : e.generation ≡ d.generation
      generation = ap (λ (v : RosterView D). v.generation) has.became.whole

      past : (slot_at e k).past ≡ (slot_at d k).past ++ gone ∷ []
      past = ap (λ (y : SlotView D). y.past) has.became.here

      there : (j : ℕ) → j ≢ k → slot_at e j ≡ slot_at d j
      there = has.became.others

      seat : (j : ℕ) → j ≢ k → seat_at j (seats_of e) ≡ seat_at j (seats_of d)
      seat j ne = ap (seat_at j) seats ∙ get_or-set_other (seats_of d) k j None None ne

      began : begun_of gone ≡ record { pid = c.pid; kind = c.kind; generation = d.generation }
      began = (λ i. record { pid = has.sits.pid i; kind = has.sits.kind i; generation = has.sits.generation i })

      here : had_in e k ≡ had_in d k
      here =
          ap (λ (y : Option Enrolled). map begun_of (slot_at e k).past ++ sitting e.generation y) (ap (seat_at k) seats ∙ get_or-set_same (seats_of d) k None None near)
          ∙ (append-nil (map begun_of (slot_at e k).past)
          ∙ (ap (map begun_of) past
          ∙ (map-append begun_of (slot_at d k).past (gone ∷ [])
          ∙ (ap (λ (b : Begun). map begun_of (slot_at d k).past ++ b ∷ []) began
          ∙ sym (ap (λ (y : Option Enrolled). map begun_of (slot_at d k).past ++ sitting d.generation y) sits)))))

  -- ---- laws

  pub may_end : KeepsALegalJournal → MayEndAnywhere D
  may_end keeps = record {
    at = λ limits count moves work d is. (
      let same : is.seated.seating ≡ seen d = (λ i. record { seats = sym is.seated.at_hand i; generation = sym is.seated.shows.generation i }) in
          subst (λ (x : Seating). IsEnding count moves d x) same (record {
            last = [];
            steps = is.seated.steps ∙ sym (append-nil (board_steps count moves));
            final = tt;
            stay = λ k c sits. subst (λ (x : Seating). seat_at k x.seats ≡ Some c) is.seated.is_that sits;
            shows = is.seated.shows;
            begun = is.seated.had.begun;
            ended = λ k. ([], is.seated.had.ended k ∙ sym (append-nil (ended_at k moves)));
            right = is.seated.had.right;
          }),
      pids limits count moves work d is,
    );
    cut_off = λ limits count moves work now d e is cut. (cut.0 limits count moves is, subst (λ (n : ℕ). n ≤ highest_pid) (sym cut.2) (pids limits count moves work d is));
  }
    where
      pids : (limits : Limits) (count : ℕ) (moves : List Move) (work : AtWork) (d : RosterView D) → IsAt limits count moves (view work d) → d.notes.last_pid ≤ highest_pid
      pids limits count moves work d is = subst (λ (n : ℕ). n ≤ highest_pid) (sym is.seated.last_pid) (keeps.pids limits _ work.standing is.past is.stands)

  -- nobody sits in any slot, also in those that the board doesn't have
  free_all : (d : RosterView D) → NobodySits d → (k : ℕ) → seat_at k (seats_of d) ≡ None
  free_all d nobody k = by_test (nat_lt k (length (seats_of d)))
      (λ low. nobody k (grind arith))
      (λ high. get_or_past (seats_of d) k None (grind arith))

  unused_of : (d : RosterView D) → Shows d (seen d) → NobodySits d → (k : ℕ) → (slot_at d k).sight ≡ Unused
  unused_of d shows nobody k = by_test (nat_lt k (length (seats_of d)))
      (λ low. subst (λ (x : Option Enrolled). SeenAs d.generation x (slot_at d k).sight) (free_all d nobody k) (shows.each k (grind arith)))
      (λ high. ap (λ (y : SlotView D). y.sight) (get_or_past d.slots k (slot_view [] Unused) (subst (λ (n : ℕ). n ≤ k) (as_many d) (grind arith))))

  alone : (count : ℕ) (moves : List Move) (d : RosterView D) → IsEndingAt count moves d → NobodySits d → (k : ℕ) → map begun_of (slot_at d k).past ≡ begun_at count k moves
  alone count moves d was nobody k =
      sym (ap (λ (y : Option Enrolled). map begun_of (slot_at d k).past ++ sitting d.generation y) (free_all d nobody k) ∙ append-nil (map begun_of (slot_at d k).past)) ∙ was.begun k

  pub ends_alone : EndsWithNobody D
  ends_alone = record {
    board = λ count moves d was nobody. record {
      last = was.last;
      steps = was.steps;
      final = was.final;
      begun = λ k. ([], tt, alone count moves d was nobody k ∙ sym (append-nil (begun_at count k moves)));
      ended = was.ended;
      right = was.right;
    };
    exact = alone;
    unused = λ count moves d was nobody k. unused_of d was.shows nobody k;
  }
