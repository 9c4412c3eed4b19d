-- The acts at the board.
use Rattle.std.{proofs.{Common.{◌≡◌, ℕ, suc, ◌+◌, ◌^◌, ◌<◌, ◌≤◌, List, [], ◌∷◌, ◌++◌, refl, sym, ap, subst, ◌∙◌, length, map, get_or, arith, nat_eq, append-nil, length-set, Ok}, lemmas.Option.same_Some}, specs.Prelude.{Bool, true, false, if◌then◌else◌, Option, Some, None, IfSome}}
use Rattle.pm_board.{specs.{pm_facts.Bools.by_test, pm_exit.declared.child.Kind.Kind, pm_board_words.declared.views.{RosterStep.RosterStep, RosterView.RosterView, Sight.TheVariants.{Unused, Assigned}, Signal.Signal, SlotView.SlotView}, Gate.{Gate, gate_of}, Places.{SlotServes, is_auxiliary, slot_at, slot_view, used_in}, Told.after_step}, proofs.BoardLaws.no_connection}
use Rattle.pm_board.specs.pm_exit.declared.child.Kind.TheVariants as kind
use Rattle.pm_supervisor_journal.{specs.{pm_state.{declared.{action.Action.Action, event.PmEvent.PmEvent}, Journal.without_first}, declared.{act.Act.Act, roll.Enrolled.Enrolled}, Laws.GoesOnOverItsJournal, Roll.kind_in, Stands.{AtWork, Stands}, pm_outside.Added.Added, Standing.{Standing, act_for, done, entry_for, first_due, next_of, next_pid}}, proofs.{NextsLaws.{first_is, next_given}, ToldLaws.told_more}}
use Rattle.pm_supervisor_journal.specs.pm_state.declared.action.Action.TheVariants as action
use Rattle.pm_supervisor_journal.specs.pm_state.declared.event.PmEvent.TheVariants as entry
use Rattle.pm_board.specs.pm_board_words.declared.views.RosterStep.TheVariants as step
use Rattle.pm_board.specs.pm_board_words.declared.views.Signal.TheVariants as signal
use Rattle.pm_supervisor_journal.specs.declared.act.Act.TheVariants as act
use Rattle.pm_board_acts.{specs.{declared.audience.Audience.{Audience, TheVariants.{Everyone, Stoppable, Checkpointer}}, Acts.{HasLostNone, StartOnly, StartsAfresh, gate_by, gate_shown, MayDo, MayPerform, NoneIs, Performs, slot_of, steps_for}, Board.{SeenAs, after_steps, begun_of, ended_of, seat_at, seats_of, sitting}, Calls.slot_for, Seating.{Seating, Move, Notes, Begun, Ended, begins, ends, begun_at, ended_at, board_steps, begun_by, ended_by, journal_of, seating_by, steps_by, is_meant, seated, seating_of, sends, sends_from, steps_of}, Standing.{AreOnRoll, View, IsRunning, IsSeated, Goes, SeatServes, view}}, proofs.{Afresh.{afresh_acted, own_kind}, Calling.sat_down, FoldingLaws.{journal-more, seating-more, steps-more, begun-more, ended-more}, Rightly.right_none, Rolls.found_kind, Sends.{noted-steps, same-slots, same-generation, shows_same}}}

-- ---- who is there

none_on : (kind : Kind) (roll : List Enrolled) (p : ℕ) → NoneIs kind roll → kind_in p roll ≡ Some kind → ⊥
none_on kind [] p none is = (let no_ : ◌≡◌ {A = Option Kind} None (Some kind) = is in cc)
none_on kind (c ∷ cs) p none is = by_test (nat_eq c.pid p)
    (λ here. none.0 (same_Some c.kind kind (sym (ap (λ (b : Bool). if b then Some c.kind else kind_in p cs) here) ∙ is)))
    (λ there. none_on kind cs p none.1 (sym (ap (λ (b : Bool). if b then Some c.kind else kind_in p cs) there) ∙ is))

serves_slot : (count : ℕ) (kind : Kind) → is_auxiliary kind ≡ true → SlotServes count (slot_of kind) kind
serves_slot count kind.Startup aux = refl
serves_slot count kind.Checkpointer aux = refl
serves_slot count kind.Writer aux = refl
serves_slot count kind.Worker aux = absurd (let no_ : false ≡ true = aux in cc)
serves_slot count kind.Backend aux = absurd (let no_ : false ≡ true = aux in cc)
serves_slot count kind.DeadEnd aux = tt

low_slot : (kind : Kind) (n : ℕ) → 7 < n → slot_of kind < n
low_slot kind.Startup n many = omega arith
low_slot kind.Checkpointer n many = omega arith
low_slot kind.Writer n many = omega arith
low_slot kind.Worker n many = omega arith
low_slot kind.Backend n many = omega arith
low_slot kind.DeadEnd n many = omega arith

module _ {D : Type 0} where
  -- the slot of a kind of which no child is there is free
  pub free_seat : (count : ℕ) (moves : List Move) (d : RosterView D) (seats : List (Option Enrolled)) (s : Standing) (kind : Kind) → IsSeated count moves d seats s
      → is_auxiliary kind ≡ true → NoneIs kind s.children → seat_at (slot_of kind) seats ≡ None
  free_seat count moves d seats s kind was aux none =
      ap (seat_at (slot_of kind)) was.at_hand ∙ by (seat_at (slot_of kind) was.seating.seats) refl
    where
      by : (x : Option Enrolled) → seat_at (slot_of kind) was.seating.seats ≡ x → seat_at (slot_of kind) was.seating.seats ≡ None
      by None is = is
      by (Some c) is =
          let own : c.kind ≡ kind = own_kind (length was.seating.seats) kind c.kind aux (was.right (slot_of kind) c is) in
          absurd (none_on kind s.children c.pid none (was.roll.same c.pid ∙ (found_kind (slot_of kind) c was.seating.seats was.roll.apart is ∙ ap Some own)))

  unused_slot : (count : ℕ) (moves : List Move) (d : RosterView D) (seats : List (Option Enrolled)) (s : Standing) (k : ℕ) → IsSeated count moves d seats s
      → k < length seats → seat_at k seats ≡ None → (slot_at d k).sight ≡ Unused
  unused_slot count moves d seats s k was near free =
      subst (λ (x : Option Enrolled). SeenAs was.seating.generation x (slot_at d k).sight) (sym (ap (seat_at k) was.at_hand) ∙ free)
      (was.shows.each k (subst (λ (xs : List (Option Enrolled)). k < length xs) was.at_hand near))

  none_used : (slots : List (SlotView D)) → ((k : ℕ) → k < length slots → (get_or slots k (slot_view [] Unused)).sight ≡ Unused) → used_in slots ≡ 0
  none_used [] each = refl
  none_used (x ∷ slots) each =
      let here : x.sight ≡ Unused = each 0 (omega arith) in
      rw here (let rest : used_in slots ≡ 0 = none_used slots (λ k near. each (suc k) (omega arith)) in omega arith)

  -- nobody sits anywhere where nobody is on the roll
  pub nobody_sits : (count : ℕ) (moves : List Move) (d : RosterView D) (seats : List (Option Enrolled)) (s : Standing) (k : ℕ) (was : IsSeated count moves d seats s) → s.children ≡ [] → seat_at k was.seating.seats ≡ None
  nobody_sits count moves d seats s k was none = by (seat_at k was.seating.seats) refl
    where
      by : (x : Option Enrolled) → seat_at k was.seating.seats ≡ x → seat_at k was.seating.seats ≡ None
      by None is = is
      by (Some c) is = absurd (let no_ : ◌≡◌ {A = Option Kind} None (Some c.kind) = sym (ap (kind_in c.pid) none) ∙ (was.roll.same c.pid ∙ found_kind k c was.seating.seats was.roll.apart is) in cc)

  -- an act that is due may be done
  pub may_perform : (count : ℕ) (moves : List Move) (d : RosterView D) (seats : List (Option Enrolled)) (s : Standing) (a : Action) (rest : List Action) → IsSeated count moves d seats s
      → MayDo (a ∷ rest) (gate_of d) s.children → StartOnly (HasLostNone d) (a ∷ rest)
      → 7 < length seats → ((pid : ℕ) (kind : Kind) → act_for a s ≡ act.Start pid kind → pid < 2 ^ 31)
      → MayPerform (act_for a s) d seats
  may_perform count moves d seats s (action.Start kind) rest was may afresh many fits =
      let low : slot_of kind < length seats = low_slot kind (length seats) many in
      let same : length seats ≡ length d.slots = ap length was.at_hand ∙ was.shows.count in
      let last : d.notes.last_pid ≡ s.last_pid = was.last_pid in
      let small : s.last_pid + 1 < 2 ^ 31 = fits (next_pid s) kind refl in (
        may.0,
        record {
          slot = omega arith;
          unused = unused_slot count moves d seats s (slot_of kind) was low (free_seat count moves d seats s kind was may.0 may.1);
          new = omega arith;
          fits = omega arith;
          serves = serves_slot (length d.slots) kind may.0;
          forerunners = afresh.0;
          reaped = λ connects. absurd (let no_ : false ≡ true = sym (no_connection kind may.0) ∙ connects in cc);
        },
        low,
      )
  may_perform count moves d seats s (action.Quit why) rest was may afresh many fits = may.0
  may_perform count moves d seats s action.Terminate rest was may afresh many fits = tt
  may_perform count moves d seats s action.KillAll rest was may afresh many fits = tt
  may_perform count moves d seats s action.AskCheckpoint rest was may afresh many fits = tt
  may_perform count moves d seats s action.Ready rest was may afresh many fits = (
    may.0,
    λ o assigned. absurd (let no_ : Unused ≡ Assigned o = sym (unused_slot count moves d seats s 0 was (omega arith) (free_seat count moves d seats s kind.Startup was refl may.1)) ∙ assigned in cc),
  )
  may_perform count moves d seats s action.Reset rest was may afresh many fits = (
    none_used d.slots (λ k near. unused_slot count moves d seats s k was (subst (λ (n : ℕ). k < n) (sym (ap length was.at_hand ∙ was.shows.count)) near)
        (ap (seat_at k) was.at_hand ∙ nobody_sits count moves d seats s k was may.0)),
    ap (λ (n : ℕ). n + 1) (was.generation ∙ sym was.shows.generation),
  )
  may_perform count moves d seats s (action.Say line) rest was may afresh many fits = tt
  may_perform count moves d seats s (action.End how) rest was may afresh many fits = tt

  -- ---- what stays

  pub same-numbers : (d : RosterView D) (ss : List RosterStep) → ((after_steps d ss).notes.last_pid ≡ d.notes.last_pid) × ((after_steps d ss).notes.last_connection ≡ d.notes.last_connection)
  same-numbers d [] = (refl, refl)
  same-numbers d (s ∷ ss) = same-numbers (after_step d s) ss

  -- a move that tells of no child, whose steps leave slots and generation
  pub moved : (count : ℕ) (moves : List Move) (d e : RosterView D) (seats : List (Option Enrolled)) (s t : Standing) (move : Move) (ss : List RosterStep) (was : IsSeated count moves d seats s)
      → e ≡ after_steps d ss → ss ≡ steps_by was.seating move → e.generation ≡ d.generation
      → ((x : Seating) → seating_by x move ≡ x) → ((j : ℕ) (x : Seating) → begun_by j x move ≡ []) → ((j : ℕ) → ended_by j move ≡ [])
      → t.children ≡ s.children → t.last_pid ≡ s.last_pid → t.generation ≡ s.generation
      → IsSeated count (moves ++ move ∷ []) e seats t
  moved count moves d e seats s t move ss was is steps generation sits begun ended children last same =
      let slots : e.slots ≡ d.slots = ap (λ (x : RosterView D). x.slots) is ∙ same-slots d ss in record {
        seating = was.seating;
        is_that = was.is_that ∙ (sym (sits (seating_of count moves)) ∙ sym (seating-more count moves move));
        at_hand = was.at_hand;
        steps = ap (λ (x : RosterView D). x.notes.steps) is ∙ (noted-steps d ss
            ∙ (ap (λ (xs : List RosterStep). xs ++ ss) was.steps
            ∙ (ap (λ (xs : List RosterStep). board_steps count moves ++ xs) (steps ∙ ap (λ (x : Seating). steps_by x move) was.is_that)
            ∙ sym (steps-more count moves move))));
        shows = shows_same d e was.seating slots generation was.shows;
        generation = same ∙ was.generation;
        roll = subst (λ (n : ℕ). AreOnRoll t.children was.seating.seats n) (sym last) (subst (λ (cs : List Enrolled). AreOnRoll cs was.seating.seats s.last_pid) (sym children) was.roll);
        right = was.right;
        last_pid = ap (λ (x : RosterView D). x.notes.last_pid) is ∙ ((same-numbers d ss).0 ∙ (was.last_pid ∙ sym last));
        connection = subst (λ (x : RosterView D). x.notes.last_connection ≤ x.notes.last_pid) (sym is)
            (let a : (after_steps d ss).notes.last_pid ≡ d.notes.last_pid = (same-numbers d ss).0 in let b : (after_steps d ss).notes.last_connection ≡ d.notes.last_connection = (same-numbers d ss).1 in let c : d.notes.last_connection ≤ d.notes.last_pid = was.connection in omega arith);
        had = record {
          begun = λ j. ap (λ (xs : List (SlotView D)). map begun_of (get_or xs j (slot_view [] Unused)).past ++ sitting was.seating.generation (seat_at j was.seating.seats)) slots
              ∙ (was.had.begun j ∙ (sym (append-nil (begun_at count j moves))
              ∙ (ap (λ (bs : List Begun). begun_at count j moves ++ bs) (sym (begun j (seating_of count moves))) ∙ sym (begun-more count j moves move))));
          ended = λ j. ap (λ (xs : List (SlotView D)). map ended_of (get_or xs j (slot_view [] Unused)).past) slots
              ∙ (was.had.ended j ∙ (sym (append-nil (ended_at j moves))
              ∙ (ap (λ (es : List Ended). ended_at j moves ++ es) (sym (ended j)) ∙ sym (ended-more j moves move))));
          right = right_none count moves move (λ j. begun j (seating_of count moves)) was.had.right;
        };
      }

  -- an entry of no child, whose steps leave slots and generation
  pub stepped : (count : ℕ) (moves : List Move) (d e : RosterView D) (seats : List (Option Enrolled)) (s t : Standing) (k : ℕ) (noted : PmEvent) (ss : List RosterStep) (was : IsSeated count moves d seats s)
      → e ≡ after_steps d ss → ss ≡ steps_of k was.seating noted → e.generation ≡ d.generation
      → ((x : Seating) → seated k noted x ≡ x) → ((g : ℕ) → begins g noted ≡ []) → ends noted ≡ []
      → t.children ≡ s.children → t.last_pid ≡ s.last_pid → t.generation ≡ s.generation
      → IsSeated count (moves ++ Notes noted k ∷ []) e seats t
  stepped count moves d e seats s t k noted ss was is steps generation sits begun ended children last same =
      moved count moves d e seats s t (Notes noted k) ss was is (steps ∙ sym (append-nil (steps_of k was.seating noted))) generation sits
      (λ j x. none (nat_eq k j) (begins x.generation noted) (begun x.generation)) (λ j. none (nat_eq k j) (ends noted) ended) children last same
    where
      none : {A : Type 0} (b : Bool) (xs : List A) → xs ≡ [] → (if b then xs else []) ≡ []
      none true xs is = is
      none false xs is = refl

  -- a generation began
  pub reset_seated : (count : ℕ) (moves : List Move) (d e : RosterView D) (seats : List (Option Enrolled)) (s t : Standing) (k g : ℕ) (was : IsSeated count moves d seats s)
      → s.children ≡ [] → e ≡ after_step d (step.Reset g) → g ≡ s.generation + 1
      → t.children ≡ s.children → t.last_pid ≡ s.last_pid → t.generation ≡ g
      → IsSeated count (moves ++ Notes (entry.Reset g) k ∷ []) e seats t
  reset_seated count moves d e seats s t k g was nobody is number children last same =
      let slots : e.slots ≡ d.slots = ap (λ (x : RosterView D). x.slots) is in
      let free : (j : ℕ) → seat_at j was.seating.seats ≡ None = (λ j. nobody_sits count moves d seats s j was nobody) in
      let begun_same : (j h : ℕ) → sitting h (seat_at j was.seating.seats) ≡ [] = (λ j h. ap (sitting h) (free j)) in
      record {
        seating = record was.seating { generation = g };
        is_that = ap (λ (x : Seating). record x { generation = g }) was.is_that ∙ sym (seating-more count moves (Notes (entry.Reset g) k));
        at_hand = was.at_hand;
        steps = ap (λ (x : RosterView D). x.notes.steps) is ∙ (ap (λ (xs : List RosterStep). xs ++ step.Reset g ∷ []) was.steps ∙ sym (steps-more count moves (Notes (entry.Reset g) k)));
        shows = record {
          count = was.shows.count ∙ sym (ap length slots);
          few = was.shows.few;
          generation = ap (λ (x : RosterView D). x.generation) is;
          each = λ j near. subst (λ (x : Option Enrolled). SeenAs g x (slot_at e j).sight) (sym (free j))
              (ap (λ (xs : List (SlotView D)). (get_or xs j (slot_view [] Unused)).sight) slots ∙ subst (λ (x : Option Enrolled). SeenAs was.seating.generation x (slot_at d j).sight) (free j) (was.shows.each j near));
        };
        generation = same;
        roll = subst (λ (n : ℕ). AreOnRoll t.children was.seating.seats n) (sym last) (subst (λ (cs : List Enrolled). AreOnRoll cs was.seating.seats s.last_pid) (sym children) was.roll);
        right = was.right;
        last_pid = ap (λ (x : RosterView D). x.notes.last_pid) is ∙ (was.last_pid ∙ sym last);
        connection = subst (λ (x : RosterView D). x.notes.last_connection ≤ x.notes.last_pid) (sym is) was.connection;
        had = record {
          begun = λ j. ap (λ (xs : List (SlotView D)). map begun_of (get_or xs j (slot_view [] Unused)).past ++ sitting g (seat_at j was.seating.seats)) slots
              ∙ (ap (λ (bs : List Begun). map begun_of (slot_at d j).past ++ bs) (begun_same j g ∙ sym (begun_same j was.seating.generation))
              ∙ (was.had.begun j ∙ (sym (append-nil (begun_at count j moves))
              ∙ (ap (λ (bs : List Begun). begun_at count j moves ++ bs) (none (nat_eq k j)) ∙ sym (begun-more count j moves (Notes (entry.Reset g) k))))));
          ended = λ j. ap (λ (xs : List (SlotView D)). map ended_of (get_or xs j (slot_view [] Unused)).past) slots
              ∙ (was.had.ended j ∙ (sym (append-nil (ended_at j moves))
              ∙ (ap (λ (es : List Ended). ended_at j moves ++ es) (none (nat_eq k j)) ∙ sym (ended-more j moves (Notes (entry.Reset g) k)))));
          right = right_none count moves (Notes (entry.Reset g) k) (λ j. sym (none (nat_eq k j))) was.had.right;
        };
      }
    where
      none : {A : Type 0} (b : Bool) → ◌≡◌ {A = List A} [] (if b then [] else [])
      none true = refl
      none false = refl

seat_serves : (count : ℕ) (kind : Kind) → is_auxiliary kind ≡ true → SeatServes count (slot_of kind) kind
seat_serves count kind.Startup aux = refl
seat_serves count kind.Checkpointer aux = refl
seat_serves count kind.Writer aux = refl
seat_serves count kind.Worker aux = absurd (let no_ : false ≡ true = aux in cc)
seat_serves count kind.Backend aux = absurd (let no_ : false ≡ true = aux in cc)
seat_serves count kind.DeadEnd aux = absurd (let no_ : false ≡ true = aux in cc)

module _ {D : Type 0} where
  -- an act that is none for a child
  plainly : (count : ℕ) (moves : List Move) (d e : RosterView D) (seats seats' : List (Option Enrolled)) (s t : Standing) (k : ℕ) (noted : PmEvent) (ss : List RosterStep) (was : IsSeated count moves d seats s)
      → (e ≡ after_steps d ss) × (seats' ≡ seats) → ss ≡ steps_of k was.seating noted → (after_steps d ss).generation ≡ d.generation
      → ((x : Seating) → seated k noted x ≡ x) → ((g : ℕ) → begins g noted ≡ []) → ends noted ≡ []
      → t.children ≡ s.children → t.last_pid ≡ s.last_pid → t.generation ≡ s.generation
      → IsSeated count (moves ++ Notes noted k ∷ []) e seats' t
  plainly count moves d e seats seats' s t k noted ss was is steps generation sits begun ended children last same =
      subst (λ (xs : List (Option Enrolled)). IsSeated count (moves ++ Notes noted k ∷ []) e xs t) (sym is.1)
      (stepped count moves d e seats s t k noted ss was is.0 steps (ap (λ (x : RosterView D). x.generation) is.0 ∙ generation) sits begun ended children last same)

  -- an act that was done leaves who sits where as the journal has it
  pub acted_seated : (count : ℕ) (moves : List Move) (d e : RosterView D) (seats seats' : List (Option Enrolled)) (s : Standing) (ordered : Kind → D) (a : Action) (rest : List Action) (was : IsSeated count moves d seats s)
      → MayDo (a ∷ rest) (gate_of d) s.children → 7 < length seats → Performs (act_for a s) ordered d seats e seats'
      → IsSeated count (moves ++ Notes (entry_for a s) (slot_for a) ∷ []) e seats' (done a s)
  acted_seated count moves d e seats seats' s ordered (action.Start kind) rest was may many has =
      sat_down count moves d e seats seats' s (done (action.Start kind) s) (slot_of kind) (next_pid s) kind (ordered kind) (entry.Started (next_pid s) kind) was (low_slot kind (length seats) many)
      (free_seat count moves d seats s kind was may.0 may.1) has.0 (let up : s.last_pid < s.last_pid + 1 = omega arith in up) has.1
      (λ x. refl) (λ x. refl) (λ g. refl) refl refl refl refl (seat_serves (length seats) kind may.0)
  acted_seated count moves d e seats seats' s ordered (action.Quit why) rest was may many has =
      plainly count moves d e seats seats' s (done (action.Quit why) s) 0 (entry.QuitSent why) (steps_for (act.Quit why) d.generation seats) was has
      (λ i. steps_for (act.Quit why) (was.shows.generation i) (was.at_hand i)) (same-generation (after_step d (step.Quit why d.generation)) Everyone (signal.Quit why) d.generation seats) (λ x. refl) (λ g. refl) refl refl refl refl
  acted_seated count moves d e seats seats' s ordered action.Terminate rest was may many has =
      plainly count moves d e seats seats' s (done action.Terminate s) 0 entry.TerminateSent (steps_for act.Terminate d.generation seats) was has
      (λ i. steps_for act.Terminate (was.shows.generation i) (was.at_hand i)) (same-generation d Stoppable signal.Terminate d.generation seats) (λ x. refl) (λ g. refl) refl refl refl refl
  acted_seated count moves d e seats seats' s ordered action.KillAll rest was may many has =
      plainly count moves d e seats seats' s (done action.KillAll s) 0 (entry.KillSent s.called_at) (steps_for act.KillAll d.generation seats) was has
      (λ i. steps_for act.KillAll (was.shows.generation i) (was.at_hand i)) (same-generation d Everyone signal.Kill d.generation seats) (λ x. refl) (λ g. refl) refl refl refl refl
  acted_seated count moves d e seats seats' s ordered action.AskCheckpoint rest was may many has =
      plainly count moves d e seats seats' s (done action.AskCheckpoint s) 0 entry.CheckpointAsked (steps_for act.AskCheckpoint d.generation seats) was has
      (λ i. steps_for act.AskCheckpoint (was.shows.generation i) (was.at_hand i)) (same-generation d Checkpointer signal.Checkpoint d.generation seats) (λ x. refl) (λ g. refl) refl refl refl refl
  acted_seated count moves d e seats seats' s ordered action.Ready rest was may many has =
      plainly count moves d e seats seats' s (done action.Ready s) 0 (entry.Ready s.generation) (steps_for (act.Ready s.generation) d.generation seats) was has
      (ap (λ (n : ℕ). step.Ready n ∷ []) (was.shows.generation ∙ sym was.generation)) refl (λ x. refl) (λ g. refl) refl refl refl refl
  acted_seated count moves d e seats seats' s ordered action.Reset rest was may many has =
      let number : d.generation + 1 ≡ s.generation + 1 = ap (λ (n : ℕ). n + 1) (was.shows.generation ∙ sym was.generation) in
      subst (λ (xs : List (Option Enrolled)). IsSeated count (moves ++ Notes (entry.Reset (s.generation + 1)) 0 ∷ []) e xs (done action.Reset s)) (sym has.1)
      (reset_seated count moves d e seats s (done action.Reset s) 0 (s.generation + 1) was may.0 (has.0 ∙ ap (λ (n : ℕ). after_step d (step.Reset n)) number) refl refl refl refl)
  acted_seated count moves d e seats seats' s ordered (action.Say line) rest was may many has =
      plainly count moves d e seats seats' s (done (action.Say line) s) 0 (entry.Said line) [] was has refl refl (λ x. refl) (λ g. refl) refl refl refl refl
  acted_seated count moves d e seats seats' s ordered (action.End how) rest was may many has =
      plainly count moves d e seats seats' s (done (action.End how) s) 0 (entry.Ended how) [] was has refl refl (λ x. refl) (λ g. refl) refl refl refl refl

  -- ---- and the acts after it

  same-gate-from : (d : RosterView D) (who : Audience) (what : Signal) (g k : ℕ) (seats : List (Option Enrolled))
      → gate_of (after_steps d (sends_from who what g k seats)) ≡ gate_of d
  same-gate-from d who what g k [] = refl
  same-gate-from d who what g k (None ∷ seats) = same-gate-from d who what g (k + 1) seats
  same-gate-from d who what g k (Some c ∷ seats) =
      by (is_meant who c) (same-gate-from (after_step d (step.Send k c.pid c.kind what g)) who what g (k + 1) seats) (same-gate-from d who what g (k + 1) seats)
    where
      by : (b : Bool) → gate_of (after_steps (after_step d (step.Send k c.pid c.kind what g)) (sends_from who what g (k + 1) seats)) ≡ gate_of d
          → gate_of (after_steps d (sends_from who what g (k + 1) seats)) ≡ gate_of d
          → gate_of (after_steps d ((if b then step.Send k c.pid c.kind what g ∷ [] else []) ++ sends_from who what g (k + 1) seats)) ≡ gate_of d
      by true sent unsent = sent
      by false sent unsent = unsent

  pub same-gate : (d : RosterView D) (who : Audience) (what : Signal) (g : ℕ) (seats : List (Option Enrolled)) → gate_of (after_steps d (sends who what g seats)) ≡ gate_of d
  same-gate d who what g seats = same-gate-from d who what g 0 seats

  pub acted_may : (d e : RosterView D) (seats seats' : List (Option Enrolled)) (s : Standing) (ordered : Kind → D) (a : Action) (rest : List Action)
      → MayDo (a ∷ rest) (gate_of d) s.children → Performs (act_for a s) ordered d seats e seats' → MayDo rest (gate_of e) (done a s).children
  acted_may d e seats seats' s ordered (action.Start kind) rest may has =
      subst (λ (g : Gate). MayDo rest g (record { pid = next_pid s; kind = kind } ∷ s.children)) (sym (ap gate_of has.0.2.whole)) (may.2 (next_pid s))
  acted_may d e seats seats' s ordered (action.Quit why) rest may has =
      subst (λ (g : Gate). MayDo rest g s.children) (sym (ap gate_of has.0 ∙ same-gate (after_step d (step.Quit why d.generation)) Everyone (signal.Quit why) d.generation seats)) may.1
  acted_may d e seats seats' s ordered action.Terminate rest may has = subst (λ (g : Gate). MayDo rest g s.children) (sym (ap gate_of has.0 ∙ same-gate d Stoppable signal.Terminate d.generation seats)) may
  acted_may d e seats seats' s ordered action.KillAll rest may has = subst (λ (g : Gate). MayDo rest g s.children) (sym (ap gate_of has.0 ∙ same-gate d Everyone signal.Kill d.generation seats)) may
  acted_may d e seats seats' s ordered action.AskCheckpoint rest may has = subst (λ (g : Gate). MayDo rest g s.children) (sym (ap gate_of has.0 ∙ same-gate d Checkpointer signal.Checkpoint d.generation seats)) may
  acted_may d e seats seats' s ordered action.Ready rest may has = subst (λ (g : Gate). MayDo rest g s.children) (sym (ap gate_of has.0)) may.2
  acted_may d e seats seats' s ordered action.Reset rest may has = subst (λ (g : Gate). MayDo rest g s.children) (sym (ap gate_of has.0)) may.1
  acted_may d e seats seats' s ordered (action.Say line) rest may has = subst (λ (g : Gate). MayDo rest g s.children) (sym (ap gate_of has.0)) may
  acted_may d e seats seats' s ordered (action.End how) rest may has = subst (λ (g : Gate). MayDo rest g s.children) (sym (ap gate_of has.0)) may

module _ {D : Type 0} where
  -- what was due leaves the same of the gate, with one act done
  pub acted_gate : (d e : RosterView D) (seats seats' : List (Option Enrolled)) (s : Standing) (ordered : Kind → D) (a : Action) (rest : List Action)
      → Performs (act_for a s) ordered d seats e seats' → gate_by rest (gate_of e) ≡ gate_by (a ∷ rest) (gate_of d)
  acted_gate d e seats seats' s ordered (action.Start kind) rest has = ap (gate_by rest) (ap gate_of has.0.2.whole)
  acted_gate d e seats seats' s ordered (action.Quit why) rest has = ap (gate_by rest) (ap gate_of has.0 ∙ same-gate (after_step d (step.Quit why d.generation)) Everyone (signal.Quit why) d.generation seats)
  acted_gate d e seats seats' s ordered action.Terminate rest has = ap (gate_by rest) (ap gate_of has.0 ∙ same-gate d Stoppable signal.Terminate d.generation seats)
  acted_gate d e seats seats' s ordered action.KillAll rest has = ap (gate_by rest) (ap gate_of has.0 ∙ same-gate d Everyone signal.Kill d.generation seats)
  acted_gate d e seats seats' s ordered action.AskCheckpoint rest has = ap (gate_by rest) (ap gate_of has.0 ∙ same-gate d Checkpointer signal.Checkpoint d.generation seats)
  acted_gate d e seats seats' s ordered action.Ready rest has = ap (gate_by rest) (ap gate_of has.0)
  acted_gate d e seats seats' s ordered action.Reset rest has = ap (gate_by rest) (ap gate_of has.0)
  acted_gate d e seats seats' s ordered (action.Say line) rest has = ap (gate_by rest) (ap gate_of has.0)
  acted_gate d e seats seats' s ordered (action.End how) rest has = ap (gate_by rest) (ap gate_of has.0)

module _ {D : Type 0} where
  -- there are as many seats
  same-count : (d e : RosterView D) (seats seats' : List (Option Enrolled)) (s : Standing) (ordered : Kind → D) (a : Action) → Performs (act_for a s) ordered d seats e seats' → length seats' ≡ length seats
  same-count d e seats seats' s ordered (action.Start kind) has = ap length has.1 ∙ length-set seats (slot_of kind) (Some (record { pid = next_pid s; kind = kind }))
  same-count d e seats seats' s ordered (action.Quit why) has = ap length has.1
  same-count d e seats seats' s ordered action.Terminate has = ap length has.1
  same-count d e seats seats' s ordered action.KillAll has = ap length has.1
  same-count d e seats seats' s ordered action.AskCheckpoint has = ap length has.1
  same-count d e seats seats' s ordered action.Ready has = ap length has.1
  same-count d e seats seats' s ordered action.Reset has = ap length has.1
  same-count d e seats seats' s ordered (action.Say line) has = ap length has.1
  same-count d e seats seats' s ordered (action.End how) has = ap length has.1

module _ {D : Type 0} where
  -- the first act that was due was noted and done
  pub acted : GoesOnOverItsJournal → (v w : View D) (ordered : Kind → D) (a : Action) → first_due v.work.standing.due ≡ Some a
      → w.work.standing ≡ done a v.work.standing → Added (entry_for a v.work.standing ∷ []) v.work.told w.work.told
      → Performs (act_for a v.work.standing) ordered v.board v.seats w.board w.seats
      → Goes (Notes (entry_for a v.work.standing) (slot_for a) ∷ []) v w
  acted work v w ordered a first after adds has limits count earlier at =
      let s : Standing = v.work.standing in
      let e : PmEvent = entry_for a s in
      let may' : MayDo (a ∷ without_first s.due) (gate_of v.board) s.children = subst (λ (due : List Action). MayDo due (gate_of v.board) s.children) (first_is s.due a first) at.may in
      record {
        past = at.past;
        stands = subst (λ (x : Standing). Stands limits (Some (journal_of count (earlier ++ Notes e (slot_for a) ∷ []))) x at.past) (sym after)
            (subst (λ (es : List PmEvent). Stands limits (Some es) (done a s) at.past) (sym (journal-more count earlier (Notes e (slot_for a))))
            (work.acts limits (journal_of count earlier) s at.past a at.stands first));
        gate = subst (λ (x : Standing). gate_by x.due (gate_of w.board) ≡ gate_shown at.past.now.shared) (sym after)
            (acted_gate v.board w.board v.seats w.seats s ordered a (without_first s.due) has
            ∙ (sym (ap (λ (due : List Action). gate_by due (gate_of v.board)) (first_is s.due a first)) ∙ at.gate));
        told = subst (λ (es : List PmEvent). IfSome w.work.told (λ xs. xs ≡ es)) (sym (journal-more count earlier (Notes e (slot_for a)))) (told_more v.work.told w.work.told (journal_of count earlier) (e ∷ []) at.told adds);
        seated = subst (λ (x : Standing). IsSeated count (earlier ++ Notes e (slot_for a) ∷ []) w.board w.seats x) (sym after)
            (acted_seated count earlier v.board w.board v.seats w.seats s ordered a (without_first s.due) at.seated may' at.many has);
        may = subst (λ (x : Standing). MayDo x.due (gate_of w.board) x.children) (sym after) (acted_may v.board w.board v.seats w.seats s ordered a (without_first s.due) may' has);
        many = subst (λ (n : ℕ). 7 < n) (sym (same-count v.board w.board v.seats w.seats s ordered a has)) at.many;
        afresh = subst (λ (x : Standing). StartsAfresh w.board x.due x.machine) (sym after)
            (afresh_acted v.board w.board v.seats w.seats s ordered a (without_first s.due) has
            (subst (λ (due : List Action). StartsAfresh v.board due s.machine) (first_is s.due a first) at.afresh));
      }

  -- and before that it might be done
  pub may_next : (work : AtWork) (d : RosterView D) (given : Act) → IsRunning (view work d) → (next_of work.standing).answer ≡ Ok (Some given) → ((pid : ℕ) (kind : Kind) → given ≡ act.Start pid kind → pid < 2 ^ 31)
      → MayPerform given d (seats_of d)
  may_next work d given run answer pids =
      let s : Standing = work.standing in
      let next = next_given s given answer in
      let due : s.due ≡ next.0 ∷ without_first s.due = first_is s.due next.0 next.1.first in
      subst (λ (a : Act). MayPerform a d (seats_of d)) (sym next.1.act_is)
      (may_perform run.1 run.2 d (seats_of d) s next.0 (without_first s.due) run.3.seated
      (subst (λ (acts : List Action). MayDo acts (gate_of d) s.children) due run.3.may)
      (subst (λ (acts : List Action). StartOnly (HasLostNone d) acts) due run.3.afresh.due) run.3.many
      (λ pid kind is. pids pid kind (next.1.act_is ∙ is)))
