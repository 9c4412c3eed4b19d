-- The move that notes the end of a child, and the run that this is the end of.
use Rattle.std.{proofs.{Common.{◌≡◌, ◌≢◌, ◌⊎◌, inl, inr, ℕ, zero, suc, ◌<◌, Bool, true, false, cond, List, [], ◌∷◌, ◌++◌, Option, None, Some, get_or, length, map, nat_eq, refl, set, sym, ap, subst, ◌∙◌, arith}, lemmas.{Grind.flat_map-append, Option.slice_get-get_or, Bool.eq-eqb}}, specs.{Prelude.{slice_index_or, replicate}, List.{AllByRecursion, Contains, flat_map}}}
use Rattle.pm_serve_crew.{specs.{pm_state.declared.event.PmEvent.PmEvent, pm_board.{pm_board_words.declared.views.{Heard.Heard, PastChild.PastChild, RosterView.RosterView, Sight.TheVariants.Unused, SlotView.SlotView}, Heard.IsKnownAtLast, Latches.{EachHeard, HeardBy, doings_of}, Places.{slot_at, slot_view}}, pm_supervisor_chain.Chain.IsPidOf, pm_supervisor_journal.declared.roll.Enrolled.Enrolled, pm_query.declared.book.BookEntry.BookEntry, pm_session_answers.Own.{is_by, entries_by as own_entries}, pm_board_acts.{Board.{ended_of, seat_at}, Seating.{Ended, Kill, Move, Nothing, Notes, PidsEnd, PortEnds, Reads, Request, Seating, Stop, asked_by, begun_at, begun_from, empty, ended_at, ended_by, ends, entries_by, entries_from, is_seated, seating_by, seating_from}, Standing.IsBoardOf}, pm_store_shared.declared.views.Noted.Noted, pm_worker.{declared.mail.MailTold.MailTold, Runs.{IsRun, Run}}, Left.{AreLeft, IsWorked, Manner}, Pids.{AreEntriesOf, AreUsedOnce}}, proofs.{pm_board_acts.{FoldingLaws.begun-append, EndedLaws.{Among, among_behind, among_front}}, EntriesLaws.entries_of_runs, PidsLaws.{begun_pids, pid_either, pids_of_past}, CancelsLaws.each_heard}}
use Rattle.pm_serve_crew.specs.pm_state.declared.event.PmEvent.TheVariants as entry
use Rattle.pm_serve_first_crash.{specs.Causes.IsUnbroken, proofs.SendsLaws.{SitsNowhere, nowhere, pids_of_append, sat_or_began, seat_set}}

-- ---- the move

-- a move notes this entry, after these moves and before those
pub record NotedAt (s : Seating) (moves : List Move) (before : List PmEvent) (e : PmEvent) (behind : List PmEvent) : Type 0 where
  pub front : List Move
  pub slot : ℕ
  pub rest : List Move
  pub is : moves ≡ front ++ Notes e slot ∷ rest
  pub front_is : entries_from s front ≡ before
  pub rest_is : entries_from (seating_by (seating_from s front) (Notes e slot)) rest ≡ behind

abbrev is_exit : PmEvent → Bool
is_exit (entry.Exited pid kind status was_active at) = true
is_exit _ = false

abbrev HasNoExit : List PmEvent → Type 0
HasNoExit es = AllByRecursion (λ e. is_exit e ≡ false) es

head_of : PmEvent → List PmEvent → PmEvent
head_of none [] = none
head_of none (x ∷ xs) = x

tail_of : List PmEvent → List PmEvent
tail_of [] = []
tail_of (x ∷ xs) = xs

-- entries without an exit stand before it
record Peeled (es later before : List PmEvent) (e : PmEvent) (behind : List PmEvent) : Type 0 where
  pub others : List PmEvent
  pub before_is : before ≡ es ++ others
  pub later_is : later ≡ others ++ e ∷ behind

peel : (es later before : List PmEvent) (e : PmEvent) (behind : List PmEvent) → is_exit e ≡ true → HasNoExit es → es ++ later ≡ before ++ e ∷ behind → Peeled es later before e behind
unfolding head_of tail_of
peel [] later before e behind exit none is = record { others = before; before_is = refl; later_is = is }
peel (x ∷ es) later [] e behind exit none is =
    absurd (let never : true ≡ false = sym exit ∙ sym (ap is_exit (ap (head_of x) is)) ∙ none.0 in cc)
peel (x ∷ es) later (y ∷ before) e behind exit none is = grow (peel es later before e behind exit none.1 (ap tail_of is))
  where
    grow : Peeled es later before e behind → Peeled (x ∷ es) later (y ∷ before) e behind
    grow p = record {
      others = p.others;
      before_is = ap (λ (z : PmEvent). z ∷ before) (sym (ap (head_of x) is)) ∙ ap (λ (zs : List PmEvent). x ∷ zs) p.before_is;
      later_is = p.later_is;
    }

asks_no_exit : (asks : Request) (at : ℕ) (seats : List (Option Enrolled)) → HasNoExit (asked_by asks at seats)
asks_no_exit Nothing at seats = tt
asks_no_exit (Stop how) at seats = (refl, tt)
asks_no_exit (Kill pid) at seats = by (is_seated pid seats)
  where
    by : (b : Bool) → HasNoExit (cond b (entry.KillAsked pid ∷ []) [])
    by true = (refl, tt)
    by false = tt

-- it isn't of the first move
later_on : (s : Seating) (move : Move) (moves : List Move) (before : List PmEvent) (e : PmEvent) (behind : List PmEvent) (others : List PmEvent) → before ≡ entries_by s move ++ others
    → NotedAt (seating_by s move) moves others e behind → NotedAt s (move ∷ moves) before e behind
later_on s move moves before e behind others is found = record {
  front = move ∷ found.front;
  slot = found.slot;
  rest = found.rest;
  is = ap (λ (ms : List Move). move ∷ ms) found.is;
  front_is = ap (λ (es : List PmEvent). entries_by s move ++ es) found.front_is ∙ sym is;
  rest_is = found.rest_is;
}

pub noted_at : (s : Seating) (moves : List Move) (before : List PmEvent) (e : PmEvent) (behind : List PmEvent) → is_exit e ≡ true → entries_from s moves ≡ before ++ e ∷ behind
    → NotedAt s moves before e behind
unfolding head_of tail_of
noted_at s [] [] e behind exit is = absurd (let never : true ≡ false = sym exit ∙ ap is_exit (sym (ap (head_of (entry.KillAsked 0)) is)) in cc)
noted_at s [] (y ∷ before) e behind exit is = absurd (let never : ◌≡◌ {A = List PmEvent} [] (y ∷ (before ++ e ∷ behind)) = is in cc)
noted_at s (Notes x k ∷ moves) [] e behind exit is = record {
  front = [];
  slot = k;
  rest = moves;
  is = ap (λ (z : PmEvent). Notes z k ∷ moves) (ap (head_of x) is);
  front_is = refl;
  rest_is = subst (λ (z : PmEvent). entries_from (seating_by s (Notes z k)) moves ≡ behind) (ap (head_of x) is) (ap tail_of is);
}
noted_at s (Notes x k ∷ moves) (y ∷ before) e behind exit is =
    later_on s (Notes x k) moves (y ∷ before) e behind before (ap (λ (z : PmEvent). z ∷ before) (sym (ap (head_of x) is)))
    (noted_at (seating_by s (Notes x k)) moves before e behind exit (ap tail_of is))
noted_at s (Reads line asks at ∷ moves) before e behind exit is =
    let p = peel (asked_by asks at s.seats) (entries_from s moves) before e behind exit (asks_no_exit asks at s.seats) is in
    later_on s (Reads line asks at) moves before e behind p.others p.before_is (noted_at s moves p.others e behind exit p.later_is)
noted_at s (PortEnds at ∷ moves) before e behind exit is =
    let p = peel (entries_by s (PortEnds at)) (entries_from s moves) before e behind exit (refl, tt) is in
    later_on s (PortEnds at) moves before e behind p.others p.before_is (noted_at s moves p.others e behind exit p.later_is)
noted_at s (PidsEnd at ∷ moves) before e behind exit is =
    let p = peel (entries_by s (PidsEnd at)) (entries_from s moves) before e behind exit (refl, tt) is in
    later_on s (PidsEnd at) moves before e behind p.others p.before_is (noted_at s moves p.others e behind exit p.later_is)

-- ---- the run

-- the end is one of its slot's
ended_there : (end : Ended) (e : PmEvent) (slot : ℕ) (front rest : List Move) → ends e ≡ end ∷ [] → Among end (ended_at slot (front ++ Notes e slot ∷ rest))
ended_there end e slot front rest is =
    subst (Among end) (sym (flat_map-append (ended_by slot) front (Notes e slot ∷ rest)))
    (among_behind end (flat_map (ended_by slot) front) (flat_map (ended_by slot) (Notes e slot ∷ rest))
    (among_front end (ended_by slot (Notes e slot)) (flat_map (ended_by slot) rest)
    (subst (λ (b : Bool). Among end (cond b (ends e) [])) (sym (eq-eqb slot slot refl)) (subst (Among end) (sym is) (inl refl)))))

-- a slot that has had a child is one of the board's
near_by : (end : Ended) (slots : List (SlotView MailTold)) (k : ℕ) → Among end (map ended_of (slice_index_or slots k (slot_view [] Unused)).past) → k < length slots
near_by end [] k on = absurd on
near_by end (x ∷ slots) zero on = omega arith
near_by end (x ∷ slots) (suc k) on = (let near : k < length slots = near_by end slots k on in omega arith)

pid_among : (end : Ended) (past : List (PastChild MailTold)) → Among end (map ended_of past) → IsPidOf end.pid (map (λ child. child.offer.pid) past)
pid_among end [] on = absurd on
pid_among end (x ∷ past) (inl is) = inl (sym (ap (λ (y : Ended). y.pid) is))
pid_among end (x ∷ past) (inr on) = inr (pid_among end past on)

-- one of the runs, of which this holds
pub record RunOf (P : Run → Type 0) (runs : List Run) (end : Ended) : Type 0 where
  pub run : Run
  pub its : Contains runs run
  pub ended : ended_of run.child ≡ end
  pub holds : P run

run_among : (P : Run → Type 0) (runs : List Run) (end : Ended) → Among end (map ended_of (map (λ run. run.child) runs)) → AllByRecursion P runs → RunOf P runs end
run_among P [] end on all = absurd on
run_among P (run ∷ runs) end (inl is) all = record { run = run; its = (0, (let near : 0 < length (run ∷ runs) = omega arith in near), refl); ended = is; holds = all.0 }
run_among P (run ∷ runs) end (inr on) all = grow (run_among P runs end on all.1)
  where
    grow : RunOf P runs end → RunOf P (run ∷ runs) end
    grow r = record { run = r.run; its = (suc r.its.0, (let near : r.its.0 < length runs = r.its.1 in omega arith), r.its.2); ended = r.ended; holds = r.holds }

all_three : {X : Type 0} (P Q R : X → Type 0) (xs : List X) → AllByRecursion P xs → AllByRecursion Q xs → AllByRecursion R xs → AllByRecursion (λ x. P x × Q x × R x) xs
all_three P Q R [] p q r = tt
all_three P Q R (x ∷ xs) p q r = ((p.0, q.0, r.0), all_three P Q R xs p.1 q.1 r.1)

unbroken_by : (pid : ℕ) (book : List BookEntry) → IsUnbroken book → IsUnbroken (own_entries pid book)
unbroken_by pid [] all = tt
unbroken_by pid (e ∷ book) all = by (is_by pid e) (unbroken_by pid book all.1)
  where
    by : (b : Bool) → IsUnbroken (own_entries pid book) → IsUnbroken (cond b (e ∷ own_entries pid book) (own_entries pid book))
    by true rest = (all.0, rest)
    by false rest = rest

none_broke : (book : List BookEntry) (runs : List Run) → IsUnbroken book → AreEntriesOf book runs → AllByRecursion (λ run. IsUnbroken run.noted) runs
none_broke book [] all its = tt
none_broke book (run ∷ runs) all its = (subst IsUnbroken its.0 (unbroken_by run.child.offer.pid book all), none_broke book runs all its.1)

nobody_first : (n j : ℕ) (c : Enrolled) → seat_at j (replicate n None) ≡ Some c → ⊥
nobody_first zero j c is = (let none : None ≡ Some c = is in absurd cc)
nobody_first (suc n) zero c is = (let none : None ≡ Some c = is in absurd cc)
nobody_first (suc n) (suc j) c is = nobody_first n j c is

module _ (manner : Manner) (count : ℕ) (moves : List Move) (board : RosterView MailTold) (own : List Noted) (book : List BookEntry) (board_is : IsBoardOf count moves board) (left : AreLeft manner count board own book) (once : AreUsedOnce board) (unbroken : IsUnbroken book) where
  -- what is known of a run
  abbrev pub IsKnownRun : Run → Type 0
  IsKnownRun run =
      IsRun None manner.seed manner.limit manner.gives run × HeardBy (doings_of board) (IsKnownAtLast board) run.child run.heard × IsUnbroken run.noted

  module _ (end : Ended) (e : PmEvent) (is : ends e ≡ end ∷ []) (slot : ℕ) (front rest : List Move) (moves_are : moves ≡ front ++ Notes e slot ∷ rest) where
    in_past : Among end (map ended_of (slot_at board slot).past)
    in_past =
        subst (Among end) (sym (board_is.ended slot).1)
        (among_front end (ended_at slot moves) (board_is.ended slot).0 (subst (λ (ms : List Move). Among end (ended_at slot ms)) (sym moves_are) (ended_there end e slot front rest is)))

    pub near : slot < count
    near = subst (λ (n : ℕ). slot < n) left.slots (near_by end board.slots slot in_past)

    noted : List Noted
    noted = get_or left.lists slot []

    worked : IsWorked manner board slot (left.runs slot) (get_or left.lists slot [])
    worked = left.each slot (get_or left.lists slot []) (slice_get-get_or left.lists slot [] (let low : slot < count = near in omega (arith, left.all)))

    -- the run
    pub its_run : RunOf IsKnownRun (left.runs slot) end
    its_run =
        run_among IsKnownRun (left.runs slot) end (subst (λ (past : List (PastChild MailTold)). Among end (map ended_of past)) worked.children in_past)
        (all_three (IsRun None manner.seed manner.limit manner.gives) (λ run. HeardBy (doings_of board) (IsKnownAtLast board) run.child run.heard) (λ run. IsUnbroken run.noted) (left.runs slot)
        worked.each
        (each_heard (HeardBy (doings_of board) (IsKnownAtLast board)) (left.runs slot)
        (subst (λ (heard : List Heard). EachHeard (HeardBy (doings_of board) (IsKnownAtLast board)) (map (λ run. run.child) (left.runs slot)) heard) worked.heard
        (subst (λ (past : List (PastChild MailTold)). EachHeard (HeardBy (doings_of board) (IsKnownAtLast board)) past worked.notes.heard) worked.children
        (left.sent slot (slot_at board slot).past worked.notes worked.gathered))))
        (none_broke book (left.runs slot) unbroken (entries_of_runs manner count board own book left once slot near)))

    -- no child of its pid began in another slot
    alone : (j : ℕ) → j ≢ slot → IsPidOf end.pid (begun_pids (begun_from j (empty count) front)) → ⊥
    alone j other began =
        once.across j slot end.pid other
        (subst (IsPidOf end.pid) (sym (pids_of_past (slot_at board j).past ∙ ap begun_pids (board_is.begun j).2 ∙ pids_of_append (begun_at count j moves) (board_is.begun j).0))
        (pid_either end.pid (begun_pids (begun_at count j moves)) (begun_pids (board_is.begun j).0)
        (inl (subst (λ (ms : List Move). IsPidOf end.pid (begun_pids (begun_at count j ms))) (sym moves_are)
        (subst (IsPidOf end.pid) (sym (ap begun_pids (begun-append j (empty count) front (Notes e slot ∷ rest)) ∙ pids_of_append (begun_from j (empty count) front) _))
        (pid_either end.pid (begun_pids (begun_from j (empty count) front)) _ (inl began)))))))
        (pid_among end (slot_at board slot).past in_past)

    apart : (a b : ℕ) → nat_eq a b ≡ false → b ≢ a
    apart a b other is = grind (arith, other, is)

    -- after its end none of its pid sits anywhere
    pub gone : (seating_by (seating_from (empty count) front) (Notes e slot)).seats ≡ set (seating_from (empty count) front).seats slot None
        → SitsNowhere end.pid (seating_by (seating_from (empty count) front) (Notes e slot)).seats
    gone seats_are =
        subst (SitsNowhere end.pid) (sym seats_are)
        (nowhere end.pid (set (seating_from (empty count) front).seats slot None) (λ j c sits its. by j c its (seat_set slot j None (seating_from (empty count) front).seats c sits)))
      where
        by : (j : ℕ) (c : Enrolled) → c.pid ≡ end.pid
            → ((nat_eq slot j ≡ false) × (seat_at j (seating_from (empty count) front).seats ≡ Some c)) ⊎ ((nat_eq slot j ≡ true) × (None ≡ Some c)) → ⊥
        by j c its (inr new) = (let none : None ≡ Some c = new.1 in absurd cc)
        by j c its (inl same) = began (sat_or_began j end.pid (empty count) front (c, same.1, its))
          where
            began : ((x : Enrolled) × (seat_at j (empty count).seats ≡ Some x) × (x.pid ≡ end.pid)) ⊎ IsPidOf end.pid (begun_pids (begun_from j (empty count) front)) → ⊥
            began (inl first) = nobody_first count j first.0 first.1
            began (inr there) = alone j (apart slot j same.0) there
