-- Which signals the moves of a supervisor send to a child, and whom they reach.
use Rattle.std.{proofs.{Common.{◌≡◌, ◌≢◌, ◌⊎◌, inl, inr, ℕ, zero, suc, ◌+◌, ◌<◌, Bool, true, false, cond, List, [], ◌∷◌, ◌++◌, Option, None, Some, length, refl, sym, ap, subst, ◌∙◌, arith, set}, lemmas.Bool.ne_eqb}, specs.{Prelude.{IfSome, nat_eq, ◌&&◌}, List.{AllByRecursion, flat_map}}}
use Rattle.pm_serve_crew.{specs.{pm_facts.Lists.{each_both, each_first, each_second}, pm_exit.declared.child.Kind.Kind, pm_supervisor.{declared.Reason.Reason, Steps.kind_for}, pm_state.declared.event.PmEvent.PmEvent, pm_board.{pm_board_words.{declared.views.{RosterStep.RosterStep, Signal.Signal}, Latch.signal_number, Words.bit}, Gate.{Gate, gate_after, gate_of_steps}, Latches.{NotReleased, times_sent}}, pm_supervisor_chain.Chain.IsPidOf, pm_supervisor_journal.declared.roll.Enrolled.Enrolled, pm_board_acts.{declared.audience.Audience.{Audience, TheVariants.{Everyone, Stoppable, Checkpointer, One}}, Board.seat_at, Seating.{Move, Notes, PidsEnd, PortEnds, Reads, Seating, begun_by, begun_from, child, entries_by, entries_from, is_meant, seated, seating_by, seating_from, with_seat, Begun, sends_from, slot_in, steps_by, steps_from, steps_of}, Standing.IsFinal}}, proofs.{pm_board.BoardLaws.sent-append, PidsLaws.{begun_pids, pid_either, pids_append, pids_by, pids_in}}}
use Rattle.pm_serve_crew.specs.pm_state.declared.event.PmEvent.TheVariants as entry
use Rattle.pm_serve_crew.specs.pm_board.pm_board_words.declared.views.RosterStep.TheVariants as step
use Rattle.pm_serve_crew.specs.pm_board.pm_board_words.declared.views.Signal.TheVariants as signal
use Rattle.pm_supervisor_crashes.specs.Crashes.{IsHarmless}

-- ---- how often

add_none : (a b : ℕ) → a ≡ 0 → b ≡ 0 → a + b ≡ 0
add_none a b one two = omega (arith, one, two)

none_append : (n pid : ℕ) (xs ys : List RosterStep) → times_sent n pid xs ≡ 0 → times_sent n pid ys ≡ 0 → times_sent n pid (xs ++ ys) ≡ 0
none_append n pid xs ys one two = sent-append n pid xs ys ∙ add_none (times_sent n pid xs) (times_sent n pid ys) one two

-- ---- by the signal

-- such an entry sends the signal of this number
abbrev pub may_send : ℕ → PmEvent → Bool
may_send n (entry.QuitSent why) = nat_eq (signal_number (signal.Quit why)) n
may_send n entry.TerminateSent = nat_eq 2 n
may_send n (entry.KillSent at) = nat_eq 3 n
may_send n (entry.KillAsked pid) = nat_eq 3 n
may_send n entry.CheckpointAsked = nat_eq 4 n
may_send n _ = false

other_signal : (b : Bool) (a n : ℕ) → nat_eq a n ≡ false → bit (b && nat_eq a n) ≡ 0
other_signal true a n other = ap bit other
other_signal false a n other = refl

sends_other_signal : (n pid : ℕ) (who : Audience) (what : Signal) (g k : ℕ) (seats : List (Option Enrolled)) → nat_eq (signal_number what) n ≡ false
    → times_sent n pid (sends_from who what g k seats) ≡ 0
sends_other_signal n pid who what g k [] other = refl
sends_other_signal n pid who what g k (None ∷ seats) other = sends_other_signal n pid who what g (k + 1) seats other
sends_other_signal n pid who what g k (Some c ∷ seats) other = by (is_meant who c) (sends_other_signal n pid who what g (k + 1) seats other)
  where
    by : (b : Bool) → times_sent n pid (sends_from who what g (k + 1) seats) ≡ 0
        → times_sent n pid (cond b (step.Send k c.pid c.kind what g ∷ []) [] ++ sends_from who what g (k + 1) seats) ≡ 0
    by false rest = rest
    by true rest = add_none _ _ (other_signal (nat_eq c.pid pid) (signal_number what) n other) rest

entry_other_signal : (n pid k : ℕ) (s : Seating) (e : PmEvent) → may_send n e ≡ false → times_sent n pid (steps_of k s e) ≡ 0
entry_other_signal n pid k s (entry.QuitSent why) other = add_none 0 _ refl (sends_other_signal n pid Everyone (signal.Quit why) s.generation 0 s.seats other)
entry_other_signal n pid k s entry.TerminateSent other = sends_other_signal n pid Stoppable signal.Terminate s.generation 0 s.seats other
entry_other_signal n pid k s (entry.KillSent at) other = sends_other_signal n pid Everyone signal.Kill s.generation 0 s.seats other
entry_other_signal n pid k s (entry.KillAsked who) other = sends_other_signal n pid (One who) signal.Kill s.generation 0 s.seats other
entry_other_signal n pid k s entry.CheckpointAsked other = sends_other_signal n pid Checkpointer signal.Checkpoint s.generation 0 s.seats other
entry_other_signal n pid k s _ other = refl

entries_other_signal : (n pid k : ℕ) (s : Seating) (es : List PmEvent) → AllByRecursion (λ e. may_send n e ≡ false) es → times_sent n pid (flat_map (steps_of k s) es) ≡ 0
entries_other_signal n pid k s [] others = refl
entries_other_signal n pid k s (e ∷ es) others =
    none_append n pid (steps_of k s e) (flat_map (steps_of k s) es) (entry_other_signal n pid k s e others.0) (entries_other_signal n pid k s es others.1)

-- moves whose entries don't send it
pub unsent : (n pid : ℕ) (s : Seating) (moves : List Move) → AllByRecursion (λ e. may_send n e ≡ false) (entries_from s moves) → times_sent n pid (steps_from s moves) ≡ 0
unsent n pid s [] others = refl
unsent n pid s (move ∷ moves) others =
    none_append n pid (steps_by s move) (steps_from (seating_by s move) moves)
    (entries_other_signal n pid (slot_in move) s (entries_by s move) (each_first (λ e. may_send n e ≡ false) (entries_by s move) (entries_from (seating_by s move) moves) others))
    (unsent n pid (seating_by s move) moves (each_second (λ e. may_send n e ≡ false) (entries_by s move) (entries_from (seating_by s move) moves) others))

-- ---- by the child

-- nobody of this pid sits anywhere
abbrev pub SitsNowhere : ℕ → List (Option Enrolled) → Type 0
SitsNowhere pid seats = AllByRecursion (λ seat. IfSome seat (λ c. c.pid ≢ pid)) seats

sends_other_child : (n pid : ℕ) (who : Audience) (what : Signal) (g k : ℕ) (seats : List (Option Enrolled)) → SitsNowhere pid seats
    → times_sent n pid (sends_from who what g k seats) ≡ 0
sends_other_child n pid who what g k [] none = refl
sends_other_child n pid who what g k (None ∷ seats) none = sends_other_child n pid who what g (k + 1) seats none.1
sends_other_child n pid who what g k (Some c ∷ seats) none = by (is_meant who c) (sends_other_child n pid who what g (k + 1) seats none.1)
  where
    by : (b : Bool) → times_sent n pid (sends_from who what g (k + 1) seats) ≡ 0
        → times_sent n pid (cond b (step.Send k c.pid c.kind what g ∷ []) [] ++ sends_from who what g (k + 1) seats) ≡ 0
    by false rest = rest
    by true rest = add_none _ _ (ap (λ (b : Bool). bit (b && nat_eq (signal_number what) n)) (ne_eqb c.pid pid none.0)) rest

entry_other_child : (n pid k : ℕ) (s : Seating) (e : PmEvent) → SitsNowhere pid s.seats → times_sent n pid (steps_of k s e) ≡ 0
entry_other_child n pid k s (entry.QuitSent why) none = add_none 0 _ refl (sends_other_child n pid Everyone (signal.Quit why) s.generation 0 s.seats none)
entry_other_child n pid k s entry.TerminateSent none = sends_other_child n pid Stoppable signal.Terminate s.generation 0 s.seats none
entry_other_child n pid k s (entry.KillSent at) none = sends_other_child n pid Everyone signal.Kill s.generation 0 s.seats none
entry_other_child n pid k s (entry.KillAsked who) none = sends_other_child n pid (One who) signal.Kill s.generation 0 s.seats none
entry_other_child n pid k s entry.CheckpointAsked none = sends_other_child n pid Checkpointer signal.Checkpoint s.generation 0 s.seats none
entry_other_child n pid k s _ none = refl

entries_other_child : (n pid k : ℕ) (s : Seating) (es : List PmEvent) → SitsNowhere pid s.seats → times_sent n pid (flat_map (steps_of k s) es) ≡ 0
entries_other_child n pid k s [] none = refl
entries_other_child n pid k s (e ∷ es) none =
    none_append n pid (steps_of k s e) (flat_map (steps_of k s) es) (entry_other_child n pid k s e none) (entries_other_child n pid k s es none)

nowhere_set : (pid k : ℕ) (seat : Option Enrolled) (seats : List (Option Enrolled)) → IfSome seat (λ c. c.pid ≢ pid) → SitsNowhere pid seats → SitsNowhere pid (set seats k seat)
nowhere_set pid k seat [] here none = tt
nowhere_set pid zero seat (x ∷ seats) here none = (here, none.1)
nowhere_set pid (suc k) seat (x ∷ seats) here none = (none.0, nowhere_set pid k seat seats here none.1)

-- unless it begins
nowhere_behind : (pid k : ℕ) (e : PmEvent) (s : Seating) → (IsPidOf pid (pids_by e) → ⊥) → SitsNowhere pid s.seats → SitsNowhere pid (seated k e s).seats
nowhere_behind pid k (entry.Started who kind) s fresh none = nowhere_set pid k (Some (child who kind)) s.seats (λ is. fresh (inl (sym is))) none
nowhere_behind pid k (entry.Accepted who decision) s fresh none = nowhere_set pid k (Some (child who (kind_for decision))) s.seats (λ is. fresh (inl (sym is))) none
nowhere_behind pid k (entry.Exited who kind status was_active at) s fresh none = nowhere_set pid k None s.seats tt none
nowhere_behind pid k _ s fresh none = none

nowhere_by : (pid : ℕ) (s : Seating) (move : Move) → (IsPidOf pid (pids_in (entries_by s move)) → ⊥) → SitsNowhere pid s.seats → SitsNowhere pid (seating_by s move).seats
nowhere_by pid s (Notes e k) fresh none = nowhere_behind pid k e s (λ its. fresh (pid_either pid (pids_by e) [] (inl its))) none
nowhere_by pid s (Reads line asks at) fresh none = none
nowhere_by pid s (PortEnds at) fresh none = none
nowhere_by pid s (PidsEnd at) fresh none = none

-- moves that begin no child of this pid, where none sits
pub unreached : (n pid : ℕ) (s : Seating) (moves : List Move) → (IsPidOf pid (pids_in (entries_from s moves)) → ⊥) → SitsNowhere pid s.seats → times_sent n pid (steps_from s moves) ≡ 0
unreached n pid s [] fresh none = refl
unreached n pid s (move ∷ moves) fresh none =
    let fresh_all = (λ (its : IsPidOf pid (pids_in (entries_by s move) ++ pids_in (entries_from (seating_by s move) moves))).
    fresh (subst (IsPidOf pid) (sym (pids_append (entries_by s move) (entries_from (seating_by s move) moves))) its)) in
    none_append n pid (steps_by s move) (steps_from (seating_by s move) moves) (entries_other_child n pid (slot_in move) s (entries_by s move) none)
    (unreached n pid (seating_by s move) moves
    (λ its. fresh_all (pid_either pid (pids_in (entries_by s move)) (pids_in (entries_from (seating_by s move) moves)) (inr its)))
    (nowhere_by pid s move (λ its. fresh_all (pid_either pid (pids_in (entries_by s move)) (pids_in (entries_from (seating_by s move) moves)) (inl its))) none))

-- so none sits there after them either
pub nowhere_from : (pid : ℕ) (s : Seating) (moves : List Move) → (IsPidOf pid (pids_in (entries_from s moves)) → ⊥) → SitsNowhere pid s.seats → SitsNowhere pid (seating_from s moves).seats
nowhere_from pid s [] fresh none = none
nowhere_from pid s (move ∷ moves) fresh none =
    let fresh_all = (λ (its : IsPidOf pid (pids_in (entries_by s move) ++ pids_in (entries_from (seating_by s move) moves))).
    fresh (subst (IsPidOf pid) (sym (pids_append (entries_by s move) (entries_from (seating_by s move) moves))) its)) in
    nowhere_from pid (seating_by s move) moves
    (λ its. fresh_all (pid_either pid (pids_in (entries_by s move)) (pids_in (entries_from (seating_by s move) moves)) (inr its)))
    (nowhere_by pid s move (λ its. fresh_all (pid_either pid (pids_in (entries_by s move)) (pids_in (entries_from (seating_by s move) moves)) (inl its))) none)

-- ---- after the last entry

not_sitting : (pid k : ℕ) (c : Enrolled) (seats : List (Option Enrolled)) → SitsNowhere pid seats → seat_at k seats ≡ Some c → c.pid ≢ pid
not_sitting pid k c [] none sits = (let never : None ≡ Some c = sits in absurd cc)
not_sitting pid zero c (x ∷ seats) none sits = subst (λ (seat : Option Enrolled). IfSome seat (λ y. y.pid ≢ pid)) sits none.0
not_sitting pid (suc k) c (x ∷ seats) none sits = not_sitting pid k c seats none.1 sits

-- nothing is sent to who doesn't sit there
pub final_sends : (n pid : ℕ) (seats : List (Option Enrolled)) (last : List RosterStep) → SitsNowhere pid seats → AllByRecursion (IsFinal seats) last → times_sent n pid last ≡ 0
final_sends n pid seats [] none final = refl
final_sends n pid seats (step.Send k who kind signal.Kill g ∷ last) none final =
    add_none _ _ (ap (λ (b : Bool). bit (b && nat_eq 3 n)) (ne_eqb who pid (not_sitting pid k (child who kind) seats none final.0))) (final_sends n pid seats last none final.1)
final_sends n pid seats (step.Send k who kind signal.Terminate g ∷ last) none final = absurd final.0
final_sends n pid seats (step.Send k who kind signal.Checkpoint g ∷ last) none final = absurd final.0
final_sends n pid seats (step.Send k who kind (signal.Quit why) g ∷ last) none final = absurd final.0
final_sends n pid seats (step.Release who kind g ∷ last) none final = add_none 0 _ refl (final_sends n pid seats last none final.1)
final_sends n pid seats (step.Assign k who kind g ∷ last) none final = add_none 0 _ refl (final_sends n pid seats last none final.1)
final_sends n pid seats (step.Quit why g ∷ last) none final = absurd final.0
final_sends n pid seats (step.Ready g ∷ last) none final = absurd final.0
final_sends n pid seats (step.Reset g ∷ last) none final = absurd final.0

-- ---- where a child sits

pub seat_set : (k j : ℕ) (seat : Option Enrolled) (seats : List (Option Enrolled)) (c : Enrolled) → seat_at j (set seats k seat) ≡ Some c
    → ((nat_eq k j ≡ false) × (seat_at j seats ≡ Some c)) ⊎ ((nat_eq k j ≡ true) × (seat ≡ Some c))
seat_set k j seat [] c is = absurd (let none : None ≡ Some c = is in cc)
seat_set zero zero seat (x ∷ seats) c is = inr (refl, is)
seat_set zero (suc j) seat (x ∷ seats) c is = inl ((let e : nat_eq 0 (suc j) ≡ false = grind arith in e), is)
seat_set (suc k) zero seat (x ∷ seats) c is = inl ((let e : nat_eq (suc k) 0 ≡ false = grind arith in e), is)
seat_set (suc k) (suc j) seat (x ∷ seats) c is = by (seat_set k j seat seats c is)
  where
    by : ((nat_eq k j ≡ false) × (seat_at j seats ≡ Some c)) ⊎ ((nat_eq k j ≡ true) × (seat ≡ Some c))
        → ((nat_eq (suc k) (suc j) ≡ false) × (seat_at j seats ≡ Some c)) ⊎ ((nat_eq (suc k) (suc j) ≡ true) × (seat ≡ Some c))
    by (inl same) = inl ((let e : nat_eq k j ≡ false = same.0 in grind (arith, e)), same.1)
    by (inr new) = inr ((let e : nat_eq k j ≡ true = new.0 in grind (arith, e)), new.1)

pub pids_of_append : (xs ys : List Begun) → begun_pids (xs ++ ys) ≡ begun_pids xs ++ begun_pids ys
pids_of_append [] ys = refl
pids_of_append (x ∷ xs) ys = ap (λ (ps : List ℕ). x.pid ∷ ps) (pids_of_append xs ys)

module _ (j pid : ℕ) where
  abbrev Sits : Seating → Type 0
  Sits s = (c : Enrolled) × (seat_at j s.seats ≡ Some c) × (c.pid ≡ pid)

  -- where a child sits down
  sat_down : (k who : ℕ) (kind : Kind) (s : Seating) → Sits (with_seat k (Some (child who kind)) s) → Sits s ⊎ IsPidOf pid (begun_pids (cond (nat_eq k j) (record { pid = who; kind = kind; generation = s.generation } ∷ []) []))
  sat_down k who kind s (c, is, its) = by (seat_set k j (Some (child who kind)) s.seats c is)
    where
      by : ((nat_eq k j ≡ false) × (seat_at j s.seats ≡ Some c)) ⊎ ((nat_eq k j ≡ true) × (Some (child who kind) ≡ Some c))
          → Sits s ⊎ IsPidOf pid (begun_pids (cond (nat_eq k j) (record { pid = who; kind = kind; generation = s.generation } ∷ []) []))
      by (inl same) = inl (c, same.1, its)
      by (inr new) =
          inr (subst (λ (b : Bool). IsPidOf pid (begun_pids (cond b (record { pid = who; kind = kind; generation = s.generation } ∷ []) []))) (sym new.0)
          (inl (sym its ∙ ap (λ (o : Option Enrolled). pid_in o) (sym new.1))))
        where
          pid_in : Option Enrolled → ℕ
          pid_in None = 0
          pid_in (Some x) = x.pid

  stood_up : (k : ℕ) (s : Seating) → Sits (with_seat k None s) → Sits s
  stood_up k s (c, is, its) = by (seat_set k j None s.seats c is)
    where
      by : ((nat_eq k j ≡ false) × (seat_at j s.seats ≡ Some c)) ⊎ ((nat_eq k j ≡ true) × (None ≡ Some c)) → Sits s
      by (inl same) = (c, same.1, its)
      by (inr new) = absurd (let none : None ≡ Some c = new.1 in cc)

  one_move : (s : Seating) (move : Move) → Sits (seating_by s move) → Sits s ⊎ IsPidOf pid (begun_pids (begun_by j s move))
  one_move s (Notes (entry.Started who kind) k) sits = sat_down k who kind s sits
  one_move s (Notes (entry.Accepted who decision) k) sits = sat_down k who (kind_for decision) s sits
  one_move s (Notes (entry.Exited who kind status was_active at) k) sits = inl (stood_up k s sits)
  one_move s (Notes (entry.QuitSent why) k) sits = inl sits
  one_move s (Notes entry.TerminateSent k) sits = inl sits
  one_move s (Notes (entry.KillSent at) k) sits = inl sits
  one_move s (Notes (entry.KillAsked who) k) sits = inl sits
  one_move s (Notes entry.CheckpointAsked k) sits = inl sits
  one_move s (Notes (entry.Asked mode at) k) sits = inl sits
  one_move s (Notes (entry.RedoEnded generation kept) k) sits = inl sits
  one_move s (Notes (entry.Ready generation) k) sits = inl sits
  one_move s (Notes (entry.Reset generation) k) sits = inl sits
  one_move s (Notes (entry.Said line) k) sits = inl sits
  one_move s (Notes (entry.Ended how) k) sits = inl sits
  one_move s (Reads line asks at) sits = inl sits
  one_move s (PortEnds at) sits = inl sits
  one_move s (PidsEnd at) sits = inl sits

  pub sat_or_began : (s : Seating) (moves : List Move) → Sits (seating_from s moves) → Sits s ⊎ IsPidOf pid (begun_pids (begun_from j s moves))
  sat_or_began s [] sits = inl sits
  sat_or_began s (move ∷ moves) sits = by (sat_or_began (seating_by s move) moves sits)
    where
      add : {A : Type 0} → A ⊎ IsPidOf pid (begun_pids (begun_by j s move) ++ begun_pids (begun_from j (seating_by s move) moves))
          → A ⊎ IsPidOf pid (begun_pids (begun_by j s move ++ begun_from j (seating_by s move) moves))
      add (inl a) = inl a
      add (inr its) = inr (subst (IsPidOf pid) (sym (pids_of_append (begun_by j s move) (begun_from j (seating_by s move) moves))) its)

      first : Sits s ⊎ IsPidOf pid (begun_pids (begun_by j s move)) → Sits s ⊎ IsPidOf pid (begun_pids (begun_by j s move) ++ begun_pids (begun_from j (seating_by s move) moves))
      first (inl sat) = inl sat
      first (inr its) = inr (pid_either pid (begun_pids (begun_by j s move)) (begun_pids (begun_from j (seating_by s move) moves)) (inl its))

      by : Sits (seating_by s move) ⊎ IsPidOf pid (begun_pids (begun_from j (seating_by s move) moves)) → Sits s ⊎ IsPidOf pid (begun_pids (begun_by j s move ++ begun_from j (seating_by s move) moves))
      by (inl sat) = add (first (one_move s move sat))
      by (inr its) = add (inr (pid_either pid (begun_pids (begun_by j s move)) (begun_pids (begun_from j (seating_by s move) moves)) (inr its)))

-- none of this pid sits in any slot
pub nowhere : (pid : ℕ) (seats : List (Option Enrolled)) → ((j : ℕ) (c : Enrolled) → seat_at j seats ≡ Some c → c.pid ≡ pid → ⊥) → SitsNowhere pid seats
nowhere pid [] none = tt
nowhere pid (None ∷ seats) none = (tt, nowhere pid seats (λ j. none (suc j)))
nowhere pid (Some c ∷ seats) none = (none 0 c refl, nowhere pid seats (λ j. none (suc j)))

-- ---- notices

abbrev is_notice : RosterStep → Bool
is_notice (step.Quit why g) = true
is_notice _ = false

-- no notice is given among these
abbrev pub AreQuiet : List RosterStep → Type 0
AreQuiet steps = AllByRecursion (λ s. is_notice s ≡ false) steps

sends_quiet : (who : Audience) (what : Signal) (g k : ℕ) (seats : List (Option Enrolled)) → AreQuiet (sends_from who what g k seats)
sends_quiet who what g k [] = tt
sends_quiet who what g k (None ∷ seats) = sends_quiet who what g (k + 1) seats
sends_quiet who what g k (Some c ∷ seats) = by (is_meant who c) (sends_quiet who what g (k + 1) seats)
  where
    by : (b : Bool) → AreQuiet (sends_from who what g (k + 1) seats) → AreQuiet (cond b (step.Send k c.pid c.kind what g ∷ []) [] ++ sends_from who what g (k + 1) seats)
    by true rest = (refl, rest)
    by false rest = rest

entry_quiet : (k : ℕ) (s : Seating) (e : PmEvent) → IsHarmless e → AreQuiet (steps_of k s e)
entry_quiet k s (entry.QuitSent why) harmless = absurd harmless
entry_quiet k s entry.TerminateSent harmless = sends_quiet Stoppable signal.Terminate s.generation 0 s.seats
entry_quiet k s (entry.KillSent at) harmless = sends_quiet Everyone signal.Kill s.generation 0 s.seats
entry_quiet k s (entry.KillAsked who) harmless = sends_quiet (One who) signal.Kill s.generation 0 s.seats
entry_quiet k s entry.CheckpointAsked harmless = sends_quiet Checkpointer signal.Checkpoint s.generation 0 s.seats
entry_quiet k s (entry.Asked mode at) harmless = tt
entry_quiet k s (entry.RedoEnded generation kept) harmless = tt
entry_quiet k s (entry.Said line) harmless = tt
entry_quiet k s (entry.Ended how) harmless = tt
entry_quiet k s _ harmless = (refl, tt)

entries_quiet : (k : ℕ) (s : Seating) (es : List PmEvent) → AllByRecursion IsHarmless es → AreQuiet (flat_map (steps_of k s) es)
entries_quiet k s [] harmless = tt
entries_quiet k s (e ∷ es) harmless =
    each_both (λ s. is_notice s ≡ false) (steps_of k s e) (flat_map (steps_of k s) es) (entry_quiet k s e harmless.0) (entries_quiet k s es harmless.1)

pub quiet : (s : Seating) (moves : List Move) → AllByRecursion IsHarmless (entries_from s moves) → AreQuiet (steps_from s moves)
quiet s [] harmless = tt
quiet s (move ∷ moves) harmless =
    each_both (λ s. is_notice s ≡ false) (steps_by s move) (steps_from (seating_by s move) moves)
    (entries_quiet (slot_in move) s (entries_by s move) (each_first IsHarmless (entries_by s move) (entries_from (seating_by s move) moves) harmless))
    (quiet (seating_by s move) moves (each_second IsHarmless (entries_by s move) (entries_from (seating_by s move) moves) harmless))

head_of : RosterStep → List RosterStep → RosterStep
head_of none [] = none
head_of none (x ∷ xs) = x

tail_of : List RosterStep → List RosterStep
tail_of [] = []
tail_of (x ∷ xs) = xs

-- what stands in front of a child's release gives no notice, where nothing up to that release does
pub quiet_before : (front : List RosterStep) (pid : ℕ) (kind : Kind) (g : ℕ) (rest before after : List RosterStep)
    → front ++ step.Release pid kind g ∷ rest ≡ before ++ after → AreQuiet front → NotReleased pid before → AreQuiet before
unfolding head_of tail_of
quiet_before front pid kind g rest [] after is quiet none = tt
quiet_before [] pid kind g rest (x ∷ before) after is quiet none =
    absurd (none kind g (0, (let near : 0 < length (x ∷ before) = omega arith in near), sym (ap (head_of (step.Release pid kind g)) is)))
quiet_before (x ∷ front) pid kind g rest (y ∷ before) after is quiet none = (
  subst (λ (z : RosterStep). is_notice z ≡ false) (ap (head_of x) is) quiet.0,
  quiet_before front pid kind g rest before after (ap tail_of is) quiet.1
      (λ other gen there. none other gen (suc there.0, (let near : there.0 < length before = there.1 in omega arith), there.2)),
)

-- and leaves the gate without one
pub quiet_gate : (gate : Gate) (steps : List RosterStep) → AreQuiet steps → gate.noticed ≡ None → (gate_of_steps gate steps).noticed ≡ None
quiet_gate gate [] quiet none = none
quiet_gate gate (step.Quit why g ∷ steps) quiet none = absurd (let never : true ≡ false = quiet.0 in cc)
quiet_gate gate (step.Ready g ∷ steps) quiet none = quiet_gate (gate_after gate (step.Ready g)) steps quiet.1 refl
quiet_gate gate (step.Reset g ∷ steps) quiet none = quiet_gate (gate_after gate (step.Reset g)) steps quiet.1 refl
quiet_gate gate (_ ∷ steps) quiet none = quiet_gate gate steps quiet.1 none
