-- From the entries of a journal to the children of the slots, and to the runs of their workers.
use Rattle.std.{proofs.{Common.{◌≡◌, ◌≢◌, ◌⊎◌, inl, inr, ℕ, zero, suc, ◌<◌, Bool, true, false, fold, get_or, length, map, Option, None, Some, List, [], ◌∷◌, ◌++◌, refl, sym, ap, subst, ◌∙◌, arith}, lemmas.{Grind.flat_map-append, Option.slice_get-get_or, Bool.eq-eqb}}, specs.{Prelude.{◌==◌, if◌then◌else◌, unwrap_or}, List.{AllByRecursion, flat_map}}}
use Rattle.pm_serve_crew.specs.pm_exit.declared.child.Kind.TheVariants as kind
use Rattle.pm_serve_crew.specs.{pm_exit.Ends.is_exit_0, pm_supervisor.Children.is_startup_child, pm_state.declared.event.PmEvent.PmEvent, pm_board.{pm_board_words.declared.views.{PastChild.PastChild, RosterView.RosterView, SlotView.SlotView}, Places.slot_at}, pm_supervisor_chain.Chain.{AreDistinct, InGeneration, IsPidOf}, pm_board_acts.{Board.{begun_of, ended_of}, Mails.kept_told, Calls.kept_by, Seating.{Begun, Ended, Kill, Move, Nothing, Notes, PidsEnd, PortEnds, Reads, Request, Seating, Stop, asked_by, begins, begun_at, begun_by, begun_from, empty, ended_at, ended_by, entries_by, entries_from, is_seated, journal_of, seating_by}, Standing.IsBoardOf}, pm_store_shared.declared.views.Noted.Noted, pm_query.declared.book.BookEntry.BookEntry, pm_worker.{declared.mail.MailTold.MailTold, Runs.{IsRun, Run}}, Left.{AreLeft, IsWorked, Manner}, Pids.{AreUsedOnce, pids_at}, Redos.{AreRedosOf, RedosAreThose, redo_ends_at, redo_ends_by, redo_told, told_if}}
use Rattle.pm_serve_crew.specs.pm_state.declared.event.PmEvent.TheVariants as entry
use Rattle.pm_serve_clean_end.{specs.Among.{IsGiven, IsImage, IsIn, from_flat_map, from_map, in_back, in_either, in_flat_map, in_front, in_map, of_all}, proofs.EndsLaws.{begun_append, begun_in, generation_after}}

-- ---- entries

-- it is none that somebody outside asked for
abbrev pub IsNoted : PmEvent → Type 0
IsNoted (entry.Asked mode at) = ⊥
IsNoted (entry.KillAsked pid) = ⊥
IsNoted _ = Unit {0}

none_asked : (e : PmEvent) (asks : Request) (at : ℕ) (seats : _) → IsNoted e → IsIn e (asked_by asks at seats) → ⊥
none_asked e Nothing at seats noted there = there
none_asked e (Stop how) at seats noted (inl is) = subst IsNoted is noted
none_asked e (Stop how) at seats noted (inr never) = never
none_asked e (Kill pid) at seats noted there = by (is_seated pid seats) there
  where
    by : (b : Bool) → IsIn e (if b then entry.KillAsked pid ∷ [] else []) → ⊥
    by true (inl is) = subst IsNoted is noted
    by true (inr never) = never
    by false never = never

none_smart : (e : PmEvent) (how : _) (at : ℕ) → IsNoted e → IsIn e (entry.Asked how at ∷ []) → ⊥
none_smart e how at noted (inl is) = subst IsNoted is noted
none_smart e how at noted (inr never) = never

-- a move has noted it
pub record IsMoveOf (e : PmEvent) (moves : List Move) : Type 0 where
  pub slot : ℕ
  pub there : IsIn (Notes e slot) moves

further : (e : PmEvent) (move : Move) (moves : List Move) → IsMoveOf e moves → IsMoveOf e (move ∷ moves)
further e move moves is = record { slot = is.slot; there = inr is.there }

move_here : (s : Seating) (e : PmEvent) (move : Move) (moves : List Move) → IsNoted e → IsIn e (entries_by s move) → IsMoveOf e (move ∷ moves)
move_here s e (Notes noted k) moves plain (inl is) = record { slot = k; there = inl (ap (λ (x : PmEvent). Notes x k) is) }
move_here s e (Notes noted k) moves plain (inr never) = absurd never
move_here s e (Reads line asks at) moves plain there = absurd (none_asked e asks at s.seats plain there)
move_here s e (PortEnds at) moves plain there = absurd (none_smart e _ at plain there)
move_here s e (PidsEnd at) moves plain there = absurd (none_smart e _ at plain there)

pub move_of : (s : Seating) (e : PmEvent) (moves : List Move) → IsNoted e → IsIn e (entries_from s moves) → IsMoveOf e moves
move_of s e [] plain there = absurd there
move_of s e (move ∷ moves) plain there = elim (in_either e (entries_by s move) (entries_from (seating_by s move) moves) there) as (λ _. IsMoveOf e (move ∷ moves)) [
  | inl here ↦ move_here s e move moves plain here
  | inr more ↦ further e move moves (move_of (seating_by s move) e moves plain more)
]

-- ---- children that began

generation_on : (s : Seating) (move : Move) → fold generation_after s.generation (entries_by s move) ≡ (seating_by s move).generation
generation_on s (Notes (entry.Reset generation) k) = refl
generation_on s (Notes noted k) = refl
generation_on s (Reads line Nothing at) = refl
generation_on s (Reads line (Stop how) at) = refl
generation_on s (Reads line (Kill pid) at) = by (is_seated pid s.seats)
  where
    by : (b : Bool) → fold generation_after s.generation (if b then entry.KillAsked pid ∷ [] else []) ≡ s.generation
    by true = refl
    by false = refl
generation_on s (PortEnds at) = refl
generation_on s (PidsEnd at) = refl

none_begin : (generation : ℕ) (s : Seating) (asks : Request) (at : ℕ) → begun_in generation (asked_by asks at s.seats) ≡ []
none_begin generation s Nothing at = refl
none_begin generation s (Stop how) at = refl
none_begin generation s (Kill pid) at = by (is_seated pid s.seats)
  where
    by : (b : Bool) → begun_in generation (if b then entry.KillAsked pid ∷ [] else []) ≡ []
    by true = refl
    by false = refl

begun_step : (s : Seating) (move : Move) (moves : List Move)
    → begun_in s.generation (entries_from s (move ∷ moves)) ≡ begun_in s.generation (entries_by s move) ++ begun_in (seating_by s move).generation (entries_from (seating_by s move) moves)
begun_step s move moves =
    begun_append s.generation (entries_by s move) (entries_from (seating_by s move) moves)
    ∙ ap (λ (g : ℕ). begun_in s.generation (entries_by s move) ++ begun_in g (entries_from (seating_by s move) moves)) (generation_on s move)

begins_here : (s : Seating) (k : ℕ) (b : Begun) (move : Move) → IsIn b (begun_by k s move) → IsIn b (begun_in s.generation (entries_by s move))
begins_here s k b (Notes noted j) there = by (j == k) there
  where
    by : (test : Bool) → IsIn b (if test then begins s.generation noted else []) → IsIn b (begins s.generation noted ++ [])
    by true here = in_front b (begins s.generation noted) [] here
    by false never = absurd never
begins_here s k b (Reads line asks at) there = absurd there
begins_here s k b (PortEnds at) there = absurd there
begins_here s k b (PidsEnd at) there = absurd there

-- who began in a slot has begun by the journal
pub begun_told : (s : Seating) (k : ℕ) (b : Begun) (moves : List Move) → IsIn b (begun_from k s moves) → IsIn b (begun_in s.generation (entries_from s moves))
begun_told s k b [] there = absurd there
begun_told s k b (move ∷ moves) there = subst (IsIn b) (sym (begun_step s move moves)) (
    elim (in_either b (begun_by k s move) (begun_from k (seating_by s move) moves) there) as
    (λ _. IsIn b (begun_in s.generation (entries_by s move) ++ begun_in (seating_by s move).generation (entries_from (seating_by s move) moves))) [
      | inl here ↦ in_front b (begun_in s.generation (entries_by s move)) _ (begins_here s k b move here)
      | inr more ↦ in_back b (begun_in s.generation (entries_by s move)) _ (begun_told (seating_by s move) k b moves more)
    ]
    )

-- it began in some slot
pub record BeganIn (b : Begun) (s : Seating) (moves : List Move) : Type 0 where
  pub slot : ℕ
  pub there : IsIn b (begun_from slot s moves)

began_here : (s : Seating) (b : Begun) (move : Move) (moves : List Move) → IsIn b (begun_in s.generation (entries_by s move)) → BeganIn b s (move ∷ moves)
began_here s b (Notes noted k) moves there = by (in_either b (begins s.generation noted) [] there)
  where
    here : (test : Bool) → test ≡ true → IsIn b (begins s.generation noted) → IsIn b (if test then begins s.generation noted else [])
    here true is its = its
    here false is its = absurd cc

    by : IsIn b (begins s.generation noted) ⊎ ⊥ → BeganIn b s (Notes noted k ∷ moves)
    by (inl its) = record { slot = k; there = in_front b (begun_by k s (Notes noted k)) (begun_from k (seating_by s (Notes noted k)) moves) (here (k == k) (eq-eqb k k refl) its) }
    by (inr never) = absurd never
began_here s b (Reads line asks at) moves there = absurd (subst (IsIn b) (none_begin s.generation s asks at) there)
began_here s b (PortEnds at) moves there = absurd there
began_here s b (PidsEnd at) moves there = absurd there

pub began_in : (s : Seating) (b : Begun) (moves : List Move) → IsIn b (begun_in s.generation (entries_from s moves)) → BeganIn b s moves
began_in s b [] there = absurd there
began_in s b (move ∷ moves) there =
    elim (in_either b (begun_in s.generation (entries_by s move)) (begun_in (seating_by s move).generation (entries_from (seating_by s move) moves)) (subst (IsIn b) (begun_step s move moves) there)) as
    (λ _. BeganIn b s (move ∷ moves)) [
      | inl here ↦ began_here s b move moves here
      | inr more ↦ (let rest : BeganIn b (seating_by s move) moves = began_in (seating_by s move) b moves more in
          record { slot = rest.slot; there = in_back b (begun_by rest.slot s move) (begun_from rest.slot (seating_by s move) moves) rest.there })
    ]

-- ---- children that ended

-- an end that was noted is that of a child of its slot
pub ends_at : (end : Ended) (at k : ℕ) (moves : List Move) → IsIn (Notes (entry.Exited end.pid end.kind end.status end.was_active at) k) moves → IsIn end (ended_at k moves)
ends_at end at k moves there =
    in_flat_map (ended_by k) end (Notes (entry.Exited end.pid end.kind end.status end.was_active at) k) moves there (here (k == k) (eq-eqb k k refl))
  where
    here : (test : Bool) → test ≡ true → IsIn end (if test then end ∷ [] else [])
    here true is = inl refl
    here false is = absurd cc

pub redo_at : (generation kept k : ℕ) (moves : List Move) → IsIn (Notes (entry.RedoEnded generation kept) k) moves
    → IsIn (record { number = kept; generation = generation }) (redo_ends_at k moves)
redo_at generation kept k moves there =
    in_flat_map (redo_ends_by k) (record { number = kept; generation = generation }) (Notes (entry.RedoEnded generation kept) k) moves there (here (k == k) (eq-eqb k k refl))
  where
    here : (test : Bool) → test ≡ true
        → IsIn {X = InGeneration} (record { number = kept; generation = generation }) (if test then record { number = kept; generation = generation } ∷ [] else [])
    here true is = inl refl
    here false is = absurd cc

-- ---- the children of the slots, and their runs

abbrev Child : Type 0
Child = PastChild MailTold

pid_of_one : (x : Child) (past : List Child) → IsIn x past → IsPidOf x.offer.pid (map (λ child. child.offer.pid) past)
pid_of_one x [] there = absurd there
pid_of_one x (y ∷ past) (inl is) = inl (ap (λ (c : Child). c.offer.pid) is)
pid_of_one x (y ∷ past) (inr there) = inr (pid_of_one x past there)

not_again : (x y : Child) (past : List Child) → AllByRecursion (λ other. x.offer.pid ≢ other) (map (λ child. child.offer.pid) past) → IsIn y past → x.offer.pid ≡ y.offer.pid → ⊥
not_again x y [] differ there is = there
not_again x y (z ∷ past) differ (inl here) is = differ.0 (is ∙ ap (λ (c : Child). c.offer.pid) here)
not_again x y (z ∷ past) differ (inr there) is = not_again x y past differ.1 there is

one_child : (x y : Child) (past : List Child) → AreDistinct (map (λ child. child.offer.pid) past) → IsIn x past → IsIn y past → x.offer.pid ≡ y.offer.pid → x ≡ y
one_child x y [] distinct one two is = absurd one
one_child x y (z ∷ past) distinct (inl one) (inl two) is = one ∙ sym two
one_child x y (z ∷ past) distinct (inl one) (inr two) is =
    absurd (not_again z y past distinct.0 two (sym (ap (λ (c : Child). c.offer.pid) one) ∙ is))
one_child x y (z ∷ past) distinct (inr one) (inl two) is =
    absurd (not_again z x past distinct.0 one (sym (ap (λ (c : Child). c.offer.pid) two) ∙ sym is))
one_child x y (z ∷ past) distinct (inr one) (inr two) is = one_child x y past distinct.1 one two is

has_slot : (x : Child) (slots : List (SlotView MailTold)) (none : SlotView MailTold) (k : ℕ) → none.past ≡ [] → IsIn x (get_or slots k none).past → k < length slots
has_slot x [] none k empty there = absurd (subst (IsIn x) empty there)
has_slot x (slot ∷ slots) none zero empty there = omega arith
has_slot x (slot ∷ slots) none (suc k) empty there = (let rest = has_slot x slots none k empty there in omega (arith, rest))

-- the number of commits that a startup child tells of which ended with its redo
told_by : (generation : ℕ) (told : Option ℕ) (y : InGeneration) → IsIn y (told_if generation told) → (y.generation ≡ generation) × ((kept : ℕ) × (told ≡ Some kept))
told_by generation None y there = absurd there
told_by generation (Some kept) y (inl is) = (ap (λ (z : InGeneration). z.generation) is, (kept, refl))
told_by generation (Some kept) y (inr never) = absurd never

kept_so : (startup exited : Bool) (told : Option ℕ) (kept : ℕ) → (if startup then (if exited then Some (unwrap_or told 0) else None) else None) ≡ Some kept
    → (startup ≡ true) × (exited ≡ true)
kept_so true true told kept is = (refl, refl)
kept_so true false told kept is = absurd cc
kept_so false exited told kept is = absurd cc

module _ (manner : Manner) (count : ℕ) (moves : List Move) (d : RosterView MailTold) (own : List Noted) (book : List BookEntry) (left : AreLeft manner count d own book) (once : AreUsedOnce d)
    (board : IsBoardOf count moves d) where
  -- the run of a child of some slot
  pub record RunOf (x : Child) : Type 0 where
    pub slot : ℕ
    pub less : slot < count
    pub run : Run
    pub there : IsIn run (left.runs slot)
    pub is : run.child ≡ x

  worked : (k : ℕ) → k < count → IsWorked manner d k (left.runs k) (get_or left.lists k [])
  worked k less = left.each k (get_or left.lists k []) (slice_get-get_or left.lists k [] (let all = left.all in omega (arith, less, all)))

  pub run_of : (k : ℕ) (x : Child) → IsIn x (slot_at d k).past → RunOf x
  run_of k x there =
      let less : k < count = (let within = has_slot x d.slots _ k refl there in let slots = left.slots in omega (arith, within, slots)) in
      let image : IsImage (λ (run : Run). run.child) x (left.runs k) = from_map (λ (run : Run). run.child) x (left.runs k) (subst (IsIn x) (worked k less).children there) in
      record { slot = k; less = less; run = image.of; there = image.there; is = image.is }

  -- each run is a right one
  pub is_run : (k : ℕ) (run : Run) → k < count → IsIn run (left.runs k) → IsRun None manner.seed manner.limit manner.gives run
  is_run k run less there = of_all (IsRun None manner.seed manner.limit manner.gives) run (left.runs k) (worked k less).each there

  child_there : (k : ℕ) (run : Run) → k < count → IsIn run (left.runs k) → IsIn run.child (slot_at d k).past
  child_there k run less there = subst (IsIn run.child) (sym (worked k less).children) (in_map (λ (r : Run). r.child) run (left.runs k) there)

  -- two children of one pid are one
  same_child : (j k : ℕ) (x y : Child) → IsIn x (slot_at d j).past → IsIn y (slot_at d k).past → x.offer.pid ≡ y.offer.pid → x ≡ y
  same_child j k x y one two is = by (j == k) refl
    where
      by : (test : Bool) → (j == k) ≡ test → x ≡ y
      by true at =
          let here : j ≡ k = grind (arith, at) in
          one_child x y (slot_at d j).past (once.within j) one (subst (λ (i : ℕ). IsIn y (slot_at d i).past) (sym here) two) is
      by false at =
          let apart : j ≢ k = λ here. grind (arith, at, here) in
          absurd (once.across j k x.offer.pid apart (pid_of_one x (slot_at d j).past one) (subst (λ (pid : ℕ). IsPidOf pid (pids_at d k)) (sym is) (pid_of_one y (slot_at d k).past two)))

  -- an end that the journal tells of is that of the child of this pid
  pub end_of : (end : Ended) (at k : ℕ) (run : Run) → k < count → IsIn run (left.runs k) → end.pid ≡ run.child.offer.pid
      → IsIn (entry.Exited end.pid end.kind end.status end.was_active at) (journal_of count moves) → ended_of run.child ≡ end
  end_of end at k run less there pid noted =
      let move : IsMoveOf (entry.Exited end.pid end.kind end.status end.was_active at) moves = move_of (empty count) _ moves tt noted in
      let here : IsIn end (map ended_of (slot_at d move.slot).past) =
      subst (IsIn end) (sym (board.ended move.slot).1) (in_front end (ended_at move.slot moves) (board.ended move.slot).0 (ends_at end at move.slot moves move.there)) in
      let image : IsImage ended_of end (slot_at d move.slot).past = from_map ended_of end (slot_at d move.slot).past here in
      let its_pid : image.of.offer.pid ≡ run.child.offer.pid = ap (λ (e : Ended). e.pid) image.is ∙ pid in
      ap ended_of (sym (same_child move.slot k image.of run.child image.there (child_there k run less there) its_pid)) ∙ image.is

  -- a child that began, and closed no worker, is one that the journal tells of
  pub began_told : (k : ℕ) (run : Run) → k < count → IsIn run (left.runs k) → run.child.offer.kind ≢ kind.DeadEnd → IsIn (begun_of run.child) (begun_in 1 (journal_of count moves))
  began_told k run less there other = by (in_either (begun_of run.child) (begun_at count k moves) (board.begun k).0 all)
    where
      all : IsIn (begun_of run.child) (begun_at count k moves ++ (board.begun k).0)
      all = subst (IsIn (begun_of run.child)) (board.begun k).2 (in_map begun_of run.child (slot_at d k).past (child_there k run less there))

      by : IsIn (begun_of run.child) (begun_at count k moves) ⊎ IsIn (begun_of run.child) (board.begun k).0 → IsIn (begun_of run.child) (begun_in 1 (journal_of count moves))
      by (inl began) = begun_told (empty count) k (begun_of run.child) moves began
      by (inr closing) = absurd (other (of_all (λ (b : Begun). b.kind ≡ kind.DeadEnd) (begun_of run.child) (board.begun k).0 (board.begun k).1 closing))

  -- who began by the journal has a run
  pub record RunFor (b : Begun) : Type 0 where
    pub slot : ℕ
    pub less : slot < count
    pub run : Run
    pub there : IsIn run (left.runs slot)
    pub is : begun_of run.child ≡ b

  pub run_for : (b : Begun) → IsIn b (begun_in 1 (journal_of count moves)) → RunFor b
  run_for b there =
      let began : BeganIn b (empty count) moves = began_in (empty count) b moves there in
      let here : IsIn b (map begun_of (slot_at d began.slot).past) =
      subst (IsIn b) (sym (board.begun began.slot).2) (in_front b (begun_at count began.slot moves) (board.begun began.slot).0 began.there) in
      let image : IsImage begun_of b (slot_at d began.slot).past = from_map begun_of b (slot_at d began.slot).past here in
      let its : RunOf image.of = run_of began.slot image.of image.there in
      record { slot = its.slot; less = its.less; run = its.run; there = its.there; is = ap begun_of its.is ∙ image.is }

  -- an end of redo is that of a startup child of its generation, which exited with code 0
  pub record RedoRun (generation : ℕ) : Type 0 where
    pub slot : ℕ
    pub less : slot < count
    pub run : Run
    pub there : IsIn run (left.runs slot)
    pub generation_is : run.child.offer.generation ≡ generation
    pub startup : is_startup_child run.child.offer.kind ≡ true
    pub exited : is_exit_0 run.child.status ≡ true

  pub redo_run : RedosAreThose moves d → (generation kept : ℕ) → IsIn (entry.RedoEnded generation kept) (journal_of count moves) → RedoRun generation
  redo_run redos generation kept noted =
      let move : IsMoveOf (entry.RedoEnded generation kept) moves = move_of (empty count) _ moves tt noted in
      let y : InGeneration = record { number = kept; generation = generation } in
      let its_redos : AreRedosOf move.slot moves (slot_at d move.slot).past = redos move.slot in
      let told : IsIn y (flat_map redo_told (slot_at d move.slot).past) =
      subst (IsIn y) (sym (ap (flat_map redo_told) its_redos.is ∙ flat_map-append redo_told its_redos.front its_redos.others))
      (in_front y (flat_map redo_told its_redos.front) (flat_map redo_told its_redos.others) (subst (IsIn y) (sym its_redos.redos) (redo_at generation kept move.slot moves move.there))) in
      let given : IsGiven redo_told y (slot_at d move.slot).past = from_flat_map redo_told y (slot_at d move.slot).past told in
      let its : RunOf given.by = run_of move.slot given.by given.there in
      let so = told_by given.by.offer.generation (kept_by given.by.offer.kind given.by.status (kept_told given.by.back)) y given.gives in
      let ends = kept_so (is_startup_child given.by.offer.kind) (is_exit_0 given.by.status) (kept_told given.by.back) so.1.0 so.1.1 in
      record {
        slot = its.slot;
        less = its.less;
        run = its.run;
        there = its.there;
        generation_is = ap (λ (c : Child). c.offer.generation) its.is ∙ sym so.0;
        startup = ap (λ (c : Child). is_startup_child c.offer.kind) its.is ∙ ends.0;
        exited = ap (λ (c : Child). is_exit_0 c.status) its.is ∙ ends.1;
      }
