-- What holds of a journal by its moves, slot by slot.
use Rattle.std.{proofs.{Common.{◌≡◌, ◌≢◌, inl, inr, ℕ, Bool, true, false, List, [], ◌∷◌, ◌++◌, refl, sym, subst, arith, append_assoc}, lemmas.Bool.eq-eqb}, specs.{Prelude.{◌==◌, if◌then◌else◌, map}, List.AllByRecursion}}
use Rattle.pm_serve_crew.{specs.{pm_facts.Lists.{each_both, each_second}, pm_supervisor_chain.Chain.{AreDistinct, InGeneration, IsAmong, IsPidOf, exits_of, lost_from, redo_ends_of, users_from}, pm_modes.declared.Mode.Mode, Redos.{redo_ends_at, redo_ends_by}, pm_state.declared.event.PmEvent.PmEvent, pm_board_acts.Seating.{Begun, Ended, Kill, Move, Nothing, Notes, PidsEnd, PortEnds, Reads, Seating, Stop, begins, begun_by, begun_from, ended_at, ended_by, entries_by, entries_from, is_seated, seating_by}, pm_supervisor.Children.is_dead_end}, proofs.PidsLaws.differs}
use Rattle.pm_serve_crew.specs.pm_admit.declared.Cac.TheVariants as decisions
use Rattle.pm_serve_crew.specs.pm_modes.declared.Mode.TheVariants as mode
use Rattle.pm_serve_crew.specs.pm_state.declared.event.PmEvent.TheVariants as entry
use Rattle.pm_serve_chain.proofs.OnceLaws.{AreSplit, never, split, without_one}

module _ {X : Type 0} (P : X → Type 0) where
  pub each_so : (Q : X → Type 0) → ((x : X) → P x → Q x) → (xs : List X) → AllByRecursion P xs → AllByRecursion Q xs
  each_so Q so [] all = tt
  each_so Q so (x ∷ xs) all = (so x all.0, each_so Q so xs all.1)

  each_if : (test : Bool) (xs : List X) → AllByRecursion P xs → AllByRecursion P (if test then xs else [])
  each_if true xs all = all
  each_if false xs all = tt

-- the console's lines and the ends of port and pids
abbrev IsAsked : Move → Type 0
IsAsked (Notes noted slot) = ⊥
IsAsked _ = Unit {0}

-- What says nothing of requests is the same after them.
module _ {T : Type 0} (told : List PmEvent → T) (passes_ask : (mode : Mode) (at : ℕ) (rest : List PmEvent) → told (entry.Asked mode at ∷ rest) ≡ told rest)
    (passes_kill : (pid : ℕ) (rest : List PmEvent) → told (entry.KillAsked pid ∷ rest) ≡ told rest) where
  asks_pass : (s : Seating) (move : Move) (rest : List PmEvent) → IsAsked move → told (entries_by s move ++ rest) ≡ told rest
  asks_pass s (Notes noted slot) rest asked = absurd asked
  asks_pass s (Reads line Nothing at) rest asked = refl
  asks_pass s (Reads line (Stop how) at) rest asked = passes_ask how at rest
  asks_pass s (Reads line (Kill pid) at) rest asked = by (is_seated pid s.seats)
    where
      by : (test : Bool) → told ((if test then entry.KillAsked pid ∷ [] else []) ++ rest) ≡ told rest
      by true = passes_kill pid rest
      by false = refl
  asks_pass s (PortEnds at) rest asked = passes_ask mode.Smart at rest
  asks_pass s (PidsEnd at) rest asked = passes_ask mode.Smart at rest

-- ---- users

users_pass : (generation : ℕ) (s : Seating) (move : Move) (rest : List PmEvent) → IsAsked move → users_from generation (entries_by s move ++ rest) ≡ users_from generation rest
users_pass generation s move rest asked = asks_pass (users_from generation) (λ mode at behind. refl) (λ pid behind. refl) s move rest asked

more_users : (s : Seating) (move : Move) (rest : List PmEvent) (x : InGeneration) → IsAmong x (users_from (seating_by s move).generation rest)
    → IsAmong x (users_from s.generation (entries_by s move ++ rest))
more_users s (Notes (entry.Started pid kind) slot) rest x among = inr among
more_users s (Notes (entry.Accepted pid decisions.Ok) slot) rest x among = inr among
more_users s (Notes _ slot) rest x among = among
more_users s (Reads line asks at) rest x among = subst (IsAmong x) (sym (users_pass s.generation s (Reads line asks at) rest tt)) among
more_users s (PortEnds at) rest x among = among
more_users s (PidsEnd at) rest x among = among

-- a child that began so may use the store, unless it refuses a connection
abbrev pub MayUse : List InGeneration → Begun → Type 0
MayUse users b = is_dead_end b.kind ≡ false → IsAmong (record { number = b.pid; generation = b.generation }) users

users_here : (k : ℕ) (s : Seating) (move : Move) (rest : List PmEvent) → AllByRecursion (MayUse (users_from s.generation (entries_by s move ++ rest))) (begun_by k s move)
users_here k s (Notes (entry.Started pid kind) slot) rest =
    each_if (MayUse (users_from s.generation (entry.Started pid kind ∷ rest))) (slot == k) (begins s.generation (entry.Started pid kind)) ((λ serves. inl (refl, refl)), tt)
users_here k s (Notes (entry.Accepted pid decisions.Ok) slot) rest =
    each_if (MayUse (users_from s.generation (entry.Accepted pid decisions.Ok ∷ rest))) (slot == k) (begins s.generation (entry.Accepted pid decisions.Ok)) ((λ serves. inl (refl, refl)), tt)
users_here k s (Notes (entry.Accepted pid decision) slot) rest =
    each_if (MayUse (users_from s.generation rest)) (slot == k) (begins s.generation (entry.Accepted pid decision)) ((λ serves. absurd cc), tt)
users_here k s (Notes noted slot) rest = each_if (MayUse (users_from s.generation (noted ∷ rest))) (slot == k) [] tt
users_here k s (Reads line asks at) rest = tt
users_here k s (PortEnds at) rest = tt
users_here k s (PidsEnd at) rest = tt

-- so it is with the children of each slot
pub may_use : (k : ℕ) (s : Seating) (moves : List Move) → AllByRecursion (MayUse (users_from s.generation (entries_from s moves))) (begun_from k s moves)
may_use k s [] = tt
may_use k s (move ∷ moves) =
    let next : Seating = seating_by s move in
    let rest : List PmEvent = entries_from next moves in
    each_both (MayUse (users_from s.generation (entries_by s move ++ rest))) (begun_by k s move) (begun_from k next moves) (users_here k s move rest)
    (each_so (MayUse (users_from next.generation rest)) (MayUse (users_from s.generation (entries_by s move ++ rest)))
    (λ b may serves. more_users s move rest (record { number = b.pid; generation = b.generation }) (may serves)) (begun_from k next moves) (may_use k next moves))

-- ---- ends of redo

ends_pass : (s : Seating) (move : Move) (rest : List PmEvent) → IsAsked move → redo_ends_of (entries_by s move ++ rest) ≡ redo_ends_of rest
ends_pass s move rest asked = asks_pass redo_ends_of (λ mode at behind. refl) (λ pid behind. refl) s move rest asked

-- what holds of those of each slot's children holds of all
pub all_ends : (P : InGeneration → Type 0) (s : Seating) (moves : List Move) → ((k : ℕ) → AllByRecursion P (redo_ends_at k moves)) → AllByRecursion P (redo_ends_of (entries_from s moves))
all_ends P s [] each = tt
all_ends P s (move ∷ moves) each = by move each (all_ends P (seating_by s move) moves (λ k. each_second P (redo_ends_by k move) (redo_ends_at k moves) (each k)))
  where
    by : (m : Move) → ((k : ℕ) → AllByRecursion P (redo_ends_by k m ++ redo_ends_at k moves)) → AllByRecursion P (redo_ends_of (entries_from (seating_by s m) moves))
        → AllByRecursion P (redo_ends_of (entries_by s m ++ entries_from (seating_by s m) moves))
    by (Notes (entry.RedoEnded generation kept) slot) here rest = (
      (subst (λ (b : Bool). AllByRecursion P ((if b then record { number = kept; generation = generation } ∷ [] else []) ++ redo_ends_at slot moves)) (eq-eqb slot slot refl) (here slot)).0,
      rest,
    )
    by (Notes _ slot) here rest = rest
    by (Reads line asks at) here rest = subst (AllByRecursion P) (sym (ends_pass s (Reads line asks at) (entries_from s moves) tt)) rest
    by (PortEnds at) here rest = rest
    by (PidsEnd at) here rest = rest

more_ends : (s : Seating) (move : Move) (rest : List PmEvent) (x : InGeneration) → IsAmong x (redo_ends_of rest) → IsAmong x (redo_ends_of (entries_by s move ++ rest))
more_ends s (Notes (entry.RedoEnded generation kept) slot) rest x among = inr among
more_ends s (Notes _ slot) rest x among = among
more_ends s (Reads line asks at) rest x among = subst (IsAmong x) (sym (ends_pass s (Reads line asks at) rest tt)) among
more_ends s (PortEnds at) rest x among = among
more_ends s (PidsEnd at) rest x among = among

ends_here : (k : ℕ) (s : Seating) (move : Move) (rest : List PmEvent) → AllByRecursion (λ x. IsAmong x (redo_ends_of (entries_by s move ++ rest))) (redo_ends_by k move)
ends_here k s (Notes (entry.RedoEnded generation kept) slot) rest =
    each_if (λ x. IsAmong x (redo_ends_of (entry.RedoEnded generation kept ∷ rest))) (slot == k) (record { number = kept; generation = generation } ∷ []) (inl (refl, refl), tt)
ends_here k s (Notes _ slot) rest = tt
ends_here k s _ rest = tt

-- those of each slot's children are among all
pub ends_among : (k : ℕ) (s : Seating) (moves : List Move) → AllByRecursion (λ x. IsAmong x (redo_ends_of (entries_from s moves))) (redo_ends_at k moves)
ends_among k s [] = tt
ends_among k s (move ∷ moves) =
    let rest : List PmEvent = entries_from (seating_by s move) moves in
    each_both (λ x. IsAmong x (redo_ends_of (entries_by s move ++ rest))) (redo_ends_by k move) (redo_ends_at k moves) (ends_here k s move rest)
    (each_so (λ x. IsAmong x (redo_ends_of rest)) (λ x. IsAmong x (redo_ends_of (entries_by s move ++ rest))) (λ x among. more_ends s move rest x among) (redo_ends_at k moves)
    (ends_among k (seating_by s move) moves))

-- ---- exits

abbrev pub pids_of : List Ended → List ℕ
pids_of ended = map (λ e. e.pid) ended

exits_pass : (s : Seating) (move : Move) (rest : List PmEvent) → IsAsked move → exits_of (entries_by s move ++ rest) ≡ exits_of rest
exits_pass s move rest asked = asks_pass exits_of (λ mode at behind. refl) (λ pid behind. refl) s move rest asked

later_end : (pid : ℕ) (xs ys : List Ended) → IsPidOf pid (pids_of ys) → IsPidOf pid (pids_of (xs ++ ys))
later_end pid [] ys there = there
later_end pid (x ∷ xs) ys there = inr (later_end pid xs ys there)

later_once : (xs ys : List Ended) → AreDistinct (pids_of (xs ++ ys)) → AreDistinct (pids_of ys)
later_once [] ys once = once
later_once (x ∷ xs) ys once = later_once xs ys once.1

-- whoever exited did so in some slot
pub exit_in : (pid : ℕ) (s : Seating) (moves : List Move) → IsPidOf pid (exits_of (entries_from s moves)) → (k : ℕ) × IsPidOf pid (pids_of (ended_at k moves))
exit_in pid s [] there = absurd there
exit_in pid s (move ∷ moves) there = by move there (λ more. (let found = exit_in pid (seating_by s move) moves more in (found.0, later_end pid (ended_by found.0 move) (ended_at found.0 moves) found.1)))
  where
    by : (m : Move) → IsPidOf pid (exits_of (entries_by s m ++ entries_from (seating_by s m) moves))
        → (IsPidOf pid (exits_of (entries_from (seating_by s m) moves)) → (k : ℕ) × IsPidOf pid (pids_of (ended_by k m ++ ended_at k moves)))
        → (k : ℕ) × IsPidOf pid (pids_of (ended_by k m ++ ended_at k moves))
    by (Notes (entry.Exited who kind status active at) slot) (inl is) more = (
      slot,
      subst (λ (b : Bool). IsPidOf pid (pids_of ((if b then record { pid = who; kind = kind; status = status; was_active = active } ∷ [] else []) ++ ended_at slot moves))) (sym (eq-eqb slot slot refl)) (inl is),
    )
    by (Notes (entry.Exited who kind status active at) slot) (inr behind) more = more behind
    by (Notes _ slot) behind more = more behind
    by (Reads line asks at) behind more = more (subst (IsPidOf pid) (exits_pass s (Reads line asks at) (entries_from s moves) tt) behind)
    by (PortEnds at) behind more = more behind
    by (PidsEnd at) behind more = more behind

-- each pid exits once in the slots
pub record ExitOnce (moves : List Move) : Type 0 where
  pub within : (k : ℕ) → AreDistinct (pids_of (ended_at k moves))
  pub across : (j k pid : ℕ) → j ≢ k → IsPidOf pid (pids_of (ended_at j moves)) → IsPidOf pid (pids_of (ended_at k moves)) → ⊥

once_later : (move : Move) (moves : List Move) → ExitOnce (move ∷ moves) → ExitOnce moves
once_later move moves once = record {
  within = λ k. later_once (ended_by k move) (ended_at k moves) (once.within k);
  across = λ j k pid other one two. once.across j k pid other (later_end pid (ended_by j move) (ended_at j moves) one) (later_end pid (ended_by k move) (ended_at k moves) two);
}

-- then it does in the journal
pub exits_once : (s : Seating) (moves : List Move) → ExitOnce moves → AreDistinct (exits_of (entries_from s moves))
exits_once s [] once = tt
exits_once s (move ∷ moves) once = by move once (exits_once (seating_by s move) moves (once_later move moves once))
  where
    by : (m : Move) → ExitOnce (m ∷ moves) → AreDistinct (exits_of (entries_from (seating_by s m) moves)) → AreDistinct (exits_of (entries_by s m ++ entries_from (seating_by s m) moves))
    by (Notes (entry.Exited who kind status active at) slot) all rest =
        (differs who (exits_of (entries_from next moves)) (λ there. (let found = exit_in who next moves there in clash found.0 found.1 (slot == found.0) refl)), rest)
      where
        next : Seating
        next = seating_by s (Notes (entry.Exited who kind status active at) slot)

        its : Ended
        its = record { pid = who; kind = kind; status = status; was_active = active }

        clash : (k : ℕ) → IsPidOf who (pids_of (ended_at k moves)) → (test : Bool) → (slot == k) ≡ test → ⊥
        clash k there true is =
            let same : k ≡ slot = grind (arith, is) in
            never who (pids_of (ended_at slot moves))
            (subst (λ (b : Bool). AreDistinct (pids_of ((if b then its ∷ [] else []) ++ ended_at slot moves))) (eq-eqb slot slot refl) (all.within slot)).0
            (subst (λ (j : ℕ). IsPidOf who (pids_of (ended_at j moves))) same there)
        clash k there false isnt =
            all.across slot k who (λ same. absurd (grind (arith, same, isnt)))
            (subst (λ (b : Bool). IsPidOf who (pids_of ((if b then its ∷ [] else []) ++ ended_at slot moves))) (sym (eq-eqb slot slot refl)) (inl refl))
            (later_end who (ended_by k (Notes (entry.Exited who kind status active at) slot)) (ended_at k moves) there)
    by (Notes _ slot) all rest = rest
    by (Reads line asks at) all rest = subst AreDistinct (sym (exits_pass s (Reads line asks at) (entries_from s moves) tt)) rest
    by (PortEnds at) all rest = rest
    by (PidsEnd at) all rest = rest

-- so the lost ones of each generation are each there once
pub lost_once : (so_far : List ℕ) (journal : List PmEvent) → AreDistinct (so_far ++ exits_of journal) → AllByRecursion AreDistinct (lost_from so_far journal)
lost_once so_far [] once = tt
lost_once so_far (entry.Exited pid kind status true at ∷ journal) once =
    lost_once (so_far ++ pid ∷ []) journal (subst AreDistinct (sym (append_assoc so_far (pid ∷ []) (exits_of journal))) once)
lost_once so_far (entry.Exited pid kind status false at ∷ journal) once = lost_once so_far journal (without_one so_far pid (exits_of journal) once)
lost_once so_far (entry.Reset generation ∷ journal) once =
    let parts : AreSplit so_far (exits_of journal) = split so_far (exits_of journal) once in (parts.first, lost_once [] journal parts.second)
lost_once so_far (_ ∷ journal) once = lost_once so_far journal once
