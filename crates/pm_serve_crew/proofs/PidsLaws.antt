-- No two children of a server have one pid.
use Rattle.std.{proofs.Common.{◌≡◌, ◌≢◌, ◌⊎◌, inl, inr, ℕ, ◌+◌, ◌≤◌, Bool, true, false, List, [], ◌∷◌, ◌++◌, refl, sym, ap, subst, ◌∙◌, arith, append_assoc}, specs.{Prelude.{◌==◌, if◌then◌else◌, is_none, map}, List.AllByRecursion}}
use Rattle.pm_session_answers.specs.pm_facts.Bools.{cond-same}
use Rattle.pm_board_acts.{specs.{pm_exit.declared.child.Kind.Kind, pm_supervisor.{declared.Limits.Limits, Shared.reopened, Supervisor.Shared}, pm_state.{declared.{action.Action.Action, event.PmEvent.PmEvent}, Journal.{AreLegal, Do, Due, EndRedo, Fits, FitsFirst, FollowsIn, IsLegal, Replay, all_replayed, replay_begun, replayed}}, pm_board.{pm_board_words.declared.views.{PastChild.PastChild, RosterView.RosterView}, Places.slot_at}, pm_supervisor_chain.Chain.{AreDistinct, IsPidOf}, Board.begun_of, Seating.{Begun, Kill, Move, Nothing, Notes, PidsEnd, PortEnds, Reads, Seating, Stop, begun_at, begun_by, begun_from, empty, entries_by, entries_from, is_seated, journal_of, seating_by}, pm_worker.declared.mail.MailTold.MailTold}, proofs.pm_supervisor_chain.FoldsLaws.{pid_left, pid_right}}
use Rattle.pm_board_acts.specs.pm_supervisor.Steps as supervisor
use Rattle.pm_board_acts.specs.pm_state.declared.action.Action.TheVariants as act
use Rattle.pm_board_acts.specs.pm_state.declared.event.PmEvent.TheVariants as entry
use Rattle.pm_serve_crew.specs.Pids.{AreUsedOnce, pids_at}

-- the pid of a child that begins here
abbrev pub pids_by : PmEvent → List ℕ
pids_by (entry.Started pid kind) = pid ∷ []
pids_by (entry.Accepted pid decision) = pid ∷ []
pids_by _ = []

abbrev pub pids_in : List PmEvent → List ℕ
pids_in [] = []
pids_in (e ∷ journal) = pids_by e ++ pids_in journal

-- each is above this one and above those before it
abbrev pub RiseAbove : ℕ → List ℕ → Type 0
RiseAbove low [] = Unit {0}
RiseAbove low (pid ∷ pids) = (low + 1 ≤ pid) × RiseAbove pid pids

lower : (low high : ℕ) (pids : List ℕ) → low ≤ high → RiseAbove high pids → RiseAbove low pids
lower low high [] le rise = tt
lower low high (pid ∷ pids) le rise = (omega (arith, le, rise.0), rise.1)

-- ---- in a legal journal

starts_next : (s : Shared) (action : Action) (pid : ℕ) (kind : Kind) → Fits s (Do action) (entry.Started pid kind) → pid ≡ s.last_pid + 1
starts_next s (act.Start kind) pid its fits = fits.0
starts_next s _ pid its fits = absurd fits

first_starts : (s : Shared) (acts : List Action) (pid : ℕ) (kind : Kind) → FitsFirst s acts (entry.Started pid kind) → pid ≡ s.last_pid + 1
first_starts s [] pid kind fits = absurd fits
first_starts s (action ∷ acts) pid kind fits = starts_next s action pid kind fits

started_next : (gives : ℕ → Bool) (r : Replay) (due : List Due) (pid : ℕ) (kind : Kind) → FollowsIn due gives r (entry.Started pid kind) → pid ≡ r.shown.last_pid + 1
started_next gives r [] pid kind follows = first_starts r.shown _ pid kind follows.2
started_next gives r (Do action ∷ due) pid kind follows = starts_next r.shown action pid kind follows
started_next gives r (EndRedo ∷ due) pid kind follows = absurd follows

never_due : (s : Shared) (action : Action) (pid : ℕ) (decision : _) → Fits s (Do action) (entry.Accepted pid decision) → ⊥
never_due s (act.Start kind) pid decision fits = fits
never_due s _ pid decision fits = fits

accepted_next : (gives : ℕ → Bool) (r : Replay) (due : List Due) (pid : ℕ) (decision : _) → FollowsIn due gives r (entry.Accepted pid decision) → pid ≡ r.shown.last_pid + 1
accepted_next gives r [] pid decision follows = follows.2.1
accepted_next gives r (Do action ∷ due) pid decision follows = absurd (never_due r.shown action pid decision follows)
accepted_next gives r (EndRedo ∷ due) pid decision follows = absurd follows

same_pid : (s : Shared) (opens : Bool) → (reopened opens s).last_pid ≡ s.last_pid
same_pid s true = refl
same_pid s false = refl

pub pids_rise : (gives : ℕ → Bool) (r : Replay) (journal : List PmEvent) → AreLegal gives r journal → RiseAbove r.shown.last_pid (pids_in journal)
pids_rise gives r [] legal = tt
pids_rise gives r (entry.Started pid kind ∷ journal) legal =
    let next : pid ≡ r.shown.last_pid + 1 = started_next gives r r.due pid kind legal.0 in
    (omega (arith, next), pids_rise gives (replayed r (entry.Started pid kind)) journal legal.1)
pids_rise gives r (entry.Accepted pid decision ∷ journal) legal =
    let next : pid ≡ r.shown.last_pid + 1 = accepted_next gives r r.due pid decision legal.0 in
    (omega (arith, next), pids_rise gives (replayed r (entry.Accepted pid decision)) journal legal.1)
pids_rise gives r (entry.Exited pid kind status was_active at ∷ journal) legal = pids_rise gives (replayed r (entry.Exited pid kind status was_active at)) journal legal.1
pids_rise gives r (entry.Asked mode at ∷ journal) legal = pids_rise gives (replayed r (entry.Asked mode at)) journal legal.1
pids_rise gives r (entry.KillAsked pid ∷ journal) legal = pids_rise gives (replayed r (entry.KillAsked pid)) journal legal.1
pids_rise gives r (entry.QuitSent why ∷ journal) legal = pids_rise gives (replayed r (entry.QuitSent why)) journal legal.1
pids_rise gives r (entry.TerminateSent ∷ journal) legal = pids_rise gives (replayed r entry.TerminateSent) journal legal.1
pids_rise gives r (entry.KillSent at ∷ journal) legal = pids_rise gives (replayed r (entry.KillSent at)) journal legal.1
pids_rise gives r (entry.CheckpointAsked ∷ journal) legal = pids_rise gives (replayed r entry.CheckpointAsked) journal legal.1
pids_rise gives r (entry.RedoEnded generation kept ∷ journal) legal =
    subst (λ (low : ℕ). RiseAbove low (pids_in journal)) (same_pid r.shown (is_none r.machine.shutdown))
    (pids_rise gives (replayed r (entry.RedoEnded generation kept)) journal legal.1)
pids_rise gives r (entry.Ready generation ∷ journal) legal = pids_rise gives (replayed r (entry.Ready generation)) journal legal.1
pids_rise gives r (entry.Reset generation ∷ journal) legal = pids_rise gives (replayed r (entry.Reset generation)) journal legal.1
pids_rise gives r (entry.Said line ∷ journal) legal = pids_rise gives (replayed r (entry.Said line)) journal legal.1
pids_rise gives r (entry.Ended how ∷ journal) legal = pids_rise gives (replayed r (entry.Ended how)) journal legal.1

-- The last pid of a journal, where it goes on from this one.
pub record AreBelow (low high : ℕ) (pids : List ℕ) : Type 0 where
  pub first : low ≤ high
  pub each : (pid : ℕ) → IsPidOf pid pids → pid ≤ high

below_next : (low pid high : ℕ) (pids : List ℕ) → pid ≡ low + 1 → AreBelow pid high pids → AreBelow low high (pid ∷ pids)
below_next low pid high pids next rest = record { first = (let up = rest.first in omega (arith, next, up)); each = by }
  where
    by : (other : ℕ) → IsPidOf other (pid ∷ pids) → other ≤ high
    by other (inl is) = (let up = rest.first in omega (arith, is, up))
    by other (inr there) = rest.each other there

-- no pid of a legal journal is above the last
pub pids_below : (gives : ℕ → Bool) (r : Replay) (journal : List PmEvent) → AreLegal gives r journal → AreBelow r.shown.last_pid (all_replayed r journal).shown.last_pid (pids_in journal)
pids_below gives r [] legal = record { first = omega arith; each = λ pid there. absurd there }
pids_below gives r (entry.Started pid kind ∷ journal) legal =
    below_next r.shown.last_pid pid _ (pids_in journal) (started_next gives r r.due pid kind legal.0) (pids_below gives (replayed r (entry.Started pid kind)) journal legal.1)
pids_below gives r (entry.Accepted pid decision ∷ journal) legal =
    below_next r.shown.last_pid pid _ (pids_in journal) (accepted_next gives r r.due pid decision legal.0) (pids_below gives (replayed r (entry.Accepted pid decision)) journal legal.1)
pids_below gives r (entry.RedoEnded generation kept ∷ journal) legal =
    subst (λ (low : ℕ). AreBelow low (all_replayed r (entry.RedoEnded generation kept ∷ journal)).shown.last_pid (pids_in journal)) (same_pid r.shown (is_none r.machine.shutdown))
    (pids_below gives (replayed r (entry.RedoEnded generation kept)) journal legal.1)
pids_below gives r (entry.Exited pid kind status was_active at ∷ journal) legal = pids_below gives (replayed r (entry.Exited pid kind status was_active at)) journal legal.1
pids_below gives r (entry.Asked mode at ∷ journal) legal = pids_below gives (replayed r (entry.Asked mode at)) journal legal.1
pids_below gives r (entry.KillAsked pid ∷ journal) legal = pids_below gives (replayed r (entry.KillAsked pid)) journal legal.1
pids_below gives r (entry.QuitSent why ∷ journal) legal = pids_below gives (replayed r (entry.QuitSent why)) journal legal.1
pids_below gives r (entry.TerminateSent ∷ journal) legal = pids_below gives (replayed r (entry.TerminateSent)) journal legal.1
pids_below gives r (entry.KillSent at ∷ journal) legal = pids_below gives (replayed r (entry.KillSent at)) journal legal.1
pids_below gives r (entry.CheckpointAsked ∷ journal) legal = pids_below gives (replayed r (entry.CheckpointAsked)) journal legal.1
pids_below gives r (entry.Ready generation ∷ journal) legal = pids_below gives (replayed r (entry.Ready generation)) journal legal.1
pids_below gives r (entry.Reset generation ∷ journal) legal = pids_below gives (replayed r (entry.Reset generation)) journal legal.1
pids_below gives r (entry.Said line ∷ journal) legal = pids_below gives (replayed r (entry.Said line)) journal legal.1
pids_below gives r (entry.Ended how ∷ journal) legal = pids_below gives (replayed r (entry.Ended how)) journal legal.1

-- ---- in the slots

abbrev pub begun_pids : List Begun → List ℕ
begun_pids begun = map (λ b. b.pid) begun

all_above : (low pid : ℕ) (pids : List ℕ) → RiseAbove low pids → IsPidOf pid pids → low + 1 ≤ pid
all_above low pid [] rise there = absurd there
all_above low pid (other ∷ pids) rise (inl is) = omega (arith, rise.0, is)
all_above low pid (other ∷ pids) rise (inr there) = (let h = all_above other pid pids rise.1 there in omega (arith, rise.0, h))

-- One move more: it begins a child with one pid in one slot, or none anywhere.
pub data Beginning (s : Seating) (move : Move) : Type 0 where
  Nobody : pids_in (entries_by s move) ≡ [] → ((k : ℕ) → begun_by k s move ≡ []) → Beginning s move
  Somebody : (child : Begun) (slot : ℕ) → pids_in (entries_by s move) ≡ child.pid ∷ [] → ((k : ℕ) → begun_by k s move ≡ (if slot == k then child ∷ [] else [])) → Beginning s move

beginning : (s : Seating) (move : Move) → Beginning s move
beginning s (Notes (entry.Started pid kind) slot) = Somebody (record { pid = pid; kind = kind; generation = s.generation }) slot refl (λ k. refl)
beginning s (Notes (entry.Accepted pid decision) slot) = Somebody _ slot refl (λ k. refl)
beginning s (Notes (entry.Exited pid kind status was_active at) slot) = Nobody refl (λ k. cond-same (slot == k) [])
beginning s (Notes (entry.Asked mode at) slot) = Nobody refl (λ k. cond-same (slot == k) [])
beginning s (Notes (entry.KillAsked pid) slot) = Nobody refl (λ k. cond-same (slot == k) [])
beginning s (Notes (entry.QuitSent why) slot) = Nobody refl (λ k. cond-same (slot == k) [])
beginning s (Notes entry.TerminateSent slot) = Nobody refl (λ k. cond-same (slot == k) [])
beginning s (Notes (entry.KillSent at) slot) = Nobody refl (λ k. cond-same (slot == k) [])
beginning s (Notes entry.CheckpointAsked slot) = Nobody refl (λ k. cond-same (slot == k) [])
beginning s (Notes (entry.RedoEnded generation kept) slot) = Nobody refl (λ k. cond-same (slot == k) [])
beginning s (Notes (entry.Ready generation) slot) = Nobody refl (λ k. cond-same (slot == k) [])
beginning s (Notes (entry.Reset generation) slot) = Nobody refl (λ k. cond-same (slot == k) [])
beginning s (Notes (entry.Said line) slot) = Nobody refl (λ k. cond-same (slot == k) [])
beginning s (Notes (entry.Ended how) slot) = Nobody refl (λ k. cond-same (slot == k) [])
beginning s (Reads line Nothing at) = Nobody refl (λ k. refl)
beginning s (Reads line (Stop how) at) = Nobody refl (λ k. refl)
beginning s (Reads line (Kill pid) at) = Nobody (kills (is_seated pid s.seats)) (λ k. refl)
  where
    kills : (test : Bool) → pids_in (if test then entry.KillAsked pid ∷ [] else []) ≡ []
    kills true = refl
    kills false = refl
beginning s (PortEnds at) = Nobody refl (λ k. refl)
beginning s (PidsEnd at) = Nobody refl (λ k. refl)

pub pids_append : (first second : List PmEvent) → pids_in (first ++ second) ≡ pids_in first ++ pids_in second
pids_append [] second = refl
pids_append (e ∷ first) second = ap (λ (l : List ℕ). pids_by e ++ l) (pids_append first second) ∙ sym (append_assoc (pids_by e) (pids_in first) (pids_in second))

-- The pids of the children that began in the slots k and j.
record Apart (low k j : ℕ) (s : Seating) (moves : List Move) : Type 0 where
  pub rise : RiseAbove low (begun_pids (begun_from k s moves))
  pub differ : k ≢ j → (pid : ℕ) → IsPidOf pid (begun_pids (begun_from k s moves)) → IsPidOf pid (begun_pids (begun_from j s moves)) → ⊥

apart : (low : ℕ) (s : Seating) (moves : List Move) → RiseAbove low (pids_in (entries_from s moves)) → (k j : ℕ) → Apart low k j s moves
apart low s [] rise k j = record { rise = tt; differ = λ other pid one two. one }
apart low s (move ∷ moves) rise k j =
    by_beginning (beginning s move) (subst (RiseAbove low) (pids_append (entries_by s move) (entries_from (seating_by s move) moves)) rise)
    (λ l r a b. apart l (seating_by s move) moves r a b)
  where
    with_child : (child : Begun) (slot : ℕ) → low + 1 ≤ child.pid → ((a b : ℕ) → Apart child.pid a b (seating_by s move) moves)
        → (here : Bool) → (slot == k) ≡ here → begun_by k s move ≡ (if slot == k then child ∷ [] else [])
        → (there : Bool) → (slot == j) ≡ there → begun_by j s move ≡ (if slot == j then child ∷ [] else []) → Apart low k j s (move ∷ moves)
    with_child child slot up more here is_here at_k there is_there at_j = record {
      rise = subst (λ (l : List Begun). RiseAbove low (begun_pids (l ++ begun_from k (seating_by s move) moves))) (sym (got k here is_here at_k)) (risen here);
      differ = λ other pid one two.
          split other pid here there is_here is_there
          (subst (λ (l : List Begun). IsPidOf pid (begun_pids (l ++ begun_from k (seating_by s move) moves))) (got k here is_here at_k) one)
          (subst (λ (l : List Begun). IsPidOf pid (begun_pids (l ++ begun_from j (seating_by s move) moves))) (got j there is_there at_j) two);
    }
      where
        got : (a : ℕ) (test : Bool) → (slot == a) ≡ test → begun_by a s move ≡ (if slot == a then child ∷ [] else []) → begun_by a s move ≡ (if test then child ∷ [] else [])
        got a test is at = at ∙ ap (λ (b : Bool). if b then child ∷ [] else []) is

        risen : (test : Bool) → RiseAbove low (begun_pids ((if test then child ∷ [] else []) ++ begun_from k (seating_by s move) moves))
        risen true = (up, (more k j).rise)
        risen false = lower low child.pid _ (omega (arith, up)) (more k j).rise

        split : k ≢ j → (pid : ℕ) (a b : Bool) → (slot == k) ≡ a → (slot == j) ≡ b
            → IsPidOf pid (begun_pids ((if a then child ∷ [] else []) ++ begun_from k (seating_by s move) moves))
            → IsPidOf pid (begun_pids ((if b then child ∷ [] else []) ++ begun_from j (seating_by s move) moves)) → ⊥
        split other pid true true is_k is_j one two = absurd (other (grind (arith, is_k, is_j)))
        split other pid true false is_k is_j (inl is) two = (let h = all_above child.pid pid _ (more j k).rise two in absurd (omega (arith, is, h)))
        split other pid true false is_k is_j (inr one) two = (more k j).differ other pid one two
        split other pid false true is_k is_j one (inl is) = (let h = all_above child.pid pid _ (more k j).rise one in absurd (omega (arith, is, h)))
        split other pid false true is_k is_j one (inr two) = (more k j).differ other pid one two
        split other pid false false is_k is_j one two = (more k j).differ other pid one two

    by_beginning : Beginning s move → RiseAbove low (pids_in (entries_by s move) ++ pids_in (entries_from (seating_by s move) moves))
        → ((l : ℕ) → RiseAbove l (pids_in (entries_from (seating_by s move) moves)) → (a b : ℕ) → Apart l a b (seating_by s move) moves) → Apart low k j s (move ∷ moves)
    by_beginning (Nobody no_pid no_child) up rest =
        let more = rest low (subst (λ (l : List ℕ). RiseAbove low (l ++ pids_in (entries_from (seating_by s move) moves))) no_pid up) k j in
        record {
          rise = subst (λ (l : List Begun). RiseAbove low (begun_pids (l ++ begun_from k (seating_by s move) moves))) (sym (no_child k)) more.rise;
          differ = λ other pid one two. more.differ other pid
              (subst (λ (l : List Begun). IsPidOf pid (begun_pids (l ++ begun_from k (seating_by s move) moves))) (no_child k) one)
              (subst (λ (l : List Begun). IsPidOf pid (begun_pids (l ++ begun_from j (seating_by s move) moves))) (no_child j) two);
        }
    by_beginning (Somebody child slot its_pid its_child) up rest =
        let above = subst (λ (l : List ℕ). RiseAbove low (l ++ pids_in (entries_from (seating_by s move) moves))) its_pid up in
        let more = rest child.pid above.1 in
        with_child child slot above.0 more (slot == k) refl (its_child k) (slot == j) refl (its_child j)

-- ---- the join

not_below : (low pid : ℕ) (pids : List ℕ) → pid ≤ low → RiseAbove low pids → AllByRecursion (λ other. pid ≢ other) pids
not_below low pid [] le rise = tt
not_below low pid (other ∷ pids) le rise = ((λ is. omega (arith, is, le, rise.0)), not_below other pid pids (omega (arith, le, rise.0)) rise.1)

distinct : (low : ℕ) (pids : List ℕ) → RiseAbove low pids → AreDistinct pids
distinct low [] rise = tt
distinct low (pid ∷ pids) rise = (not_below pid pid pids (omega arith) rise.1, distinct pid pids rise.1)

pub pids_of_past : (past : List (PastChild MailTold)) → map (λ child. child.offer.pid) past ≡ begun_pids (map begun_of past)
pids_of_past [] = refl
pids_of_past (x ∷ past) = ap (λ (l : List ℕ). x.offer.pid ∷ l) (pids_of_past past)

-- the children that were released are those that began by these moves, and no others
pub used_once : (limits : Limits) (gives : ℕ → Bool) (count : ℕ) (moves : List Move) (d : RosterView MailTold) → IsLegal limits gives (journal_of count moves)
    → ((k : ℕ) → map begun_of (slot_at d k).past ≡ begun_at count k moves) → AreUsedOnce d
used_once limits gives count moves d legal begun = record {
  within = λ k. distinct 0 (pids_at d k) (subst (RiseAbove 0) (sym (pids_are k)) (both k k).rise);
  across = λ j k pid other one two. (both j k).differ other pid (subst (IsPidOf pid) (pids_are j) one) (subst (IsPidOf pid) (pids_are k) two);
}
  where
    both : (k j : ℕ) → Apart 0 k j (empty count) moves
    both k j = apart 0 (empty count) moves (pids_rise gives (replay_begun limits) (journal_of count moves) legal) k j

    pids_are : (k : ℕ) → pids_at d k ≡ begun_pids (begun_at count k moves)
    pids_are k = pids_of_past (slot_at d k).past ∙ ap begun_pids (begun k)

-- ---- the last pid

-- whoever is none of these differs from each
pub differs : (pid : ℕ) (pids : List ℕ) → (IsPidOf pid pids → ⊥) → AllByRecursion (λ other. pid ≢ other) pids
differs pid [] never = tt
differs pid (other ∷ pids) never = ((λ is. never (inl is)), differs pid pids (λ there. never (inr there)))

pub pid_either : (pid : ℕ) (xs ys : List ℕ) → IsPidOf pid xs ⊎ IsPidOf pid ys → IsPidOf pid (xs ++ ys)
pid_either pid xs ys (inl there) = pid_left pid xs ys there
pid_either pid xs ys (inr there) = pid_right pid xs ys there

-- whoever began in a slot is one of those that the entries tell of
begun_told : (k pid : ℕ) (s : Seating) (moves : List Move) → IsPidOf pid (begun_pids (begun_from k s moves)) → IsPidOf pid (pids_in (entries_from s moves))
begun_told k pid s [] there = absurd there
begun_told k pid s (move ∷ moves) there =
    subst (IsPidOf pid) (sym (pids_append (entries_by s move) (entries_from (seating_by s move) moves)))
    (pid_either pid (pids_in (entries_by s move)) (pids_in (entries_from (seating_by s move) moves)) (by (beginning s move) (λ more. begun_told k pid (seating_by s move) moves more)))
  where
    one : (child : Begun) (test : Bool) → IsPidOf pid (begun_pids ((if test then child ∷ [] else []) ++ begun_from k (seating_by s move) moves))
        → (IsPidOf pid (begun_pids (begun_from k (seating_by s move) moves)) → IsPidOf pid (pids_in (entries_from (seating_by s move) moves)))
        → IsPidOf pid (child.pid ∷ []) ⊎ IsPidOf pid (pids_in (entries_from (seating_by s move) moves))
    one child true (inl is) more = inl (inl is)
    one child true (inr there) more = inr (more there)
    one child false there more = inr (more there)

    by : Beginning s move → (IsPidOf pid (begun_pids (begun_from k (seating_by s move) moves)) → IsPidOf pid (pids_in (entries_from (seating_by s move) moves)))
        → IsPidOf pid (pids_in (entries_by s move)) ⊎ IsPidOf pid (pids_in (entries_from (seating_by s move) moves))
    by (Nobody no_pid no_child) more =
        inr (more (subst (λ (l : List Begun). IsPidOf pid (begun_pids (l ++ begun_from k (seating_by s move) moves))) (no_child k) there))
    by (Somebody child slot its_pid its_child) more =
        subst (λ (l : List ℕ). IsPidOf pid l ⊎ IsPidOf pid (pids_in (entries_from (seating_by s move) moves))) (sym its_pid)
        (one child (slot == k) (subst (λ (l : List Begun). IsPidOf pid (begun_pids (l ++ begun_from k (seating_by s move) moves))) (its_child k) there) more)

-- no child that was released had a pid above the last
pub drawn_by : (limits : Limits) (gives : ℕ → Bool) (count : ℕ) (moves : List Move) (d : RosterView MailTold) → IsLegal limits gives (journal_of count moves)
    → ((k : ℕ) → map begun_of (slot_at d k).past ≡ begun_at count k moves)
    → (k pid : ℕ) → IsPidOf pid (pids_at d k) → pid ≤ (all_replayed (replay_begun limits) (journal_of count moves)).shown.last_pid
drawn_by limits gives count moves d legal begun k pid there =
    (pids_below gives (replay_begun limits) (journal_of count moves) legal).each pid
    (begun_told k pid (empty count) moves (subst (IsPidOf pid) (pids_of_past (slot_at d k).past ∙ ap begun_pids (begun k)) there))
