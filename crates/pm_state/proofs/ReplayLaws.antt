-- What the entries of a legal journal keep, of what is due and of the machine, and who is there.
use Rattle.std.{proofs.Common.{◌≡◌, ℕ, ◌+◌, ◌≤◌, Bool, true, false, not, cond, ◌&&◌, List, [], ◌∷◌, ◌++◌, refl, sym, ◌∙◌, ap, subst, arith, append_assoc}, specs.Prelude.{IsSomeAnd, Some, nat_eq}}
use Rattle.pm_supervisor.specs.{pm_exit.declared.child.{Kind.Kind, Status.Status}, declared.Limits.Limits, Children.{Child, child_of, count_of, one_if}, Supervisor.Shared, Shared.reopened, Steps.{RedoEnded, shared_after}}
use Rattle.pm_state.specs.{declared.{action.Action.Action, event.PmEvent.PmEvent, machine.Machine.Machine}, Laws.RestartsSafely, Restarts.Counts, Journal.{AreLegal, Do, Due, EndRedo, Fits, FitsFirst, FollowsIn, IsLegal, Replay, all_replayed, caused, dues, dues_after, replay_begun, replayed, reported, row_of, settled, without_first}}
use Rattle.pm_state.specs.declared.action.Action.TheVariants as act
use Rattle.pm_state.specs.declared.event.PmEvent.TheVariants as entry

-- ---- the end of redo

-- as the supervisor's event
pub reopens : (opens : Bool) (s : Shared) → reopened opens s ≡ shared_after s (RedoEnded opens)
reopens true s = refl
reopens false s = refl

-- ---- what is due

-- without the end of redo
abbrev pub acts_in : List Due → List Action
acts_in [] = []
acts_in (Do a ∷ ds) = a ∷ acts_in ds
acts_in (EndRedo ∷ ds) = acts_in ds

pub acts_in_dues : (acts : List Action) → acts_in (dues acts) ≡ acts
acts_in_dues [] = refl
acts_in_dues (a ∷ acts) = ap (λ (others : List Action). a ∷ others) (acts_in_dues acts)

pub acts_behind_redo : (b : Bool) (acts : List Action) → acts_in (cond b (EndRedo ∷ []) [] ++ dues acts) ≡ acts
acts_behind_redo true acts = acts_in_dues acts
acts_behind_redo false acts = acts_in_dues acts

-- the entry of an act that a row begins with is caused by the row
row_entry : (s : Shared) (a : Action) (e : PmEvent) (m : Machine) → Fits s (Do a) e → (caused m e ≡ row_of m) × (dues_after m e ≡ dues (without_first (row_of m).acts))
row_entry s (act.Start k) (entry.Started pid given) m fits = (refl, refl)
row_entry s (act.Quit why) (entry.QuitSent reason) m fits = (refl, refl)
row_entry s act.Terminate entry.TerminateSent m fits = (refl, refl)
row_entry s act.AskCheckpoint entry.CheckpointAsked m fits = (refl, refl)
row_entry s act.Ready (entry.Ready generation) m fits = (refl, refl)
row_entry s act.Reset (entry.Reset generation) m fits = (refl, refl)
row_entry s (act.Say line) (entry.Said written) m fits = (refl, refl)
row_entry s (act.End how) (entry.Ended given) m fits = (refl, refl)
row_entry s a e m fits = absurd fits

-- ---- one entry

-- What was heard of the journal, what is due and the machine: what holds of them is kept by an act that is due, by the end of redo,
-- by what the machine does by itself, and such entries alone are noted.
pub record Keeps (H : Type 0) (heard_after : H → PmEvent → H) (U : H → List Action → Machine → Type 0) (P : PmEvent → Type 0) : Type 0 where
  pub acted :
      (h : H) (s : Shared) (a : Action) (acts : List Action) (e : PmEvent) (m : Machine) → Fits s (Do a) e → U h (a ∷ acts) m
      → P e × U (heard_after h e) acts (reported e m)
  pub redo :
      (h : H) (generation kept : ℕ) (acts : List Action) (m : Machine) → U h acts m
      → P (entry.RedoEnded generation kept) × U (heard_after h (entry.RedoEnded generation kept)) acts m
  pub row : (h : H) (m : Machine) → m.ended ≡ false → U h [] m → U h (row_of m).acts (row_of m).after
  pub settled : (h : H) (acts : List Action) (m : Machine) → U h acts m → U h acts (settled m)

-- what is kept after an entry
abbrev pub Behind : (H : Type 0) (heard_after : H → PmEvent → H) (U : H → List Action → Machine → Type 0) (P : PmEvent → Type 0) → H → Replay → PmEvent → Type 0
Behind H heard_after U P h r e = P e × U (heard_after h e) (acts_in (replayed r e).due) (replayed r e).machine

module _ (H : Type 0) (heard_after : H → PmEvent → H) (U : H → List Action → Machine → Type 0) (P : PmEvent → Type 0) (keeps : Keeps H heard_after U P) where
  -- where nothing was due
  pub rested : (h : H) (r : Replay) (e : PmEvent) (acts : List Action) → r.due ≡ [] → acts_in (dues_after r.machine e) ≡ acts
      → U h acts (reported e (caused r.machine e).after) → U h (acts_in (replayed r e).due) (replayed r e).machine
  rested h r e acts none is u = rw (none, is) (keeps.settled h acts (reported e (caused r.machine e).after) u)

  first_in : (h : H) (r : Replay) (e : PmEvent) (acts : List Action) → r.due ≡ [] → r.machine.ended ≡ false → (row_of r.machine).acts ≡ acts → FitsFirst r.shown acts e
      → U h [] r.machine → Behind H heard_after U P h r e
  first_in h r e [] none on is fits u = absurd fits
  first_in h r e (a ∷ rest) none on is fits u =
      let begun : U h (a ∷ rest) (row_of r.machine).after = subst (λ (acts : List Action). U h acts (row_of r.machine).after) is (keeps.row h r.machine on u) in
      let cause = row_entry r.shown a e r.machine fits in
      let done = keeps.acted h r.shown a rest e (row_of r.machine).after fits begun in (
        done.0,
        rested (heard_after h e) r e rest none (ap acts_in (cause.1 ∙ ap (λ (acts : List Action). dues (without_first acts)) is) ∙ acts_in_dues rest)
            (subst (λ (o : _). U (heard_after h e) rest (reported e o.after)) (sym cause.0) done.1),
      )

  -- the first act of a row is done
  pub first_on : (h : H) (r : Replay) (e : PmEvent) → r.due ≡ [] → r.machine.ended ≡ false → FitsFirst r.shown (row_of r.machine).acts e → U h [] r.machine → Behind H heard_after U P h r e
  first_on h r e none on fits u = first_in h r e (row_of r.machine).acts none on refl fits u

  -- an act that is due is done
  due_on : (h : H) (r : Replay) (d : Due) (ds : List Due) (e : PmEvent) → r.due ≡ d ∷ ds → Fits r.shown d e → U h (acts_in (d ∷ ds)) r.machine → Behind H heard_after U P h r e
  due_on h r (Do a) ds e is fits u =
      let done = keeps.acted h r.shown a (acts_in ds) e r.machine fits u in (done.0, rw is (keeps.settled (heard_after h e) (acts_in ds) (reported e r.machine) done.1))
  due_on h r EndRedo ds (entry.RedoEnded generation kept) is fits u =
      let done = keeps.redo h generation kept (acts_in ds) r.machine u in
      (done.0, rw is (keeps.settled (heard_after h (entry.RedoEnded generation kept)) (acts_in ds) r.machine done.1))
  due_on h r d ds e is fits u = absurd fits

  -- what is kept where nothing is due is kept
  pub follows_on : (gives : ℕ → Bool) (h : H) (r : Replay) (e : PmEvent) (ds : List Due) → r.due ≡ ds → FollowsIn ds gives r e
      → (r.due ≡ [] → FollowsIn [] gives r e → U h [] r.machine → Behind H heard_after U P h r e) → U h (acts_in r.due) r.machine → Behind H heard_after U P h r e
  follows_on gives h r e [] is may come u = come is may (subst (λ (ds : List Due). U h (acts_in ds) r.machine) is u)
  follows_on gives h r e (d ∷ ds) is fits come u = due_on h r d ds e is fits (subst (λ (due : List Due). U h (acts_in due) r.machine) is u)

-- ---- parts of a journal

pub legal_front : (gives : ℕ → Bool) (r : Replay) (xs ys : List PmEvent) → AreLegal gives r (xs ++ ys) → AreLegal gives r xs
legal_front gives r [] ys legal = tt
legal_front gives r (x ∷ xs) ys legal = (legal.0, legal_front gives (replayed r x) xs ys legal.1)

pub legal_behind : (gives : ℕ → Bool) (r : Replay) (xs ys : List PmEvent) → AreLegal gives r (xs ++ ys) → AreLegal gives (all_replayed r xs) ys
legal_behind gives r [] ys legal = legal
legal_behind gives r (x ∷ xs) ys legal = legal_behind gives (replayed r x) xs ys legal.1

pub replayed_append : (r : Replay) (xs ys : List PmEvent) → all_replayed r (xs ++ ys) ≡ all_replayed (all_replayed r xs) ys
replayed_append r [] ys = refl
replayed_append r (x ∷ xs) ys = replayed_append (replayed r x) xs ys

-- ---- who is there

-- the machine counts the children, at each entry
abbrev pub AreCounted : Replay → List PmEvent → Type 0
AreCounted r [] = Unit {0}
AreCounted r (e ∷ journal) = Counts r.machine r.shown.children × AreCounted (replayed r e) journal

pub are_counted : RestartsSafely → (limits : Limits) (gives : ℕ → Bool) (before journal : List PmEvent) → IsLegal limits gives (before ++ journal)
    → AreCounted (all_replayed (replay_begun limits) before) journal
are_counted safely limits gives before [] legal = tt
are_counted safely limits gives before (e ∷ journal) legal = (
  safely.counts limits gives before (legal_front gives (replay_begun limits) before (e ∷ journal) legal),
  subst (λ (r : Replay). AreCounted r journal) (replayed_append (replay_begun limits) before (e ∷ []))
      (are_counted safely limits gives (before ++ e ∷ []) journal (subst (IsLegal limits gives) (sym (append_assoc before (e ∷ []) journal)) legal)),
)

pub there_counts : (test : Kind → Bool) (pid : ℕ) (k : Kind) (cs : List Child) → IsSomeAnd (child_of pid cs) (λ c. c.kind ≡ k) → test k ≡ true → 1 ≤ count_of test cs
there_counts test pid k [] there is = absurd there
there_counts test pid k (c ∷ cs) there is =
    elim (nat_eq c.pid pid) as
    (λ v. IsSomeAnd (cond v (Some c) (child_of pid cs)) (λ x. x.kind ≡ k) → 1 ≤ one_if (test c.kind) + count_of test cs) [
      | true ↦ λ found. omega (arith, ap one_if (ap test found ∙ is))
      | false ↦ λ later. omega (arith, there_counts test pid k cs later is)
    ]
    there

pub startup_there : (n : ℕ) (a b : Bool) → 1 ≤ n → n ≡ one_if (not a && not b) → a ≡ false
startup_there n true b one is = absurd (omega (arith, one, is))
startup_there n false b one is = refl

pub was_there : (n : ℕ) (b : Bool) → 1 ≤ n → n ≡ one_if b → b ≡ true
was_there n true one is = refl
was_there n false one is = absurd (omega (arith, one, is))

-- ---- the end of a child

none_fits : (s : Shared) (a : Action) (pid : ℕ) (k : Kind) (status : Status) (was_active : Bool) (at : ℕ) → Fits s (Do a) (entry.Exited pid k status was_active at) → ⊥
none_fits s (act.Start kind) pid k status was_active at fits = fits
none_fits s _ pid k status was_active at fits = fits

-- it comes where nothing is due, of a child that is there, and the server goes on
pub record Ends (r : Replay) (pid : ℕ) (k : Kind) : Type 0 where
  pub rests : r.due ≡ []
  pub goes_on : r.machine.ended ≡ false
  pub there : IsSomeAnd (child_of pid r.shown.children) (λ c. c.kind ≡ k)

pub ends_in : (gives : ℕ → Bool) (r : Replay) (ds : List Due) (pid : ℕ) (k : Kind) (status : Status) (was_active : Bool) (at : ℕ) → r.due ≡ ds
    → FollowsIn ds gives r (entry.Exited pid k status was_active at) → Ends r pid k
ends_in gives r [] pid k status was_active at is may = record { rests = is; goes_on = may.0; there = may.2.0 }
ends_in gives r (Do a ∷ ds) pid k status was_active at is fits = absurd (none_fits r.shown a pid k status was_active at fits)
ends_in gives r (EndRedo ∷ ds) pid k status was_active at is fits = absurd fits

pub ends_at : (gives : ℕ → Bool) (r : Replay) (pid : ℕ) (k : Kind) (status : Status) (was_active : Bool) (at : ℕ) (journal : List PmEvent)
    → AreLegal gives r (entry.Exited pid k status was_active at ∷ journal) → Ends r pid k
ends_at gives r pid k status was_active at journal legal = ends_in gives r r.due pid k status was_active at refl legal.0
