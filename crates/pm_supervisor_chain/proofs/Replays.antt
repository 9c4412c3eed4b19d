-- What a legal journal leaves of its children: their pids rise, each is there once and among those that may use the store, and
-- those that ended are gone for good.
use Rattle.std.{proofs.{Common.{◌≡◌, ℕ, ◌+◌, ◌<◌, ◌≤◌, nat_eq, cond, Bool, true, false, List, [], ◌∷◌, ◌++◌, Some, None, refl, arith, ap, sym, ◌∙◌, subst, inl, append_assoc}, lemmas.Bool.eqb-true}, specs.{Prelude.{IsSomeAnd, is_none}, List.AllByRecursion}}
use Rattle.pm_query.specs.pm_facts.Lists.{each_both}
use Rattle.pm_state.{specs.{pm_exit.declared.child.Kind.Kind, pm_admit.declared.Cac.Cac, pm_supervisor.{declared.Limits.Limits, Children.{Child, child_of, without, is_dead_end}, Supervisor.Shared, Shared.with_child, Shared.reopened, Steps.{shared_after, kind_for, RedoEnded, Reset}}, declared.{action.Action.Action, event.PmEvent.PmEvent, machine.Machine.Machine}, Journal.{Due, Do, EndRedo, Replay, AreLegal, Fits, FitsFirst, Follows, FollowsIn, IsLegal, MayCome, all_replayed, replay_begun, replayed, row_of, shown_after}}, proofs.pm_supervisor.RunLaws.each-without}
use Rattle.pm_state.specs.pm_exit.declared.child.Kind.TheVariants as kind
use Rattle.pm_state.specs.pm_admit.declared.Cac.TheVariants as decision
use Rattle.pm_state.specs.declared.action.Action.TheVariants as act
use Rattle.pm_state.specs.declared.event.PmEvent.TheVariants as event
use Rattle.pm_supervisor_chain.{specs.Chain.{InGeneration, IsAmong, exits_of, users_from, generation_in}, proofs.{FoldsLaws.{exits-append, generation-append, users-append}, Lists.{all_map, all_zip, among_left, among_right}}}

-- ---- children

-- the newest first, each with a smaller pid
abbrev pub AreBelow : ℕ → List Child → Type 0
AreBelow bound [] = Unit {0}
AreBelow bound (c ∷ cs) = (c.pid < bound) × AreBelow c.pid cs

below-weaken : (a b : ℕ) (cs : List Child) → a ≤ b → AreBelow a cs → AreBelow b cs
below-weaken a b [] le below = tt
below-weaken a b (c ∷ cs) le below = (omega (arith, le, below.0), below.1)

eq-less : (a b : ℕ) → b < a → nat_eq a b ≡ false
eq-less a b less = grind arith

below-none : (pid : ℕ) (cs : List Child) → AreBelow pid cs → child_of pid cs ≡ None
below-none pid [] below = refl
below-none pid (c ∷ cs) below =
    elim (nat_eq c.pid pid) as (λ v. nat_eq c.pid pid ≡ v → cond v (Some c) (child_of pid cs) ≡ None) [
      | true ↦ λ e. absurd (omega (arith, eqb-true c.pid pid e, below.0))
      | false ↦ λ e. below-none pid cs (below-weaken c.pid pid cs (omega (arith, below.0)) below.1)
    ]
    refl

below-without : (pid bound : ℕ) (cs : List Child) → AreBelow bound cs → AreBelow bound (without pid cs)
below-without pid bound [] below = tt
below-without pid bound (c ∷ cs) below =
    elim (nat_eq c.pid pid) as (λ v. AreBelow bound (cond v cs (c ∷ without pid cs))) [
      | true ↦ below-weaken c.pid bound cs (omega (arith, below.0)) below.1
      | false ↦ (below.0, below-without pid c.pid cs below.1)
    ]

-- a child that is taken away isn't there any more
gone-without : (pid bound : ℕ) (cs : List Child) → AreBelow bound cs → child_of pid (without pid cs) ≡ None
gone-without pid bound [] below = refl
gone-without pid bound (c ∷ cs) below =
    elim (nat_eq c.pid pid) as (λ v. nat_eq c.pid pid ≡ v → child_of pid (cond v cs (c ∷ without pid cs)) ≡ None) [
      | true ↦ λ e. below-none pid cs (subst (λ n. AreBelow n cs) (eqb-true c.pid pid e) below.1)
      | false ↦ λ e. rw e (gone-without pid c.pid cs below.1)
    ]
    refl

none-without : (other pid : ℕ) (cs : List Child) → child_of other cs ≡ None → child_of other (without pid cs) ≡ None
none-without other pid [] none = refl
none-without other pid (c ∷ cs) none =
    elim (nat_eq c.pid other) as
    (λ v. nat_eq c.pid other ≡ v → cond v (Some c) (child_of other cs) ≡ None → child_of other (without pid (c ∷ cs)) ≡ None) [
      | true ↦ λ e none. absurd cc
      | false ↦ λ e none.
          elim (nat_eq c.pid pid) as (λ v. child_of other (cond v cs (c ∷ without pid cs)) ≡ None) [
            | true ↦ none
            | false ↦ rw e (none-without other pid cs none)
          ]
    ]
    refl none

-- the child that is there under a pid
pub record Found (P Q : Child → Type 0) (pid : ℕ) : Type 0 where
  pub child : Child
  pub own : child.pid ≡ pid
  pub each : P child
  pub this : Q child

pub found : (P Q : Child → Type 0) (pid : ℕ) (cs : List Child) → AllByRecursion P cs → IsSomeAnd (child_of pid cs) Q → Found P Q pid
found P Q pid [] all is = absurd is
found P Q pid (c ∷ cs) all is =
    elim (nat_eq c.pid pid) as (λ v. nat_eq c.pid pid ≡ v → IsSomeAnd (cond v (Some c) (child_of pid cs)) Q → Found P Q pid) [
      | true ↦ λ e is. record { child = c; own = eqb-true c.pid pid e; each = all.0; this = is }
      | false ↦ λ e is. found P Q pid cs all.1 is
    ]
    refl is

all-below : (bound : ℕ) (cs : List Child) → AreBelow bound cs → AllByRecursion (λ c. c.pid < bound) cs
all-below bound [] below = tt
all-below bound (c ∷ cs) below = (below.0, all-below bound cs (below-weaken c.pid bound cs (omega (arith, below.0)) below.1))

-- ---- what a legal entry says

abbrev Heeds : Shared → PmEvent → Type 0
Heeds s (event.Started pid kind) = pid ≡ s.last_pid + 1
Heeds s (event.Accepted pid decision) = pid ≡ s.last_pid + 1
Heeds s (event.Exited pid kind status was_active at) = IsSomeAnd (child_of pid s.children) (λ c. c.kind ≡ kind)
Heeds s (event.Reset generation) = generation ≡ s.generation + 1
Heeds s _ = Unit {0}

fits-heeds : (s : Shared) (d : Due) (e : PmEvent) → Fits s d e → Heeds s e
fits-heeds s (Do (act.Start kind)) (event.Started pid asked) fits = fits.0
fits-heeds s (Do other) (event.Started pid asked) fits = absurd fits
fits-heeds s EndRedo (event.Started pid asked) fits = absurd fits
fits-heeds s (Do act.Reset) (event.Reset generation) fits = fits
fits-heeds s (Do other) (event.Reset generation) fits = absurd fits
fits-heeds s EndRedo (event.Reset generation) fits = absurd fits
fits-heeds s (Do act.Reset) (event.Accepted pid decision) fits = absurd fits
fits-heeds s (Do other) (event.Accepted pid decision) fits = absurd fits
fits-heeds s EndRedo (event.Accepted pid decision) fits = absurd fits
fits-heeds s (Do act.Reset) (event.Exited pid kind status was_active at) fits = absurd fits
fits-heeds s (Do other) (event.Exited pid kind status was_active at) fits = absurd fits
fits-heeds s EndRedo (event.Exited pid kind status was_active at) fits = absurd fits
fits-heeds s d e fits = tt

first-heeds : (s : Shared) (acts : List Action) (e : PmEvent) → FitsFirst s acts e → Heeds s e
first-heeds s [] e fits = absurd fits
first-heeds s (action ∷ acts) e fits = fits-heeds s (Do action) e fits

may-heeds : (gives : ℕ → Bool) (r : Replay) (e : PmEvent) → MayCome gives r e → Heeds r.shown e
may-heeds gives r (event.Accepted pid decision) may = may.1
may-heeds gives r (event.Exited pid kind status was_active at) may = may.0
may-heeds gives r (event.Started pid kind) may = first-heeds r.shown (row_of r.machine).acts (event.Started pid kind) may
may-heeds gives r (event.Reset generation) may = first-heeds r.shown (row_of r.machine).acts (event.Reset generation) may
may-heeds gives r e may = tt

in-heeds : (gives : ℕ → Bool) (r : Replay) (ds : List Due) (e : PmEvent) → FollowsIn ds gives r e → Heeds r.shown e
in-heeds gives r [] e follows = may-heeds gives r e follows.2
in-heeds gives r (d ∷ ds) e follows = fits-heeds r.shown d e follows

heeds : (gives : ℕ → Bool) (r : Replay) (e : PmEvent) → Follows gives r e → Heeds r.shown e
heeds gives r e follows = in-heeds gives r r.due e follows

-- ---- what it leaves

abbrev pub child_in : Child → InGeneration
child_in c = record { number = c.pid; generation = c.generation }

-- the generation so far, the children that ended and those that may use the store, as the journal tells them
pub record Tells : Type 0 where
  pub generation : ℕ
  pub exits : List ℕ
  pub users : List InGeneration

abbrev pub told_behind : Tells → List PmEvent → Tells
told_behind t es =
    record {
      generation = generation_in t.generation es;
      exits = t.exits ++ exits_of es;
      users = t.users ++ users_from t.generation es;
    }

-- what is known of the children that the journal leaves
pub record Known (t : Tells) (s : Shared) : Type 0 where
  pub generation : t.generation ≡ s.generation
  pub pids : AreBelow (s.last_pid + 1) s.children
  pub exits_rise : AllByRecursion (λ pid. pid ≤ s.last_pid) t.exits
  pub exits_gone : AllByRecursion (λ pid. child_of pid s.children ≡ None) t.exits
  pub users : AllByRecursion (λ c. is_dead_end c.kind ≡ false → IsAmong (child_in c) t.users) s.children

-- where the children and their pids are the same
known-same : (t : Tells) (s now : Shared) → now.children ≡ s.children → now.last_pid ≡ s.last_pid → now.generation ≡ s.generation → Known t s
    → Known (told_behind t []) now
known-same t s now children last_pid generation known =
    record {
      generation = known.generation ∙ sym generation;
      pids = rw (children, last_pid) known.pids;
      exits_rise = each_both _ t.exits [] (rw last_pid known.exits_rise) tt;
      exits_gone = each_both _ t.exits [] (rw children known.exits_gone) tt;
      users = rw children (all_map _ _ (λ c of_c serves. among_left (child_in c) t.users [] (of_c serves)) s.children known.users);
    }

-- where a child joins, which may use the store unless it refuses a connection
known-joined : (t : Tells) (s : Shared) (pid : ℕ) (k : Kind) (more : List InGeneration) → pid ≡ s.last_pid + 1
    → (is_dead_end k ≡ false → IsAmong (record { number = pid; generation = s.generation }) more) → Known t s
    → Known (record { generation = t.generation; exits = t.exits ++ []; users = t.users ++ more }) (with_child pid k s)
known-joined t s pid k more next of_it known =
    record {
      generation = known.generation;
      pids = (omega arith, rw next known.pids);
      exits_rise =
          each_both (λ p. p ≤ pid) t.exits []
          (all_map (λ p. p ≤ s.last_pid) (λ p. p ≤ pid) (λ p le. omega (arith, le, next)) t.exits known.exits_rise) tt;
      exits_gone =
          each_both (λ p. child_of p (with_child pid k s).children ≡ None) t.exits []
          (all_zip (λ p. p ≤ s.last_pid) (λ p. child_of p s.children ≡ None) (λ p. child_of p (with_child pid k s).children ≡ None)
          (λ p le none. rw (eq-less pid p (omega (arith, le, next))) none) t.exits known.exits_rise known.exits_gone) tt;
      users = (
        λ serves. among_right _ t.users more (of_it serves),
        all_map _ _ (λ c of_c serves. among_left (child_in c) t.users more (of_c serves)) s.children known.users,
      );
    }

known-accepted : (t : Tells) (s : Shared) (pid : ℕ) (d : Cac) → pid ≡ s.last_pid + 1 → Known t s
    → Known (told_behind t (event.Accepted pid d ∷ [])) (with_child pid (kind_for d) s)
known-accepted t s pid decision.Ok next known =
    known-joined t s pid kind.Backend (record { number = pid; generation = t.generation } ∷ []) next (λ serves. inl (refl, sym known.generation)) known
known-accepted t s pid other next known = known-joined t s pid kind.DeadEnd [] next (λ serves. absurd cc) known

known-exited : (t : Tells) (s : Shared) (pid : ℕ) (k : Kind) → IsSomeAnd (child_of pid s.children) (λ c. c.kind ≡ k) → Known t s
    → Known (record { generation = t.generation; exits = t.exits ++ pid ∷ []; users = t.users ++ [] })
    (record s { children = without pid s.children })
known-exited t s pid k there known =
    let one : Found (λ c. c.pid < s.last_pid + 1) (λ c. c.kind ≡ k) pid =
    found _ _ pid s.children (all-below (s.last_pid + 1) s.children known.pids) there in
    record {
      generation = known.generation;
      pids = below-without pid (s.last_pid + 1) s.children known.pids;
      exits_rise = each_both _ t.exits (pid ∷ []) known.exits_rise (omega (arith, one.own, one.each), tt);
      exits_gone =
          each_both (λ p. child_of p (without pid s.children) ≡ None) t.exits (pid ∷ [])
          (all_map _ _ (λ p none. none-without p pid s.children none) t.exits known.exits_gone)
          (gone-without pid (s.last_pid + 1) s.children known.pids, tt);
      users =
          each-without _ pid s.children
          (all_map _ _ (λ c of_c serves. among_left (child_in c) t.users [] (of_c serves)) s.children known.users);
    }

known-redone : (b : Bool) (t : Tells) (s : Shared) → Known t s → Known (told_behind t []) (reopened b s)
known-redone true t s known = known-same t s _ refl refl refl known
known-redone false t s known = known-same t s s refl refl refl known

known-reset : (t : Tells) (s : Shared) (generation : ℕ) → generation ≡ s.generation + 1 → Known t s
    → Known (told_behind t (event.Reset generation ∷ [])) (shared_after s Reset)
known-reset t s generation next known =
    let same : Known (told_behind t []) s = known-same t s s refl refl refl known in
    record {
      generation = next;
      pids = same.pids;
      exits_rise = same.exits_rise;
      exits_gone = same.exits_gone;
      users = same.users;
    }

known-entry : (t : Tells) (m : Machine) (s : Shared) (e : PmEvent) → Heeds s e → Known t s
    → Known (told_behind t (e ∷ [])) (shown_after m s e)
known-entry t m s (event.Started pid k) next known =
    known-joined t s pid k (record { number = pid; generation = t.generation } ∷ []) next (λ serves. inl (refl, sym known.generation)) known
known-entry t m s (event.Accepted pid d) next known = known-accepted t s pid d next known
known-entry t m s (event.Exited pid k status was_active at) there known = known-exited t s pid k there known
known-entry t m s (event.RedoEnded generation kept) heeded known = known-redone (is_none m.shutdown) t s known
known-entry t m s (event.Reset generation) next known = known-reset t s generation next known
known-entry t m s (event.QuitSent why) heeded known = known-same t s _ refl refl refl known
known-entry t m s e heeded known = known-same t s s refl refl refl known

-- entry after entry
told-more : (t : Tells) (e : PmEvent) (es : List PmEvent) → told_behind (told_behind t (e ∷ [])) es ≡ told_behind t (e ∷ es)
told-more t e es =
    let generation : generation_in (generation_in t.generation (e ∷ [])) es ≡ generation_in t.generation (e ∷ es) =
    sym (generation-append t.generation (e ∷ []) es) in
    let exits : (t.exits ++ exits_of (e ∷ [])) ++ exits_of es ≡ t.exits ++ exits_of (e ∷ es) =
    append_assoc t.exits (exits_of (e ∷ [])) (exits_of es) ∙ ap (λ l. t.exits ++ l) (sym (exits-append (e ∷ []) es)) in
    let users : (t.users ++ users_from t.generation (e ∷ [])) ++ users_from (generation_in t.generation (e ∷ [])) es ≡ t.users ++ users_from t.generation (e ∷ es) =
    append_assoc t.users (users_from t.generation (e ∷ [])) (users_from (generation_in t.generation (e ∷ [])) es)
    ∙ ap (λ (l : List InGeneration). t.users ++ l) (sym (users-append t.generation (e ∷ []) es)) in
    rw (generation, exits, users) refl

pub known-all : (gives : ℕ → Bool) (t : Tells) (r : Replay) (es : List PmEvent) → AreLegal gives r es → Known t r.shown
    → Known (told_behind t es) (all_replayed r es).shown
known-all gives t r [] legal known = known-same t r.shown r.shown refl refl refl known
known-all gives t r (e ∷ es) legal known =
    subst (λ u. Known u (all_replayed (replayed r e) es).shown) (told-more t e es)
    (known-all gives (told_behind t (e ∷ [])) (replayed r e) es legal.1 (known-entry t r.machine r.shown e (heeds gives r e legal.0) known))

abbrev pub told_by : List PmEvent → Tells
told_by journal = record { generation = generation_in 1 journal; exits = exits_of journal; users = users_from 1 journal }

pub known : (limits : Limits) (gives : ℕ → Bool) (journal : List PmEvent) → IsLegal limits gives journal
    → Known (told_by journal) (all_replayed (replay_begun limits) journal).shown
known limits gives journal legal =
    known-all gives (told_by []) (replay_begun limits) journal legal
    (record { generation = refl; pids = tt; exits_rise = tt; exits_gone = tt; users = tt })
