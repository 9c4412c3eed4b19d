-- Steps of children between the events of a run leave it a run.
use Rattle.std.{proofs.Common.{◌≡◌, ◌≢◌, ℕ, ◌+◌, nat_eq, cond, Bool, true, false, ◌&&◌, List, [], ◌∷◌, Option, Some, refl, arith, ap, sym, ◌∙◌, subst, inl, inr}, specs.{Prelude.IsSomeAnd, List.AllByRecursion}}
use Rattle.pm_exit.specs.declared.child.Kind.{Kind}
use Rattle.pm_exit.specs.declared.child.Kind.TheVariants as kind
use Rattle.pm_supervisor.{specs.{declared.Limits.Limits, Children.{Child, is_session, is_startup_child, is_checkpointer, is_writer, child_of, without, marked, one_if, count_of, attached_sessions}, Supervisor.{Shared, Supervisor}, Shared.{PidsDiffer, IsKept}, Steps.{SupervisorEvent, Accept, Start, Attach, Touch, Detach, Exit, Notice, Ask, Checkpointed, RedoEnded, Reset, End, Move, PastEvent, Trace, HasEnded, HasFailed, redo_has_ended, redo_ended_after, kind_for, MayHappen, RestAllows, SharedAllows, BackendsAreGone, IsRun, happened, all_happened, after, shared_after, shared_of, with_event}, Between.{is_child_step, without_child_steps, ChildStepsMayHappen, all_detached, detached, with_children, IsAlike}}, proofs.Soundness.{keeps-any, shared-after}}
use Rattle.pm_supervisor.specs.declared.Reason.TheVariants as reason
use Rattle.pm_supervisor.specs.declared.Ending.TheVariants as ending
use Rattle.pm_supervisor.specs.Phase as phase

-- who is attached counts for nothing but the sessions that are

count-detached : (test : Kind → Bool) (cs : List Child) → count_of test (all_detached cs) ≡ count_of test cs
count-detached test [] = refl
count-detached test (c ∷ cs) = ap (λ n. one_if (test c.kind) + n) (count-detached test cs)

same-count : (test : Kind → Bool) (cs ds : List Child) → all_detached cs ≡ all_detached ds → count_of test cs ≡ count_of test ds
same-count test cs ds same = sym (count-detached test cs) ∙ (ap (count_of test) same ∙ count-detached test ds)

none-detached : (ds : List Child) → all_detached ds ≡ [] → ds ≡ []
none-detached [] is = refl
none-detached (d ∷ ds) is = absurd cc

none-alike : (cs ds : List Child) → all_detached cs ≡ all_detached ds → cs ≡ [] → ds ≡ []
none-alike cs ds same none = none-detached ds (sym same ∙ ap all_detached none)

abbrev IsOfKind : Kind → Option Child → Type 0
IsOfKind k o = IsSomeAnd o (λ c. c.kind ≡ k)

pub kind-detached : (pid : ℕ) (k : Kind) (cs : List Child) → IsOfKind k (child_of pid cs) → IsOfKind k (child_of pid (all_detached cs))
kind-detached pid k [] there = absurd there
kind-detached pid k (c ∷ cs) there =
    elim (nat_eq c.pid pid) as
    (λ v. IsOfKind k (cond v (Some c) (child_of pid cs))
    → IsOfKind k (cond v (Some (record c { attached = false })) (child_of pid (all_detached cs)))) [
      | true ↦ λ here. here
      | false ↦ λ later. kind-detached pid k cs later
    ]
    there

pub detached-kind : (pid : ℕ) (k : Kind) (cs : List Child) → IsOfKind k (child_of pid (all_detached cs)) → IsOfKind k (child_of pid cs)
detached-kind pid k [] there = absurd there
detached-kind pid k (c ∷ cs) there =
    elim (nat_eq c.pid pid) as
    (λ v. IsOfKind k (cond v (Some (record c { attached = false })) (child_of pid (all_detached cs)))
    → IsOfKind k (cond v (Some c) (child_of pid cs))) [
      | true ↦ λ here. here
      | false ↦ λ later. detached-kind pid k cs later
    ]
    there

kind-alike : (pid : ℕ) (k : Kind) (cs ds : List Child) → all_detached cs ≡ all_detached ds → IsOfKind k (child_of pid cs)
    → IsOfKind k (child_of pid ds)
kind-alike pid k cs ds same there =
    detached-kind pid k ds (subst (λ xs. IsOfKind k (child_of pid xs)) same (kind-detached pid k cs there))

detached-marked : (pid : ℕ) (b : Bool) (cs : List Child) → all_detached (marked pid b cs) ≡ all_detached cs
detached-marked pid b [] = refl
detached-marked pid b (c ∷ cs) =
    elim (nat_eq c.pid pid) as
    (λ v. all_detached (cond v (record c { attached = b } ∷ cs) (c ∷ marked pid b cs)) ≡ record c { attached = false } ∷ all_detached cs) [
      | true ↦ refl
      | false ↦ ap (λ xs. record c { attached = false } ∷ xs) (detached-marked pid b cs)
    ]

detached-without : (pid : ℕ) (cs : List Child) → all_detached (without pid cs) ≡ without pid (all_detached cs)
detached-without pid [] = refl
detached-without pid (c ∷ cs) =
    elim (nat_eq c.pid pid) as
    (λ v. all_detached (cond v cs (c ∷ without pid cs))
    ≡ cond v (all_detached cs) (record c { attached = false } ∷ without pid (all_detached cs))) [
      | true ↦ refl
      | false ↦ ap (λ xs. record c { attached = false } ∷ xs) (detached-without pid cs)
    ]

without-alike : (pid : ℕ) (cs ds : List Child) → all_detached cs ≡ all_detached ds → all_detached (without pid cs) ≡ all_detached (without pid ds)
without-alike pid cs ds same = detached-without pid cs ∙ (ap (without pid) same ∙ sym (detached-without pid ds))

-- in a closed generation no session is attached
none-attached : (cs : List Child) → AllByRecursion (λ c. is_session c.kind ≡ true → c.attached ≡ true → false ≡ true) cs
    → attached_sessions cs ≡ 0
none-attached [] none = refl
none-attached (c ∷ cs) none =
    elim (is_session c.kind) as
    (λ v. (v ≡ true → c.attached ≡ true → false ≡ true) → one_if (v && c.attached) + attached_sessions cs ≡ 0) [
      | true ↦ λ no. elim c.attached as (λ a. (a ≡ true → false ≡ true) → one_if a + attached_sessions cs ≡ 0) [
        | true ↦ λ isnt. absurd (let wrong : false ≡ true = isnt refl in cc)
        | false ↦ λ _. omega (arith, none-attached cs none.1)
      ]
          (no refl)
      | false ↦ λ _. omega (arith, none-attached cs none.1)
    ]
    none.0

closed-attached : (limit : ℕ) (s : Shared) → IsKept limit s → s.is_open ≡ false → attached_sessions s.children ≡ 0
closed-attached limit s kept closed =
    none-attached s.children
    (subst (λ o. AllByRecursion (λ c. is_session c.kind ≡ true → c.attached ≡ true → o ≡ true) s.children) closed kept.attached_in_open)

-- the past with more steps of children

record PastAlike (p q : List PastEvent) : Type 0 where
  ended : (test : Kind → Bool) (generation : ℕ) → HasEnded test generation p → HasEnded test generation q
  failed : (generation : ℕ) → HasFailed generation p → HasFailed generation q
  redone : redo_has_ended q ≡ redo_has_ended p

-- what else than the children an event leaves doesn't depend on them
same-generation : (s : Supervisor) (ds : List Child) (e : SupervisorEvent)
    → (shared_after (with_children s ds).shared e).generation ≡ (shared_after s.shared e).generation
same-generation s ds (Accept pid decision) = refl
same-generation s ds (Start pid k) = refl
same-generation s ds (Attach pid reserve) = refl
same-generation s ds (Touch pid) = refl
same-generation s ds (Detach pid) = refl
same-generation s ds (Exit pid k status was_active) = refl
same-generation s ds (Notice why) = refl
same-generation s ds (Ask mode) = refl
same-generation s ds Checkpointed = refl
same-generation s ds (RedoEnded true) = refl
same-generation s ds (RedoEnded false) = refl
same-generation s ds Reset = refl
same-generation s ds (End how) = refl
same-generation s ds (Move to) = refl

past-both : (s : Supervisor) (ds : List Child) (p q : List PastEvent) (e : SupervisorEvent) → PastAlike p q
    → PastAlike (with_event p s.shared e) (with_event q (with_children s ds).shared e)
past-both s ds p q e alike =
    let same : (shared_after (with_children s ds).shared e).generation ≡ (shared_after s.shared e).generation = same-generation s ds e in
    record {
      ended = λ test generation was. elim was as (λ _. HasEnded test generation (with_event q (with_children s ds).shared e)) [
        | inl here ↦ inl (here.0, same ∙ here.1)
        | inr before ↦ inr (alike.ended test generation before)
      ];
      failed = λ generation was. elim was as (λ _. HasFailed generation (with_event q (with_children s ds).shared e)) [
        | inl here ↦ inl (here.0, same ∙ here.1)
        | inr before ↦ inr (alike.failed generation before)
      ];
      redone = ap (redo_ended_after e) alike.redone;
    }

past-child-redone : (e : SupervisorEvent) (before : Bool) → is_child_step e ≡ true → redo_ended_after e before ≡ before
past-child-redone (Attach pid reserve) before child = refl
past-child-redone (Touch pid) before child = refl
past-child-redone (Detach pid) before child = refl
past-child-redone (Accept pid decision) before child = absurd cc
past-child-redone (Start pid k) before child = absurd cc
past-child-redone (Exit pid k status was_active) before child = absurd cc
past-child-redone (Notice why) before child = absurd cc
past-child-redone (Ask mode) before child = absurd cc
past-child-redone Checkpointed before child = absurd cc
past-child-redone (RedoEnded opens) before child = absurd cc
past-child-redone Reset before child = absurd cc
past-child-redone (End how) before child = absurd cc
past-child-redone (Move to) before child = absurd cc

past-child : (s : Shared) (p q : List PastEvent) (e : SupervisorEvent) → is_child_step e ≡ true → PastAlike p q
    → PastAlike p (with_event q s e)
past-child s p q e child alike =
    record {
      ended = λ test generation was. inr (alike.ended test generation was);
      failed = λ generation was. inr (alike.failed generation was);
      redone = past-child-redone e (redo_has_ended q) child ∙ alike.redone;
    }

-- an event that may happen may happen with other children attached

record SameCounts (cs ds : List Child) : Type 0 where
  sessions : count_of is_session cs ≡ count_of is_session ds
  startups : count_of is_startup_child cs ≡ count_of is_startup_child ds
  checkpointers : count_of is_checkpointer cs ≡ count_of is_checkpointer ds
  writers : count_of is_writer cs ≡ count_of is_writer ds
  none : cs ≡ [] → ds ≡ []

same-counts : (cs ds : List Child) → all_detached cs ≡ all_detached ds → SameCounts cs ds
same-counts cs ds same =
    record {
      sessions = same-count is_session cs ds same;
      startups = same-count is_startup_child cs ds same;
      checkpointers = same-count is_checkpointer cs ds same;
      writers = same-count is_writer cs ds same;
      none = none-alike cs ds same;
    }

gone-alike : (cs ds : List Child) → SameCounts cs ds → BackendsAreGone cs → BackendsAreGone ds
gone-alike cs ds same gone = (sym same.sessions ∙ gone.0, sym same.startups ∙ gone.1, sym same.writers ∙ gone.2)

rest-alike : (limits : Limits) (s : Supervisor) (ds : List Child) (e : SupervisorEvent) → SameCounts s.shared.children ds
    → RestAllows limits s e → RestAllows limits (with_children s ds) e
rest-alike limits s ds (Accept pid decision) same may = (may.0, may.1 ∙ rw same.sessions refl)
rest-alike limits s ds (Start pid kind.Startup) same may = (may.0, sym same.startups ∙ may.1)
rest-alike limits s ds (Start pid kind.Checkpointer) same may = (may.0, sym same.checkpointers ∙ may.1)
rest-alike limits s ds (Start pid kind.Writer) same may = (may.0, sym same.writers ∙ may.1)
rest-alike limits s ds (Start pid kind.Worker) same may = may
rest-alike limits s ds (Start pid kind.Backend) same may = may
rest-alike limits s ds (Start pid kind.DeadEnd) same may = may
rest-alike limits s ds (Attach pid reserve) same may = may
rest-alike limits s ds (Touch pid) same may = may
rest-alike limits s ds (Detach pid) same may = may
rest-alike limits s ds (Exit pid k status was_active) same may = may
rest-alike limits s ds (Notice reason.Crash) same may = may
rest-alike limits s ds (Notice reason.Stop) same may = may
rest-alike limits s ds (Ask mode) same may = may
rest-alike limits s ds Checkpointed same may = may
rest-alike limits s ds (RedoEnded opens) same may = may
rest-alike limits s ds Reset same may = may
rest-alike limits s ds (End ending.Clean) same may = (may.0, may.1, may.2, same.none may.3)
rest-alike limits s ds (End ending.AfterCrash) same may = (may.0, may.1, may.2, same.none may.3)
rest-alike limits s ds (End ending.RestartOff) same may = (may.0, may.1, may.2, same.none may.3, may.4)
rest-alike limits s ds (End ending.StartupFailed) same may = (may.0, may.1, sym same.startups ∙ may.2)
rest-alike limits s ds (Move phase.Init) same may = may
rest-alike limits s ds (Move phase.Starting) same may = may
rest-alike limits s ds (Move phase.Running) same may = may
rest-alike limits s ds (Move phase.Draining) same may = may
rest-alike limits s ds (Move phase.Stopping) same may = (may.0, may.1, sym same.sessions ∙ may.2)
rest-alike limits s ds (Move phase.Checkpointing) same may =
    (may.0, may.1, may.2, may.3, gone-alike s.shared.children ds same may.4)
rest-alike limits s ds (Move phase.Clearing) same may =
    (may.0, may.1, gone-alike s.shared.children ds same may.2, sym same.checkpointers ∙ may.3)
rest-alike limits s ds (Move phase.Clear) same may = (may.0, same.none may.1)
rest-alike limits s ds (Move phase.Ended) same may = may

shared-alike : (limits : Limits) (s : Supervisor) (ds : List Child) (p q : List PastEvent) (e : SupervisorEvent)
    → all_detached s.shared.children ≡ all_detached ds → PastAlike p q → IsKept limits.max_connections (with_children s ds).shared
    → is_child_step e ≡ false → SharedAllows limits p s.shared e → SharedAllows limits q (with_children s ds).shared e
shared-alike limits s ds p q (Accept pid decision) same past kept other may = record { of_shared = may.of_shared; of_past = tt }
shared-alike limits s ds p q (Start pid k) same past kept other may = record { of_shared = may.of_shared; of_past = tt }
shared-alike limits s ds p q (Attach pid reserve) same past kept other may = absurd cc
shared-alike limits s ds p q (Touch pid) same past kept other may = absurd cc
shared-alike limits s ds p q (Detach pid) same past kept other may = absurd cc
shared-alike limits s ds p q (Exit pid k status was_active) same past kept other may =
    record { of_shared = kind-alike pid k s.shared.children ds same may.of_shared; of_past = tt }
shared-alike limits s ds p q (Notice why) same past kept other may = record { of_shared = tt; of_past = tt }
shared-alike limits s ds p q (Ask mode) same past kept other may = record { of_shared = tt; of_past = tt }
shared-alike limits s ds p q Checkpointed same past kept other may =
    record { of_shared = tt; of_past = past.ended is_checkpointer s.shared.generation may.of_past }
shared-alike limits s ds p q (RedoEnded true) same past kept other may =
    let attached : attached_sessions ds ≡ 0 = closed-attached limits.max_connections (with_children s ds).shared kept may.of_past.2 in
    let startups : count_of is_startup_child ds ≡ 0 = sym (same-count is_startup_child s.shared.children ds same) ∙ may.of_past.3 in
    record {
      of_shared = (may.of_past.2, startups, attached);
      of_past = (
        past.ended is_startup_child s.shared.generation may.of_past.0,
        past.redone ∙ may.of_past.1,
        may.of_past.2,
        startups,
        attached,
      );
    }
shared-alike limits s ds p q (RedoEnded false) same past kept other may =
    let attached : attached_sessions ds ≡ 0 = closed-attached limits.max_connections (with_children s ds).shared kept may.of_past.2 in
    let startups : count_of is_startup_child ds ≡ 0 = sym (same-count is_startup_child s.shared.children ds same) ∙ may.of_past.3 in
    record {
      of_shared = tt;
      of_past = (
        past.ended is_startup_child s.shared.generation may.of_past.0,
        past.redone ∙ may.of_past.1,
        may.of_past.2,
        startups,
        attached,
      );
    }
shared-alike limits s ds p q Reset same past kept other may =
    record { of_shared = none-alike s.shared.children ds same may.of_shared; of_past = tt }
shared-alike limits s ds p q (End ending.Clean) same past kept other may = record { of_shared = tt; of_past = tt }
shared-alike limits s ds p q (End ending.AfterCrash) same past kept other may = record { of_shared = tt; of_past = tt }
shared-alike limits s ds p q (End ending.RestartOff) same past kept other may = record { of_shared = tt; of_past = tt }
shared-alike limits s ds p q (End ending.StartupFailed) same past kept other may =
    record { of_shared = tt; of_past = past.failed s.shared.generation may.of_past }
shared-alike limits s ds p q (Move to) same past kept other may = record { of_shared = tt; of_past = tt }

-- and what it leaves is alike
after-alike : (s : Supervisor) (ds : List Child) (e : SupervisorEvent) → all_detached s.shared.children ≡ all_detached ds
    → is_child_step e ≡ false → IsAlike (after s e) (after (with_children s ds) e)
after-alike s ds (Accept pid decision) same other = record { others = refl; children = ap (λ xs. record { pid = pid; kind = kind_for decision; generation = s.shared.generation; attached = false } ∷ xs) same }
after-alike s ds (Start pid k) same other = record { others = refl; children = ap (λ xs. record { pid = pid; kind = k; generation = s.shared.generation; attached = false } ∷ xs) same }
after-alike s ds (Attach pid reserve) same other = absurd cc
after-alike s ds (Touch pid) same other = absurd cc
after-alike s ds (Detach pid) same other = absurd cc
after-alike s ds (Exit pid k status was_active) same other = record { others = refl; children = without-alike pid s.shared.children ds same }
after-alike s ds (Notice why) same other = record { others = refl; children = same }
after-alike s ds (Ask mode) same other = record { others = refl; children = same }
after-alike s ds Checkpointed same other = record { others = refl; children = same }
after-alike s ds (RedoEnded true) same other = record { others = refl; children = same }
after-alike s ds (RedoEnded false) same other = record { others = refl; children = same }
after-alike s ds Reset same other = record { others = refl; children = same }
after-alike s ds (End how) same other = record { others = refl; children = same }
after-alike s ds (Move to) same other = record { others = refl; children = same }

child-alike : (s : Supervisor) (ds : List Child) (e : SupervisorEvent) → all_detached s.shared.children ≡ all_detached ds
    → is_child_step e ≡ true → IsAlike s (after (with_children s ds) e)
child-alike s ds (Attach pid reserve) same child = record { others = refl; children = same ∙ sym (detached-marked pid true ds) }
child-alike s ds (Touch pid) same child = record { others = refl; children = same }
child-alike s ds (Detach pid) same child = record { others = refl; children = same ∙ sym (detached-marked pid false ds) }
child-alike s ds (Accept pid decision) same child = absurd cc
child-alike s ds (Start pid k) same child = absurd cc
child-alike s ds (Exit pid k status was_active) same child = absurd cc
child-alike s ds (Notice why) same child = absurd cc
child-alike s ds (Ask mode) same child = absurd cc
child-alike s ds Checkpointed same child = absurd cc
child-alike s ds (RedoEnded opens) same child = absurd cc
child-alike s ds Reset same child = absurd cc
child-alike s ds (End how) same child = absurd cc
child-alike s ds (Move to) same child = absurd cc

-- whole runs

kept-happened : (limits : Limits) (h : Trace) (e : SupervisorEvent) → MayHappen limits h e → IsKept limits.max_connections h.now.shared
    → IsKept limits.max_connections (happened h e).now.shared
kept-happened limits h e may kept =
    rw (shared-after h.now e) (keeps-any limits.max_connections h.now.shared (shared_of e) may.shared.of_shared kept)

record StillRuns (limits : Limits) (h g : Trace) (calm events : List SupervisorEvent) : Type 0 where
  run : IsRun limits g events
  alike : IsAlike (all_happened h calm).now (all_happened g events).now

still-runs : (limits : Limits) (events : List SupervisorEvent) (h : Trace) (s : Supervisor) (q : List PastEvent)
    → IsAlike h.now s → PastAlike h.past q → IsKept limits.max_connections s.shared
    → IsRun limits h (without_child_steps events) → ChildStepsMayHappen limits (record { now = s; past = q }) events
    → StillRuns limits h (record { now = s; past = q }) (without_child_steps events) events
still-runs limits [] h s q alike past kept run may = record { run = tt; alike = alike }
still-runs limits (e ∷ es) h s q alike past kept run may =
    let g : Trace = record { now = s; past = q } in
    elim (is_child_step e) as
    (λ v. is_child_step e ≡ v → IsRun limits h (cond v (without_child_steps es) (e ∷ without_child_steps es))
    → StillRuns limits h g (cond v (without_child_steps es) (e ∷ without_child_steps es)) (e ∷ es)) [
      | true ↦ λ child rest.
          let first : MayHappen limits g e = may.0 child in
          let near : IsAlike h.now (after s e) =
          subst (λ t. IsAlike h.now (after t e)) (sym alike.others) (child-alike h.now s.shared.children e alike.children child) in
          let then_ : StillRuns limits h (happened g e) (without_child_steps es) es =
          still-runs limits es h (after s e) (with_event q s.shared e) near (past-child s.shared h.past q e child past)
          (kept-happened limits g e first kept) rest may.1 in
          record { run = (first, then_.run); alike = then_.alike }
      | false ↦ λ other rest.
          let ds : List Child = s.shared.children in
          let kept_ : IsKept limits.max_connections (with_children h.now ds).shared =
          subst (λ t. IsKept limits.max_connections t.shared) alike.others kept in
          let first_ : MayHappen limits (record { now = with_children h.now ds; past = q }) e = record {
            goes_on = rest.0.goes_on;
            rest = rest-alike limits h.now ds e (same-counts h.now.shared.children ds alike.children) rest.0.rest;
            shared = shared-alike limits h.now ds h.past q e alike.children past kept_ other rest.0.shared;
          } in
          let first : MayHappen limits g e = subst (λ t. MayHappen limits (record { now = t; past = q }) e) (sym alike.others) first_ in
          let near : IsAlike (after h.now e) (after s e) =
          subst (λ t. IsAlike (after h.now e) (after t e)) (sym alike.others) (after-alike h.now ds e alike.children other) in
          let pasts : PastAlike (with_event h.past h.now.shared e) (with_event q s.shared e) =
          subst (λ t. PastAlike (with_event h.past h.now.shared e) (with_event q t.shared e)) (sym alike.others) (past-both h.now ds h.past q e past) in
          let then_ : StillRuns limits (happened h e) (happened g e) (without_child_steps es) es =
          still-runs limits es (happened h e) (after s e) (with_event q s.shared e) near pasts (kept-happened limits g e first kept) rest.1 may.1 in
          record { run = (first, then_.run); alike = then_.alike }
    ]
    refl run

past-own : (p : List PastEvent) → PastAlike p p
past-own p = record { ended = λ test generation was. was; failed = λ generation was. was; redone = refl }

between : (limits : Limits) (h : Trace) (events : List SupervisorEvent) → IsKept limits.max_connections h.now.shared
    → IsRun limits h (without_child_steps events) → ChildStepsMayHappen limits h events
    → StillRuns limits h h (without_child_steps events) events
between limits h events kept run may =
    still-runs limits events h h.now h.past (record { others = refl; children = refl }) (past-own h.past) kept run may

pub between-run : (limits : Limits) (h : Trace) (events : List SupervisorEvent) → IsKept limits.max_connections h.now.shared
    → IsRun limits h (without_child_steps events) → ChildStepsMayHappen limits h events → IsRun limits h events
between-run limits h events kept run may = (between limits h events kept run may).run

pub between-alike : (limits : Limits) (h : Trace) (events : List SupervisorEvent) → IsKept limits.max_connections h.now.shared
    → IsRun limits h (without_child_steps events) → ChildStepsMayHappen limits h events
    → IsAlike (all_happened h (without_child_steps events)).now (all_happened h events).now
between-alike limits h events kept run may = (between limits h events kept run may).alike

pub one-alike : (s : Supervisor) (e : SupervisorEvent) → is_child_step e ≡ true → IsAlike s (after s e)
one-alike s e child = child-alike s s.shared.children e refl child

pub alike-count : (test : Kind → Bool) (s t : Supervisor) → IsAlike s t → count_of test s.shared.children ≡ count_of test t.shared.children
alike-count test s t near = same-count test s.shared.children t.shared.children near.children

pub detached-after : (s : Shared) (e : SupervisorEvent) → is_child_step e ≡ false → detached (shared_after s e) ≡ shared_after (detached s) e
detached-after s (Accept pid decision) other = refl
detached-after s (Start pid k) other = refl
detached-after s (Attach pid reserve) other = absurd cc
detached-after s (Touch pid) other = absurd cc
detached-after s (Detach pid) other = absurd cc
detached-after s (Exit pid k status was_active) other = ap (λ cs. record s { children = cs }) (detached-without pid s.children)
detached-after s (Notice why) other = refl
detached-after s (Ask mode) other = refl
detached-after s Checkpointed other = refl
detached-after s (RedoEnded true) other = refl
detached-after s (RedoEnded false) other = refl
detached-after s Reset other = refl
detached-after s (End how) other = refl
detached-after s (Move to) other = refl

far-detached : (pid : ℕ) (cs : List Child) → AllByRecursion (λ d. d.pid ≢ pid) cs → AllByRecursion (λ d. d.pid ≢ pid) (all_detached cs)
far-detached pid [] far = tt
far-detached pid (c ∷ cs) far = (far.0, far-detached pid cs far.1)

pub differ-detached : (cs : List Child) → PidsDiffer cs → PidsDiffer (all_detached cs)
differ-detached [] differ = tt
differ-detached (c ∷ cs) differ = (far-detached c.pid cs differ.0, differ-detached cs differ.1)
