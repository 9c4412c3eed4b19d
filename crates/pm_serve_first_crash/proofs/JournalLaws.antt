-- Before its first crash a whole journal is calm, and who is there was begun before.
use Rattle.std.{proofs.{Common.{◌≡◌, ◌⊎◌, inl, inr, ℕ, ◌≤◌, Bool, true, false, cond, ◌&&◌, List, [], ◌∷◌, ◌++◌, refl, sym, ap, arith}, lemmas.Bool.eqb-true}, specs.{Prelude.{IsSomeAnd, Some, is_none, nat_eq}, List.{AllByRecursion, fold}}}
use Rattle.pm_serve_crew.{specs.{pm_exit.{declared.child.{Kind.Kind, Status.Status}, Ends.is_exit_0}, pm_modes.Strength.strengthen_of, pm_supervisor.{declared.Limits.Limits, Children.{Child, child_of, count_of, is_checkpointer, is_startup_child, without}, Shared.reopened}, pm_state.{declared.{action.Action.Action, event.PmEvent.PmEvent}, Laws.RestartsSafely, Machine.{Exited, begun, step}, Requests.asked_with, Restarts.Counts, TurnRules.is_not_running, Journal.{AreLegal, Follows, IsLegal, MayCome, Replay, all_replayed, caused, dues_after, replay_begun, replayed, reported}}, pm_supervisor_chain.Chain.IsPidOf}, proofs.PidsLaws.{RiseAbove, pid_either, pids_by, pids_below, pids_in, pids_rise}}
use Rattle.pm_serve_crew.specs.pm_exit.declared.child.Kind.TheVariants as kind
use Rattle.pm_serve_crew.specs.pm_supervisor.Steps as supervisor
use Rattle.pm_serve_crew.specs.pm_state.declared.event.PmEvent.TheVariants as entry
use Rattle.pm_store_remains.proofs.pm_state.ReplayLaws.{AreCounted, Behind, Ends, Keeps, acts_behind_redo, acts_in, acts_in_dues, are_counted, ends_at, first_on, follows_on, legal_behind, legal_front, rested, startup_there, there_counts, was_there}
use Rattle.pm_store_remains.proofs.pm_server.CalmLaws as machine
use Rattle.pm_supervisor_crashes.specs.Crashes.{HasNoCrash, IsHarmless, IsUnasked, is_crash}
use Rattle.pm_serve_first_crash.proofs.CalmLaws.{IsCalm, SoFar, accepted_calm, act_calm, asked_calm, left_calm, no_kill, nothing_so_far, row_calm, settled_calm, told_after}

-- ---- one entry

keeps_calm : Keeps SoFar told_after IsCalm IsHarmless
keeps_calm = record { acted = act_calm; redo = λ h generation kept acts m calm. (tt, calm); row = λ h m on calm. row_calm h m calm; settled = settled_calm }

-- what is kept after an entry
abbrev AreCalmBehind : SoFar → Replay → PmEvent → Type 0
AreCalmBehind h r e = Behind SoFar told_after IsCalm IsHarmless h r e

-- where nothing was due
calm_rested : (h : SoFar) (r : Replay) (e : PmEvent) (acts : List Action) → r.due ≡ [] → acts_in (dues_after r.machine e) ≡ acts
    → IsCalm h acts (reported e (caused r.machine e).after) → IsCalm h (acts_in (replayed r e).due) (replayed r e).machine
calm_rested h r e acts none is calm = rested SoFar told_after IsCalm IsHarmless keeps_calm h r e acts none is calm

come_on : (gives : ℕ → Bool) (h : SoFar) (r : Replay) (e : PmEvent) → r.due ≡ [] → r.machine.ended ≡ false → MayCome gives r e → Counts r.machine r.shown.children → IsUnasked e
    → is_crash r.machine e ≡ false → IsCalm h [] r.machine → AreCalmBehind h r e
come_on gives h r (entry.Accepted pid decision) none on may counts unasked fine calm =
    (tt, calm_rested h r (entry.Accepted pid decision) [] none refl (accepted_calm h r.machine calm))
come_on gives h r (entry.Exited pid k status was_active at) none on may counts unasked fine calm = (
  tt,
  calm_rested h r (entry.Exited pid k status was_active at) (step r.machine (Exited pid k status was_active at)).acts none
      (acts_behind_redo (is_startup_child k && is_exit_0 status) (step r.machine (Exited pid k status was_active at)).acts)
      (left_calm k h r.machine pid status was_active at calm
      (λ is. startup_there (count_of is_startup_child r.shown.children) (is_not_running r.machine.startup) r.machine.startup_due
      (there_counts is_startup_child pid k r.shown.children may.0 (ap is_startup_child is)) counts.startup)
      fine),
)
come_on gives h r (entry.Asked mode at) none on may counts unasked fine calm =
    (tt, calm_rested h r (entry.Asked mode at) (asked_with (strengthen_of r.machine.shutdown mode) r.machine at).acts none (acts_in_dues _) (asked_calm h mode at r.machine unasked calm))
come_on gives h r (entry.KillAsked pid) none on may counts unasked fine calm = absurd unasked
come_on gives h r (entry.KillSent at) none on may counts unasked fine calm = absurd (no_kill h at r.machine calm may.1)
come_on gives h r e none on may counts unasked fine calm = first_on SoFar told_after IsCalm IsHarmless keeps_calm h r e none on may calm

entry_on : (gives : ℕ → Bool) (h : SoFar) (r : Replay) (e : PmEvent) → Follows gives r e → Counts r.machine r.shown.children → IsUnasked e → is_crash r.machine e ≡ false
    → IsCalm h (acts_in r.due) r.machine → AreCalmBehind h r e
entry_on gives h r e may counts unasked fine calm =
    follows_on SoFar told_after IsCalm IsHarmless keeps_calm gives h r e r.due refl may (λ none free rests. come_on gives h r e none free.0 free.2 counts unasked fine rests) calm

-- ---- whole journals

-- each entry is harmless, and this is what they leave
pub record StaysCalm (h : SoFar) (r : Replay) (journal : List PmEvent) : Type 0 where
  pub harmless : AllByRecursion IsHarmless journal
  pub calm : IsCalm (fold told_after h journal) (acts_in (all_replayed r journal).due) (all_replayed r journal).machine

calm_on : (gives : ℕ → Bool) (h : SoFar) (r : Replay) (journal : List PmEvent) → AreLegal gives r journal → AreCounted r journal → AllByRecursion IsUnasked journal → HasNoCrash r journal
    → IsCalm h (acts_in r.due) r.machine → StaysCalm h r journal
calm_on gives h r [] legal counted unasked none calm = record { harmless = tt; calm = calm }
calm_on gives h r (e ∷ journal) legal counted unasked none calm =
    let on = entry_on gives h r e legal.0 counted.0 unasked.0 none.0 calm in
    let rest = calm_on gives (told_after h e) (replayed r e) journal legal.1 counted.1 unasked.1 none.1 on.1 in
    record { harmless = (on.0, rest.harmless); calm = rest.calm }

begun_calm : (limits : Limits) → IsCalm nothing_so_far [] (begun limits)
begun_calm limits = record { calm = machine.begun_calm limits; no_harm = refl; ending = refl }

pub stays_calm : RestartsSafely → (limits : Limits) (gives : ℕ → Bool) (journal : List PmEvent) → IsLegal limits gives journal → AllByRecursion IsUnasked journal
    → HasNoCrash (replay_begun limits) journal → StaysCalm nothing_so_far (replay_begun limits) journal
stays_calm safely limits gives journal legal unasked none =
    calm_on gives nothing_so_far (replay_begun limits) journal legal (are_counted safely limits gives [] journal legal) unasked none (begun_calm limits)

-- ---- the end of a child

-- a checkpointer that ends is one that the machine counts
pub checkpointer_there : (r : Replay) (pid : ℕ) (k : Kind) → k ≡ kind.Checkpointer → Ends r pid k → Counts r.machine r.shown.children → r.machine.checkpointer ≡ true
checkpointer_there r pid k is ends counts =
    was_there (count_of is_checkpointer r.shown.children) r.machine.checkpointer (there_counts is_checkpointer pid k r.shown.children ends.there (ap is_checkpointer is)) counts.checkpointer

-- ---- pids

abbrev IsThere : ℕ → List Child → Type 0
IsThere pid [] = ⊥
IsThere pid (c ∷ cs) = (c.pid ≡ pid) ⊎ IsThere pid cs

found_there : (pid : ℕ) (k : Kind) (cs : List Child) → IsSomeAnd (child_of pid cs) (λ c. c.kind ≡ k) → IsThere pid cs
found_there pid k [] there = absurd there
found_there pid k (c ∷ cs) there = by (nat_eq c.pid pid) refl there (found_there pid k cs)
  where
    by : (b : Bool) → nat_eq c.pid pid ≡ b → IsSomeAnd (cond b (Some c) (child_of pid cs)) (λ x. x.kind ≡ k)
        → (IsSomeAnd (child_of pid cs) (λ x. x.kind ≡ k) → IsThere pid cs) → IsThere pid (c ∷ cs)
    by true is found rest = inl (eqb-true c.pid pid is)
    by false is later rest = inr (rest later)

there_without : (pid other : ℕ) (cs : List Child) → IsThere pid (without other cs) → IsThere pid cs
there_without pid other [] there = there
there_without pid other (c ∷ cs) there = by (nat_eq c.pid other) there (there_without pid other cs)
  where
    by : (b : Bool) → IsThere pid (cond b cs (c ∷ without other cs)) → (IsThere pid (without other cs) → IsThere pid cs) → IsThere pid (c ∷ cs)
    by true later rest = inr later
    by false (inl is) rest = inl is
    by false (inr later) rest = inr (rest later)

-- who is there after an entry was there before it, or begins by it
there_by : (pid : ℕ) (r : Replay) (e : PmEvent) → IsThere pid (replayed r e).shown.children → IsThere pid r.shown.children ⊎ IsPidOf pid (pids_by e)
there_by pid r (entry.Started other k) (inl is) = inr (inl (sym is))
there_by pid r (entry.Started other k) (inr later) = inl later
there_by pid r (entry.Accepted other decision) (inl is) = inr (inl (sym is))
there_by pid r (entry.Accepted other decision) (inr later) = inl later
there_by pid r (entry.Exited other k status was_active at) there = inl (there_without pid other r.shown.children there)
there_by pid r (entry.RedoEnded generation kept) there = inl (same (is_none r.machine.shutdown) there)
  where
    same : (opens : Bool) → IsThere pid (reopened opens r.shown).children → IsThere pid r.shown.children
    same true its = its
    same false its = its
there_by pid r (entry.Asked mode at) there = inl there
there_by pid r _ there = inl there

there_began : (pid : ℕ) (r : Replay) (journal : List PmEvent) → IsThere pid (all_replayed r journal).shown.children → IsThere pid r.shown.children ⊎ IsPidOf pid (pids_in journal)
there_began pid r [] there = inl there
there_began pid r (e ∷ journal) there = by (there_began pid (replayed r e) journal there)
  where
    by : IsThere pid (replayed r e).shown.children ⊎ IsPidOf pid (pids_in journal) → IsThere pid r.shown.children ⊎ IsPidOf pid (pids_by e ++ pids_in journal)
    by (inr later) = inr (pid_either pid (pids_by e) (pids_in journal) (inr later))
    by (inl here) = first (there_by pid r e here)
      where
        first : IsThere pid r.shown.children ⊎ IsPidOf pid (pids_by e) → IsThere pid r.shown.children ⊎ IsPidOf pid (pids_by e ++ pids_in journal)
        first (inl was) = inl was
        first (inr began) = inr (pid_either pid (pids_by e) (pids_in journal) (inl began))

rise_past : (low pid : ℕ) (pids : List ℕ) → pid ≤ low → RiseAbove low pids → IsPidOf pid pids → ⊥
rise_past low pid [] le rise its = its
rise_past low pid (other ∷ pids) le rise (inl is) = absurd (omega (arith, rise.0, is, le))
rise_past low pid (other ∷ pids) le rise (inr its) = rise_past other pid pids (omega (arith, rise.0, le)) rise.1 its

-- the pid of a child that ends is given to none after it
pub never_again : (limits : Limits) (gives : ℕ → Bool) (before behind : List PmEvent) (pid : ℕ) (k : Kind) (status : Status) (was_active : Bool) (at : ℕ)
    → IsLegal limits gives (before ++ entry.Exited pid k status was_active at ∷ behind) → IsPidOf pid (pids_in behind) → ⊥
never_again limits gives before behind pid k status was_active at legal =
    let e : PmEvent = entry.Exited pid k status was_active at in
    let r : Replay = all_replayed (replay_begun limits) before in
    let on : AreLegal gives r (e ∷ behind) = legal_behind gives (replay_begun limits) before (e ∷ behind) legal in
    let front : IsLegal limits gives before = legal_front gives (replay_begun limits) before (e ∷ behind) legal in
    rise_past r.shown.last_pid pid (pids_in behind)
    ((pids_below gives (replay_begun limits) before front).each pid (began (there_began pid (replay_begun limits) before (found_there pid k r.shown.children (ends_at gives r pid k status was_active at behind on).there))))
    (pids_rise gives (replayed r e) behind on.1)
  where
    began : ⊥ ⊎ IsPidOf pid (pids_in before) → IsPidOf pid (pids_in before)
    began (inl none) = absurd none
    began (inr its) = its
