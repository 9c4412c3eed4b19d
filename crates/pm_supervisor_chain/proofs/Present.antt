-- Where a server is in step, each child that is there is of the present generation.
use Rattle.std.{proofs.Common.{◌≡◌, ℕ, nat_eq, cond, true, false, List, [], ◌∷◌, Some, sym, subst}, specs.{Prelude.IsSomeAnd, List.AllByRecursion}}
use Rattle.pm_state.specs.{pm_exit.declared.child.Kind.Kind, pm_supervisor.{declared.Limits.Limits, Children.{Child, child_of}, Supervisor.Shared, Between.{all_detached, detached}}, InStep.{ServerState, IsInStep}}
use Rattle.pm_supervisor_chain.specs.Steps.{ChildRun, IsThere}

each-detached : (generation : ℕ) (cs : List Child) → AllByRecursion (λ c. c.generation ≡ generation) cs
    → AllByRecursion (λ c. c.generation ≡ generation) (all_detached cs)
each-detached generation [] all = tt
each-detached generation (c ∷ cs) all = (all.0, each-detached generation cs all.1)

there-too : (k : Kind) (generation pid : ℕ) (cs : List Child) → AllByRecursion (λ c. c.generation ≡ generation) cs
    → IsSomeAnd (child_of pid cs) (λ c. c.kind ≡ k) → IsSomeAnd (child_of pid cs) (λ c. (c.kind ≡ k) × (c.generation ≡ generation))
there-too k generation pid [] all is = is
there-too k generation pid (c ∷ cs) all is =
    elim (nat_eq c.pid pid) as
    (λ v. IsSomeAnd (cond v (Some c) (child_of pid cs)) (λ d. d.kind ≡ k)
    → IsSomeAnd (cond v (Some c) (child_of pid cs)) (λ d. (d.kind ≡ k) × (d.generation ≡ generation))) [
      | true ↦ λ here. (here, all.0)
      | false ↦ λ later. there-too k generation pid cs all.1 later
    ]
    is

of-present : (s shown : Shared) → shown ≡ detached s → AllByRecursion (λ c. c.generation ≡ s.generation) s.children
    → AllByRecursion (λ c. c.generation ≡ shown.generation) shown.children
of-present s shown is all =
    subst (λ (t : Shared). AllByRecursion (λ c. c.generation ≡ t.generation) t.children) (sym is) (each-detached s.generation s.children all)

pub is-there : (limits : Limits) (server : ServerState) (run : ChildRun) → IsInStep limits server
    → IsSomeAnd (child_of run.pid server.replay.shown.children) (λ child. child.kind ≡ run.kind)
    → run.generation ≡ server.replay.shown.generation → IsThere server.replay run
is-there limits server run in_step there present =
    subst (λ generation. IsSomeAnd (child_of run.pid server.replay.shown.children) (λ c. (c.kind ≡ run.kind) × (c.generation ≡ generation)))
    (sym present)
    (there-too run.kind server.replay.shown.generation run.pid server.replay.shown.children
    (of-present server.trace.now.shared server.replay.shown in_step.shown in_step.holds.well.sound.kept.generations) there)
