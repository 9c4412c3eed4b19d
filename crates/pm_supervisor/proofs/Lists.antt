-- Facts about every child, as children are marked and taken away.
use Rattle.std.{proofs.Common.{◌≢◌, ℕ, nat_eq, cond, Bool, true, false, List, [], ◌∷◌, Option, Some, None}, specs.{Prelude.IsSomeAnd, List.AllByRecursion}}
use Rattle.pm_supervisor.{specs.{Children.{Child, child_of, without, marked}, Shared.PidsDiffer}, proofs.RunLaws.each-without}

-- from a fact about each to one that follows from it
pub each_map : (P Q : Child → Type 0) → ((c : Child) → P c → Q c) → (cs : List Child) → AllByRecursion P cs → AllByRecursion Q cs
each_map P Q f [] h = tt
each_map P Q f (c ∷ cs) h = (f c h.0, each_map P Q f cs h.1)

-- where the child that is marked has the fact after it
pub each-marked :
    (P : Child → Type 0) (pid : ℕ) (b : Bool) (cs : List Child)
    → IsSomeAnd (child_of pid cs) (λ c. P (record c { attached = b }))
    → AllByRecursion P cs → AllByRecursion P (marked pid b cs)
each-marked P pid b [] found h = tt
each-marked P pid b (c ∷ cs) found h =
    let Q : Child → Type 0 = λ d. P (record d { attached = b }) in
    elim (nat_eq c.pid pid) as
    (λ v. IsSomeAnd (cond v (Some c) (child_of pid cs)) Q
    → AllByRecursion P (cond v (record c { attached = b } ∷ cs) (c ∷ marked pid b cs))) [
      | true ↦ λ here. (here, h.1)
      | false ↦ λ later. (h.0, each-marked P pid b cs later h.1)
    ]
    found

-- where the fact doesn't depend on the mark
pub each-marked_any :
    (P : Child → Type 0) (pid : ℕ) (b : Bool) → ((c : Child) → P c → P (record c { attached = b }))
    → (cs : List Child) → AllByRecursion P cs → AllByRecursion P (marked pid b cs)
each-marked_any P pid b f [] h = tt
each-marked_any P pid b f (c ∷ cs) h =
    elim (nat_eq c.pid pid) as (λ v. AllByRecursion P (cond v (record c { attached = b } ∷ cs) (c ∷ marked pid b cs))) [
      | true ↦ (f c h.0, h.1)
      | false ↦ (h.0, each-marked_any P pid b f cs h.1)
    ]

pub some_map : (P Q : Child → Type 0) → ((c : Child) → P c → Q c) → (o : Option Child) → IsSomeAnd o P → IsSomeAnd o Q
some_map P Q f None h = h
some_map P Q f (Some c) h = f c h

pub differ-without : (pid : ℕ) (cs : List Child) → PidsDiffer cs → PidsDiffer (without pid cs)
differ-without pid [] h = tt
differ-without pid (c ∷ cs) h =
    elim (nat_eq c.pid pid) as (λ v. PidsDiffer (cond v cs (c ∷ without pid cs))) [
      | true ↦ h.1
      | false ↦ (each-without _ pid cs h.0, differ-without pid cs h.1)
    ]

pub differ-marked : (pid : ℕ) (b : Bool) (cs : List Child) → PidsDiffer cs → PidsDiffer (marked pid b cs)
differ-marked pid b [] h = tt
differ-marked pid b (c ∷ cs) h =
    elim (nat_eq c.pid pid) as (λ v. PidsDiffer (cond v (record c { attached = b } ∷ cs) (c ∷ marked pid b cs))) [
      | true ↦ h
      | false ↦ (each-marked_any (λ d. d.pid ≢ c.pid) pid b (λ d far. far) cs h.0, differ-marked pid b cs h.1)
    ]
