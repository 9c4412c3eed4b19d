-- Laws of children that are marked and taken away, and of a run in two parts.
use Rattle.std.{proofs.Common.{◌≡◌, ℕ, ◌+◌, nat_eq, cond, Bool, true, false, List, [], ◌∷◌, ◌++◌, refl, arith}, specs.List.AllByRecursion}
use Rattle.pm_exit.specs.declared.child.Kind.{Kind}
use Rattle.pm_supervisor.specs.{declared.Limits.Limits, Children.{Child, count_of, marked, one_if, without}, Supervisor.Shared, Steps.{SupervisorEvent, IsRun, RedoEnded, Trace, all_happened, happened, shared_after}}

-- ---- children

pub each-without : (P : Child → Type 0) (pid : ℕ) (cs : List Child) → AllByRecursion P cs → AllByRecursion P (without pid cs)
each-without P pid [] h = tt
each-without P pid (c ∷ cs) h =
    elim (nat_eq c.pid pid) as (λ v. AllByRecursion P (cond v cs (c ∷ without pid cs))) [
      | true ↦ h.1
      | false ↦ (h.0, each-without P pid cs h.1)
    ]

pub count-marked : (test : Kind → Bool) (pid : ℕ) (b : Bool) (cs : List Child) → count_of test (marked pid b cs) ≡ count_of test cs
count-marked test pid b [] = refl
count-marked test pid b (c ∷ cs) =
    elim (nat_eq c.pid pid) as
    (λ v. count_of test (cond v (record c { attached = b } ∷ cs) (c ∷ marked pid b cs)) ≡ one_if (test c.kind) + count_of test cs) [
      | true ↦ refl
      | false ↦ omega (arith, count-marked test pid b cs)
    ]

-- the end of redo leaves them
pub redo-children : (opens : Bool) (s : Shared) → (shared_after s (RedoEnded opens)).children ≡ s.children
redo-children true s = refl
redo-children false s = refl

-- ---- a run

pub IsRun-append : (limits : Limits) (h : Trace) (xs ys : List SupervisorEvent) → IsRun limits h xs → IsRun limits (all_happened h xs) ys
    → IsRun limits h (xs ++ ys)
IsRun-append limits h [] ys r s = s
IsRun-append limits h (x ∷ xs) ys r s = (r.0, IsRun-append limits (happened h x) xs ys r.1 s)

pub all_happened-append : (h : Trace) (xs ys : List SupervisorEvent) → all_happened h (xs ++ ys) ≡ all_happened (all_happened h xs) ys
all_happened-append h [] ys = refl
all_happened-append h (x ∷ xs) ys = all_happened-append (happened h x) xs ys
