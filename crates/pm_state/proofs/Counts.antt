-- How many children of a kind are there, as children come and go.
use Rattle.std.{proofs.Common.{◌≡◌, ℕ, ◌+◌, ◌≤◌, Bool, true, false, ◌&&◌, List, [], ◌∷◌, Some, arith, nat_eq, cond, ap}, specs.Prelude.IsSomeAnd}
use Rattle.pm_supervisor.specs.{pm_exit.declared.child.Kind.Kind, Children.{Child, is_session, child_of, without, one_if, count_of, attached_sessions}}

pub count-without : (test : Kind → Bool) (pid : ℕ) (kind : Kind) (cs : List Child) → IsSomeAnd (child_of pid cs) (λ c. c.kind ≡ kind)
    → count_of test cs ≡ one_if (test kind) + count_of test (without pid cs)
count-without test pid kind [] h = absurd h
count-without test pid kind (c ∷ cs) h =
    elim (nat_eq c.pid pid) as
    (λ v. IsSomeAnd (cond v (Some c) (child_of pid cs)) (λ d. d.kind ≡ kind)
    → one_if (test c.kind) + count_of test cs ≡ one_if (test kind) + count_of test (cond v cs (c ∷ without pid cs))) [
      | true ↦ λ e. ap (λ k. one_if (test k) + count_of test cs) e
      | false ↦ λ later. omega (arith, count-without test pid kind cs later)
    ]
    h

at_most_both : (a b : Bool) → one_if (a && b) ≤ one_if a
at_most_both true true = omega arith
at_most_both true false = omega arith
at_most_both false b = omega arith

pub attached_le : (cs : List Child) → attached_sessions cs ≤ count_of is_session cs
attached_le [] = omega arith
attached_le (c ∷ cs) = omega (arith, attached_le cs, at_most_both (is_session c.kind) c.attached)

pub none_attached : (cs : List Child) → count_of is_session cs ≡ 0 → attached_sessions cs ≡ 0
none_attached cs h = omega (arith, attached_le cs)
