-- Laws of the roll.
use Rattle.std.{proofs.Common.{◌≡◌, ℕ, true, false, nat_eq, cond, List, [], ◌∷◌, Some}, specs.Prelude.IsSomeAnd}
use Rattle.pm_supervisor.specs.{pm_exit.declared.child.Kind.Kind, Children.{Child, child_of}}
use Rattle.pm_supervisor_journal.specs.Roll.{kind_in, roll_of}

-- a child on the roll is there
pub on-roll : (pid : ℕ) (k : Kind) (cs : List Child) → kind_in pid (roll_of cs) ≡ Some k → IsSomeAnd (child_of pid cs) (λ c. c.kind ≡ k)
on-roll pid k [] is = absurd cc
on-roll pid k (c ∷ cs) is =
    elim (nat_eq c.pid pid) as
    (λ v. cond v (Some c.kind) (kind_in pid (roll_of cs)) ≡ Some k → IsSomeAnd (cond v (Some c) (child_of pid cs)) (λ d. d.kind ≡ k)) [
      | true ↦ λ e. cc
      | false ↦ λ e. on-roll pid k cs e
    ]
    is
