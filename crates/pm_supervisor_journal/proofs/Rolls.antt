-- The roll, and the supervisor's children.
use Rattle.std.{proofs.{Common.{◌≡◌, ℕ, ◌+◌, ◌<◌, true, false, nat_eq, cond, List, [], ◌∷◌, ◌++◌, Some, None, refl, ap, sym, ◌≤◌, suc, length, take, drop, get_or, arith, zero}, lemmas.{List.Quantifiers.position-Some, Bool.Decides.nat_tests}}, specs.{Prelude.{position, not, nat_lt, is_some, IsSomeAnd}, List.position_or_len}}
use Rattle.pm_supervisor.specs.Children.{Child, child_of}
use Rattle.pm_supervisor.specs.Children as children
use Rattle.pm_supervisor_journal.specs.{declared.roll.Enrolled.Enrolled, Roll.{kind_in, without, roll_of}}

without-place : (pid : ℕ) (xs : List Enrolled) (k : ℕ) (d : Enrolled) → k < length xs → nat_eq (get_or xs k d).pid pid ≡ true
    → ((j : ℕ) → j < k → nat_eq (get_or xs j d).pid pid ≡ false) → take k xs ++ drop (suc k) xs ≡ without pid xs
without-place pid [] k d below here before = absurd (omega arith)
without-place pid (x ∷ xs) zero d below here before = rw here refl
without-place pid (x ∷ xs) (suc k) d below here before =
    rw (before 0 (omega arith)) (ap (λ ys. x ∷ ys) (without-place pid xs k d (omega arith) here (λ j less. before (suc j) (omega arith))))

-- the child's place is taken out
pub without-found : (pid : ℕ) (xs : List Enrolled) (k : ℕ) (d : Enrolled) → position (λ c. nat_eq c.pid pid) xs ≡ Some k
    → take k xs ++ drop (suc k) xs ≡ without pid xs
without-found pid xs k d is =
    let found = position-Some (λ (c : Enrolled). nat_eq c.pid pid) xs k d is in
    without-place pid xs k d found.0 found.1 found.2

without-past : (pid : ℕ) (xs : List Enrolled) → length xs ≤ position_or_len (λ c. nat_eq c.pid pid) xs → without pid xs ≡ xs
without-past pid [] past = refl
without-past pid (x ∷ xs) past =
    elim (nat_eq x.pid pid) as
    (λ v. length (x ∷ xs) ≤ cond (not v) (1 + (position_or_len (λ c. nat_eq c.pid pid) xs)) 0 → cond v xs (x ∷ without pid xs) ≡ x ∷ xs) [
      | true ↦ λ p. absurd (omega arith)
      | false ↦ λ p. ap (λ ys. x ∷ ys) (without-past pid xs (omega arith))
    ]
    past

at-end : (a b : ℕ) → cond (nat_lt a b) (Some a) None ≡ None → b ≤ a
at-end a b none = grind (arith, nat_tests)

-- a child that isn't there is none of the others
pub without-absent : (pid : ℕ) (xs : List Enrolled) → position (λ c. nat_eq c.pid pid) xs ≡ None → xs ≡ without pid xs
without-absent pid xs none = sym (without-past pid xs (at-end (position_or_len (λ (c : Enrolled). nat_eq c.pid pid) xs) (length xs) none))

-- the supervisor's children on the roll

pub roll-without : (pid : ℕ) (cs : List Child) → without pid (roll_of cs) ≡ roll_of (children.without pid cs)
roll-without pid [] = refl
roll-without pid (c ∷ cs) =
    elim (nat_eq c.pid pid) as
    (λ v. cond v (roll_of cs) (record { pid = c.pid; kind = c.kind } ∷ without pid (roll_of cs))
    ≡ roll_of (cond v cs (c ∷ children.without pid cs))) [
      | true ↦ refl
      | false ↦ ap (λ es. record { pid = c.pid; kind = c.kind } ∷ es) (roll-without pid cs)
    ]

-- a child on the roll is there, and has this pid
pub roll-pid : (pid : ℕ) (cs : List Child) → is_some (kind_in pid (roll_of cs)) ≡ true → IsSomeAnd (child_of pid cs) (λ c. c.pid ≡ pid)
roll-pid pid [] is = absurd cc
roll-pid pid (c ∷ cs) is =
    elim (nat_eq c.pid pid) as
    (λ v. nat_eq c.pid pid ≡ v → is_some (cond v (Some c.kind) (kind_in pid (roll_of cs))) ≡ true
    → IsSomeAnd (cond v (Some c) (child_of pid cs)) (λ d. d.pid ≡ pid)) [
      | true ↦ λ e some. grind (arith, e)
      | false ↦ λ e some. roll-pid pid cs some
    ]
    refl is
