-- Lists of pids, each once.
use Rattle.std.{proofs.{Common.{◌≡◌, ◌≢◌, ◌⊎◌, inl, inr, ℕ, ◌≤◌, Bool, true, false, List, [], ◌∷◌, ◌++◌, refl, ap, subst, arith}, lemmas.List.Sums.sum_by-cons}, specs.{Prelude.{cond, nat_eq}, List.AllByRecursion}}
use Rattle.pm_serve_crew.{specs.{pm_supervisor_chain.Chain.{AreDistinct, IsPidOf}, pm_segment.Children.{once, times_in}, pm_store_shared.Renewed.AreApart}, proofs.{pm_supervisor_chain.FoldsLaws.{pid_left, pid_right}, PidsLaws.differs}}

pub never : (pid : ℕ) (pids : List ℕ) → AllByRecursion (λ other. pid ≢ other) pids → IsPidOf pid pids → ⊥
never pid [] differ there = there
never pid (other ∷ pids) differ (inl is) = differ.0 is
never pid (other ∷ pids) differ (inr there) = never pid pids differ.1 there

pub in_either : (pid : ℕ) (xs ys : List ℕ) → IsPidOf pid (xs ++ ys) → IsPidOf pid xs ⊎ IsPidOf pid ys
in_either pid [] ys there = inr there
in_either pid (x ∷ xs) ys (inl is) = inl (inl is)
in_either pid (x ∷ xs) ys (inr there) = by (in_either pid xs ys there)
  where
    by : IsPidOf pid xs ⊎ IsPidOf pid ys → IsPidOf pid (x ∷ xs) ⊎ IsPidOf pid ys
    by (inl is) = inl (inr is)
    by (inr is) = inr is

-- two lists of pids side by side, none in both
pub record AreSplit (xs ys : List ℕ) : Type 0 where
  pub first : AreDistinct xs
  pub second : AreDistinct ys
  pub apart : (pid : ℕ) → IsPidOf pid xs → IsPidOf pid ys → ⊥

pub split : (xs ys : List ℕ) → AreDistinct (xs ++ ys) → AreSplit xs ys
split [] ys once = record { first = tt; second = once; apart = λ pid one two. one }
split (x ∷ xs) ys once =
    let rest : AreSplit xs ys = split xs ys once.1 in
    record {
      first = (differs x xs (λ there. never x (xs ++ ys) once.0 (pid_left x xs ys there)), rest.first);
      second = rest.second;
      apart = by rest;
    }
  where
    by : AreSplit xs ys → (pid : ℕ) → IsPidOf pid (x ∷ xs) → IsPidOf pid ys → ⊥
    by rest pid (inl is) two = never x (xs ++ ys) once.0 (pid_right x xs ys (subst (λ (p : ℕ). IsPidOf p ys) is two))
    by rest pid (inr one) two = rest.apart pid one two

pub joined : (xs ys : List ℕ) → AreSplit xs ys → AreDistinct (xs ++ ys)
joined [] ys parts = parts.second
joined (x ∷ xs) ys parts = (
  differs x (xs ++ ys) (λ there. by (in_either x xs ys there)),
  joined xs ys (record { first = parts.first.1; second = parts.second; apart = λ pid one two. parts.apart pid (inr one) two }),
)
  where
    by : IsPidOf x xs ⊎ IsPidOf x ys → ⊥
    by (inl one) = never x xs parts.first.0 one
    by (inr two) = parts.apart x (inl refl) two

-- without one that stands between them
pub without_one : (xs : List ℕ) (pid : ℕ) (ys : List ℕ) → AreDistinct (xs ++ pid ∷ ys) → AreDistinct (xs ++ ys)
without_one xs pid ys once =
    let parts : AreSplit xs (pid ∷ ys) = split xs (pid ∷ ys) once in
    joined xs ys (record { first = parts.first; second = parts.second.1; apart = λ p one two. parts.apart p one (inr two) })

-- ---- by how often each stands there

counts : (pid other : ℕ) → pid ≡ other → once pid other ≡ 1
counts pid other is = (let same : nat_eq pid other ≡ true = grind (arith, is) in ap (λ (b : Bool). cond b 1 0) same)

present : (pid : ℕ) (pids : List ℕ) → IsPidOf pid pids → 1 ≤ times_in pid pids
present pid [] there = absurd there
present pid (other ∷ pids) (inl is) = omega (arith, counts pid other is, sum_by-cons (once pid) other pids)
present pid (other ∷ pids) (inr there) = (let more = present pid pids there in omega (arith, more, sum_by-cons (once pid) other pids))

few : (pids : List ℕ) → ((pid : ℕ) → times_in pid pids ≤ 1) → AreDistinct pids
few [] each = tt
few (x ∷ pids) each = (
  differs x pids (λ there.
      let more = present x pids there in
      let most = each x in
      absurd (omega (arith, more, most, counts x x refl, sum_by-cons (once x) x pids))),
  few pids (λ pid. (let most = each pid in omega (arith, most, sum_by-cons (once pid) x pids))),
)

most_one : (test : Bool) (times : ℕ) → times ≤ cond test 1 0 → times ≤ 1
most_one true times most = most
most_one false times most = omega (arith, most)

-- others that are apart from these
pub apart_joined : (xs ys : List ℕ) → AreDistinct xs → AreApart xs ys → AreDistinct (xs ++ ys)
apart_joined xs ys once apart = joined xs ys (record {
  first = once;
  second = few ys (λ pid. most_one (nat_eq 0 (times_in pid xs)) (times_in pid ys) (apart pid));
  apart = λ pid one two.
      let there = present pid xs one in
      let here = present pid ys two in
      let isnt : nat_eq 0 (times_in pid xs) ≡ false = grind (arith, there) in
      let none : times_in pid ys ≤ 0 = subst (λ (b : Bool). times_in pid ys ≤ cond b 1 0) isnt (apart pid) in
      absurd (omega (arith, here, none));
})
