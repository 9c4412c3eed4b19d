-- What stands somewhere in a list.
use Rattle.std.{proofs.{Common.{◌≡◌, ◌⊎◌, inl, inr, Bool, true, false, ◌||◌, cond, map, List, [], ◌∷◌, ◌++◌, refl, sym, ap, subst, ◌∙◌}, Math.Bool.or-true}, specs.List.{AllByRecursion, filter, flat_map, list_any}}

abbrev pub IsIn : {X : Type 0} → X → List X → Type 0
IsIn x [] = ⊥
IsIn x (y ∷ ys) = (x ≡ y) ⊎ IsIn x ys

-- it stands between these
pub record IsAt {X : Type 0} (x : X) (xs : List X) : Type 0 where
  pub before : List X
  pub behind : List X
  pub is : xs ≡ before ++ x ∷ behind

pub in_front : {X : Type 0} (x : X) (xs ys : List X) → IsIn x xs → IsIn x (xs ++ ys)
in_front x [] ys there = absurd there
in_front x (y ∷ xs) ys (inl is) = inl is
in_front x (y ∷ xs) ys (inr there) = inr (in_front x xs ys there)

pub in_back : {X : Type 0} (x : X) (xs ys : List X) → IsIn x ys → IsIn x (xs ++ ys)
in_back x [] ys there = there
in_back x (y ∷ xs) ys there = inr (in_back x xs ys there)

pub in_either : {X : Type 0} (x : X) (xs ys : List X) → IsIn x (xs ++ ys) → IsIn x xs ⊎ IsIn x ys
in_either x [] ys there = inr there
in_either x (y ∷ xs) ys (inl is) = inl (inl is)
in_either x (y ∷ xs) ys (inr there) = elim (in_either x xs ys there) as (λ _. IsIn x (y ∷ xs) ⊎ IsIn x ys) [
  | inl one ↦ inl (inr one)
  | inr two ↦ inr two
]

pub at_place : {X : Type 0} (x : X) (xs : List X) → IsIn x xs → IsAt x xs
at_place x [] there = absurd there
at_place {X} x (y ∷ xs) (inl is) = record { before = []; behind = xs; is = ap (λ (z : X). z ∷ xs) (sym is) }
at_place {X} x (y ∷ xs) (inr there) =
    let rest : IsAt x xs = at_place x xs there in
    record { before = y ∷ rest.before; behind = rest.behind; is = ap (λ (zs : List X). y ∷ zs) rest.is }

pub of_place : {X : Type 0} (x : X) (xs : List X) → IsAt x xs → IsIn x xs
of_place x xs place = subst (IsIn x) (sym place.is) (in_back x place.before (x ∷ place.behind) (inl refl))

pub of_all : {X : Type 0} (P : X → Type 0) (x : X) (xs : List X) → AllByRecursion P xs → IsIn x xs → P x
of_all P x [] all there = absurd there
of_all P x (y ∷ xs) all (inl is) = subst P (sym is) all.0
of_all P x (y ∷ xs) all (inr there) = of_all P x xs all.1 there

-- it is the image of one of these
pub record IsImage {X Y : Type 0} (f : X → Y) (y : Y) (xs : List X) : Type 0 where
  pub of : X
  pub there : IsIn of xs
  pub is : f of ≡ y

pub from_map : {X Y : Type 0} (f : X → Y) (y : Y) (xs : List X) → IsIn y (map f xs) → IsImage f y xs
from_map f y [] there = absurd there
from_map f y (x ∷ xs) (inl is) = record { of = x; there = inl refl; is = sym is }
from_map f y (x ∷ xs) (inr there) =
    let rest : IsImage f y xs = from_map f y xs there in
    record { of = rest.of; there = inr rest.there; is = rest.is }

pub in_map : {X Y : Type 0} (f : X → Y) (x : X) (xs : List X) → IsIn x xs → IsIn (f x) (map f xs)
in_map f x [] there = absurd there
in_map f x (y ∷ xs) (inl is) = inl (ap f is)
in_map f x (y ∷ xs) (inr there) = inr (in_map f x xs there)

-- it is among those that one of these gives
pub record IsGiven {X Y : Type 0} (f : X → List Y) (y : Y) (xs : List X) : Type 0 where
  pub by : X
  pub there : IsIn by xs
  pub gives : IsIn y (f by)

pub from_flat_map : {X Y : Type 0} (f : X → List Y) (y : Y) (xs : List X) → IsIn y (flat_map f xs) → IsGiven f y xs
from_flat_map f y [] there = absurd there
from_flat_map f y (x ∷ xs) there = elim (in_either y (f x) (flat_map f xs) there) as (λ _. IsGiven f y (x ∷ xs)) [
  | inl one ↦ record { by = x; there = inl refl; gives = one }
  | inr two ↦ (let rest : IsGiven f y xs = from_flat_map f y xs two in record { by = rest.by; there = inr rest.there; gives = rest.gives })
]

pub in_flat_map : {X Y : Type 0} (f : X → List Y) (y : Y) (x : X) (xs : List X) → IsIn x xs → IsIn y (f x) → IsIn y (flat_map f xs)
in_flat_map f y x [] there gives = absurd there
in_flat_map f y x (z ∷ xs) (inl is) gives = in_front y (f z) (flat_map f xs) (subst (λ w. IsIn y (f w)) is gives)
in_flat_map f y x (z ∷ xs) (inr there) gives = in_back y (f z) (flat_map f xs) (in_flat_map f y x xs there gives)

-- one of these passes the test
pub record Passes {X : Type 0} (test : X → Bool) (xs : List X) : Type 0 where
  pub one : X
  pub there : IsIn one xs
  pub passes : test one ≡ true

by_test : {X : Type 0} (test : X → Bool) (x : X) (xs : List X) (b : Bool) → test x ≡ b → (list_any test xs ≡ true → Passes test xs) → b || list_any test xs ≡ true → Passes test (x ∷ xs)
by_test test x xs true is rest any = record { one = x; there = inl refl; passes = is }
by_test test x xs false is rest any = (let more : Passes test xs = rest any in record { one = more.one; there = inr more.there; passes = more.passes })

pub from_any : {X : Type 0} (test : X → Bool) (xs : List X) → list_any test xs ≡ true → Passes test xs
from_any test [] some = absurd cc
from_any test (x ∷ xs) some = by_test test x xs (test x) refl (λ more. from_any test xs more) some

pub to_any : {X : Type 0} (test : X → Bool) (x : X) (xs : List X) → IsIn x xs → test x ≡ true → list_any test xs ≡ true
to_any test x [] there passes = absurd there
to_any test x (y ∷ xs) (inl is) passes = rw (sym (ap test is) ∙ passes) refl
to_any test x (y ∷ xs) (inr there) passes = rw (to_any test x xs there passes) (or-true (test y))

out_of_cond : {X : Type 0} (x y : X) (xs rest : List X) (b : Bool) → (IsIn x rest → IsIn x xs) → IsIn x (cond b (y ∷ rest) rest) → IsIn x (y ∷ xs)
out_of_cond x y xs rest true more (inl is) = inl is
out_of_cond x y xs rest true more (inr there) = inr (more there)
out_of_cond x y xs rest false more there = inr (more there)

pub from_filter : {X : Type 0} (test : X → Bool) (x : X) (xs : List X) → IsIn x (filter test xs) → IsIn x xs
from_filter test x [] there = absurd there
from_filter test x (y ∷ xs) there = out_of_cond x y xs (filter test xs) (test y) (λ more. from_filter test x xs more) there

this_in_cond : {X : Type 0} (x y : X) (rest : List X) (b : Bool) → b ≡ true → x ≡ y → IsIn x (cond b (y ∷ rest) rest)
this_in_cond x y rest true holds is = inl is
this_in_cond x y rest false holds is = absurd cc

rest_in_cond : {X : Type 0} (x y : X) (rest : List X) (b : Bool) → IsIn x rest → IsIn x (cond b (y ∷ rest) rest)
rest_in_cond x y rest true there = inr there
rest_in_cond x y rest false there = there

pub in_filter : {X : Type 0} (test : X → Bool) (x : X) (xs : List X) → IsIn x xs → test x ≡ true → IsIn x (filter test xs)
in_filter test x [] there passes = absurd there
in_filter test x (y ∷ xs) (inl is) passes = this_in_cond x y (filter test xs) (test y) (sym (ap test is) ∙ passes) is
in_filter test x (y ∷ xs) (inr there) passes = rest_in_cond x y (filter test xs) (test y) (in_filter test x xs there passes)
