-- Lists, one longer.
use Rattle.std.{proofs.{Common.{◌≡◌, ◌⊎◌, inl, inr, ℕ, zero, suc, ◌+◌, ◌<◌, List, [], ◌∷◌, ◌++◌, length, refl, ap, ◌∙◌, subst, arith}, lemmas.Option.same_Some}, specs.{Prelude.{Option, None, Some, drop, slice_get}, Option.option_to_list, List.AllByRecursion}}
use Rattle.pm_serve_crew.specs.pm_facts.Lists.{got_front}
use Rattle.pm_serve_pool.specs.Works.{EachFrom}

-- what is found in a list that has one more at its end
pub got_end : {A : Type 0} (xs : List A) (y x : A) (k : ℕ) → slice_get (xs ++ y ∷ []) k ≡ Some x → ((slice_get xs k ≡ Some x) × (k < length xs)) ⊎ ((k ≡ length xs) × (y ≡ x))
got_end [] y x zero is = inr (refl, same_Some y x is)
got_end [] y x (suc k) is = absurd (cc)
got_end (z ∷ zs) y x zero is = inl (is, omega arith)
got_end (z ∷ zs) y x (suc k) is = go (got_end zs y x k is)
  where
    go : ((slice_get zs k ≡ Some x) × (k < length zs)) ⊎ ((k ≡ length zs) × (y ≡ x)) → ((slice_get (z ∷ zs) (suc k) ≡ Some x) × (suc k < length (z ∷ zs))) ⊎ ((suc k ≡ length (z ∷ zs)) × (y ≡ x))
    go (inl h) = let l : k < length zs = h.1 in inl (h.0, omega arith)
    go (inr h) = inr (ap suc h.0, h.1)

-- a list out of which nothing could be taken
pub popped_none : {A : Type 0} (taken : Option A) (before after : List A) → taken ≡ None → before ≡ option_to_list taken ++ after → after ≡ drop 1 before → before ≡ []
popped_none {A} taken before after none all rest =
    let same : before ≡ after = subst (λ (t : Option A). before ≡ option_to_list t ++ after) none all in
    no_shorter before (same ∙ rest)
  where
    no_shorter : (xs : List A) → xs ≡ drop 1 xs → xs ≡ []
    no_shorter [] is = refl
    no_shorter (x ∷ xs) is = let long : length (x ∷ xs) ≡ length xs = ap length is in absurd (omega arith)

pub got_within : {A : Type 0} (xs : List A) (x : A) (k : ℕ) → slice_get xs k ≡ Some x → k < length xs
got_within [] x k is = absurd (cc)
got_within (y ∷ xs) x zero is = omega arith
got_within (y ∷ xs) x (suc k) is = let h = got_within xs x k is in omega arith

module _ {A : Type 0} (P : ℕ → A → Type 0) where
  pub first_of_all : (first : ℕ) (x : A) (xs : List A) → EachFrom P first (x ∷ xs) → P first x
  first_of_all first x xs each = subst (λ (k : ℕ). P k x) (omega arith) (each 0 x refl)

  pub rest_of_all : (first : ℕ) (x : A) (xs : List A) → EachFrom P first (x ∷ xs) → EachFrom P (first + 1) xs
  rest_of_all first x xs each i y is = subst (λ (k : ℕ). P k y) (omega arith) (each (suc i) y is)

  pub one_before : (first : ℕ) (x : A) (xs : List A) → P first x → EachFrom P (first + 1) xs → EachFrom P first (x ∷ xs)
  one_before first x xs p each zero y is = subst (λ (k : ℕ). P k y) (omega arith) (subst (P first) (same_Some x y is) p)
  one_before first x xs p each (suc i) y is = subst (λ (k : ℕ). P k y) (omega arith) (each i y is)

  -- those in front, and those after
  pub front_of_all : (first : ℕ) (xs ys : List A) → EachFrom P first (xs ++ ys) → EachFrom P first xs
  front_of_all first xs ys each i x is = each i x (got_front xs ys i x is)

  pub back_of_all : (first : ℕ) (xs ys : List A) → EachFrom P first (xs ++ ys) → EachFrom P (first + length xs) ys
  back_of_all first [] ys each i x is = subst (λ (k : ℕ). P k x) (omega arith) (each i x is)
  back_of_all first (z ∷ zs) ys each i x is = subst (λ (k : ℕ). P k x) (omega arith) (back_of_all (first + 1) zs ys (rest_of_all first z (zs ++ ys) each) i x is)

pub all_of_each : {A : Type 0} (P : A → Type 0) (xs : List A) → ((k : ℕ) (x : A) → slice_get xs k ≡ Some x → P x) → AllByRecursion P xs
all_of_each P [] each = tt
all_of_each P (x ∷ xs) each = (each 0 x refl, all_of_each P xs (λ k y is. each (suc k) y is))
