-- Lists.
use Rattle.std.{proofs.{Common.{◌∙◌, ◌-◌, inl, inr, refl, sym, ap, subst, arith, ⊎_elim, length-append, length-drop, append-nil, append_assoc}, lemmas.{Grind.common_steps, List.{take_all, take-append-le, drop-append-le, length-take-le, take-take}}, Math.Seq.take-append-add}, specs.{Prelude.{◌≡◌, ◌⊎◌, ℕ, zero, suc, ◌+◌, ◌≤◌, List, [], ◌∷◌, ◌++◌, length, take, drop, Any, Some, replicate, get_or, set, slice_get}, List.AllByRecursion}}
use mathlib.Core.Option.{some, some-ne-none, some-injective}
use lib.ListN.{get_elem?}

-- ---- what holds of each item

module _ {X : Type 0} (P : X → Type 0) where
  -- of two lists, one after the other
  pub each_both : (xs ys : List X) → AllByRecursion P xs → AllByRecursion P ys → AllByRecursion P (xs ++ ys)
  each_both [] ys one two = two
  each_both (x ∷ xs) ys one two = (one.0, each_both xs ys one.1 two)

  pub each_first : (xs ys : List X) → AllByRecursion P (xs ++ ys) → AllByRecursion P xs
  each_first [] ys all = tt
  each_first (x ∷ xs) ys all = (all.0, each_first xs ys all.1)

  pub each_second : (xs ys : List X) → AllByRecursion P (xs ++ ys) → AllByRecursion P ys
  each_second [] ys all = all
  each_second (x ∷ xs) ys all = each_second xs ys all.1

  -- and of one item more
  pub each_more : (xs : List X) (x : X) → AllByRecursion P xs → P x → AllByRecursion P (xs ++ x ∷ [])
  each_more xs x all last = each_both xs (x ∷ []) all (last, tt)

  pub each_last : (xs : List X) (x : X) → AllByRecursion P (xs ++ x ∷ []) → P x
  each_last xs x all = (each_second xs (x ∷ []) all).0

-- ---- items by their places

module _ {A : Type 0} where
  pub got_front : (xs ys : List A) (k : ℕ) (x : A) → slice_get xs k ≡ Some x → slice_get (xs ++ ys) k ≡ Some x
  got_front [] ys zero x is = cc
  got_front [] ys (suc k) x is = cc
  got_front (z ∷ zs) ys zero x is = is
  got_front (z ∷ zs) ys (suc k) x is = got_front zs ys k x is

  pub got_last : (xs : List A) (y : A) → slice_get (xs ++ y ∷ []) (length xs) ≡ Some y
  got_last [] y = refl
  got_last (x ∷ xs) y = got_last xs y

  -- what is found in a list with one item more
  pub at_end : (l : List A) (a b : A) (j : ℕ) → get_elem? (l ++ a ∷ []) j ≡ some b → (get_elem? l j ≡ some b) ⊎ ((j ≡ length l) × (a ≡ b))
  at_end [] a b zero e = inr (refl, some-injective a b e)
  at_end [] a b (suc j) e = absurd (some-ne-none b (sym e))
  at_end (x ∷ xs) a b zero e = inl e
  at_end (x ∷ xs) a b (suc j) e = ⊎_elim (λ t. inl t) (λ (t : (j ≡ length xs) × (a ≡ b)). inr (ap suc t.0, t.1)) (at_end xs a b j e)

  -- a list of the same everywhere, also past its end (`slice_index_or` reads the same)
  pub same_everywhere : (n k : ℕ) (a : A) → get_or (replicate n a) k a ≡ a
  same_everywhere zero k a = refl
  same_everywhere (suc n) zero a = refl
  same_everywhere (suc n) (suc k) a = same_everywhere n k a

  -- of two writes at one place the later one stands
  pub set_set : (l : List A) (k : ℕ) (a b : A) → set (set l k a) k b ≡ set l k b
  set_set [] k a b = refl
  set_set (x ∷ l) zero a b = refl
  set_set (x ∷ l) (suc k) a b = ap (λ ys. x ∷ ys) (set_set l k a b)

-- ---- what holds of some item

module _ {X : Type 0} (P : X → Type 0) where
  Any-before : (xs : List X) (x : X) → Any P xs → Any P (xs ++ x ∷ [])
  Any-before xs x any = (any.0, any.1, omega (arith, any.2, length-append xs (x ∷ [])), grind (arith, common_steps, any.2, any.3), any.4)

  -- and of a longer list
  pub Any-append : (xs ys : List X) → Any P xs → Any P (xs ++ ys)
  Any-append xs [] any = subst (Any P) (sym (append-nil xs)) any
  Any-append xs (y ∷ ys) any = subst (Any P) (append_assoc xs (y ∷ []) ys) (Any-append (xs ++ y ∷ []) ys (Any-before xs y any))

-- ---- bytes that are read and written piece by piece

-- what is left after the first n, as the code takes it
pub rest_of : (xs : List ℕ) (n : ℕ) → take (length xs - n) (drop n xs) ≡ drop n xs
rest_of xs n = take_all _ _ (omega (arith, length-drop n xs))

-- the front of a slice that got more bytes after what it had
take_filled : (have count : ℕ) (xs ys rest : List ℕ) → have ≤ length xs → count ≤ length ys → take (have + count) (take have xs ++ (ys ++ rest)) ≡ take have xs ++ take count ys
take_filled have count xs ys rest within fits =
    let front : length (take have xs) ≡ have = length-take-le have xs within in
    ap (λ (n : ℕ). take (n + count) (take have xs ++ (ys ++ rest))) (sym front) ∙ take-append-add (take have xs) (ys ++ rest) count ∙ ap (λ (l : List ℕ). take have xs ++ l) (take-append-le count ys rest fits)

-- what stands in a buffer into which bytes were read after what stood
pub stands_behind : (start have count size : ℕ) (xs ys post rest : List ℕ) → start ≤ have → have ≤ length xs → count ≤ length ys → have + count ≤ size
    → drop start (take (have + count) (take size ((take have xs ++ (ys ++ post)) ++ rest))) ≡ drop start (take have xs) ++ take count ys
stands_behind start have count size xs ys post rest order within fits room =
    let together : (take have xs ++ (ys ++ post)) ++ rest ≡ take have xs ++ (ys ++ (post ++ rest)) = simp append_assoc in
    let front : start ≤ length (take have xs) = omega (arith, length-take-le have xs within, order) in
    ap (λ (l : List ℕ). drop start l) (take-take (have + count) size ((take have xs ++ (ys ++ post)) ++ rest) room ∙ ap (λ (l : List ℕ). take (have + count) l) together ∙ take_filled have count xs ys (post ++ rest) within fits)
    ∙ drop-append-le start (take have xs) (take count ys) front
