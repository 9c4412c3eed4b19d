-- Numbers, and sums of them.
use Rattle.std.{proofs.Common.{refl, ap, arith}, specs.Prelude.{◌≡◌, ◌≢◌, ℕ, zero, suc, ◌+◌, ◌<◌}}
use mathlib.Core.Logic.{dite}
use native.Mathlib.Decide.{ℕ_discrete}

-- the sum of f at the numbers below n
abbrev pub sum_below : ℕ → (ℕ → ℕ) → ℕ
sum_below zero f = 0
sum_below (suc n) f = sum_below n f + f n

pub sum_same : (n : ℕ) (f g : ℕ → ℕ) → ((j : ℕ) → j < n → g j ≡ f j) → sum_below n g ≡ sum_below n f
sum_same zero f g h = refl
sum_same (suc n) f g h = let a : sum_below n g ≡ sum_below n f = sum_same n f g (λ j l. h j (omega arith)) in let b : g n ≡ f n = h n (omega arith) in omega arith

-- one member of a sum changes
pub sum_put : (n k : ℕ) (f g : ℕ → ℕ) → k < n → ((j : ℕ) → j ≢ k → g j ≡ f j) → sum_below n g + f k ≡ sum_below n f + g k
sum_put zero k f g l h = absurd (omega arith)
sum_put (suc n) k f g l h = dite (ℕ_discrete n k)
    (λ is. let a : sum_below n g ≡ sum_below n f = sum_same n f g (λ j m. h j (omega arith)) in let b : g n ≡ g k = ap g is in let c : f n ≡ f k = ap f is in omega arith)
    (λ ne. let a : sum_below n g + f k ≡ sum_below n f + g k = sum_put n k f g (omega arith) h in let b : g n ≡ f n = h n ne in omega arith)

pub sum_zero : (n : ℕ) (f : ℕ → ℕ) → ((k : ℕ) → k < n → f k ≡ 0) → sum_below n f ≡ 0
sum_zero zero f h = refl
sum_zero (suc n) f h = let a : sum_below n f ≡ 0 = sum_zero n f (λ k l. h k (omega arith)) in let b : f n ≡ 0 = h n (omega arith) in omega arith

pub above_zero : (n : ℕ) → (n ≡ 0 → ⊥) → 0 < n
above_zero zero isnt = absurd (isnt refl)
above_zero (suc n) isnt = omega arith
