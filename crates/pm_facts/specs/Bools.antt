-- Truth values.
use Rattle.std.proofs.Common.{◌≡◌, Bool, true, false, cond, not, ◌&&◌, T, refl}

-- what holds is true
pub true_of : (b : Bool) → T b → b ≡ true
true_of true h = refl
true_of false h = absurd h

-- of both, each
pub holds_first : (a b : Bool) → T (a && b) → T a
holds_first true b p = tt
holds_first false b p = absurd p

pub holds_second : (a b : Bool) → T (a && b) → T b
holds_second true b p = p
holds_second false b p = absurd p

pub hold_both : (a b : Bool) → T a → T b → T (a && b)
hold_both true b p q = q
hold_both false b p q = absurd p

-- no value is both
pub never_both : (b : Bool) → b ≡ true → b ≡ false → ⊥
never_both true is isnt = cc
never_both false is isnt = cc

-- so nothing is false and true
pub absurd_true : {P : Type 0} → false ≡ true → P
absurd_true e = cc

-- what holds in each of the two cases
pub by_test : {P : Type 0} → (b : Bool) → (b ≡ true → P) → (b ≡ false → P) → P
by_test true is isnt = is refl
by_test false is isnt = isnt refl

-- a choice by the opposite
pub cond-not : {A : Type 0} (b : Bool) (x y : A) → cond (not b) x y ≡ cond b y x
cond-not true x y = refl
cond-not false x y = refl

-- a choice between the same
pub cond-same : {A : Type 0} (b : Bool) (x : A) → cond b x x ≡ x
cond-same true x = refl
cond-same false x = refl
