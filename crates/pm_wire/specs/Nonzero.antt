-- Laws: a string holds no zero, byte by byte.
use Rattle.std.{proofs.{Common.{◌≡◌, ℕ, zero, suc, ◌<◌, ◌∷◌, [], List, true, false, eqb, refl, arith}, lemmas.Bool.eqb-true}, specs.List.AllByRecursion}
use Rattle.pm_facts.specs.Zeros.{HasNoZero}

abbrev pub AllNonzero : List ℕ → Type 0
AllNonzero bytes = AllByRecursion (λ b. 0 < b) bytes

pub suc_nonzero : (b : ℕ) → eqb (suc b) 0 ≡ false
suc_nonzero b = elim (eqb (suc b) 0) as (λ t. eqb (suc b) 0 ≡ t → t ≡ false) [ true ↦ λ e. absurd (omega (arith, eqb-true _ _ e)) | false ↦ λ _. refl ] refl

pub all_nonzero : (bytes : List ℕ) → HasNoZero bytes → AllNonzero bytes
all_nonzero [] h = tt
all_nonzero (zero ∷ bs) h = absurd cc
all_nonzero (suc b ∷ bs) h = (omega arith, all_nonzero bs (rw (suc_nonzero b) at h))

pub has_no_zero : (bytes : List ℕ) → AllNonzero bytes → HasNoZero bytes
has_no_zero [] h = refl
has_no_zero (zero ∷ bs) h = absurd (omega (arith, h.0))
has_no_zero (suc b ∷ bs) h = rw (suc_nonzero b) (has_no_zero bs h.1)
