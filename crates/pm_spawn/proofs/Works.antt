-- Lists of works, one longer.
use Rattle.std.proofs.{Common.{◌≡◌, ◌++◌, List, [], ◌∷◌, map, length, ap, subst, refl, ◌∙◌, arith}, lemmas.List.append-nil}
use Rattle.pm_spawn.specs.Works.{EachGives}

-- with one work more of those that were left
pub started_more : {A W : Type 0} (f : A → W) (xs : List A) (x : A) (w : W) (rest whole : List W)
    → map f xs ++ w ∷ rest ≡ whole → f x ≡ w → map f (xs ++ x ∷ []) ++ rest ≡ whole
started_more f [] x w rest whole h e = ap (λ v. v ∷ rest) e ∙ h
started_more f (y ∷ xs) x w rest whole h e = ap (λ vs. f y ∷ vs) (started_more f xs x w rest (map f xs ++ w ∷ rest) refl e) ∙ h

-- where no work is left, all was given
pub given_all : {A W O : Type 0} (gives : W → O → Type 0) (f : A → W) (left : List A) (given : List O) (all : List W)
    → left ≡ [] → ((os : List O) → EachGives gives (map f left) os → EachGives gives all (given ++ os)) → EachGives gives all given
given_all gives f [] given all none h = subst (EachGives gives all) (append-nil given) (h [] tt)
given_all gives f (x ∷ left) given all none h = absurd (omega (arith, ap length none))
