-- Texts that can be written with a zero byte as their end.
use Rattle.std.{proofs.{Common.{◌≡◌, ◌∙◌, ℕ, ◌==◌, ◌||◌, false, List, ◌++◌, ap}, lemmas.List.Folds.list_any-append}, specs.List.list_any}

-- no byte is zero
abbrev pub HasNoZero : List ℕ → Type 0
HasNoZero bytes = list_any (λ b. b == 0) bytes ≡ false

pub no_zero-append : (xs ys : List ℕ) → HasNoZero xs → HasNoZero ys → HasNoZero (xs ++ ys)
no_zero-append xs ys first second = list_any-append (λ b. b == 0) xs ys ∙ ap (λ t. t || list_any (λ b. b == 0) ys) first ∙ second
