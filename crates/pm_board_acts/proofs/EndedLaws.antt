-- An end among others.
use Rattle.std.{proofs.Common.{◌≡◌, inl, inr, List, [], ◌∷◌, ◌++◌}, specs.Prelude.◌⊎◌}
use Rattle.pm_board_acts.specs.Seating.{Ended}

abbrev pub Among : Ended → List Ended → Type 0
Among end [] = ⊥
Among end (x ∷ xs) = (x ≡ end) ⊎ Among end xs

pub among_front : (end : Ended) (xs ys : List Ended) → Among end xs → Among end (xs ++ ys)
among_front end [] ys on = absurd on
among_front end (x ∷ xs) ys (inl is) = inl is
among_front end (x ∷ xs) ys (inr on) = inr (among_front end xs ys on)

pub among_behind : (end : Ended) (xs ys : List Ended) → Among end ys → Among end (xs ++ ys)
among_behind end [] ys on = on
among_behind end (x ∷ xs) ys on = inr (among_behind end xs ys on)
