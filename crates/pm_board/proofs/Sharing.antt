-- Holds on a board's words.
use Rattle.std.{proofs.Common.{◌≡◌, ⊎_elim, ℕ, ◌+◌, ◌<◌, List, [], ◌∷◌, ◌++◌, length, length-append, arith, refl, sym, ap, ◌∙◌}, specs.Prelude.{Some, slice_get}}
use Rattle.atomic_table.specs.Seated.{TableId}
use Rattle.pm_board.{specs.Rooms.AreShares, proofs.Steps.last_or_before}

got_at : {A : Type 0} (xs ys : List A) (a : A) → slice_get (xs ++ a ∷ ys) (length xs) ≡ Some a
got_at [] ys a = refl
got_at (x ∷ xs) ys a = got_at xs ys a

-- the next of them
pub next_share : (t : TableId) (n : ℕ) (all before rest : List TableId) (share : TableId) → AreShares t n all → before ++ share ∷ rest ≡ all → (share ≡ t) × (length before < n)
next_share t n all before rest share are is = (
  are.1 (length before) share (ap (λ l. slice_get l (length before)) (sym is) ∙ got_at before rest share),
  (let h = length-append before (share ∷ rest) in let a = are.0 in let b : length (before ++ share ∷ rest) ≡ length all = ap length is in omega (arith, h, a, b)),
)

-- and one more
pub more_shares : (t : TableId) (n : ℕ) (all : List TableId) (share : TableId) → AreShares t n all → share ≡ t → AreShares t (n + 1) (all ++ share ∷ [])
more_shares t n all share are is = (
  length-append all (share ∷ []) ∙ ap (λ k. k + 1) are.0,
  (λ k s e. ⊎_elim (λ (h : slice_get all k ≡ Some s). are.1 k s h) (λ (h : (k ≡ length all) × (share ≡ s)). sym h.1 ∙ is) (last_or_before all share s k e)),
)
