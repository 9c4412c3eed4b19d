-- Posts on which no child runs.
use Rattle.std.{proofs.Common.{◌≡◌, ℕ, suc, List, [], ◌∷◌, refl, sym, ◌∙◌, subst}, specs.Prelude.{Option, Some, None, MatchOption, slice_get}}
use Rattle.pm_board_words.specs.declared.views.Work.TheVariants.{Idle}
use Rattle.pm_board.specs.Models.{PostModel}

module _ {D : Type 0} where
  -- no child runs on any of these posts
  abbrev pub AllIdle : List (PostModel D) → Type 0
  AllIdle posts = (k : ℕ) (p : PostModel D) → slice_get posts k ≡ Some p → p.knows.work ≡ Idle

  pub first_idle : (posts rest : List (PostModel D)) (p : PostModel D) → posts ≡ p ∷ rest → AllIdle posts → p.knows.work ≡ Idle
  first_idle posts rest p is all = subst AllIdle is all 0 p refl

  pub rest_idle : (posts rest : List (PostModel D)) (p : PostModel D) → posts ≡ p ∷ rest → AllIdle posts → AllIdle rest
  rest_idle posts rest p is all k q e = subst AllIdle is all (suc k) q e

  pub taken_idle : (r : Option (PostModel D)) (posts rest : List (PostModel D)) → MatchOption r ((posts ≡ []) × (rest ≡ [])) (λ p. posts ≡ p ∷ rest) → AllIdle posts → AllIdle rest
  taken_idle None posts rest is all = subst AllIdle (is.0 ∙ sym is.1) all
  taken_idle (Some p) posts rest is all = rest_idle posts rest p is all
