-- What a try at the gate leaves, told from before the slot was marked.
use Rattle.std.{proofs.Common.{◌≡◌, ℕ, sym, ap, ◌∙◌}, specs.Prelude.{Bool, Ok, Err}}
use Rattle.pm_board.specs.{pm_child_life.{declared.life.GateNo.GateNo, Life.attempt}, pm_board_words.{declared.views.{Offer.Offer, Work.TheVariants.Active, PostView.PostView}, GateWords.{gate_answer, generation_in}}, Told.{with_work, tried_by}, Models.HasTried}

module _ {D : Type 0} (w v u : PostView D) (o : Offer D) (is_ordinary : Bool) where
  pub let_in : (g : ℕ) → v ≡ with_work w (Active o) → HasTried (attempt is_ordinary (Ok g)) v u → (word : ℕ) × (Ok g ≡ gate_answer o.kind is_ordinary w.notes.session_limit word) × (u ≡ tried_by w o word (attempt is_ordinary (Ok g))) × (generation_in word ≡ o.generation)
  let_in g is met = let it = met o (ap (λ (z : PostView D). z.work) is) in let word : ℕ = it.0 in
      let answer : Ok g ≡ gate_answer o.kind is_ordinary w.notes.session_limit word = it.1 ∙ ap (λ (z : PostView D). gate_answer o.kind is_ordinary z.notes.session_limit word) is in
      (word, answer, it.2 ∙ ap (λ (z : PostView D). tried_by z o word (attempt is_ordinary (gate_answer o.kind is_ordinary z.notes.session_limit word))) is ∙ ap (λ a. tried_by (with_work w (Active o)) o word (attempt is_ordinary a)) (sym answer), it.3)

  pub refused : (refusal : GateNo) → v ≡ with_work w (Active o) → HasTried (attempt is_ordinary (Err refusal)) v u → (word : ℕ) × (Err refusal ≡ gate_answer o.kind is_ordinary w.notes.session_limit word) × (u ≡ tried_by w o word (attempt is_ordinary (Err refusal))) × (generation_in word ≡ o.generation)
  refused refusal is met = let it = met o (ap (λ (z : PostView D). z.work) is) in let word : ℕ = it.0 in
      let answer : Err refusal ≡ gate_answer o.kind is_ordinary w.notes.session_limit word = it.1 ∙ ap (λ (z : PostView D). gate_answer o.kind is_ordinary z.notes.session_limit word) is in
      (word, answer, it.2 ∙ ap (λ (z : PostView D). tried_by z o word (attempt is_ordinary (gate_answer o.kind is_ordinary z.notes.session_limit word))) is ∙ ap (λ a. tried_by (with_work w (Active o)) o word (attempt is_ordinary a)) (sym answer), it.3)
