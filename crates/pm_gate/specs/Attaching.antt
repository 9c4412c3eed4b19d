-- What a child's calls at the gate tell.
use Rattle.std.specs.Prelude.{◌≡◌, ℕ, Result, Ok, Err}
use Rattle.pm_board.specs.{pm_child_life.declared.life.{Attempt.Attempt, GateNo.GateNo}, pm_board_words.{declared.views.{Offer.Offer, Work.{Work, TheVariants.{Inactive, Attached}}, PostView.PostView}, GateWords.{gate_answer, generation_in}}, Told.{with_work, tried_by, detached}}
use Rattle.pm_gate.specs.declared.tokens.Attached.{Attached as Attached_}

-- the generation of who was let in, or the refusal
abbrev pub answer_of : Result Attached_ GateNo → Result ℕ GateNo
answer_of (Ok a) = Ok a.generation
answer_of (Err refusal) = Err refusal

module _ {D : Type 0} where
  -- the child is attached in this generation
  abbrev pub IsAttachedIn : ℕ → Work D → Type 0
  IsAttachedIn generation work = (o : Offer D) × (work ≡ Attached o generation)

  -- it does what it did before, and has had the same children
  abbrev pub Stays : PostView D → PostView D → Type 0
  Stays before after = (after.work ≡ before.work) × (after.past ≡ before.past)

  -- one that was refused stands as before
  abbrev pub back_by : Result ℕ GateNo → Offer D → PostView D → PostView D
  back_by (Ok generation) o w = w
  back_by (Err refusal) o w = with_work w (Inactive o)

  -- what a worker knows once its child, that met this word, got the answer of this attempt
  abbrev pub after_attach : PostView D → Offer D → ℕ → Attempt → PostView D
  after_attach w o word attempt = back_by attempt.answer o (tried_by w o word attempt)

  -- the child met a word of the gate and got the answer to it
  abbrev pub HasAttached : Attempt → PostView D → PostView D → Type 0
  HasAttached attempt before after =
      (o : Offer D) → before.work ≡ Inactive o
      → (word : ℕ) × (attempt.answer ≡ gate_answer o.kind attempt.is_ordinary before.notes.session_limit word)
      × (after ≡ after_attach before o word attempt) × (generation_in word ≡ o.generation)

  -- the child has let go
  abbrev pub HasLeft : ℕ → PostView D → PostView D → Type 0
  HasLeft generation before after =
      (o : Offer D) → before.work ≡ Attached o generation → after ≡ with_work (detached before o) (Inactive o)
