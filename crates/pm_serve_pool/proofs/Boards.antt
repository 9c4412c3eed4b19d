-- A board whose one slot has had the child that closes its worker.
use Rattle.std.{proofs.{Common.{◌≡◌, ◌≢◌, ℕ, List, [], ◌∷◌, ◌++◌, map, sym, ap, ◌∙◌, subst, append_assoc}, lemmas.List.map-append}, specs.{List.AllByRecursion, Prelude.Option}}
use native.Mathlib.Decide.{ℕ_discrete}
use Rattle.pm_serve_crew.specs.{pm_facts.Lists.each_both, pm_exit.declared.child.Kind.TheVariants.DeadEnd, pm_board.{pm_board_words.declared.views.{RosterStep.RosterStep, RosterView.RosterView}, Places.slot_at}, pm_supervisor_journal.declared.roll.Enrolled.Enrolled, pm_board_acts.{Board.{begun_of, ended_of}, Seating.{Begun, Ended, begun_at, board_steps, ended_at, seating_of}, Standing.{AreClosing, IsFinal}}, pm_worker.declared.mail.MailTold.MailTold}
use Rattle.pm_serve_pool.specs.Closing.{HasHadLast, KeepsBoard}

-- with one child more after those so far
one_behind : {A B : Type 0} (f : A → B) (past past' : List A) (x : A) (told others : List B) → past' ≡ past ++ x ∷ [] → map f past ≡ told ++ others → map f past' ≡ told ++ (others ++ f x ∷ [])
one_behind f past past' x told others is so = ap (map f) is ∙ map-append f past (x ∷ []) ∙ ap (λ xs. xs ++ f x ∷ []) so ∙ append_assoc told others (f x ∷ [])

pub keeps_board : (k : ℕ) (before after : RosterView MailTold) (more : List RosterStep) → after.notes.steps ≡ before.notes.steps ++ more → ((seats : List (Option Enrolled)) → AllByRecursion (IsFinal seats) more) → (last : HasHadLast k before after) → last.child.offer.kind ≡ DeadEnd
    → ((j : ℕ) → j ≢ k → slot_at after j ≡ slot_at before j) → KeepsBoard before after
keeps_board k before after more steps final last dead others count moves is =
    record {
      last = is.last ++ more;
      steps = steps ∙ ap (λ xs. xs ++ more) is.steps ∙ append_assoc (board_steps count moves) is.last more;
      final = each_both (IsFinal (seating_of count moves).seats) is.last more is.final (final (seating_of count moves).seats);
      begun = λ j. begun j (ℕ_discrete j k);
      ended = λ j. ended j (ℕ_discrete j k);
      right = is.right;
    }
  where
    begun : (j : ℕ) → Dec (j ≡ k) → (others : List Begun) × AreClosing others × (map begun_of (slot_at after j).past ≡ begun_at count j moves ++ others)
    begun j (yes here) = subst (λ (i : ℕ). (others : List Begun) × AreClosing others × (map begun_of (slot_at after i).past ≡ begun_at count i moves ++ others)) (sym here) (
      (is.begun k).0 ++ begun_of last.child ∷ [],
      each_both (λ (b : Begun). b.kind ≡ DeadEnd) (is.begun k).0 (begun_of last.child ∷ []) (is.begun k).1 (dead, tt),
      one_behind begun_of (slot_at before k).past (slot_at after k).past last.child (begun_at count k moves) (is.begun k).0 last.past (is.begun k).2,
    )
    begun j (no other) = ((is.begun j).0, (is.begun j).1, ap (λ x. map begun_of x.past) (others j other) ∙ (is.begun j).2)

    ended : (j : ℕ) → Dec (j ≡ k) → (others : List Ended) × (map ended_of (slot_at after j).past ≡ ended_at j moves ++ others)
    ended j (yes here) = subst (λ (i : ℕ). (others : List Ended) × (map ended_of (slot_at after i).past ≡ ended_at i moves ++ others)) (sym here)
        ((is.ended k).0 ++ ended_of last.child ∷ [], one_behind ended_of (slot_at before k).past (slot_at after k).past last.child (ended_at k moves) (is.ended k).0 last.past (is.ended k).1)
    ended j (no other) = ((is.ended j).0, ap (λ x. map ended_of x.past) (others j other) ∙ (is.ended j).1)
