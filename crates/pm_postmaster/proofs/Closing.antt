-- After the closing of all workers no two children had one pid.
use Rattle.std.{proofs.Common.{◌≡◌, ◌≢◌, ◌⊎◌, inl, inr, ℕ, ◌<◌, ◌≤◌, List, [], ◌∷◌, ◌++◌, refl, sym, ap, subst, ◌∙◌, arith}, specs.{Prelude.{Bool, true, false, map, nat_lt}, List.AllByRecursion}}
use Rattle.pm_board_acts.specs.{pm_board.{pm_board_words.declared.views.{PastChild.PastChild, RosterView.RosterView}, Places.slot_at}, pm_supervisor_chain.Chain.{AreDistinct, IsPidOf}, pm_supervisor_journal.Stands.highest_pid, pm_worker.declared.mail.MailTold.MailTold}
use Rattle.pm_serve_pool.specs.{Closing.{HasHadLast, closing_pid}, pm_serve_crew.Pids.{AreUsedOnce, pids_at}}

-- no child had a pid above the highest that a supervisor draws
abbrev pub AreDrawn : RosterView MailTold → Type 0
AreDrawn d = (k pid : ℕ) → IsPidOf pid (pids_at d k) → pid ≤ highest_pid

push_pid : (past : List (PastChild MailTold)) (child : PastChild MailTold) → map (λ c. c.offer.pid) (past ++ child ∷ []) ≡ map (λ c. c.offer.pid) past ++ child.offer.pid ∷ []
push_pid [] child = refl
push_pid (x ∷ past) child = ap (λ (l : List ℕ). x.offer.pid ∷ l) (push_pid past child)

in_push : (pid last : ℕ) (pids : List ℕ) → IsPidOf pid (pids ++ last ∷ []) → IsPidOf pid pids ⊎ (pid ≡ last)
in_push pid last [] (inl is) = inr is
in_push pid last [] (inr there) = absurd there
in_push pid last (x ∷ pids) (inl is) = inl (inl is)
in_push pid last (x ∷ pids) (inr there) = more (in_push pid last pids there)
  where
    more : IsPidOf pid pids ⊎ (pid ≡ last) → IsPidOf pid (x ∷ pids) ⊎ (pid ≡ last)
    more (inl it) = inl (inr it)
    more (inr is) = inr is

push_differs : (x last : ℕ) (pids : List ℕ) → AllByRecursion (λ other. x ≢ other) pids → x ≢ last → AllByRecursion (λ other. x ≢ other) (pids ++ last ∷ [])
push_differs x last [] each differ = (differ, tt)
push_differs x last (y ∷ pids) each differ = (each.0, push_differs x last pids each.1 differ)

push_distinct : (last : ℕ) (pids : List ℕ) → AreDistinct pids → ((pid : ℕ) → IsPidOf pid pids → pid < last) → AreDistinct (pids ++ last ∷ [])
push_distinct last [] once below = (tt, tt)
push_distinct last (x ∷ pids) once below =
    (push_differs x last pids once.0 (λ is. (let h = below x (inl refl) in omega (arith, h, is))), push_distinct last pids once.1 (λ pid there. below pid (inr there)))

module _ (count : ℕ) (before after : RosterView MailTold) (once : AreUsedOnce before) (drawn : AreDrawn before)
    (last : (k : ℕ) → k < count → HasHadLast k before after) (others : (k : ℕ) → count ≤ k → pids_at after k ≡ []) where
  pids_are : (k : ℕ) (less : k < count) → pids_at after k ≡ pids_at before k ++ closing_pid k ∷ []
  pids_are k less =
      let one : HasHadLast k before after = last k less in
      ap (λ (p : List (PastChild MailTold)). map (λ c. c.offer.pid) p) one.past ∙ push_pid (slot_at before k).past one.child ∙ ap (λ (p : ℕ). pids_at before k ++ p ∷ []) one.pid

  -- where a pid of the slot k is from
  from : (k pid : ℕ) → IsPidOf pid (pids_at after k) → IsPidOf pid (pids_at before k) ⊎ (pid ≡ closing_pid k)
  from k pid there = by_place (nat_lt k count) refl
    where
      by_place : (b : Bool) → nat_lt k count ≡ b → IsPidOf pid (pids_at before k) ⊎ (pid ≡ closing_pid k)
      by_place true is = in_push pid (closing_pid k) (pids_at before k) (subst (IsPidOf pid) (pids_are k (grind (arith, is))) there)
      by_place false is = absurd (subst (IsPidOf pid) (others k (grind (arith, is))) there)

  within : (k : ℕ) → AreDistinct (pids_at after k)
  within k = by_place (nat_lt k count) refl
    where
      by_place : (b : Bool) → nat_lt k count ≡ b → AreDistinct (pids_at after k)
      by_place true is =
          subst AreDistinct (sym (pids_are k (grind (arith, is))))
          (push_distinct (closing_pid k) (pids_at before k) (once.within k) (λ pid there. (let h = drawn k pid there in omega (arith, h))))
      by_place false is = subst AreDistinct (sym (others k (grind (arith, is)))) tt

  across : (j k pid : ℕ) → j ≢ k → IsPidOf pid (pids_at after j) → IsPidOf pid (pids_at after k) → ⊥
  across j k pid other one two = both (from j pid one) (from k pid two)
    where
      both : IsPidOf pid (pids_at before j) ⊎ (pid ≡ closing_pid j) → IsPidOf pid (pids_at before k) ⊎ (pid ≡ closing_pid k) → ⊥
      both (inl a) (inl b) = once.across j k pid other a b
      both (inl a) (inr b) = (let h = drawn j pid a in omega (arith, h, b))
      both (inr a) (inl b) = (let h = drawn k pid b in omega (arith, h, a))
      both (inr a) (inr b) = other (omega (arith, a, b))

  pub still_once : AreUsedOnce after
  still_once = record { within = within; across = across }
