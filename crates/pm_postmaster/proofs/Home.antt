-- Each link came back once.
use Rattle.std.{proofs.{Common.{◌≡◌, ◌≢◌, ◌⊎◌, inl, inr, ℕ, zero, suc, ◌+◌, ◌-◌, ◌<◌, ◌≤◌, List, [], ◌∷◌, ◌++◌, refl, sym, ap, subst, ◌∙◌, length, map, arith, get_or}, lemmas.{List.{length-map, Elements.{Contains-append_left, Contains-push, Contains-push_cases}}, Option.slice_get-get_or}}, specs.{Prelude.{Bool, true, false, ◌==◌, if◌then◌else◌, None, nat_lt}, List.{AllByRecursion, Contains}}}
use Rattle.pm_server.specs.{pm_admit.declared.Cac.Cac, pm_facts.Bools.by_test, pm_outside.Visits.{Visit, Visits}, pm_query.declared.book.BookEntry.BookEntry, pm_state.{declared.event.PmEvent.PmEvent, Restarts.without_pid}}
use Rattle.pm_board_acts.specs.{pm_board.{pm_board_words.declared.views.{PastChild.PastChild, RosterView.RosterView, Sight.TheVariants.{Assigned, Unused}}, Places.slot_at}, pm_supervisor_chain.Chain.IsPidOf, Chained.{LinksCameBack, pids_accepted}, pm_worker.{declared.mail.MailTold.MailTold, Runs.{Does, IsRun, Run}}}
use Rattle.pm_serve_pool.specs.{pm_serve_crew.Left.{AreLeft, Manner}, Closing.HasHadLast, pm_store_shared.declared.views.Noted.Noted}
use Rattle.pm_board_acts.specs.pm_worker.declared.mail.MailTold.TheVariants as mail
use Rattle.pm_postmaster.{specs.Links.{AcceptedConnection, AreBackIn, AreServed, BackIn, HasLinks, HasOffer, IsBackIn, IsOffered, Serves, accepted_in}, proofs.Offers.{as_many_accepted, got_some}}

-- ---- as many as there are

shorter : (i : ℕ) (xs : List ℕ) → IsPidOf i xs → length (without_pid i xs) + 1 ≡ length xs
shorter i [] there = absurd there
shorter i (x ∷ xs) there = by (shorter i xs) (x == i) refl there
  where
    by : (IsPidOf i xs → length (without_pid i xs) + 1 ≡ length xs) → (b : Bool) → (x == i) ≡ b → (i ≡ x) ⊎ IsPidOf i xs
        → length (if b then xs else x ∷ without_pid i xs) + 1 ≡ length (x ∷ xs)
    by rest true is has = omega arith
    by rest false isnt (inl same) = absurd (grind (arith, isnt, same))
    by rest false isnt (inr more) = (let less = rest more in omega (arith, less))

kept : (i j : ℕ) (xs : List ℕ) → j ≢ i → IsPidOf j xs → IsPidOf j (without_pid i xs)
kept i j [] other there = absurd there
kept i j (x ∷ xs) other there = by (kept i j xs other) (x == i) refl there
  where
    by : (IsPidOf j xs → IsPidOf j (without_pid i xs)) → (b : Bool) → (x == i) ≡ b → (j ≡ x) ⊎ IsPidOf j xs → IsPidOf j (if b then xs else x ∷ without_pid i xs)
    by rest true is (inl same) = absurd (other (let one : x ≡ i = grind (arith, is) in same ∙ one))
    by rest true is (inr more) = more
    by rest false isnt (inl same) = inl same
    by rest false isnt (inr more) = inr (rest more)

-- a list that has each number up to this one is as long
as_many : (n : ℕ) (xs : List ℕ) → ((i : ℕ) → 1 ≤ i → i ≤ n → IsPidOf i xs) → n ≤ length xs
as_many zero xs has = omega arith
as_many (suc n) xs has =
    let last : IsPidOf (suc n) xs = has (suc n) (omega arith) (omega arith) in
    let less = shorter (suc n) xs last in
    let rest = as_many n (without_pid (suc n) xs) (λ i from to. kept (suc n) i xs (λ same. absurd (omega (arith, same, to))) (has i from (omega (arith, to)))) in
    omega (arith, less, rest)

in_numbers : (xs : List Visit) (k : ℕ) (visit : Visit) → k < length xs → get_or xs k visit ≡ visit → IsPidOf visit.number (map (λ v. v.number) xs)
in_numbers [] k visit near is = absurd (omega (arith, near))
in_numbers (x ∷ xs) zero visit near is = inl (ap (λ v. v.number) (sym is))
in_numbers (x ∷ xs) (suc k) visit near is = inr (in_numbers xs k visit (omega (arith, near)) is)

-- ---- the runs

-- a run that was given a link gives it back
gives_back : (gives : ℕ → Type 0) (seed : List ℕ) (limit n : ℕ) (decided : Cac) (given : MailTold) (run : Run) (visits : Visits) → Does None seed limit gives given run → Serves true n decided given
    → BackIn visits.back run.child.back → (visit : Visit) × Contains visits.back visit × (visit.number ≡ n)
gives_back gives seed limit n decided (mail.Serve link decision) run visits does serves back =
    let home = subst (λ (m : MailTold). BackIn visits.back m) does.back_is back in (home.0, home.1, home.2 ∙ (does.number ∙ serves.1 refl))
gives_back gives seed limit n decided mail.Startup run visits does serves back = absurd serves
gives_back gives seed limit n decided mail.Checkpointer run visits does serves back = absurd serves
gives_back gives seed limit n decided mail.Writer run visits does serves back = absurd serves
gives_back gives seed limit n decided mail.Close run visits does serves back = absurd serves
gives_back gives seed limit n decided (mail.Served link) run visits does serves back = absurd serves
gives_back gives seed limit n decided (mail.Aux fault fate) run visits does serves back = absurd serves

-- the run of a child
run_of : (P : Run → Type 0) (runs : List Run) (k : ℕ) (child : PastChild MailTold) → AllByRecursion P runs → k < length (map (λ run. run.child) runs)
    → get_or (map (λ run. run.child) runs) k child ≡ child → (run : Run) × P run × (run.child ≡ child)
run_of P [] k child each near is = absurd (omega (arith, near))
run_of P (x ∷ runs) zero child each near is = (x, each.0, is)
run_of P (x ∷ runs) (suc k) child each near is = run_of P runs k child each.1 (omega (arith, near)) is

module _ (manner : Manner) (count : ℕ) (before after : RosterView MailTold) (own : List Noted) (book : List BookEntry) (left : AreLeft manner count after own book)
    (free : (k : ℕ) → (slot_at before k).sight ≡ Unused) (more : (k : ℕ) → k < count → (others : List (PastChild MailTold)) × ((slot_at after k).past ≡ (slot_at before k).past ++ others))
    (wide : (k : ℕ) → count ≤ k → (slot_at before k).past ≡ []) where
  home_at : (n k : ℕ) (decided : Cac) (visits : Visits) (child : PastChild MailTold) → Contains (slot_at before k).past child → Serves true n decided child.offer.given
      → BackIn visits.back child.back
      → (visit : Visit) × Contains visits.back visit × (visit.number ≡ n)
  home_at n k decided visits child has serves back = by_test (nat_lt k count) inside outside
    where
      inside : nat_lt k count ≡ true → (visit : Visit) × Contains visits.back visit × (visit.number ≡ n)
      inside is =
          let less : k < count = grind (arith, is) in
          let worked = left.each k (get_or left.lists k []) (slice_get-get_or left.lists k [] (let all = left.all in omega (arith, less, all))) in
          let there : Contains (map (λ run. run.child) (left.runs k)) child =
          subst (λ (xs : List (PastChild MailTold)). Contains xs child) ((sym (more k less).1) ∙ worked.children)
          (Contains-append_left (slot_at before k).past (more k less).0 child has) in
          let run = run_of (IsRun None manner.seed manner.limit manner.gives) (left.runs k) there.0 child worked.each there.1 there.2 in
          gives_back manner.gives manner.seed manner.limit n decided run.0.child.offer.given run.0 visits run.1.does
          (subst (λ (c : PastChild MailTold). Serves true n decided c.offer.given) (sym run.2) serves) (subst (λ (c : PastChild MailTold). BackIn visits.back c.back) (sym run.2) back)

      outside : nat_lt k count ≡ false → (visit : Visit) × Contains visits.back visit × (visit.number ≡ n)
      outside isnt =
          let none : Contains [] child = subst (λ (xs : List (PastChild MailTold)). Contains xs child) (wide k (grind (arith, isnt))) has in
          absurd (let near = none.1 in omega (arith, near))

  came_back : (connections : List AcceptedConnection) (visits : Visits) → AreBackIn before visits → AreServed true connections before → (n : ℕ) → n < length connections
      → (visit : Visit) × Contains visits.back visit × (visit.number ≡ n + 1)
  came_back connections visits back served n less = let has = got_some connections n less in by has.0 (served n has.0 has.1)
    where
      by : (c : AcceptedConnection) → (k : ℕ) × HasOffer (IsOffered true (n + 1) c) (slot_at before k) → (visit : Visit) × Contains visits.back visit × (visit.number ≡ n + 1)
      by c (k, inl sits) = absurd (let both : Unused ≡ Assigned sits.0 = sym (free k) ∙ sits.1 in cc)
      by c (k, inr (child, there, (pid, serves))) = home_at (n + 1) k c.decision visits child there serves (back k child there)

  pub links_home : (journal : List PmEvent) (visits : Visits) → HasLinks (length (pids_accepted journal)) before visits → AreServed true (accepted_in journal) before
      → LinksCameBack journal visits
  links_home journal visits was served =
      let many = as_many_accepted journal in
      let each : (i : ℕ) → 1 ≤ i → i ≤ length (pids_accepted journal) → (visit : Visit) × Contains visits.back visit × (visit.number ≡ i) =
      (λ i from to. (let home = came_back (accepted_in journal) visits was.back served (i - 1) (omega (arith, many, from, to)) in
      (home.0, home.1, home.2 ∙ (let same : (i - 1) + 1 ≡ i = omega (arith, from) in same)))) in
      let long = as_many (length (pids_accepted journal)) (map (λ v. v.number) visits.back)
      (λ i from to. (let home = each i from to in subst (λ (m : ℕ). IsPidOf m (map (λ v. v.number) visits.back)) home.2 (in_numbers visits.back home.1.0 home.0 home.1.1 home.1.2))) in
      let same = length-map visits.back (λ (v : Visit). v.number) in
      let out = was.out in let given = was.given in
      record {
        given = given;
        back = omega (arith, long, same, out, given);
        each = λ n from to. each n from (omega (arith, to, given));
      }

-- ---- what came back is what the children gave

-- a run that closes its worker gives no link back
closes_back : (gives : ℕ → Type 0) (seed : List ℕ) (limit : ℕ) (run : Run) (back : List Visit) → run.child.offer.given ≡ mail.Close
    → Does None seed limit gives run.child.offer.given run → BackIn back run.child.back
closes_back gives seed limit run back closes does =
    let is : Does None seed limit gives mail.Close run = subst (λ (m : MailTold). Does None seed limit gives m run) closes does in
    subst (λ (r : Run). BackIn back r.child.back) (sym is) tt

module _ (manner : Manner) (count : ℕ) (before after : RosterView MailTold) (own : List Noted) (book : List BookEntry) (left : AreLeft manner count after own book)
    (last : (k : ℕ) → k < count → HasHadLast k before after) (wide : (k : ℕ) → count ≤ k → (slot_at after k).past ≡ []) where
  -- the last child of a slot gives none back
  last_back : (k : ℕ) (visits : Visits) → (less : k < count) → IsBackIn visits (last k less).child.back
  last_back k visits less =
      let closed = last k less in
      let worked = left.each k (get_or left.lists k []) (slice_get-get_or left.lists k [] (let all = left.all in omega (arith, less, all))) in
      let there : Contains (map (λ run. run.child) (left.runs k)) closed.child =
      subst (λ (xs : List (PastChild MailTold)). Contains xs closed.child) (sym closed.past ∙ worked.children) (Contains-push (slot_at before k).past closed.child) in
      let run = run_of (IsRun None manner.seed manner.limit manner.gives) (left.runs k) there.0 closed.child worked.each there.1 there.2 in
      subst (λ (c : PastChild MailTold). IsBackIn visits c.back) run.2
      (closes_back manner.gives manner.seed manner.limit run.0 visits.back (ap (λ (c : PastChild MailTold). c.offer.given) run.2 ∙ closed.closes) run.1.does)

  pub back_home : (visits : Visits) → AreBackIn before visits → AreBackIn after visits
  back_home visits was k child has = by_test (nat_lt k count) inside outside
    where
      inside : nat_lt k count ≡ true → IsBackIn visits child.back
      inside is =
          let less : k < count = grind (arith, is) in
          let closed = last k less in
          elim (Contains-push_cases (slot_at before k).past closed.child child (subst (λ (xs : List (PastChild MailTold)). Contains xs child) closed.past has)) [
            | inl old ↦ was k child old
            | inr same ↦ subst (λ (c : PastChild MailTold). IsBackIn visits c.back) same (last_back k visits less)
          ]

      outside : nat_lt k count ≡ false → IsBackIn visits child.back
      outside isnt =
          let none : Contains [] child = subst (λ (xs : List (PastChild MailTold)). Contains xs child) (wide k (grind (arith, isnt))) has in
          absurd (let near = none.1 in omega (arith, near))
