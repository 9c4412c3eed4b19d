-- The table's first steps, tokens that are dealt and joined, and the last step.
use Rattle.std.proofs.Common.{◌≡◌, ◌≢◌, inl, inr, ⊎_elim, ℕ, zero, suc, ◌+◌, ◌<◌, ◌≤◌, ◌==◌, List, [], ◌∷◌, ◌++◌, length, get_or, set, sym, refl, ap, ◌∙◌, subst, arith, length-set, length-append}
use mathlib.Core.Option.{none, some, some-ne-none, some-injective}
use mathlib.Core.Option as maybe
use lib.ListN.{get_elem?}
use prog.Atomic.{either}
use Rattle.std.specs.Prelude.{Option, Some, None, slice_get}
use Rattle.atomic_table.specs.Table as table
use Rattle.atomic_table.{specs.Table.{State, step, keeps, takes, gives, stepped, opening, Allows, Joins, Splits}, proofs.Lists.{at_set, exchanged}}
use Rattle.pm_segment.specs.{pm_query.{pm_facts.{Lists.at_end, Numbers.{sum_below, sum_same}}, declared.book.BookEntry.{BookEntry, TheVariants.Opened}, Book.generation_of}, pm_store_apart.declared.pass.Pass.Pass}
use Rattle.pm_store_shared.{specs.{declared.views.{Joined.Joined, Taken.Taken, Hand.Hand, Desk.Desk, View.{View, TheVariants.{Vacant, Founding, Master, Worker, Spent}}}, Log.{Continues, Line, book_of, lines, placed, AllBelow}, Passes.{live, AllUpTo, AllKnown}, Rule.{Cell, Where, home, out, Loan, IsLender, HasLent, what_is_lent, HasTaken, IsSeat, FitsDesk, Fits, AreCounted, Holds, Kept, taken}, Told.{with_held, Opens, Founded, desk_on, new_desk, new_hand, dealt_more, next_hand, taken_in, TookAlone}}, proofs.{Keeps.{put, at_put, put_here, put_else, some_at, got_end, got_below, got_some, one_view, held_at, took_home}, Logs.{placed-new, below-none, below-more}}}

sum_more : (n : ℕ) (f : ℕ → ℕ) → sum_below (n + 1) f ≡ sum_below n f + f n
sum_more n f = let e : n + 1 ≡ suc n = omega arith in ap (λ m. sum_below m f) e

module _ {S F L : Type 0} (Is : F → List BookEntry → S → Option L → Type 0) (Knows : List BookEntry → S → Pass → Type 0) where
  -- ---- one more token

  pub deals : (id : ℕ) (d : Desk S F) → d.held ≡ None → Splits (Kept Is Knows) id (Master d) (dealt_more (Master d)) (next_hand (Master d))
  deals id d free s kept at =
      let r = held_at Is Knows s id (Master d) tt at kept in
      let h = r.8 in let w : Where = r.0 in let loan : Loan L = r.1 in let master : ℕ = r.2 in let first : F = r.4 in let cells : ℕ → Cell = r.5 in let log : List Line = r.6 in let x : S = r.7 in
      let f = h.each_seat id (Master d) at in let k : ℕ = d.dealt in let p : ℕ = length s.views in
      let c : Cell = record { seat = p; passes = [] } in let cells' : ℕ → Cell = put cells k c in
      let d' : Desk S F = record { dealt = k + 1; first = d.first; generation = d.generation; own = d.own; joined = d.joined; held = d.held } in
      let hand : Hand S F L = new_hand k d.first in
      let few : length d.joined ≤ r.3 = f.few in let k_is : k ≡ r.3 = f.dealt_is in
      let long : length (set s.views id (Master d')) ≡ p = length-set s.views id (Master d') in
      let longer : p ≤ length (set s.views id (Master d') ++ Worker hand ∷ []) = (let e = length-append (set s.views id (Master d')) (Worker hand ∷ []) in omega (arith, e, long)) in
      let counted = subst (λ n. AreCounted n cells (book_of log)) (sym k_is) h.passes in
      let below = subst (λ n. AllBelow n log) (sym k_is) h.owned in
      let fits : (j : ℕ) (v : View S F L) → get_elem? s.views j ≡ some v → Fits w loan master k first cells log x j v = λ j v e. subst (λ n. Fits w loan master n first cells log x j v) (sym k_is) (h.each_seat j v e) in
      inr (
        w,
        loan,
        master,
        k + 1,
        first,
        cells',
        log,
        x,
        record {
          one_word = h.one_word;
          one_slot = h.one_slot;
          there = h.there;
          holder = more w p (length (set s.views id (Master d') ++ Worker hand ∷ [])) longer h.holder;
          lender = lends_more loan p (length (set s.views id (Master d') ++ Worker hand ∷ [])) longer h.lender;
          owned = below-more k log below;
          passes = record {
            unborn = λ j le. at_put cells k c (λ q y. k + 1 ≤ q → y.passes ≡ []) j (λ _. refl) (λ _ le'. counted.unborn j (omega arith)) le;
            known = λ j. at_put cells k c (λ q y. AllUpTo (generation_of (book_of log)) y.passes) j tt (λ _. counted.known j);
            counted = λ q.
                let g : ℕ = generation_of (book_of log) in let a : ℕ → ℕ = λ j. live q g (cells j).passes in let b : ℕ → ℕ = λ j. live q g (cells' j).passes in
                let e : sum_below k b ≡ sum_below k a = sum_same k a b (λ j l. ap (λ (y : Cell). live q g y.passes) (put_else cells k c j (λ is. absurd (omega arith)))) in
                let z : b k ≡ 0 = ap (λ (y : Cell). live q g y.passes) (put_here cells k c) in
                sum_more k b ∙ (let t = counted.counted q in omega (arith, e, z, t));
          };
          stands = h.stands;
          good = λ j. at_put cells k c (λ q y. AllKnown (Knows (book_of log) x) (generation_of (book_of log)) y.passes) j tt (λ _. h.good j);
          each_seat = λ j v e. ⊎_elim
              (λ (t : get_elem? (set s.views id (Master d')) j ≡ some v). ⊎_elim
              (λ (u : (j ≡ id) × (Master d' ≡ v)). subst (λ (z : ℕ × View S F L). Fits w loan master (k + 1) first cells' log x z.0 z.1) (λ i. (sym u.0 i, u.1 i)) record {
                seat = f.seat;
                dealt_is = refl;
                first_is = f.first_is;
                few = omega arith;
                generation = f.generation;
                own = f.own;
                joined = λ i l g. let q = f.joined i l g in let lt = got_below d.joined i l g in (ap (λ (y : Cell). y.seat) (put_else cells k c i (λ is. absurd (omega arith))) ∙ q.0, q.1, q.2);
                held = free_still w (taken (book_of log) x) id k (k + 1) d.held free f.held;
                lent = f.lent;
              })
              (λ (u : (j ≢ id) × (get_elem? s.views j ≡ some v)). others w loan master first cells log x k c (sym (f.seat)) j v u.0 (fits j v u.1)) (at_set s.views id j (Master d') v t))
              (λ (t : (j ≡ length (set s.views id (Master d'))) × (Worker hand ≡ v)). subst (λ (z : ℕ × View S F L). Fits w loan master (k + 1) first cells' log x z.0 z.1) (λ i. (sym (t.0 ∙ long) i, t.1 i)) record {
                seat = ap (λ (y : Cell). y.seat) (put_here cells k c);
                passes = ap (λ (y : Cell). y.passes) (put_here cells k c);
                number = omega arith;
                first_is = f.first_is;
                own = sym (placed-new k 0 log below);
                past = (book_of log, refl);
                held = newest w (taken (book_of log) x) p k h.holder;
                lent = lends_none loan p h.lender;
              })
              (at_end (set s.views id (Master d')) (Worker hand) v j e);
        },
      )
    where
      more : (w : Where) (n m : ℕ) → n ≤ m → IsSeat w n → IsSeat w m
      more home n m le h = tt
      more (out seat number) n m le h = omega arith

      lends_more : (loan : Loan L) (n m : ℕ) → n ≤ m → IsLender loan n → IsLender loan m
      lends_more None n m le h = tt
      lends_more (Some l) n m le h = omega arith

      lends_none : (loan : Loan L) (p : ℕ) → IsLender loan p → HasLent loan p None
      lends_none None p h = tt
      lends_none (Some l) p h = λ e. absurd (omega arith)

      free_still : (w : Where) (t : Taken S) (i n m : ℕ) (held : Option (Taken S)) → held ≡ None → HasTaken w t i n held → HasTaken w t i m held
      free_still home t i n m held e h = h
      free_still (out seat number) t i n m None e h = h
      free_still (out seat number) t i n m (Some b) e h = absurd (cc)

      newest : (w : Where) (t : Taken S) (p k : ℕ) → IsSeat w p → HasTaken w t p k None
      newest home t p k h = tt
      newest (out seat number) t p k h = λ e. absurd (omega arith)

      others : (w : Where) (loan : Loan L) (master : ℕ) (first : F) (cells : ℕ → Cell) (log : List Line) (x : S) (k : ℕ) (c : Cell) → master ≡ id → (j : ℕ) (v : View S F L) → j ≢ id → Fits w loan master k first cells log x j v
          → Fits w loan master (k + 1) first (put cells k c) log x j v
      others w loan master first cells log x k c is j Vacant ne g = absurd g
      others w loan master first cells log x k c is j Founding ne g = absurd g
      others w loan master first cells log x k c is j (Master e) ne g = absurd (ne (g.seat ∙ is))
      others w loan master first cells log x k c is j (Worker e) ne g = let lt : e.number < k = g.number in record {
        seat = ap (λ (y : Cell). y.seat) (put_else cells k c e.number (λ is. absurd (omega arith))) ∙ g.seat;
        passes = ap (λ (y : Cell). y.passes) (put_else cells k c e.number (λ is. absurd (omega arith))) ∙ g.passes;
        number = omega arith;
        first_is = g.first_is;
        own = g.own;
        past = g.past;
        held = g.held;
        lent = g.lent;
      }
      others w loan master first cells log x k c is j Spent ne g = g

  -- ---- a token is joined

  pub gathers : (id other : ℕ) (d : Desk S F) (h : Hand S F L) → h.held ≡ None → h.lent ≡ None → h.number ≡ length d.joined → Joins (Kept Is Knows) id (Master d) other (Worker h) (taken_in (Master d) (Worker h)) Spent
  gathers id other d h free lends next s kept at apart there =
      let r = held_at Is Knows s id (Master d) tt at kept in
      let hold = r.8 in let w : Where = r.0 in let loan : Loan L = r.1 in let master : ℕ = r.2 in let dealt : ℕ = r.3 in let first : F = r.4 in let cells : ℕ → Cell = r.5 in let log : List Line = r.6 in let x : S = r.7 in
      let his : Joined = record { own = h.own; past = h.past } in
      let d' : Desk S F = record { dealt = d.dealt; first = d.first; generation = d.generation; own = d.own; joined = d.joined ++ his ∷ []; held = d.held } in
      let mine : get_elem? s.views other ≡ some (Worker h) = ⊎_elim (λ (t : (other ≡ id) × (Master d' ≡ Worker h)). absurd (apart t.0)) (λ (t : (other ≢ id) × (get_elem? s.views other ≡ some (Worker h))). t.1) (at_set s.views id other (Master d') (Worker h) there) in
      let f = hold.each_seat id (Master d) at in let g = hold.each_seat other (Worker h) mine in
      let k : ℕ = h.number in let c : Cell = record { seat = id; passes = (cells k).passes } in let cells' : ℕ → Cell = put cells k c in
      let lt : k < dealt = g.number in let k_is : k ≡ length d.joined = next in
      let same : (j : ℕ) → (cells' j).passes ≡ (cells j).passes = λ j. at_put cells k c (λ q (y : Cell). y.passes ≡ (cells q).passes) j refl (λ _. refl) in
      let long : length (set s.views id (Master d')) ≡ length s.views = length-set s.views id (Master d') in
      let long' : length (set (set s.views id (Master d')) other Spent) ≡ length s.views = length-set (set s.views id (Master d')) other Spent ∙ long in
      inr (
        w,
        loan,
        master,
        dealt,
        first,
        cells',
        log,
        x,
        record {
          one_word = hold.one_word;
          one_slot = hold.one_slot;
          there = hold.there;
          holder = subst (IsSeat w) (sym long') hold.holder;
          lender = subst (IsLender loan) (sym long') hold.lender;
          owned = hold.owned;
          passes = record {
            unborn = λ j le. same j ∙ hold.passes.unborn j le;
            known = λ j. subst (AllUpTo (generation_of (book_of log))) (sym (same j)) (hold.passes.known j);
            counted = λ q.
                let t : ℕ = generation_of (book_of log) in
                sum_same dealt (λ j. live q t (cells j).passes) (λ j. live q t (cells' j).passes) (λ j _. ap (live q t) (same j)) ∙ hold.passes.counted q;
          };
          stands = hold.stands;
          good = λ j. subst (AllKnown (Knows (book_of log) x) (generation_of (book_of log))) (sym (same j)) (hold.good j);
          each_seat = λ j v e. ⊎_elim
              (λ (t : (j ≡ other) × (Spent ≡ v)). subst (λ (z : ℕ × View S F L). Fits w loan master dealt first cells' log x z.0 z.1) (λ i. (sym t.0 i, t.1 i)) (away w (taken (book_of log) x) other k h.held free g.held, subst (HasLent loan other) lends g.lent))
              (λ (t : (j ≢ other) × (get_elem? (set s.views id (Master d')) j ≡ some v)). ⊎_elim
              (λ (u : (j ≡ id) × (Master d' ≡ v)). subst (λ (z : ℕ × View S F L). Fits w loan master dealt first cells' log x z.0 z.1) (λ i. (sym u.0 i, u.1 i)) record {
                seat = f.seat;
                dealt_is = f.dealt_is;
                first_is = f.first_is;
                few = let e = length-append d.joined (his ∷ []) in omega (arith, e, lt, k_is);
                generation = f.generation;
                own = f.own;
                joined = λ i l e. ⊎_elim
                    (λ (y : slice_get d.joined i ≡ Some l). let q = f.joined i l y in let b = got_below d.joined i l y in (ap (λ (z : Cell). z.seat) (put_else cells k c i (λ is. absurd (omega arith))) ∙ q.0, q.1, q.2))
                    (λ (y : (i ≡ length d.joined) × (his ≡ l)). let i_is : i ≡ k = y.0 ∙ sym k_is in (ap (λ z. (cells' z).seat) i_is ∙ ap (λ (z : Cell). z.seat) (put_here cells k c) ∙ f.seat, ap (λ (z : Joined). z.own) (sym y.1) ∙ g.own ∙ ap (λ z. placed z 0 log) (sym i_is), subst (λ (z : Joined). Continues z.past (book_of log)) y.1 g.past))
                    (got_end d.joined his l i e);
                held = f.held;
                lent = f.lent;
              })
              (λ (u : (j ≢ id) × (get_elem? s.views j ≡ some v)). others w loan master dealt first cells log x k c (sym f.seat) g.seat j v u.0 t.0 (hold.each_seat j v u.1)) (at_set s.views id j (Master d') v t.1)) (at_set (set s.views id (Master d')) other j Spent v e);
        },
      )
    where
      away : (w : Where) (t : Taken S) (i n : ℕ) (held : Option (Taken S)) → held ≡ None → HasTaken w t i n held → HasTaken w t i 0 None
      away home t i n held e f = tt
      away (out seat number) t i n None e f = f
      away (out seat number) t i n (Some b) e f = absurd (cc)

      others : (w : Where) (loan : Loan L) (master dealt : ℕ) (first : F) (cells : ℕ → Cell) (log : List Line) (x : S) (k : ℕ) (c : Cell) → master ≡ id → (cells k).seat ≡ other → (j : ℕ) (v : View S F L) → j ≢ id → j ≢ other
          → Fits w loan master dealt first cells log x j v → Fits w loan master dealt first (put cells k c) log x j v
      others w loan master dealt first cells log x k c is seat j Vacant ne ne' f = absurd f
      others w loan master dealt first cells log x k c is seat j Founding ne ne' f = absurd f
      others w loan master dealt first cells log x k c is seat j (Master e) ne ne' f = absurd (ne (f.seat ∙ is))
      others w loan master dealt first cells log x k c is seat j (Worker e) ne ne' f = let differ : e.number ≢ k = λ same. ne' (sym f.seat ∙ ap (λ q. (cells q).seat) same ∙ seat) in record {
        seat = ap (λ (y : Cell). y.seat) (put_else cells k c e.number differ) ∙ f.seat;
        passes = ap (λ (y : Cell). y.passes) (put_else cells k c e.number differ) ∙ f.passes;
        number = f.number;
        first_is = f.first_is;
        own = f.own;
        past = f.past;
        held = f.held;
        lent = f.lent;
      }
      others w loan master dealt first cells log x k c is seat j Spent ne ne' f = f

  -- ---- the table at the start

  not_vacant : ◌≡◌ {A = View S F L} Founding Vacant → ⊥
  not_vacant e = absurd (cc)

  not_founding : ◌≡◌ {A = View S F L} Vacant Founding → ⊥
  not_founding e = absurd (cc)

  pub begins : Kept Is Knows (opening (1 ∷ []) (None ∷ []) Vacant)
  begins = inl (refl, inl (refl, refl))

  pub opens : (id : ℕ) → Allows (Kept Is Knows) 1 id (Vacant, []) 0 (λ _. 1) (Opens (step 1 0 1 0 none) (Vacant, []))
  opens id s kept wide at small = go kept
    where
      Goal : Type 0
      Goal = (w : View S F L) × (a : table.Act (Option S)) × table.Valid s.homes [] a × Kept Is Knows (stepped s 0 1 id [] w a) × Opens (step 1 0 1 0 none) (Vacant, []) (get_or s.words 0 0) (w, table.carried_after [] a)

      first_seat : {A : Type 0} (u v : A) (i : ℕ) → get_elem? (u ∷ []) i ≡ some v → i ≡ 0
      first_seat u v zero e = refl
      first_seat u v (suc i) e = absurd (some-ne-none v (sym e))

      go : Kept Is Knows s → Goal
      go (inr held) = absurd (held.8.each_seat id Vacant at)
      go (inl (words, inl (homes, views))) =
          let zero_is : id ≡ 0 = first_seat Vacant Vacant id (subst (λ (l : List (View S F L)). get_elem? l id ≡ some Vacant) views at) in (
            Founding,
            takes 0 None,
            ap (λ (l : List (maybe.Option (Option S))). get_elem? l 0) homes,
            inl (ap (λ l. set l 0 1) words, inr (ap (λ (l : List (maybe.Option (Option S))). set l 0 none) homes, (λ i. set (views i) (zero_is i) Founding))),
            refl,
          )
      go (inl (words, inr (homes, views))) = absurd (not_vacant (one_view {A = View S F L} Founding Vacant id (subst (λ (l : List (View S F L)). get_elem? l id ≡ some Vacant) views at)))

  pub founds : (handed : S → Option F) (first : F) (id : ℕ) (x : S) → handed x ≡ Some first → Is first (Opened 1 ∷ []) x None
      → Allows (Kept Is Knows) 1 id (Founding, (0, Some x) ∷ []) 0 (λ _. 0) (Founded handed (step 1 0 0 0 none) (Founding, (0, Some x) ∷ []))
  founds handed first id x has_it is s kept wide at small = go kept
    where
      desk : Desk S F
      desk = new_desk first

      Goal : Type 0
      Goal = (w : View S F L) × (a : table.Act (Option S)) × table.Valid s.homes ((0, Some x) ∷ []) a × Kept Is Knows (stepped s 0 0 id ((0, Some x) ∷ []) w a)
          × Founded handed (step 1 0 0 0 none) (Founding, (0, Some x) ∷ []) (get_or s.words 0 0) (w, table.carried_after ((0, Some x) ∷ []) a)

      first_seat : {A : Type 0} (u v : A) (i : ℕ) → get_elem? (u ∷ []) i ≡ some v → i ≡ 0
      first_seat u v zero e = refl
      first_seat u v (suc i) e = absurd (some-ne-none v (sym e))

      one : (i : ℕ) (v : View S F L) → get_elem? (Master desk ∷ []) i ≡ some v → Fits home None 0 0 first (λ _. record { seat = 0; passes = [] }) (lines 0 (Opened 1 ∷ [])) x i v
      one zero v e = subst (Fits home None 0 0 first (λ _. record { seat = 0; passes = [] }) (lines 0 (Opened 1 ∷ [])) x 0) (some-injective (Master desk) v e)
          record { seat = refl; dealt_is = refl; first_is = refl; few = omega arith; generation = refl; own = refl; joined = (λ k l g. absurd (cc)); held = tt; lent = tt }
      one (suc i) v e = absurd (some-ne-none v (sym e))

      at_start : Kept Is Knows record { words = 0 ∷ []; homes = some (Some x) ∷ []; views = Master desk ∷ [] }
      at_start = inr (
        home,
        None,
        0,
        0,
        first,
        (λ _. record { seat = 0; passes = [] }),
        lines 0 (Opened 1 ∷ []),
        x,
        record {
          one_word = refl;
          one_slot = refl;
          there = (refl, refl);
          holder = tt;
          lender = tt;
          owned = below-none 0 0 (Opened 1 ∷ []) (refl, tt);
          passes = record { unborn = λ _ _. refl; known = λ _. tt; counted = λ p. refl };
          stands = is;
          good = λ _. tt;
          each_seat = one;
        },
      )

      go : Kept Is Knows s → Goal
      go (inr held) = absurd (held.8.each_seat id Founding at)
      go (inl (words, inr (homes, views))) =
          let zero_is : id ≡ 0 = first_seat Founding Founding id (subst (λ (l : List (View S F L)). get_elem? l id ≡ some Founding) views at) in (
            Master desk,
            gives,
            tt,
            subst (λ (z : List ℕ × List (maybe.Option (Option S)) × List (View S F L)). Kept Is Knows record { words = z.0; homes = z.1; views = z.2 })
                (λ i. (set (sym words i) 0 0, set (sym homes i) 0 (some (Some x)), set (sym views i) (sym zero_is i) (Master desk))) at_start,
            (λ i. (desk_on (sym has_it i), [])),
          )
      go (inl (words, inl (homes, views))) = absurd (not_founding (one_view {A = View S F L} Vacant Founding id (subst (λ (l : List (View S F L)). get_elem? l id ≡ some Founding) views at)))

  -- ---- the shared side, when all tokens are joined

  module _ (s : State (Option S) (View S F L)) (loan : Loan L) (master dealt : ℕ) (first : F) (cells : ℕ → Cell) (log : List Line) (x : S) (id : ℕ) (d : Desk S F) (w : Where) (h : Holds Is Knows w loan master dealt first cells log x s)
      (at : get_elem? s.views id ≡ some (Master d)) (all : length d.joined ≡ d.dealt) where
    -- no other seat has a view of its own then
    nobody : (seat : ℕ) → seat < length s.views → id ≢ seat → (Fits w loan master dealt first cells log x seat Spent → ⊥) → ⊥
    nobody seat near not_me spent = let t = some_at s.views seat near in who t.0 t.1 (h.each_seat seat t.0 t.1)
      where
        f : FitsDesk w loan master dealt first cells log x id d
        f = h.each_seat id (Master d) at

        who : (v : View S F L) → get_elem? s.views seat ≡ some v → Fits w loan master dealt first cells log x seat v → ⊥
        who Vacant there g = g
        who Founding there g = g
        who (Master e) there g = not_me (f.seat ∙ sym g.seat)
        who (Worker e) there g =
            let lt : e.number < dealt = g.number in let a : d.dealt ≡ dealt = f.dealt_is in
            let t = got_some d.joined e.number (omega arith) in
            not_me (f.seat ∙ sym (f.joined e.number t.0 t.1).0 ∙ g.seat)
        who Spent there g = spent g

    -- so nobody else has the store, and nothing of it is lent
    alone : d.held ≡ None → w ≡ home
    alone free = each w refl
      where
        each : (z : Where) → w ≡ z → w ≡ home
        each home is = is
        each (out seat n) is = absurd (nobody seat (subst (λ z. IsSeat z (length s.views)) is h.holder)
            (mine d.held free (subst (λ z. HasTaken z (taken (book_of log) x) id d.dealt d.held) is (desk h at).held)) (λ g. subst (λ z. HasTaken z (taken (book_of log) x) seat 0 None) is g.0 refl))
          where
            desk : Holds Is Knows w loan master dealt first cells log x s → get_elem? s.views id ≡ some (Master d) → FitsDesk w loan master dealt first cells log x id d
            desk hold there = hold.each_seat id (Master d) there

            mine : (held : Option (Taken S)) → held ≡ None → HasTaken (out seat n) (taken (book_of log) x) id d.dealt held → id ≢ seat
            mine None e g = g
            mine (Some b) e g = absurd (cc)

    nothing_lent : what_is_lent loan ≡ None
    nothing_lent = each loan refl
      where
        each : (o : Loan L) → loan ≡ o → what_is_lent loan ≡ None
        each None is = ap what_is_lent is
        each (Some l) is = absurd (nobody l.0 (subst (λ z. IsLender z (length s.views)) is h.lender) (subst (λ z. HasLent z id None) is (desk h at).lent) (λ g. subst (λ z. HasLent z l.0 None) is g.1 refl))
          where
            desk : Holds Is Knows w loan master dealt first cells log x s → get_elem? s.views id ≡ some (Master d) → FitsDesk w loan master dealt first cells log x id d
            desk hold there = hold.each_seat id (Master d) there

  pub takes_alone : (id : ℕ) (d : Desk S F) → d.held ≡ None → length d.joined ≡ d.dealt
      → Allows (Kept Is Knows) 1 id (Master d, []) 0 (λ w. either (w == 0) (d.dealt + 1) w) (TookAlone Is Knows (step 1 0 0 (d.dealt + 1) none) (Master d, []))
  takes_alone id d free all s kept wide at small =
      let r = held_at Is Knows s id (Master d) tt at kept in
      let w_is = alone s r.1 r.2 r.3 r.4 r.5 r.6 r.7 id d r.0 r.8 at all free in
      let unlent = nothing_lent s r.1 r.2 r.3 r.4 r.5 r.6 r.7 id d r.0 r.8 at all in
      let f : FitsDesk r.0 r.1 r.2 r.3 r.4 r.5 r.6 r.7 id d = r.8.each_seat id (Master d) at in
      let h = subst (λ w. Holds Is Knows w r.1 r.2 r.3 r.4 r.5 r.6 r.7 s) w_is r.8 in
      let whole = subst (λ (z : F × Option L). Is z.0 (book_of r.6) r.7 z.1) (λ i. (sym f.first_is i, unlent i)) r.8.stands in
      exchanged (get_or s.words 0 0) 0 (d.dealt + 1)
      (λ z. (w : View S F L) × (a : table.Act (Option S)) × table.Valid s.homes [] a × Kept Is Knows (stepped s 0 z id [] w a) × TookAlone Is Knows (step 1 0 0 (d.dealt + 1) none) (Master d, []) (get_or s.words 0 0) (w, table.carried_after [] a))
      (λ zero_is.
      let t = took_home Is Knows r.1 r.2 r.3 r.4 r.5 r.6 r.7 s id d.dealt (Master d) refl tt at h in
      (with_held (Master d) (Some (taken (book_of r.6) r.7)), takes 0 (Some r.7), t.0, t.1, (taken (book_of r.6) r.7, refl, t.2, whole)))
      (λ ne. absurd (ne h.there.0))
