-- Each step keeps the rule.
use Rattle.std.proofs.Common.{◌≡◌, ◌≢◌, ◌⊎◌, inl, inr, ⊎_elim, ℕ, zero, suc, ◌+◌, ◌<◌, ◌≤◌, ◌==◌, List, [], ◌∷◌, ◌++◌, length, get_or, sym, refl, ap, ◌∙◌, subst, arith, append-nil, length-set, get_or-set_same}
use mathlib.Core.Option.{none, some, some-ne-none, some-injective}
use mathlib.Core.Option as maybe
use native.Mathlib.Decide.{ℕ_discrete}
use lib.ListN.{get_elem?}
use lib.Seq.{set-get_or}
use prog.Atomic.{either}
use Rattle.std.{proofs.lemmas.Option.same_Some, specs.Prelude.{Option, Some, None, slice_get}}
use Rattle.atomic_table.specs.Table as table
use Rattle.atomic_table.{specs.Table.{State, step, keeps, takes, stepped, Allows}, proofs.Lists.{at_set, set_again, exchanged}}
use Rattle.pm_segment.specs.{pm_query.{pm_facts.Numbers.{sum_below, sum_put}, declared.book.BookEntry.BookEntry, Book.{generation_of, times_attached}}, pm_store_apart.declared.pass.Pass.Pass}
use Rattle.pm_store_shared.{specs.{declared.views.{Taken.Taken, View.{View, TheVariants.{Vacant, Founding, Master, Worker, Spent}}}, Log.{Line, book_of, AllBelow}, Passes.{live, AllUpTo, AllKnown}, Rule.{Cell, Where, home, out, Loan, IsLender, HasLent, what_is_lent, IsThere, HasTaken, Fits, AreCounted, Holds, IsHeld, Kept, taken}, Told.{KnowsLent, Relends, StandsWith, number_of, with_held, Tells, Took, Turns, IsMine}}, proofs.{Logs.{all_continue, member_below}, JoinedLaws.owned_at}}

abbrev pick : {P C : Type 0} → Dec P → C → C → C
pick (yes _) a b = a
pick (no _) a b = b

pub put : (ℕ → Cell) → ℕ → Cell → ℕ → Cell
put cells i c j = pick (ℕ_discrete j i) c (cells j)

-- what holds of the new cell at i, and of each other cell, holds after
pub at_put : (cells : ℕ → Cell) (i : ℕ) (c : Cell) (F : ℕ → Cell → Type 0) (j : ℕ) → F i c → (j ≢ i → F j (cells j)) → F j (put cells i c j)
unfolding put
at_put cells i c F j here other = go (ℕ_discrete j i)
  where
    go : (d : Dec (j ≡ i)) → F j (pick d c (cells j))
    go (yes e) = subst (λ (k : ℕ). F k c) (sym e) here
    go (no n) = other n

pub put_here : (cells : ℕ → Cell) (i : ℕ) (c : Cell) → put cells i c i ≡ c
put_here cells i c = at_put cells i c (λ j d. j ≡ i → d ≡ c) i (λ _. refl) (λ ne is. absurd (ne is)) refl

pub put_else : (cells : ℕ → Cell) (i : ℕ) (c : Cell) (j : ℕ) → j ≢ i → put cells i c j ≡ cells j
put_else cells i c j ne = at_put cells i c (λ k d. k ≢ i → d ≡ cells k) j (λ n. absurd (n refl)) (λ _ _. refl) ne

pub at_below : {A : Type 0} (l : List A) (i : ℕ) (a : A) → get_elem? l i ≡ some a → i < length l
at_below [] i a e = absurd (some-ne-none a (sym e))
at_below (x ∷ xs) zero a e = omega arith
at_below (x ∷ xs) (suc i) a e = let h = at_below xs i a e in omega arith

pub some_at : {A : Type 0} (l : List A) (i : ℕ) → i < length l → (a : A) × (get_elem? l i ≡ some a)
some_at [] i h = absurd (omega arith)
some_at (x ∷ xs) zero h = (x, refl)
some_at (x ∷ xs) (suc i) h = some_at xs i (omega arith)

pub got_end : {A : Type 0} (l : List A) (a b : A) (k : ℕ) → slice_get (l ++ a ∷ []) k ≡ Some b → (slice_get l k ≡ Some b) ⊎ ((k ≡ length l) × (a ≡ b))
got_end [] a b zero e = inr (refl, same_Some a b e)
got_end [] a b (suc k) e = absurd (cc)
got_end (x ∷ xs) a b zero e = inl e
got_end (x ∷ xs) a b (suc k) e = ⊎_elim (λ t. inl t) (λ (t : (k ≡ length xs) × (a ≡ b)). inr (ap suc t.0, t.1)) (got_end xs a b k e)

pub got_below : {A : Type 0} (l : List A) (k : ℕ) (a : A) → slice_get l k ≡ Some a → k < length l
got_below [] k a e = absurd (cc)
got_below (x ∷ xs) zero a e = omega arith
got_below (x ∷ xs) (suc k) a e = let h = got_below xs k a e in omega arith

pub got_some : {A : Type 0} (l : List A) (k : ℕ) → k < length l → (a : A) × (slice_get l k ≡ Some a)
got_some [] k h = absurd (omega arith)
got_some (x ∷ xs) zero h = (x, refl)
got_some (x ∷ xs) (suc k) h = got_some xs k (omega arith)

pub one_view : {A : Type 0} (u v : A) (id : ℕ) → get_elem? (u ∷ []) id ≡ some v → u ≡ v
one_view u v zero e = some-injective u v e
one_view u v (suc id) e = absurd (some-ne-none v (sym e))

abbrev pub St : (S F L : Type 0) → Type 0
St S F L = State (Option S) (View S F L)

-- the passes are counted still
pub counted_put : (dealt : ℕ) (cells : ℕ → Cell) (k : ℕ) (c : Cell) (book added : List BookEntry) → k < dealt → Turns book added (cells k).passes c.passes → AreCounted dealt cells book → AreCounted dealt (put cells k c) (book ++ added)
counted_put dealt cells k c book added near turn a = record {
  unborn = λ j le. at_put cells k c (λ q d. dealt ≤ q → d.passes ≡ []) j (λ le'. absurd (omega arith)) (λ _ le'. a.unborn j le') le;
  known = λ j. subst (λ g. AllUpTo g (put cells k c j).passes) (sym turn.same) (at_put cells k c (λ q d. AllUpTo (generation_of book) d.passes) j (turn.known (a.known k)) (λ _. a.known j));
  counted = λ p. subst (λ g. sum_below dealt (λ j. live p g (put cells k c j).passes) ≡ times_attached (book ++ added) p) (sym turn.same) (sums p);
}
  where
    sums : (p : ℕ) → sum_below dealt (λ j. live p (generation_of book) (put cells k c j).passes) ≡ times_attached (book ++ added) p
    sums p =
        let g : ℕ = generation_of book in
        let f : ℕ → ℕ = λ j. live p g (cells j).passes in let f' : ℕ → ℕ = λ j. live p g (put cells k c j).passes in
        let e : sum_below dealt f' + f k ≡ sum_below dealt f + f' k = sum_put dealt k f f' near (λ j ne. ap (λ (d : Cell). live p g d.passes) (put_else cells k c j ne)) in
        let here : f' k ≡ live p g c.passes = ap (λ (d : Cell). live p g d.passes) (put_here cells k c) in
        let fk : f k ≡ live p g (cells k).passes = refl in
        let fair = turn.fair p in
        let was : sum_below dealt f ≡ times_attached book p = a.counted p in
        let x : ℕ = sum_below dealt f' in let y : ℕ = sum_below dealt f in
        let t : ℕ = times_attached book p in let t' : ℕ = times_attached (book ++ added) p in omega arith

-- ---- what is lent

module _ {L : Type 0} where
  -- what a seat has lent is what is lent
  pub knows_lent : (loan : Loan L) (id : ℕ) (had : Option L) → HasLent loan id had → KnowsLent had (what_is_lent loan)
  knows_lent loan id None has = tt
  knows_lent None id (Some b) has = absurd has
  knows_lent (Some loan) id (Some b) has = ap Some (sym has.1)

  -- what is lent after a call of a seat
  pub record Relent (loan : Loan L) (id n : ℕ) (has : Option L) (now : Option L → Type 0) : Type 0 where
    pub loan' : Loan L
    pub stands : now (what_is_lent loan')
    pub lender : IsLender loan' n
    pub mine : HasLent loan' id has
    pub others : (j : ℕ) (o : Option L) → j ≢ id → HasLent loan j o → HasLent loan' j o

  pub relent : (loan : Loan L) (id n : ℕ) (had has : Option L) (before now : Option L → Type 0) → id < n → IsLender loan n → HasLent loan id had → before (what_is_lent loan) → Relends had has before now → Relent loan id n has now
  relent loan id n None None before now near lender mine is does = record { loan' = loan; stands = does (what_is_lent loan) is; lender = lender; mine = mine; others = λ j o ne f. f }
  relent None id n None (Some b) before now near lender mine is does = record { loan' = Some (id, b); stands = (does None is).1; lender = near; mine = (refl, refl); others = lends id b }
    where
      lends : (id : ℕ) (b : L) (j : ℕ) (o : Option L) → j ≢ id → HasLent None j o → HasLent (Some (id, b)) j o
      lends id b j None ne f = ne
      lends id b j (Some c) ne f = absurd f
  relent (Some loan) id n None (Some b) before now near lender mine is does = absurd (cc_none (does (Some loan.1) is).0)
    where
      cc_none : Some loan.1 ≡ None → ⊥
      cc_none e = absurd (cc)
  relent None id n (Some b) None before now near lender mine is does = absurd mine
  relent (Some loan) id n (Some b) None before now near lender mine is does = record { loan' = None; stands = does (subst (λ z. before (Some z)) (sym mine.1) is); lender = tt; mine = tt; others = takes_back }
    where
      takes_back : (j : ℕ) (o : Option L) → j ≢ id → HasLent (Some loan) j o → HasLent None j o
      takes_back j None ne f = tt
      takes_back j (Some c) ne f = absurd (ne (f.0 ∙ sym mine.0))
  relent loan id n (Some b) (Some c) before now near lender mine is does = absurd does

module _ {S F L : Type 0} (Is : F → List BookEntry → S → Option L → Type 0) (Knows : List BookEntry → S → Pass → Type 0) where
  -- a step that changes nothing
  stays : (s : St S F L) (id : ℕ) (v : View S F L) → get_elem? s.views id ≡ some v → Kept Is Knows s → Kept Is Knows (stepped s 0 (get_or s.words 0 0) id [] v keeps)
  stays s id v at h = subst (λ (z : List ℕ × List (View S F L)). Kept Is Knows record { words = z.0; homes = s.homes; views = z.1 }) (λ i. (sym (set-get_or s.words 0 0) i, sym (set_again s.views id v at) i)) h

  -- a seat with a number is of a table that has a store
  pub held_at : (s : St S F L) (id : ℕ) (v : View S F L) → IsMine v → get_elem? s.views id ≡ some v → Kept Is Knows s → IsHeld Is Knows s
  held_at s id v mine at (inr held) = held
  held_at s id v mine at (inl (words, inl fresh)) = absurd (subst IsMine (sym (one_view Vacant v id (subst (λ (l : List (View S F L)). get_elem? l id ≡ some v) fresh.1 at))) mine)
  held_at s id v mine at (inl (words, inr fresh)) = absurd (subst IsMine (sym (one_view Founding v id (subst (λ (l : List (View S F L)). get_elem? l id ≡ some v) fresh.1 at))) mine)

  -- ---- take

  pub at_home : (w : Where) (x : S) (word : ℕ) (slot : maybe.Option (maybe.Option (Option S))) → IsThere w x word slot → word ≡ 0 → w ≡ home
  at_home home x word slot h z = refl
  at_home (out seat n) x word slot h z = absurd (omega arith)

  module _ (loan : Loan L) (master dealt : ℕ) (first : F) (cells : ℕ → Cell) (log : List Line) (x : S) where
    taken_else : (id n j m : ℕ) (held : Option (Taken S)) → j ≢ id → HasTaken home (taken (book_of log) x) j m held → HasTaken (out id n) (taken (book_of log) x) j m held
    taken_else id n j m None ne f = ne
    taken_else id n j m (Some b) ne f = absurd f

    fits_else : (id n j : ℕ) (v : View S F L) → j ≢ id → Fits home loan master dealt first cells log x j v → Fits (out id n) loan master dealt first cells log x j v
    fits_else id n j Vacant ne f = absurd f
    fits_else id n j Founding ne f = absurd f
    fits_else id n j (Master d) ne f = record { seat = f.seat; dealt_is = f.dealt_is; first_is = f.first_is; few = f.few; generation = f.generation; own = f.own; joined = f.joined; held = taken_else id n j d.dealt d.held ne f.held; lent = f.lent }
    fits_else id n j (Worker h) ne f = record { seat = f.seat; passes = f.passes; number = f.number; first_is = f.first_is; own = f.own; past = f.past; held = taken_else id n j h.number h.held ne f.held; lent = f.lent }
    fits_else id n j Spent ne f = (ne, f.1)

    fits_taken : (id : ℕ) (v : View S F L) → IsMine v → Fits home loan master dealt first cells log x id v → Fits (out id (number_of v)) loan master dealt first cells log x id (with_held v (Some (taken (book_of log) x)))
    fits_taken id Vacant mine f = absurd mine
    fits_taken id Founding mine f = absurd mine
    fits_taken id (Master d) mine f = record { seat = f.seat; dealt_is = f.dealt_is; first_is = f.first_is; few = f.few; generation = f.generation; own = f.own; joined = f.joined; held = (refl, refl, refl); lent = f.lent }
    fits_taken id (Worker h) mine f = record { seat = f.seat; passes = f.passes; number = f.number; first_is = f.first_is; own = f.own; past = ([], sym (append-nil (book_of log))); held = (refl, refl, refl); lent = f.lent }
    fits_taken id Spent mine f = absurd mine

    with_loan : (had : Option L) (f : F) → first ≡ f → Is first (book_of log) x (what_is_lent loan) → KnowsLent had (what_is_lent loan) → StandsWith Is Knows had f (taken (book_of log) x)
    with_loan had f same is knows = record { lent = what_is_lent loan; is = subst (λ z. Is z (book_of log) x (what_is_lent loan)) same is; knows = knows }

    tells : (w : Where) (s : St S F L) (id : ℕ) (v : View S F L) → Holds Is Knows w loan master dealt first cells log x s → Fits w loan master dealt first cells log x id v → Tells Is Knows v (taken (book_of log) x)
    tells w s id Vacant h f = tt
    tells w s id Founding h f = tt
    tells w s id (Master d) h f = (
      record { log = log; book_is = refl; below = subst (λ n. AllBelow n log) (sym f.dealt_is) h.owned; each_list = λ k l e. let his = owned_at d.joined k l e in sym his.2 ∙ (f.joined k his.0 his.1).1; own_list = f.own },
      all_continue d.joined (book_of log) (λ k his e. (f.joined k his e).2),
      sym f.generation,
      with_loan None d.first (sym f.first_is) h.stands tt,
    )
    tells w s id (Worker hand) h f = (
      (
        with_loan hand.lent hand.first (sym f.first_is) h.stands (knows_lent loan id hand.lent f.lent),
        subst (AllKnown (Knows (book_of log) x) (generation_of (book_of log))) f.passes (h.good hand.number),
        λ p.
            let g : ℕ = generation_of (book_of log) in
            let a = member_below dealt hand.number (λ k. live p g (cells k).passes) f.number in
            let b = h.passes.counted p in
            let e : live p g (cells hand.number).passes ≡ live p g hand.passes = ap (live p g) f.passes in
            let t : ℕ = times_attached (book_of log) p in
            omega arith,
        subst (AllUpTo (generation_of (book_of log))) f.passes (h.passes.known hand.number),
      ),
      f.past,
    )
    tells w s id Spent h f = tt

    pub took_home : (s : St S F L) (id n : ℕ) (v : View S F L) → number_of v ≡ n → IsMine v → get_elem? s.views id ≡ some v → Holds Is Knows home loan master dealt first cells log x s
        → (get_elem? s.homes 0 ≡ some (some (Some x)))
        × Kept Is Knows (stepped s 0 (n + 1) id [] (with_held v (Some (taken (book_of log) x))) (takes 0 (Some x)))
        × Tells Is Knows v (taken (book_of log) x)
    took_home s id n v same mine at h =
        let t : Taken S = taken (book_of log) x in
        let near : id < length s.views = at_below s.views id v at in let one : length s.words ≡ 1 = h.one_word in
        let f = h.each_seat id v at in (
          h.there.1,
          inr (
            out id n,
            loan,
            master,
            dealt,
            first,
            cells,
            log,
            x,
            record {
              one_word = length-set s.words 0 (n + 1) ∙ h.one_word;
              one_slot = length-set s.homes 0 none ∙ h.one_slot;
              there = get_or-set_same s.words 0 (n + 1) 0 (omega arith);
              holder = subst (λ m. id < m) (sym (length-set s.views id (with_held v (Some t)))) near;
              lender = subst (IsLender loan) (sym (length-set s.views id (with_held v (Some t)))) h.lender;
              owned = h.owned;
              passes = h.passes;
              stands = h.stands;
              good = h.good;
              each_seat = λ j u e. ⊎_elim
                  (λ (z : (j ≡ id) × (with_held v (Some t) ≡ u)). subst (λ (y : ℕ × View S F L). Fits (out id n) loan master dealt first cells log x y.0 y.1) (λ i. (sym z.0 i, z.1 i)) (subst (λ m. Fits (out id m) loan master dealt first cells log x id (with_held v (Some t))) same (fits_taken id v mine f)))
                  (λ (z : (j ≢ id) × (get_elem? s.views j ≡ some u)). fits_else id n j u z.0 (h.each_seat j u z.1)) (at_set s.views id j (with_held v (Some t)) u e);
            },
          ),
          tells home s id v h f,
        )

  pub takes_it : (id n : ℕ) (v : View S F L) → number_of v ≡ n → IsMine v → Allows (Kept Is Knows) 1 id (v, []) 0 (λ w. either (w == 0) (n + 1) w) (Took Is Knows (step 1 0 0 (n + 1) none) (v, []))
  takes_it id n v same mine s kept wide at small =
      let r = held_at s id v mine at kept in
      exchanged (get_or s.words 0 0) 0 (n + 1)
      (λ z. (w : View S F L) × (a : table.Act (Option S)) × table.Valid s.homes [] a × Kept Is Knows (stepped s 0 z id [] w a) × Took Is Knows (step 1 0 0 (n + 1) none) (v, []) (get_or s.words 0 0) (w, table.carried_after [] a))
      (λ zero_is.
      let w_is = at_home r.0 r.7 _ _ r.8.there zero_is in
      let t = took_home r.1 r.2 r.3 r.4 r.5 r.6 r.7 s id n v same mine at (subst (λ w. Holds Is Knows w r.1 r.2 r.3 r.4 r.5 r.6 r.7 s) w_is r.8) in
      (with_held v (Some (taken (book_of r.6) r.7)), takes 0 (Some r.7), t.0, t.1, ((λ _. (taken (book_of r.6) r.7, refl, t.2)), (λ ne. absurd (ne zero_is)))))
      (λ ne. (v, keeps, tt, stays s id v at kept, ((λ zero_is. absurd (ne zero_is)), (λ _. refl))))
