-- The store is given back, and the rule is kept.
use Rattle.std.proofs.Common.{◌≡◌, ◌≢◌, inr, ⊎_elim, ℕ, ◌+◌, List, [], ◌∷◌, ◌++◌, length, set, sym, ap, ◌∙◌, subst, arith, length-set, get_or-set_same, append-nil}
use mathlib.Core.Option.{none, some}
use lib.ListN.{get_elem?}
use Rattle.std.specs.Prelude.{Option, Some, None}
use Rattle.atomic_table.{specs.Table.{step, gives, stepped, Allows}, proofs.Lists.{at_set, set_here}}
use Rattle.pm_segment.specs.{pm_query.{declared.book.BookEntry.BookEntry, Book.generation_of}, pm_store_apart.declared.pass.Pass.Pass}
use Rattle.pm_store_shared.{specs.{declared.views.{Taken.Taken, Hand.Hand, Desk.Desk, View.{View, TheVariants.{Vacant, Founding, Master, Worker, Spent}}}, Log.{Line, AllOwn, NoneOwn, book_of, lines, noted_from, all_behind, placed, placed_rest}, Passes.AllKnown, Rule.{Cell, Where, home, out, Loan, IsLender, HasLent, what_is_lent, HasTaken, Fits, AreCounted, Holds, Kept, taken}, Told.{Gave, log_in, Turns, HandStep, HandMay, DeskStep, DeskMay}}, proofs.{Keeps.{Relent, at_below, put, at_put, put_here, put_else, counted_put, St, held_at, relent}, Logs.{continues_lines, rest-append, rest-own, rest-none, placed-append, placed-own, placed-other, placed-none, below-append, below-lines, below-none, book-append, book-lines, book-length, known_on}}}

module _ {S F L : Type 0} (Is : F → List BookEntry → S → Option L → Type 0) (Knows : List BookEntry → S → Pass → Type 0) where
  is_out : (w : Where) (t b : Taken S) (id n : ℕ) → HasTaken w t id n (Some b) → w ≡ out id n
  is_out home t b id n f = absurd f
  is_out (out seat m) t b id n f = λ i. out (sym f.0 i) (sym f.1 i)

  back_else : (t t' : Taken S) (id n j m : ℕ) (held : Option (Taken S)) → j ≢ id → HasTaken (out id n) t j m held → HasTaken home t' j m held
  back_else t t' id n j m None ne f = tt
  back_else t t' id n j m (Some b) ne f = absurd (ne f.0)

  module _ (loan : Loan L) (master dealt : ℕ) (first : F) (cells : ℕ → Cell) (log : List Line) (x : S) where
    -- the other seats, once the token k has noted entries
    fits_grown : (loan' : Loan L) (id n k : ℕ) (c : Cell) (es : List BookEntry) (x' : S) (j : ℕ) (v : View S F L) → ((o : Option L) → HasLent loan j o → HasLent loan' j o) → (cells k).seat ≡ id → AllOwn es → generation_of (book_of (log ++ lines k es)) ≡ generation_of (book_of log) → j ≢ id
        → Fits (out id n) loan master dealt first cells log x j v → Fits home loan' master dealt first (put cells k c) (log ++ lines k es) x' j v
    fits_grown loan' id n k c es x' j Vacant relends is all_own same_generation ne f = absurd f
    fits_grown loan' id n k c es x' j Founding relends is all_own same_generation ne f = absurd f
    fits_grown loan' id n k c es x' j (Master d) relends is all_own same_generation ne f = record {
      seat = f.seat;
      dealt_is = f.dealt_is;
      first_is = f.first_is;
      few = f.few;
      generation = f.generation ∙ sym same_generation;
      own = f.own ∙ sym (rest-append [] log (lines k es) ∙ ap (λ z. placed_rest [] log ++ z) (rest-own k (book_of log) es all_own) ∙ append-nil (placed_rest [] log));
      joined = λ i l e.
          let h = f.joined i l e in let other : i ≢ k = λ same. ne (f.seat ∙ sym h.0 ∙ ap (λ q. (cells q).seat) same ∙ is) in
          (ap (λ (q : Cell). q.seat) (put_else cells k c i other) ∙ h.0, h.1 ∙ sym (placed-append i 0 log (lines k es) ∙ ap (λ z. placed i 0 log ++ z) (placed-other i k (0 + length log) es other) ∙ append-nil (placed i 0 log)), continues_lines l.past log k es h.2);
      held = back_else (taken (book_of log) x) (taken (book_of (log ++ lines k es)) x') id n j d.dealt d.held ne f.held;
      lent = relends None f.lent;
    }
    fits_grown loan' id n k c es x' j (Worker h) relends is all_own same_generation ne f = let other : h.number ≢ k = λ same. ne (sym f.seat ∙ ap (λ q. (cells q).seat) same ∙ is) in record {
      seat = ap (λ (q : Cell). q.seat) (put_else cells k c h.number other) ∙ f.seat;
      passes = ap (λ (q : Cell). q.passes) (put_else cells k c h.number other) ∙ f.passes;
      number = f.number;
      first_is = f.first_is;
      own = f.own ∙ sym (placed-append h.number 0 log (lines k es) ∙ ap (λ z. placed h.number 0 log ++ z) (placed-other h.number k (0 + length log) es other) ∙ append-nil (placed h.number 0 log));
      past = continues_lines h.past log k es f.past;
      held = back_else (taken (book_of log) x) (taken (book_of (log ++ lines k es)) x') id n j h.number h.held ne f.held;
      lent = relends h.lent f.lent;
    }
    fits_grown loan' id n k c es x' j Spent relends is all_own same_generation ne f = (tt, relends None f.1)

    pub gave_hand : (s : St S F L) (id n : ℕ) (h : Hand S F L) (added : List BookEntry) (ps : List Pass) (has : Option L) (x' : S) → AllOwn added → HandStep Is Knows (taken (book_of log) x) added h.passes ps h.lent has x'
        → get_elem? s.views id ≡ some (Worker h) → (w : Where) → Holds Is Knows w loan master dealt first cells log x s → w ≡ out id n
        → Kept Is Knows (stepped s 0 0 id ((0, Some x') ∷ []) (Worker record { number = h.number; first = h.first; own = h.own ++ noted_from (length (book_of log)) added; passes = ps; past = h.past; held = None; lent = has }) gives)
    gave_hand s id n h added ps has x' own may at w hold w_is =
        let f = hold.each_seat id (Worker h) at in
        let k : ℕ = h.number in
        let c : Cell = record { seat = id; passes = ps } in let log' : List Line = log ++ lines k added in
        let h' : Hand S F L = record { number = k; first = h.first; own = h.own ++ noted_from (length (book_of log)) added; passes = ps; past = h.past; held = None; lent = has } in
        let book' : book_of log ++ added ≡ book_of log' = sym (book-append log (lines k added) ∙ ap (λ z. book_of log ++ z) (book-lines k added)) in
        let one : length s.words ≡ 1 = hold.one_word in let one' : length s.homes ≡ 1 = hold.one_slot in
        let same_generation : generation_of (book_of log') ≡ generation_of (book_of log) = ap generation_of (sym book') ∙ may.turns.same in
        let start : length (book_of log) ≡ 0 + length log = let e = book-length log in omega arith in
        let long : length (set s.views id (Worker h')) ≡ length s.views = length-set s.views id (Worker h') in
        let its : Relent loan id (length s.views) has (Is first (book_of log ++ added) x') =
        relent loan id (length s.views) h.lent has (Is first (book_of log) x) (Is first (book_of log ++ added) x') (at_below s.views id (Worker h) at) hold.lender f.lent hold.stands (may.stands first) in
        inr (
          home,
          its.loan',
          master,
          dealt,
          first,
          put cells k c,
          log',
          x',
          record {
            one_word = length-set s.words 0 0 ∙ hold.one_word;
            one_slot = length-set s.homes 0 (some (Some x')) ∙ hold.one_slot;
            there = (get_or-set_same s.words 0 0 0 (omega arith), set_here s.homes 0 (some (Some x')) (omega arith));
            holder = tt;
            lender = subst (IsLender its.loan') (sym long) its.lender;
            owned = below-append dealt log (lines k added) hold.owned (below-lines dealt k added f.number);
            passes = subst (AreCounted dealt (put cells k c)) book'
                (counted_put dealt cells k c (book_of log) added f.number (subst (λ z. Turns (book_of log) added z ps) (sym f.passes) may.turns) hold.passes);
            stands = subst (λ z. Is first z x' (what_is_lent its.loan')) book' its.stands;
            good = λ j. subst (λ (z : List BookEntry × ℕ). AllKnown (Knows z.0 x') z.1 (put cells k c j).passes) (λ i. (book' i, sym same_generation i))
                (at_put cells k c (λ q (d : Cell). AllKnown (Knows (book_of log ++ added) x') (generation_of (book_of log)) d.passes) j may.mine
                (λ _. known_on (Knows (book_of log) x) (Knows (book_of log ++ added) x') (generation_of (book_of log)) (cells j).passes may.others (hold.good j)));
            each_seat = λ j u e. ⊎_elim
                (λ (t : (j ≡ id) × (Worker h' ≡ u)). subst (λ (z : ℕ × View S F L). Fits home its.loan' master dealt first (put cells k c) log' x' z.0 z.1) (λ i. (sym t.0 i, t.1 i)) record {
                  seat = ap (λ (q : Cell). q.seat) (put_here cells k c);
                  passes = ap (λ (q : Cell). q.passes) (put_here cells k c);
                  number = f.number;
                  first_is = f.first_is;
                  own = (λ i. f.own i ++ noted_from (start i) added) ∙ ap (λ z. placed k 0 log ++ z) (sym (placed-own k (0 + length log) added own)) ∙ sym (placed-append k 0 log (lines k added));
                  past = continues_lines h.past log k added f.past;
                  held = tt;
                  lent = its.mine;
                })
                (λ (t : (j ≢ id) × (get_elem? s.views j ≡ some u)). fits_grown its.loan' id n k c added x' j u (λ o g. its.others j o t.0 g) f.seat own same_generation t.0 (subst (λ w. Fits w loan master dealt first cells log x j u) w_is (hold.each_seat j u t.1))) (at_set s.views id j (Worker h') u e);
          },
        )

    -- ---- the shared side gives back

    same_place : (i : ℕ) (es : List BookEntry) → NoneOwn es → placed i 0 log ≡ placed i 0 (log ++ lines 0 es)
    same_place i es none_own = sym (placed-append i 0 log (lines 0 es) ∙ ap (λ z. placed i 0 log ++ z) (placed-none i 0 (0 + length log) es none_own) ∙ append-nil (placed i 0 log))

    fits_kept : (id n : ℕ) (es : List BookEntry) (x' : S) → NoneOwn es → id ≡ master → (j : ℕ) (v : View S F L) → j ≢ id → Fits (out id n) loan master dealt first cells log x j v → Fits home loan master dealt first cells (log ++ lines 0 es) x' j v
    fits_kept id n es x' none_own mine j Vacant ne f = absurd f
    fits_kept id n es x' none_own mine j Founding ne f = absurd f
    fits_kept id n es x' none_own mine j (Master d) ne f = absurd (ne (f.seat ∙ sym mine))
    fits_kept id n es x' none_own mine j (Worker h) ne f = record {
      seat = f.seat;
      passes = f.passes;
      number = f.number;
      first_is = f.first_is;
      own = f.own ∙ same_place h.number es none_own;
      past = continues_lines h.past log 0 es f.past;
      held = back_else (taken (book_of log) x) (taken (book_of (log ++ lines 0 es)) x') id n j h.number h.held ne f.held;
      lent = f.lent;
    }
    fits_kept id n es x' none_own mine j Spent ne f = (tt, f.1)

    pub gave_desk : (s : St S F L) (id n : ℕ) (d : Desk S F) (added : List BookEntry) (x' : S) → NoneOwn added → DeskStep Is Knows (taken (book_of log) x) added x'
        → get_elem? s.views id ≡ some (Master d) → (w : Where) → Holds Is Knows w loan master dealt first cells log x s → w ≡ out id n
        → Kept Is Knows (stepped s 0 0 id ((0, Some x') ∷ [])
        (Master record { dealt = d.dealt; first = d.first; generation = generation_of (book_of log ++ added); own = d.own ++ all_behind (book_of log) added; joined = d.joined; held = None }) gives)
    gave_desk s id n d added x' none_own may at w hold w_is =
        let f = hold.each_seat id (Master d) at in
        let log' : List Line = log ++ lines 0 added in
        let d' : Desk S F = record { dealt = d.dealt; first = d.first; generation = generation_of (book_of log ++ added); own = d.own ++ all_behind (book_of log) added; joined = d.joined; held = None } in
        let book' : book_of log ++ added ≡ book_of log' = sym (book-append log (lines 0 added) ∙ ap (λ z. book_of log ++ z) (book-lines 0 added)) in
        let one : length s.words ≡ 1 = hold.one_word in let one' : length s.homes ≡ 1 = hold.one_slot in
        inr (
          home,
          loan,
          master,
          dealt,
          first,
          cells,
          log',
          x',
          record {
            one_word = length-set s.words 0 0 ∙ hold.one_word;
            one_slot = length-set s.homes 0 (some (Some x')) ∙ hold.one_slot;
            there = (get_or-set_same s.words 0 0 0 (omega arith), set_here s.homes 0 (some (Some x')) (omega arith));
            holder = tt;
            lender = subst (IsLender loan) (sym (length-set s.views id (Master d'))) hold.lender;
            owned = below-append dealt log (lines 0 added) hold.owned (below-none dealt 0 added none_own);
            passes = subst (AreCounted dealt cells) book' (may.resets dealt cells hold.passes);
            stands = subst (λ z. Is first z x' (what_is_lent loan)) book' (may.stands first (what_is_lent loan) hold.stands);
            good = λ j. subst (λ z. AllKnown (Knows z x') (generation_of z) (cells j).passes) book' (may.passes (cells j).passes (hold.passes.known j) (hold.good j));
            each_seat = λ j u e. ⊎_elim
                (λ (t : (j ≡ id) × (Master d' ≡ u)). subst (λ (z : ℕ × View S F L). Fits home loan master dealt first cells log' x' z.0 z.1) (λ i. (sym t.0 i, t.1 i)) record {
                  seat = f.seat;
                  dealt_is = f.dealt_is;
                  first_is = f.first_is;
                  few = f.few;
                  generation = ap generation_of book';
                  own = (λ i. f.own i ++ all_behind (book_of log) added) ∙ ap (λ z. placed_rest [] log ++ z) (sym (rest-none 0 (book_of log) added none_own)) ∙ sym (rest-append [] log (lines 0 added));
                  joined = λ i l e. let h = f.joined i l e in (h.0, h.1 ∙ same_place i added none_own, continues_lines l.past log 0 added h.2);
                  held = tt;
                  lent = f.lent;
                })
                (λ (t : (j ≢ id) × (get_elem? s.views j ≡ some u)). fits_kept id n added x' none_own f.seat j u t.0 (subst (λ w. Fits w loan master dealt first cells log x j u) w_is (hold.each_seat j u t.1))) (at_set s.views id j (Master d') u e);
          },
        )

  pub gives_hand : (told : List BookEntry → Type 0) (ps : List Pass) (has : Option L) (id : ℕ) (h : Hand S F L) (x' : S) → HandMay Is Knows told ps has h x'
      → Allows (Kept Is Knows) 1 id (Worker h, (0, Some x') ∷ []) 0 (λ _. 0) (Gave told ps has (step 1 0 0 0 none) (Worker h, (0, Some x') ∷ []))
  gives_hand told ps has id h x' may s kept wide at small =
      let r = held_at Is Knows s id (Worker h) tt at kept in
      let hold = r.8 in let f = hold.each_seat id (Worker h) at in
      let t : Taken S = taken (book_of r.6) r.7 in
      let there = subst (HasTaken r.0 t id h.number) may.held f.held in
      let w_is = is_out r.0 t may.was id h.number there in
      let was_is : may.was ≡ t = (subst (λ w. HasTaken w t id h.number (Some may.was)) w_is there).2 in
      let n : ℕ = length (book_of r.6) in
      let log_is : book_of r.6 ≡ log_in h.held = ap (λ (y : Taken S). y.log) (sym was_is) ∙ ap log_in (sym may.held) in (
        Worker record { number = h.number; first = h.first; own = h.own ++ noted_from n may.added; passes = ps; past = h.past; held = None; lent = has },
        gives,
        tt,
        gave_hand r.1 r.2 r.3 r.4 r.5 r.6 r.7 s id h.number h may.added ps has x' may.own (subst (λ y. HandStep Is Knows y may.added h.passes ps h.lent has x') was_is may.step) at r.0 hold w_is,
        (may.added, may.is_told, (λ i. (Worker record { number = h.number; first = h.first; own = h.own ++ noted_from (length (log_is i)) may.added; passes = ps; past = h.past; held = None; lent = has }, []))),
      )

  pub gives_desk : (told : List BookEntry → Type 0) (ps : List Pass) (has : Option L) (id : ℕ) (d : Desk S F) (x' : S) → DeskMay Is Knows told d x'
      → Allows (Kept Is Knows) 1 id (Master d, (0, Some x') ∷ []) 0 (λ _. 0) (Gave told ps has (step 1 0 0 0 none) (Master d, (0, Some x') ∷ []))
  gives_desk told ps has id d x' may s kept wide at small =
      let r = held_at Is Knows s id (Master d) tt at kept in
      let hold = r.8 in let f = hold.each_seat id (Master d) at in
      let t : Taken S = taken (book_of r.6) r.7 in
      let there = subst (HasTaken r.0 t id d.dealt) may.held f.held in
      let w_is = is_out r.0 t may.was id d.dealt there in
      let was_is : may.was ≡ t = (subst (λ w. HasTaken w t id d.dealt (Some may.was)) w_is there).2 in
      let log_is : book_of r.6 ≡ log_in d.held = ap (λ (y : Taken S). y.log) (sym was_is) ∙ ap log_in (sym may.held) in (
        Master record { dealt = d.dealt; first = d.first; generation = generation_of (book_of r.6 ++ may.added); own = d.own ++ all_behind (book_of r.6) may.added; joined = d.joined; held = None },
        gives,
        tt,
        gave_desk r.1 r.2 r.3 r.4 r.5 r.6 r.7 s id d.dealt d may.added x' may.none_own (subst (λ y. DeskStep Is Knows y may.added x') was_is may.step) at r.0 hold w_is,
        (may.added, may.is_told, (λ i. (Master record { dealt = d.dealt; first = d.first; generation = generation_of (log_is i ++ may.added); own = d.own ++ all_behind (log_is i) may.added; joined = d.joined; held = None }, []))),
      )
