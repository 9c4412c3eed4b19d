-- Lists of lines, of passes, and sums.
use Rattle.std.{proofs.{Common.{◌≡◌, ◌≢◌, inl, inr, ℕ, zero, suc, ◌+◌, ◌<◌, ◌≤◌, ◌==◌, ◌&&◌, Bool, true, false, cond, List, [], ◌∷◌, ◌++◌, length, sym, refl, ap, ◌∙◌, subst, arith, append-nil, append_assoc, ne_eqb, eq-eqb}, lemmas.Bool.{false≢true, Decides.nat_tests}}, specs.Prelude.{Some, slice_get}}
use mathlib.Core.Logic.{dite}
use native.Mathlib.Decide.{ℕ_discrete}
use Rattle.pm_segment.specs.{pm_query.{declared.book.BookEntry.BookEntry, pm_facts.Numbers.sum_below}, pm_store_apart.declared.pass.Pass.Pass}
use Rattle.pm_store_shared.specs.{Log.{Line, is_own, AllOwn, NoneOwn, book_of, lines, noted, noted_behind, noted_from, all_behind, placed, placed_rest, AllBelow, Continues}, Passes.{Among, live, without_pass, AllUpTo, AllKnown}, Told.{AllContinue, pasts}, declared.views.Joined.Joined}

abbrev one : Bool → ℕ
one b = cond b 1 0

pub placed-append : (k n : ℕ) (xs ys : List Line) → placed k n (xs ++ ys) ≡ placed k n xs ++ placed k (n + length xs) ys
placed-append k n [] ys = ap (λ m. placed k m ys) (omega arith)
placed-append k n (x ∷ xs) ys = split (is_own x.entry && (x.by == k)) (placed-append k (n + 1) xs ys ∙ ap (λ m. placed k (n + 1) xs ++ placed k m ys) (omega arith))
  where
    split : (b : Bool) → placed k (n + 1) (xs ++ ys) ≡ placed k (n + 1) xs ++ placed k (n + length (x ∷ xs)) ys
        → cond b (noted n x.entry ∷ placed k (n + 1) (xs ++ ys)) (placed k (n + 1) (xs ++ ys)) ≡ cond b (noted n x.entry ∷ placed k (n + 1) xs) (placed k (n + 1) xs) ++ placed k (n + length (x ∷ xs)) ys
    split true h = ap (λ l. noted n x.entry ∷ l) h
    split false h = h

pub placed-own : (k n : ℕ) (es : List BookEntry) → AllOwn es → placed k n (lines k es) ≡ noted_from n es
placed-own k n [] a = refl
placed-own k n (e ∷ es) a = (λ i. cond (a.0 i && eq-eqb k k refl i) (noted n e ∷ placed k (n + 1) (lines k es)) (placed k (n + 1) (lines k es))) ∙ ap (λ l. noted n e ∷ l) (placed-own k (n + 1) es a.1)

pub placed-other : (j k n : ℕ) (es : List BookEntry) → j ≢ k → placed j n (lines k es) ≡ []
placed-other j k n [] ne = refl
placed-other j k n (e ∷ es) ne = split (is_own e) (k == j) (ne_eqb k j (λ h. ne (sym h))) (placed-other j k (n + 1) es ne)
  where
    split : (a b : Bool) → b ≡ false → placed j (n + 1) (lines k es) ≡ [] → cond (a && b) (noted n e ∷ placed j (n + 1) (lines k es)) (placed j (n + 1) (lines k es)) ≡ []
    split true b is h = ap (λ z. cond z (noted n e ∷ placed j (n + 1) (lines k es)) (placed j (n + 1) (lines k es))) is ∙ h
    split false b is h = h

pub placed-none : (j k n : ℕ) (es : List BookEntry) → NoneOwn es → placed j n (lines k es) ≡ []
placed-none j k n [] a = refl
placed-none j k n (e ∷ es) a = ap (λ b. cond (b && (k == j)) (noted n e ∷ placed j (n + 1) (lines k es)) (placed j (n + 1) (lines k es))) a.0 ∙ placed-none j k (n + 1) es a.1

-- a token that was not dealt yet has noted nothing
pub placed-new : (d n : ℕ) (ls : List Line) → AllBelow d ls → placed d n ls ≡ []
placed-new d n [] a = refl
placed-new d n (l ∷ ls) a = split (is_own l.entry) a.0 (placed-new d (n + 1) ls a.1)
  where
    split : (b : Bool) → (b ≡ true → l.by < d) → placed d (n + 1) ls ≡ [] → cond (b && (l.by == d)) (noted n l.entry ∷ placed d (n + 1) ls) (placed d (n + 1) ls) ≡ []
    split true f h = let lt : l.by < d = f refl in ap (λ z. cond z (noted n l.entry ∷ placed d (n + 1) ls) (placed d (n + 1) ls)) (ne_eqb l.by d (λ e. absurd (omega arith))) ∙ h
    split false f h = h

pub rest-append : (before : List BookEntry) (xs ys : List Line) → placed_rest before (xs ++ ys) ≡ placed_rest before xs ++ placed_rest (before ++ book_of xs) ys
rest-append before [] ys = ap (λ z. placed_rest z ys) (sym (append-nil before))
rest-append before (x ∷ xs) ys =
    split (is_own x.entry) (rest-append (before ++ x.entry ∷ []) xs ys ∙ ap (λ z. placed_rest (before ++ x.entry ∷ []) xs ++ placed_rest z ys) (append_assoc before (x.entry ∷ []) (book_of xs)))
  where
    split : (b : Bool) → placed_rest (before ++ x.entry ∷ []) (xs ++ ys) ≡ placed_rest (before ++ x.entry ∷ []) xs ++ placed_rest (before ++ book_of (x ∷ xs)) ys
        → cond b (placed_rest (before ++ x.entry ∷ []) (xs ++ ys)) (noted_behind before x.entry ∷ placed_rest (before ++ x.entry ∷ []) (xs ++ ys))
        ≡ cond b (placed_rest (before ++ x.entry ∷ []) xs) (noted_behind before x.entry ∷ placed_rest (before ++ x.entry ∷ []) xs) ++ placed_rest (before ++ book_of (x ∷ xs)) ys
    split true h = h
    split false h = ap (λ l. noted_behind before x.entry ∷ l) h

pub rest-own : (k : ℕ) (before es : List BookEntry) → AllOwn es → placed_rest before (lines k es) ≡ []
rest-own k before [] a = refl
rest-own k before (e ∷ es) a =
    ap (λ b. cond b (placed_rest (before ++ e ∷ []) (lines k es)) (noted_behind before e ∷ placed_rest (before ++ e ∷ []) (lines k es))) a.0 ∙ rest-own k (before ++ e ∷ []) es a.1

pub rest-none : (k : ℕ) (before es : List BookEntry) → NoneOwn es → placed_rest before (lines k es) ≡ all_behind before es
rest-none k before [] a = refl
rest-none k before (e ∷ es) a =
    ap (λ b. cond b (placed_rest (before ++ e ∷ []) (lines k es)) (noted_behind before e ∷ placed_rest (before ++ e ∷ []) (lines k es))) a.0
    ∙ ap (λ l. noted_behind before e ∷ l) (rest-none k (before ++ e ∷ []) es a.1)

pub below-append : (d : ℕ) (xs ys : List Line) → AllBelow d xs → AllBelow d ys → AllBelow d (xs ++ ys)
below-append d [] ys a b = b
below-append d (x ∷ xs) ys a b = (a.0, below-append d xs ys a.1 b)

pub below-lines : (d k : ℕ) (es : List BookEntry) → k < d → AllBelow d (lines k es)
below-lines d k [] l = tt
below-lines d k (e ∷ es) l = ((λ _. l), below-lines d k es l)

pub below-none : (d k : ℕ) (es : List BookEntry) → NoneOwn es → AllBelow d (lines k es)
below-none d k [] a = tt
below-none d k (e ∷ es) a = ((λ h. absurd (false≢true (sym a.0 ∙ h))), below-none d k es a.1)

pub below-more : (d : ℕ) (ls : List Line) → AllBelow d ls → AllBelow (d + 1) ls
below-more d [] a = tt
below-more d (l ∷ ls) a = ((λ h. let lt : l.by < d = a.0 h in omega arith), below-more d ls a.1)

pub book-append : (xs ys : List Line) → book_of (xs ++ ys) ≡ book_of xs ++ book_of ys
book-append [] ys = refl
book-append (x ∷ xs) ys = ap (λ l. x.entry ∷ l) (book-append xs ys)

pub book-lines : (k : ℕ) (es : List BookEntry) → book_of (lines k es) ≡ es
book-lines k [] = refl
book-lines k (e ∷ es) = ap (λ l. e ∷ l) (book-lines k es)

pub book-length : (xs : List Line) → length (book_of xs) ≡ length xs
book-length [] = refl
book-length (x ∷ xs) = let h : length (book_of xs) ≡ length xs = book-length xs in omega arith

-- ---- what goes on

pub continues_on : (past log es : List BookEntry) → Continues past log → Continues past (log ++ es)
continues_on past log es on = (on.0 ++ es, ap (λ l. l ++ es) on.1 ∙ append_assoc past on.0 es)

pub continues_lines : (past : List BookEntry) (log : List Line) (k : ℕ) (es : List BookEntry) → Continues past (book_of log) → Continues past (book_of (log ++ lines k es))
continues_lines past log k es on = subst (Continues past) (sym (book-append log (lines k es) ∙ ap (λ z. book_of log ++ z) (book-lines k es))) (continues_on past (book_of log) es on)

pub all_continue : (joined : List Joined) (log : List BookEntry) → ((k : ℕ) (his : Joined) → slice_get joined k ≡ Some his → Continues his.past log) → AllContinue (pasts joined) log
all_continue [] log each = tt
all_continue (his ∷ joined) log each = (each 0 his refl, all_continue joined log (λ k other e. each (suc k) other e))

-- ---- sums

pub member_below : (n k : ℕ) (f : ℕ → ℕ) → k < n → f k ≤ sum_below n f
member_below zero k f l = absurd (omega arith)
member_below (suc n) k f l = dite (ℕ_discrete n k) (λ is. let c : f n ≡ f k = ap f is in omega arith) (λ ne. let a : f k ≤ sum_below n f = member_below n k f (omega arith) in omega arith)

-- ---- passes

pub up_to_more : (g : ℕ) (xs : List Pass) → AllUpTo g xs → AllUpTo (g + 1) xs
up_to_more g [] a = tt
up_to_more g (x ∷ xs) a = let l : x.generation ≤ g = a.0 in (omega arith, up_to_more g xs a.1)

-- in a new generation no pass is live
pub none_live : (p g : ℕ) (xs : List Pass) → AllUpTo g xs → live p (g + 1) xs ≡ 0
none_live p g [] a = refl
none_live p g (x ∷ xs) a = let l : x.generation ≤ g = a.0 in split (x.pid == p) (x.generation == (g + 1)) (ne_eqb x.generation (g + 1) (λ e. absurd (omega arith))) (none_live p g xs a.1)
  where
    split : (a b : Bool) → b ≡ false → live p (g + 1) xs ≡ 0 → cond (a && b) 1 0 + live p (g + 1) xs ≡ 0
    split true b is h = (λ i. cond (is i) 1 0 + h i)
    split false b is h = omega (arith, h)

pub live-snoc : (q g : ℕ) (xs : List Pass) (x : Pass) → live q g (xs ++ x ∷ []) ≡ live q g xs + cond ((x.pid == q) && (x.generation == g)) 1 0
live-snoc q g [] x = omega arith
live-snoc q g (y ∷ xs) x = let h : live q g (xs ++ x ∷ []) ≡ live q g xs + cond ((x.pid == q) && (x.generation == g)) 1 0 = live-snoc q g xs x in omega arith

pub up_to-snoc : (g : ℕ) (xs : List Pass) (x : Pass) → x.generation ≤ g → AllUpTo g xs → AllUpTo g (xs ++ x ∷ [])
up_to-snoc g [] x le a = (le, tt)
up_to-snoc g (y ∷ xs) x le a = (a.0, up_to-snoc g xs x le a.1)

pub up_to-less : (p h g : ℕ) (xs : List Pass) → AllUpTo g xs → AllUpTo g (without_pass p h xs)
up_to-less p h g [] a = tt
up_to-less p h g (x ∷ xs) a = split ((x.pid == p) && (x.generation == h)) (up_to-less p h g xs a.1)
  where
    split : (b : Bool) → AllUpTo g (without_pass p h xs) → AllUpTo g (cond b xs (x ∷ without_pass p h xs))
    split true r = a.1
    split false r = (a.0, r)

pub live-less : (q p g : ℕ) (xs : List Pass) → 0 < live p g xs → live q g (without_pass p g xs) + cond (p == q) 1 0 ≡ live q g xs
live-less q p g [] l = absurd (omega arith)
live-less q p g (x ∷ xs) l = split (live-less q p g xs) ((x.pid == p) && (x.generation == g)) refl
  where
    same : (x.pid == p) && (x.generation == g) ≡ true → (x.pid ≡ p) × (x.generation ≡ g)
    same e = (grind (arith, nat_tests), grind (arith, nat_tests))

    hit : (x.pid ≡ p) × (x.generation ≡ g) → ◌≡◌ {A = ℕ} (cond (p == q) 1 0) (cond ((x.pid == q) && (x.generation == g)) 1 0)
    hit e = both (p == q) ∙ (λ i. cond ((sym e.0 i == q) && sym (eq-eqb x.generation g e.1) i) 1 0)
      where
        both : (b : Bool) → ◌≡◌ {A = ℕ} (cond b 1 0) (cond (b && true) 1 0)
        both true = refl
        both false = refl

    split : (0 < live p g xs → live q g (without_pass p g xs) + cond (p == q) 1 0 ≡ live q g xs) → (b : Bool) → (x.pid == p) && (x.generation == g) ≡ b → live q g (cond b xs (x ∷ without_pass p g xs)) + cond (p == q) 1 0 ≡ live q g (x ∷ xs)
    split rec true e = let h = hit (same e) in omega arith
    split rec false e =
        let more : 0 < live p g xs = subst (λ b. 0 < one b + live p g xs → 0 < live p g xs) (sym e) (λ k. omega arith) l in
        let h : live q g (without_pass p g xs) + cond (p == q) 1 0 ≡ live q g xs = rec more in omega arith

-- ---- facts of each pass

pub among_live : (p : Pass) (xs : List Pass) → Among p xs → 0 < live p.pid p.generation xs
among_live p [] a = absurd a
among_live p (x ∷ xs) (inl is) = subst (λ (y : Pass). 0 < live y.pid y.generation (x ∷ xs)) is (here (x.pid == x.pid) (x.generation == x.generation) (eq-eqb x.pid x.pid refl) (eq-eqb x.generation x.generation refl))
  where
    here : (a b : Bool) → a ≡ true → b ≡ true → 0 < cond (a && b) 1 0 + live x.pid x.generation xs
    here true true e f = omega arith
    here true false e f = absurd (cc)
    here false b e f = absurd (cc)
among_live p (x ∷ xs) (inr a) = let h : 0 < live p.pid p.generation xs = among_live p xs a in omega arith

pub among-snoc : (p : Pass) (xs : List Pass) → Among p (xs ++ p ∷ [])
among-snoc p [] = inl refl
among-snoc p (x ∷ xs) = inr (among-snoc p xs)

pub known_at : (K : Pass → Type 0) (g : ℕ) (p : Pass) (xs : List Pass) → AllKnown K g xs → Among p xs → p.generation ≡ g → K p
known_at K g p [] a in_ e = absurd in_
known_at K g p (x ∷ xs) a (inl is) e = subst K is (a.0 (ap (λ (y : Pass). y.generation) is ∙ e))
known_at K g p (x ∷ xs) a (inr in_) e = known_at K g p xs a.1 in_ e

pub known_snoc : (K : Pass → Type 0) (g : ℕ) (xs : List Pass) (p : Pass) → AllKnown K g xs → (p.generation ≡ g → K p) → AllKnown K g (xs ++ p ∷ [])
known_snoc K g [] p a k = (k, tt)
known_snoc K g (x ∷ xs) p a k = (a.0, known_snoc K g xs p a.1 k)

pub known_less : (K : Pass → Type 0) (g p h : ℕ) (xs : List Pass) → AllKnown K g xs → AllKnown K g (without_pass p h xs)
known_less K g p h [] a = tt
known_less K g p h (x ∷ xs) a = split ((x.pid == p) && (x.generation == h)) (known_less K g p h xs a.1)
  where
    split : (b : Bool) → AllKnown K g (without_pass p h xs) → AllKnown K g (cond b xs (x ∷ without_pass p h xs))
    split true r = a.1
    split false r = (a.0, r)

pub known_on : (K L : Pass → Type 0) (g : ℕ) (xs : List Pass) → ((p : Pass) → p.generation ≡ g → K p → L p) → AllKnown K g xs → AllKnown L g xs
known_on K L g [] f a = tt
known_on K L g (x ∷ xs) f a = ((λ e. f x e (a.0 e)), known_on K L g xs f a.1)

-- of a later generation there is none
pub known_later : (K : Pass → Type 0) (g : ℕ) (xs : List Pass) → AllUpTo g xs → AllKnown K (g + 1) xs
known_later K g [] a = tt
known_later K g (x ∷ xs) a = let le : x.generation ≤ g = a.0 in ((λ e. absurd (omega arith)), known_later K g xs a.1)

-- one of them is of no later generation
pub among_up_to : (g : ℕ) (p : Pass) (xs : List Pass) → AllUpTo g xs → Among p xs → p.generation ≤ g
among_up_to g p [] a in_ = absurd in_
among_up_to g p (x ∷ xs) a (inl is) = subst (λ (y : Pass). y.generation ≤ g) is a.0
among_up_to g p (x ∷ xs) a (inr in_) = among_up_to g p xs a.1 in_
