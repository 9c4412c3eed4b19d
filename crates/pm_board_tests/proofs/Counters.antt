-- Each step of two counters in one table keeps the rule of its part and what ties them.
use Rattle.std.{proofs.Common.{◌≡◌, ℕ, zero, suc, ◌+◌, ◌<◌, ◌≤◌, ◌==◌, List, [], ◌∷◌, ◌++◌, set, slice_index, sym, refl, ap, ◌∙◌, subst, arith}, specs.Prelude.{Option, Some, None}}
use mathlib.Core.Option.{none, some, some-ne-none, some-injective}
use mathlib.Core.Option as maybe
use prog.Atomic.{either}
use lib.ListN.{get_elem?}
use Rattle.atomic_table.specs.Table.{State, Me, step, keeps, takes, gives, Allows}
use Rattle.pm_halves.specs.{Sitting.{Laid, Sitting}, Steps.StaysTied, Places.{told_of_take, told_of_give, MayTake, MayGive, StaysTiedBy, HasTaken}}
use Rattle.pm_board_tests.specs.{declared.second.Second.{Second, TheVariants.{Fresh, Home, Held}}, TwoCounters.{CountsFirst, CountsSecond, IsAt, number_of, IsOneBefore, AreTied, Reads, Counts, HasTakenFrom, Takes, Gives}}

-- the one there is
only : {A : Type 0} (l : List A) (x y : A) (id : ℕ) → l ≡ x ∷ [] → get_elem? l id ≡ some y → (id ≡ 0) × (x ≡ y)
only l x y id e at = go id (sym (ap (λ (z : List _). get_elem? z id) e) ∙ at)
  where
    go : (id : ℕ) → get_elem? (x ∷ []) id ≡ some y → (id ≡ 0) × (x ≡ y)
    go zero same = (refl, some-injective x y same)
    go (suc i) none_there = absurd (some-ne-none y (sym none_there))

-- ---- the first counter

reads_it : (slots id v : ℕ) → Allows CountsFirst slots id (v, []) 0 (λ n. n) (Reads (step slots 0 0 0 none) (v, []))
reads_it slots id v s h wide at small =
    let o = only s.views h.0 v id h.3 at in let word : slice_index s.words 0 ≡ v = ap (λ l. slice_index l 0) h.1 ∙ o.1 in
    (v, keeps, tt, (v, (λ i. set (h.1 i) 0 (slice_index (h.1 i) 0)) ∙ ap (λ n. n ∷ []) o.1, h.2, (λ i. set (h.3 i) (o.0 i) v)), (word, refl))

pub reads : (slots id v : ℕ) (me : Me (Option ℕ) ℕ) → me ≡ (v, []) → Allows CountsFirst slots id me 0 (λ n. n) (Reads (step slots 0 0 0 none) me)
reads slots id v me e = subst (λ (x : Me (Option ℕ) ℕ). Allows CountsFirst slots id x 0 (λ n. n) (Reads (step slots 0 0 0 none) x)) (sym e) (reads_it slots id v)

counts_it : (slots id v k : ℕ) → Allows CountsFirst slots id (v, []) 0 (λ _. k) (λ _. Counts (step slots 0 k 0 none) (v, []) k)
counts_it slots id v k s h wide at small =
    let o = only s.views h.0 v id h.3 at in (k, keeps, tt, (k, (λ i. set (h.1 i) 0 k), h.2, (λ i. set (h.3 i) (o.0 i) k)), refl)

pub counts : (slots id v k : ℕ) (me : Me (Option ℕ) ℕ) → me ≡ (v, []) → Allows CountsFirst slots id me 0 (λ _. k) (λ _. Counts (step slots 0 k 0 none) me k)
counts slots id v k me e = subst (λ (x : Me (Option ℕ) ℕ). Allows CountsFirst slots id x 0 (λ _. k) (λ _. Counts (step slots 0 k 0 none) x k)) (sym e) (counts_it slots id v k)

-- ---- the second

at_seat : (s : State (Option ℕ) Second) (id : ℕ) (w : Second) → CountsSecond s → get_elem? s.views id ≡ some w → (id ≡ 0) × IsAt w s.words s.homes × (s.views ≡ w ∷ [])
at_seat s id w h at = let o = only s.views h.0 w id h.2 at in (o.0, subst (λ x. IsAt x s.words s.homes) o.1 h.1, h.2 ∙ ap (λ x. x ∷ []) o.1)

takes_it : (id : ℕ) (w : Second) → Allows CountsSecond 1 id (w, []) 0 (λ n. either (n == 0) 1 n) (told_of_take Takes 1 0 1 w)
takes_it id Fresh s h wide at small =
    let o = at_seat s id Fresh h at in
    (Held 0, takes 0 None, ap (λ l. get_elem? l 0) o.1.1, (Held 0, ((λ i. set (o.1.0 i) 0 (either (slice_index (o.1.0 i) 0 == 0) 1 (slice_index (o.1.0 i) 0))), (λ i. set (o.1.1 i) 0 none)), (λ i. set (o.2 i) (o.0 i) (Held 0))), (ap (λ l. slice_index l 0) o.1.0, refl))
takes_it id (Home n) s h wide at small =
    let o = at_seat s id (Home n) h at in
    (Held n, takes 0 (Some n), ap (λ l. get_elem? l 0) o.1.1, (Held n, ((λ i. set (o.1.0 i) 0 (either (slice_index (o.1.0 i) 0 == 0) 1 (slice_index (o.1.0 i) 0))), (λ i. set (o.1.1 i) 0 none)), (λ i. set (o.2 i) (o.0 i) (Held n))), (ap (λ l. slice_index l 0) o.1.0, refl))
takes_it id (Held n) s h wide at small =
    let o = at_seat s id (Held n) h at in
    (Held n, keeps, tt, (Held n, ((λ i. set (o.1.0 i) 0 (either (slice_index (o.1.0 i) 0 == 0) 1 (slice_index (o.1.0 i) 0))), o.1.1), (λ i. set (o.2 i) (o.0 i) (Held n))), (ap (λ l. slice_index l 0) o.1.0, refl))

is_take : (w : Second) (found : ℕ) (me : Me (Option ℕ) Second) → HasTakenFrom w found me → (found ≡ 0 → (y : Option ℕ) × (me.1 ≡ (0, y) ∷ [])) × (¬ (found ≡ 0) → me.1 ≡ [])
is_take Fresh found me t = ((λ _. (None, ap (λ x. x.1) t.1)), (λ ne. absurd (ne t.0)))
is_take (Home n) found me t = ((λ _. (Some n, ap (λ x. x.1) t.1)), (λ ne. absurd (ne t.0)))
is_take (Held n) found me t = ((λ z. absurd (let no : 0 ≡ 1 = sym z ∙ t.0 in omega arith)), (λ _. ap (λ x. x.1) t.1))

pub may_take : (id : ℕ) (w : Second) → MayTake (λ (_ : Unit {0}). CountsSecond) 1 tt id w 0 1 (told_of_take Takes 1 0 1 w)
may_take id w = (omega arith, takes_it id w, is_take w)

gives_it : (id held n : ℕ) → MayGive (λ (_ : Unit {0}). CountsSecond) 1 tt id (Held held) 0 (Some n) (told_of_give Gives 1 0 (Held held) (Some n))
gives_it id held n = (
  omega arith,
  (λ s h wide at small. let o = at_seat s id (Held held) h at in (Home n, gives, tt, (Home n, ((λ i. set (o.1.0 i) 0 0), (λ i. set (o.1.1 i) 0 (some (Some n)))), (λ i. set (o.2 i) (o.0 i) (Home n))), refl)),
  (λ found me t. ap (λ x. x.1) t),
)

pub may_give : (id held n : ℕ) (w : Second) → w ≡ Held held → MayGive (λ (_ : Unit {0}). CountsSecond) 1 tt id w 0 (Some n) (told_of_give Gives 1 0 w (Some n))
may_give id held n w e = subst (λ (x : Second). MayGive (λ (_ : Unit {0}). CountsSecond) 1 tt id x 0 (Some n) (told_of_give Gives 1 0 x (Some n))) (sym e) (gives_it id held n)

-- what a take came to
abbrev value_or : Option ℕ → List (ℕ × Option ℕ) → Option ℕ
value_or y [] = y
value_or y (c ∷ cs) = c.1

pub took : (n : ℕ) (tells : ℕ → Second → Type 0) (y : Option ℕ) (before now : Me (Option ℕ) Second) → before ≡ (Home n, []) → HasTaken (told_of_take Takes 1 0 1 before.0) tells 0 None (Some y) before now → (y ≡ Some n) × (now ≡ (Held n, (0, None) ∷ []))
took n tells y before now e t =
    let told : HasTakenFrom (Home n) 0 (now.0, (0, y) ∷ []) = subst (λ (w : Second). HasTakenFrom w 0 (now.0, (0, y) ∷ [])) (ap (λ x. x.0) e) t.0 in
    let list : now.1 ≡ (0, None) ∷ [] = t.2 ∙ ap (λ x. x.1 ++ (0, None) ∷ []) e in
    (ap (λ x. value_or y x.1) told.1, λ i. (ap (λ x. x.0) told.1 i, list i))

pub took_fresh : (tells : ℕ → Second → Type 0) (y : Option ℕ) (before now : Me (Option ℕ) Second) → before ≡ (Fresh, []) → HasTaken (told_of_take Takes 1 0 1 before.0) tells 0 None (Some y) before now → now ≡ (Held 0, (0, None) ∷ [])
took_fresh tells y before now e t =
    let told : HasTakenFrom Fresh 0 (now.0, (0, y) ∷ []) = subst (λ (w : Second). HasTakenFrom w 0 (now.0, (0, y) ∷ [])) (ap (λ x. x.0) e) t.0 in
    let list : now.1 ≡ (0, None) ∷ [] = t.2 ∙ ap (λ x. x.1 ++ (0, None) ∷ []) e in λ i. (ap (λ x. x.0) told.1 i, list i)

-- it comes to something where the seat hasn't the number
pub took_some : (w : Second) (tells : ℕ → Second → Type 0) (before now : Me (Option ℕ) Second) → before ≡ (w, []) → ((n : ℕ) → ¬ (w ≡ Held n)) → HasTaken (told_of_take Takes 1 0 1 before.0) tells 0 None None before now → ⊥
took_some w tells before now e out t = go w out (subst (λ (x : Second). HasTakenFrom x t.0 (now.0, [])) (ap (λ x. x.0) e) t.2)
  where
    go : (w : Second) → ((n : ℕ) → ¬ (w ≡ Held n)) → HasTakenFrom w t.0 (now.0, []) → ⊥
    go Fresh out told = t.1 told.0
    go (Home n) out told = t.1 told.0
    go (Held n) out told = out n refl

-- ---- what ties them

still_tied : (views : List (ℕ × Second)) (id v v' : ℕ) (w w' : Second) → AreTied views → get_elem? views id ≡ some (v, w) → IsOneBefore v' w' → AreTied (set views id (v', w'))
still_tied views id v v' w w' t at near = let o = only views (t.0, t.1) (v, w) id t.2 at in (v', w', (λ i. set (t.2 i) (o.0 i) (v', w')), near)

near_at : (views : List (ℕ × Second)) (id v : ℕ) (w : Second) → AreTied views → get_elem? views id ≡ some (v, w) → IsOneBefore v w
near_at views id v w t at = let o = only views (t.0, t.1) (v, w) id t.2 at in subst (λ (x : ℕ × Second). IsOneBefore x.0 x.1) o.1 t.3

-- after a step of the first counter
pub first_tied : (l : Laid (Unit {0})) (z : Sitting (Option ℕ) (Option ℕ) ℕ Second) (then : ℕ → Me (Option ℕ) ℕ → Type 0) → ((found : ℕ) (me : Me (Option ℕ) ℕ) → IsOneBefore z.me.0 z.more.0 → then found me → IsOneBefore me.0 z.more.0) → StaysTied (λ (_ : Unit {0}). CountsFirst) AreTied l z then
first_tied l z then near s views r is t at found me told = still_tied views z.id z.me.0 me.0 z.more.0 z.more.0 t at (near found me (near_at views z.id z.me.0 z.more.0 t at) told)

same_number : (w : Second) (found : ℕ) (me : Me (Option ℕ) Second) → HasTakenFrom w found me → number_of me.0 ≡ number_of w
same_number Fresh found me t = ap (λ x. number_of x.0) t.1
same_number (Home n) found me t = ap (λ x. number_of x.0) t.1
same_number (Held n) found me t = ap (λ x. number_of x.0) t.1

pub take_tied : (l : Laid (Unit {0})) (z : Sitting (Option ℕ) (Option ℕ) ℕ Second) → StaysTiedBy (λ (_ : Unit {0}). CountsFirst) (λ (_ : Unit {0}). CountsSecond) AreTied l z (told_of_take Takes 1 0 1 z.more.0) (λ _ w. IsOneBefore z.me.0 w)
take_tied l z s s' views r is t at found me r' is' told =
    let near : IsOneBefore z.me.0 z.more.0 = near_at views z.id z.me.0 z.more.0 t at in
    let same : number_of z.more.0 ≡ number_of me.0 = sym (same_number z.more.0 found me told) in
    let near' : IsOneBefore z.me.0 me.0 = subst (λ n. (z.me.0 ≤ n) × (n ≤ z.me.0 + 1)) same near in
    (still_tied views z.id z.me.0 z.me.0 z.more.0 me.0 t at near', near')

pub give_tied : (l : Laid (Unit {0})) (z : Sitting (Option ℕ) (Option ℕ) ℕ Second) (n : ℕ) → IsOneBefore z.me.0 (Home n) → StaysTiedBy (λ (_ : Unit {0}). CountsFirst) (λ (_ : Unit {0}). CountsSecond) AreTied l z (told_of_give Gives 1 0 z.more.0 (Some n)) (λ _ w. IsOneBefore z.me.0 w)
give_tied l z n near s s' views r is t at found me r' is' told =
    let near' : IsOneBefore z.me.0 me.0 = subst (λ (x : Second). IsOneBefore z.me.0 x) (sym (ap (λ (x : Me (Option ℕ) Second). x.0) told)) near in
    (still_tied views z.id z.me.0 z.me.0 z.more.0 me.0 t at near', near')

pub number : {n m : ℕ} → Some n ≡ Some m → n ≡ m
number e = cc

pub at_one : (n first : ℕ) (w : Second) → first ≡ n → w ≡ Home n → IsOneBefore first w
at_one n first w first_is w_is = subst (λ (x : Second). IsOneBefore first x) (sym w_is) (omega arith, omega arith)
