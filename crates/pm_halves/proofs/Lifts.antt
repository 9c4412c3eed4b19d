-- A step on a word of one part keeps the whole.
use Rattle.std.proofs.{Common.{◌≡◌, ℕ, zero, suc, ◌+◌, ◌<◌, List, [], ◌∷◌, ◌++◌, map, length, get_or, set, sym, refl, ap, ◌∙◌, subst, arith, length-append, length-set}, lemmas.List.{length-map, map-append}}
use mathlib.Core.Option.{Option, none, some, some-ne-none}
use lib.ListN.{get_elem?}
use Rattle.atomic_table.{specs.Table.{State, Me, Act, keeps, takes, gives, chain, carried_after, homes_after, Valid, Allows, Splits, Joins, opening}, proofs.Lists.{at_map, set_again}}
use Rattle.pm_halves.specs.{Halves.{kept_as, all_kept_as, carried_as, firsts, seconds, part, Halves}, Sitting.AllWithin}

-- ---- lists

module _ {A : Type 0} where
  set_left : (xs ys : List A) (i : ℕ) (a : A) → i < length xs → set (xs ++ ys) i a ≡ set xs i a ++ ys
  set_left [] ys i a h = absurd (omega arith)
  set_left (x ∷ xs) ys zero a h = refl
  set_left (x ∷ xs) ys (suc i) a h = ap (λ (l : List A). x ∷ l) (set_left xs ys i a (omega arith))

  set_right : (xs ys : List A) (i : ℕ) (a : A) → set (xs ++ ys) (length xs + i) a ≡ xs ++ set ys i a
  set_right [] ys i a = ap (λ (k : ℕ). set ys k a) (let e : 0 + i ≡ i = omega arith in e)
  set_right (x ∷ xs) ys i a = ap (λ (k : ℕ). set (x ∷ (xs ++ ys)) k a) (let e : suc (length xs) + i ≡ suc (length xs + i) = omega arith in e) ∙ ap (λ (l : List A). x ∷ l) (set_right xs ys i a)

  get_left : (xs ys : List A) (i : ℕ) (a : A) → i < length xs → get_or (xs ++ ys) i a ≡ get_or xs i a
  get_left [] ys i a h = absurd (omega arith)
  get_left (x ∷ xs) ys zero a h = refl
  get_left (x ∷ xs) ys (suc i) a h = get_left xs ys i a (omega arith)

  get_right : (xs ys : List A) (i : ℕ) (a : A) → get_or (xs ++ ys) (length xs + i) a ≡ get_or ys i a
  get_right [] ys i a = ap (λ (k : ℕ). get_or ys k a) (let e : 0 + i ≡ i = omega arith in e)
  get_right (x ∷ xs) ys i a = ap (λ (k : ℕ). get_or (x ∷ (xs ++ ys)) k a) (let e : suc (length xs) + i ≡ suc (length xs + i) = omega arith in e) ∙ get_right xs ys i a

  elem_left : (xs ys : List A) (i : ℕ) (a : A) → get_elem? xs i ≡ some a → get_elem? (xs ++ ys) i ≡ some a
  elem_left [] ys i a e = absurd (some-ne-none a (sym e))
  elem_left (x ∷ xs) ys zero a e = e
  elem_left (x ∷ xs) ys (suc i) a e = elem_left xs ys i a e

  elem_right : (xs ys : List A) (i : ℕ) (a : A) → get_elem? ys i ≡ some a → get_elem? (xs ++ ys) (length xs + i) ≡ some a
  elem_right [] ys i a e = ap (λ (k : ℕ). get_elem? ys k) (let e : 0 + i ≡ i = omega arith in e) ∙ e
  elem_right (x ∷ xs) ys i a e = ap (λ (k : ℕ). get_elem? (x ∷ (xs ++ ys)) k) (let e : suc (length xs) + i ≡ suc (length xs + i) = omega arith in e) ∙ elem_right xs ys i a e

  elem_below : (l : List A) (i : ℕ) (a : A) → get_elem? l i ≡ some a → i < length l
  elem_below [] i a e = absurd (some-ne-none a (sym e))
  elem_below (x ∷ xs) zero a e = omega arith
  elem_below (x ∷ xs) (suc i) a e = let h = elem_below xs i a e in omega arith

  map_set : {B : Type 0} (f : A → B) (l : List A) (i : ℕ) (a : A) → map f (set l i a) ≡ set (map f l) i (f a)
  map_set f [] i a = refl
  map_set f (x ∷ xs) zero a = refl
  map_set {B} f (x ∷ xs) (suc i) a = ap (λ (l : List B). f x ∷ l) (map_set f xs i a)

-- ---- what an act on one part is for the whole

module _ {X S : Type 0} (of : X → S) (n : ℕ) where
  -- a give where the seat has nothing of the part is none
  abbrev act_as : List (ℕ × X) → Act X → Act S
  act_as c keeps = keeps
  act_as c (takes k y) = takes (n + k) (of y)
  act_as [] gives = keeps
  act_as (x ∷ xs) gives = gives
  act_as c (chain a b) = chain (act_as c a) (act_as (carried_after c a) b)

  carried_so : (c : List (ℕ × X)) (a : Act X) (others : List (ℕ × S)) → carried_after (carried_as of n c ++ others) (act_as c a) ≡ carried_as of n (carried_after c a) ++ others
  carried_so c keeps others = refl
  carried_so c (takes k y) others = refl
  carried_so [] gives others = refl
  carried_so (x ∷ xs) gives others = refl
  carried_so c (chain a b) others = ap (λ (z : List (ℕ × S)). carried_after z (act_as (carried_after c a) b)) (carried_so c a others) ∙ carried_so (carried_after c a) b others

module _ {X S : Type 0} (of : X → S) where
  length_so : (hs : List (Option X)) (c : List (ℕ × X)) (a : Act X) → length (homes_after hs c a) ≡ length hs
  length_so hs c keeps = refl
  length_so hs c (takes k y) = length-set hs k none
  length_so hs [] gives = refl
  length_so hs (x ∷ xs) gives = length-set hs x.0 (some x.1)
  length_so hs c (chain a b) = length_so (homes_after hs c a) (carried_after c a) b ∙ length_so hs c a

  within_so : (hs : List (Option X)) (c : List (ℕ × X)) (a : Act X) → AllWithin (length hs) c → Valid hs c a → AllWithin (length hs) (carried_after c a)
  within_so hs c keeps all ok = all
  within_so hs c (takes k y) all ok = (elem_below hs k (some y) ok, all)
  within_so hs [] gives all ok = all
  within_so hs (x ∷ xs) gives all ok = all.1
  within_so hs c (chain a b) all ok =
      subst (λ (n : ℕ). AllWithin n (carried_after (carried_after c a) b)) (length_so hs c a) (within_so (homes_after hs c a) (carried_after c a) b (subst (λ (n : ℕ). AllWithin n (carried_after c a)) (sym (length_so hs c a)) (within_so hs c a all ok.0)) ok.1)

  length_kept : (hs : List (Option X)) → length (all_kept_as of hs) ≡ length hs
  length_kept hs = length-map hs (kept_as of)

  -- of the first part
  homes_first : (hs : List (Option X)) (more : List (Option S)) (c : List (ℕ × X)) (a : Act X) (others : List (ℕ × S)) → AllWithin (length hs) c → Valid hs c a
      → homes_after (all_kept_as of hs ++ more) (carried_as of 0 c ++ others) (act_as of 0 c a) ≡ all_kept_as of (homes_after hs c a) ++ more
  homes_first hs more c keeps others all ok = refl
  homes_first hs more c (takes k y) others all ok =
      let long = length_kept hs in let near : k < length (all_kept_as of hs) = subst (λ (z : ℕ). k < z) (sym long) (elem_below hs k (some y) ok) in
      ap (λ (i : ℕ). set (all_kept_as of hs ++ more) i none) (let e : 0 + k ≡ k = omega arith in e) ∙ (set_left (all_kept_as of hs) more k none near ∙ ap (λ (z : List (Option S)). z ++ more) (sym (map_set (kept_as of) hs k none)))
  homes_first hs more [] gives others all ok = refl
  homes_first hs more (x ∷ xs) gives others all ok =
      let long = length_kept hs in let near : x.0 < length (all_kept_as of hs) = subst (λ (z : ℕ). x.0 < z) (sym long) all.0 in
      ap (λ (i : ℕ). set (all_kept_as of hs ++ more) i (some (of x.1))) (let e : 0 + x.0 ≡ x.0 = omega arith in e) ∙ (set_left (all_kept_as of hs) more x.0 (some (of x.1)) near ∙ ap (λ (z : List (Option S)). z ++ more) (sym (map_set (kept_as of) hs x.0 (some x.1))))
  homes_first hs more c (chain a b) others all ok =
      let same = homes_first hs more c a others all ok.0 in
      (λ i. homes_after (same i) (carried_so of 0 c a others i) (act_as of 0 (carried_after c a) b))
      ∙ homes_first (homes_after hs c a) more (carried_after c a) b others (subst (λ (n : ℕ). AllWithin n (carried_after c a)) (sym (length_so hs c a)) (within_so hs c a all ok.0)) ok.1

  valid_first : (hs : List (Option X)) (more : List (Option S)) (c : List (ℕ × X)) (a : Act X) (others : List (ℕ × S)) → AllWithin (length hs) c → Valid hs c a
      → Valid (all_kept_as of hs ++ more) (carried_as of 0 c ++ others) (act_as of 0 c a)
  valid_first hs more c keeps others all ok = tt
  valid_first hs more c (takes k y) others all ok = ap (λ (i : ℕ). get_elem? (all_kept_as of hs ++ more) i) (let e : 0 + k ≡ k = omega arith in e) ∙ elem_left (all_kept_as of hs) more k (some (of y)) (at_map (kept_as of) hs k (some y) ok)
  valid_first hs more [] gives others all ok = tt
  valid_first hs more (x ∷ xs) gives others all ok = tt
  valid_first hs more c (chain a b) others all ok = (
    valid_first hs more c a others all ok.0,
    subst (λ (z : List (Option S) × List (ℕ × S)). Valid z.0 z.1 (act_as of 0 (carried_after c a) b)) (λ i. (sym (homes_first hs more c a others all ok.0) i, sym (carried_so of 0 c a others) i))
        (valid_first (homes_after hs c a) more (carried_after c a) b others (subst (λ (n : ℕ). AllWithin n (carried_after c a)) (sym (length_so hs c a)) (within_so hs c a all ok.0)) ok.1),
  )

  -- of the second part, after slots of the first
  homes_second : (before : List (Option S)) (hs : List (Option X)) (c : List (ℕ × X)) (a : Act X) (others : List (ℕ × S))
      → homes_after (before ++ all_kept_as of hs) (carried_as of (length before) c ++ others) (act_as of (length before) c a) ≡ before ++ all_kept_as of (homes_after hs c a)
  homes_second before hs c keeps others = refl
  homes_second before hs c (takes k y) others = set_right before (all_kept_as of hs) k none ∙ ap (λ (z : List (Option S)). before ++ z) (sym (map_set (kept_as of) hs k none))
  homes_second before hs [] gives others = refl
  homes_second before hs (x ∷ xs) gives others = set_right before (all_kept_as of hs) x.0 (some (of x.1)) ∙ ap (λ (z : List (Option S)). before ++ z) (sym (map_set (kept_as of) hs x.0 (some x.1)))
  homes_second before hs c (chain a b) others =
      let same = homes_second before hs c a others in
      (λ i. homes_after (same i) (carried_so of (length before) c a others i) (act_as of (length before) (carried_after c a) b))
      ∙ homes_second before (homes_after hs c a) (carried_after c a) b others

  valid_second : (before : List (Option S)) (hs : List (Option X)) (c : List (ℕ × X)) (a : Act X) (others : List (ℕ × S)) → Valid hs c a
      → Valid (before ++ all_kept_as of hs) (carried_as of (length before) c ++ others) (act_as of (length before) c a)
  valid_second before hs c keeps others ok = tt
  valid_second before hs c (takes k y) others ok = elem_right before (all_kept_as of hs) k (some (of y)) (at_map (kept_as of) hs k (some y) ok)
  valid_second before hs [] gives others ok = tt
  valid_second before hs (x ∷ xs) gives others ok = tt
  valid_second before hs c (chain a b) others ok = (
    valid_second before hs c a others ok.0,
    subst (λ (z : List (Option S) × List (ℕ × S)). Valid z.0 z.1 (act_as of (length before) (carried_after c a) b)) (λ i. (sym (homes_second before hs c a others) i, sym (carried_so of (length before) c a others) i))
        (valid_second before (homes_after hs c a) (carried_after c a) b others ok.1),
  )

module _ {X Y S V W : Type 0} (here : X → S) (there : Y → S) (count : ℕ → ℕ) (m : ℕ) (A : State X V → Type 0) (B : State Y W → Type 0) (Tied : List (V × W) → Type 0) where
  abbrev pub Whole : State S (V × W) → Type 0
  Whole = Halves here there count m A B Tied

  -- what a step on a word of the first part tells, at a seat that has these slots of it, the last of all that it has
  abbrev pub OnFirst : ℕ → (ℕ → Me X V → Type 0) → W → List (ℕ × S) → ℕ → Me S (V × W) → Type 0
  OnFirst n then u others found me =
      (v : V) × (c : List (ℕ × X)) × (me ≡ ((v, u), carried_as here 0 c ++ others)) × AllWithin n c × then found (v, c)

  -- and on one of the second part, whose first slot is the table's slot n; `tells` is what both parts tell together
  abbrev pub OnSecond : ℕ → (ℕ → W → Type 0) → (ℕ → Me Y W → Type 0) → V → List (ℕ × S) → ℕ → Me S (V × W) → Type 0
  OnSecond n tells then v others found me =
      (u : W) × (c : List (ℕ × Y)) × (me ≡ ((v, u), carried_as there n c ++ others)) × then found (u, c) × tells found u

  first_set : (vs : List (V × W)) (id : ℕ) (v' : V) (u : W) → firsts (set vs id (v', u)) ≡ set (firsts vs) id v'
  first_set vs id v' u = map_set (λ (z : V × W). z.0) vs id (v', u)

  second_set : (vs : List (V × W)) (id : ℕ) (v : V) (u' : W) → seconds (set vs id (v, u')) ≡ set (seconds vs) id u'
  second_set vs id v u' = map_set (λ (z : V × W). z.1) vs id (v, u')

  first_at : (vs : List (V × W)) (id : ℕ) (v : V) (u : W) → get_elem? vs id ≡ some (v, u) → get_elem? (firsts vs) id ≡ some v
  first_at vs id v u at = at_map (λ (z : V × W). z.0) vs id (v, u) at

  second_at : (vs : List (V × W)) (id : ℕ) (v : V) (u : W) → get_elem? vs id ≡ some (v, u) → get_elem? (seconds vs) id ≡ some u
  second_at vs id v u at = at_map (λ (z : V × W). z.1) vs id (v, u) at

  -- the views of the other part, where one seat's view of this part is new
  second_still : (vs : List (V × W)) (id : ℕ) (v v' : V) (u : W) → get_elem? vs id ≡ some (v, u) → seconds (set vs id (v', u)) ≡ seconds vs
  second_still vs id v v' u at = second_set vs id v' u ∙ set_again (seconds vs) id u (second_at vs id v u at)

  first_still : (vs : List (V × W)) (id : ℕ) (v : V) (u u' : W) → get_elem? vs id ≡ some (v, u) → firsts (set vs id (v, u')) ≡ firsts vs
  first_still vs id v u u' at = first_set vs id v u' ∙ set_again (firsts vs) id v (first_at vs id v u at)

  -- A step on the word i of the first part, of n slots. Behind it the views are still tied, by what the step tells.
  pub on_first : (n N id i : ℕ) (v : V) (u : W) (c : List (ℕ × X)) (others : List (ℕ × S)) (f : ℕ → ℕ) (then : ℕ → Me X V → Type 0)
      → Allows A n id (v, c) i f then
      → n + m ≡ N → i < count n → AllWithin n c
      → ((l : State X V) (vs : List (V × W)) → A l → l.views ≡ firsts vs → Tied vs → get_elem? vs id ≡ some (v, u) → (found : ℕ) (v' : V) (c' : List (ℕ × X)) → then found (v', c') → Tied (set vs id (v', u)))
      → Allows Whole N id ((v, u), carried_as here 0 c ++ others) i f (OnFirst n then u others)
  on_first n N id i v u c others f then may total near all ties s h wide_ at small =
      let long : length s.homes ≡ length h.homes + length h.more_homes = ap length h.homes_are ∙ (length-append (all_kept_as here h.homes) (all_kept_as there h.more_homes) ∙ (λ k. length_kept here h.homes k + length_kept there h.more_homes k)) in
      let slots : length h.homes ≡ n = (let e : length h.more_homes ≡ m = h.many in let w : length s.homes ≡ N = wide_ in omega arith) in
      let l : State X V = part h.words h.homes (firsts s.views) in
      let wide : length h.words ≡ count n = h.wide ∙ ap count slots in
      let in_l : i < length h.words = omega arith in
      let word : get_or s.words i 0 ≡ get_or h.words i 0 = ap (λ (z : List ℕ). get_or z i 0) h.words_are ∙ get_left h.words h.more_words i 0 in_l in
      let r = may l h.first slots (first_at s.views id v u at) (subst (λ (z : ℕ). z < 18446744073709551616) word small) in
      let v' : V = r.0 in let a : Act X = r.1 in let found : ℕ = get_or s.words i 0 in
      let within : AllWithin (length h.homes) c = subst (λ (z : ℕ). AllWithin z c) (sym slots) all in
      let then' : then found (v', carried_after c a) = subst (λ (z : ℕ). then z (v', carried_after c a)) (sym word) r.4 in (
        (v', u),
        act_as here 0 c a,
        subst (λ (z : List (Option S)). Valid z (carried_as here 0 c ++ others) (act_as here 0 c a)) (sym h.homes_are) (valid_first here h.homes (all_kept_as there h.more_homes) c a others within r.2),
        record {
          words = set h.words i (f (get_or h.words i 0));
          more_words = h.more_words;
          homes = homes_after h.homes c a;
          more_homes = h.more_homes;
          words_are = (λ k. set (h.words_are k) i (f (word k))) ∙ set_left h.words h.more_words i (f (get_or h.words i 0)) in_l;
          homes_are = ap (λ (z : List (Option S)). homes_after z (carried_as here 0 c ++ others) (act_as here 0 c a)) h.homes_are ∙ homes_first here h.homes (all_kept_as there h.more_homes) c a others within r.2;
          wide = length-set h.words i (f (get_or h.words i 0)) ∙ (h.wide ∙ ap count (sym (length_so here h.homes c a)));
          many = h.many;
          first = subst (λ (z : List V). A (part (set h.words i (f (get_or h.words i 0))) (homes_after h.homes c a) z)) (sym (first_set s.views id v' u)) r.3;
          second = subst (λ (z : List W). B (part h.more_words h.more_homes z)) (sym (second_still s.views id v v' u at)) h.second;
          tied = ties l s.views h.first refl h.tied at found v' (carried_after c a) then';
        },
        (v', carried_after c a, (λ k. ((v', u), carried_so here 0 c a others k)), subst (λ (z : ℕ). AllWithin z (carried_after c a)) slots (within_so here h.homes c a within r.2), then'),
      )

  -- A step on the word i of the second part, before whose words p others stand, and before whose slots n. What both parts tell together
  -- may be told after it.
  pub on_second : (n N id i at_ : ℕ) (v : V) (u : W) (c : List (ℕ × Y)) (others : List (ℕ × S)) (f : ℕ → ℕ) (then : ℕ → Me Y W → Type 0) (tells : ℕ → W → Type 0)
      → Allows B m id (u, c) i f then
      → n + m ≡ N → at_ ≡ count n + i
      → ((l : State X V) (k : State Y W) (vs : List (V × W)) → A l → l.views ≡ firsts vs → Tied vs → get_elem? vs id ≡ some (v, u) → (found : ℕ) (u' : W) (c' : List (ℕ × Y)) → B k → k.views ≡ set (seconds vs) id u' → then found (u', c') → Tied (set vs id (v, u')) × tells found u')
      → Allows Whole N id ((v, u), carried_as there n c ++ others) at_ f (OnSecond n tells then v others)
  on_second n N id i at_ v u c others f then tells may total place ties s h wide_ at small =
      let long : length s.homes ≡ length h.homes + length h.more_homes = ap length h.homes_are ∙ (length-append (all_kept_as here h.homes) (all_kept_as there h.more_homes) ∙ (λ k. length_kept here h.homes k + length_kept there h.more_homes k)) in
      let slots : length h.homes ≡ n = (let e : length h.more_homes ≡ m = h.many in let w : length s.homes ≡ N = wide_ in omega arith) in
      let l : State X V = part h.words h.homes (firsts s.views) in
      let before : List (Option S) = all_kept_as here h.homes in
      let before_is : length before ≡ n = length_kept here h.homes ∙ slots in
      let is : at_ ≡ length h.words + i = place ∙ ap (λ (z : ℕ). z + i) (sym (h.wide ∙ ap count slots)) in
      let word : get_or s.words at_ 0 ≡ get_or h.more_words i 0 = (λ k. get_or (h.words_are k) (is k) 0) ∙ get_right h.words h.more_words i 0 in
      let r = may (part h.more_words h.more_homes (seconds s.views)) h.second h.many (second_at s.views id v u at) (subst (λ (z : ℕ). z < 18446744073709551616) word small) in
      let u' : W = r.0 in let a : Act Y = r.1 in let found : ℕ = get_or s.words at_ 0 in
      let then' : then found (u', carried_after c a) = subst (λ (z : ℕ). then z (u', carried_after c a)) (sym word) r.4 in
      let tie = ties l (part (set h.more_words i (f (get_or h.more_words i 0))) (homes_after h.more_homes c a) (set (seconds s.views) id u')) s.views h.first refl h.tied at found u' (carried_after c a) r.3 refl then' in (
        (v, u'),
        act_as there n c a,
        subst (λ (z : List (Option S)). Valid z (carried_as there n c ++ others) (act_as there n c a)) (sym h.homes_are)
            (subst (λ (z : ℕ). Valid (before ++ all_kept_as there h.more_homes) (carried_as there z c ++ others) (act_as there z c a)) before_is (valid_second there before h.more_homes c a others r.2)),
        record {
          words = h.words;
          more_words = set h.more_words i (f (get_or h.more_words i 0));
          homes = h.homes;
          more_homes = homes_after h.more_homes c a;
          words_are = (λ k. set (h.words_are k) (is k) (f (word k))) ∙ set_right h.words h.more_words i (f (get_or h.more_words i 0));
          homes_are = ap (λ (z : List (Option S)). homes_after z (carried_as there n c ++ others) (act_as there n c a)) h.homes_are
              ∙ subst (λ (z : ℕ). homes_after (before ++ all_kept_as there h.more_homes) (carried_as there z c ++ others) (act_as there z c a) ≡ before ++ all_kept_as there (homes_after h.more_homes c a)) before_is (homes_second there before h.more_homes c a others);
          wide = h.wide;
          many = length_so there h.more_homes c a ∙ h.many;
          first = subst (λ (z : List V). A (part h.words h.homes z)) (sym (first_still s.views id v u u' at)) h.first;
          second = subst (λ (z : List W). B (part (set h.more_words i (f (get_or h.more_words i 0))) (homes_after h.more_homes c a) z)) (sym (second_set s.views id v u')) r.3;
          tied = tie.0;
        },
        (u', carried_after c a, (λ k. ((v, u'), carried_so there n c a others k)), then', tie.1),
      )

  -- a seat that is cut in two in both parts
  pub both_split : (id : ℕ) (v left right : V) (u left' right' : W) → Splits A id v left right → Splits B id u left' right'
      → ((vs : List (V × W)) → Tied vs → get_elem? vs id ≡ some (v, u) → Tied (set vs id (left, left') ++ (right, right') ∷ []))
      → Splits Whole id (v, u) (left, left') (right, right')
  both_split id v left right u left' right' one two ties s h at = record {
    words = h.words;
    more_words = h.more_words;
    homes = h.homes;
    more_homes = h.more_homes;
    words_are = h.words_are;
    homes_are = h.homes_are;
    wide = h.wide;
    many = h.many;
    first = subst (λ (z : List V). A (part h.words h.homes z)) (sym (map-append (λ (z : V × W). z.0) (set s.views id (left, left')) ((right, right') ∷ []) ∙ ap (λ (z : List V). z ++ right ∷ []) (first_set s.views id left left'))) (one (part h.words h.homes (firsts s.views)) h.first (first_at s.views id v u at));
    second = subst (λ (z : List W). B (part h.more_words h.more_homes z)) (sym (map-append (λ (z : V × W). z.1) (set s.views id (left, left')) ((right, right') ∷ []) ∙ ap (λ (z : List W). z ++ right' ∷ []) (second_set s.views id left left'))) (two (part h.more_words h.more_homes (seconds s.views)) h.second (second_at s.views id v u at));
    tied = ties s.views h.tied at;
  }

  -- a seat that takes in another's in both
  pub both_join : (id other : ℕ) (v w both spent : V) (u x both' spent' : W) → Joins A id v other w both spent → Joins B id u other x both' spent'
      → ((vs : List (V × W)) → Tied vs → get_elem? vs id ≡ some (v, u) → ¬ (other ≡ id) → get_elem? (set vs id (both, both')) other ≡ some (w, x) → Tied (set (set vs id (both, both')) other (spent, spent')))
      → Joins Whole id (v, u) other (w, x) (both, both') (spent, spent')
  both_join id other v w both spent u x both' spent' one two ties s h at apart at' =
      let near : get_elem? (set (firsts s.views) id both) other ≡ some w = subst (λ (z : List V). get_elem? z other ≡ some w) (first_set s.views id both both') (first_at (set s.views id (both, both')) other w x at') in
      let near' : get_elem? (set (seconds s.views) id both') other ≡ some x = subst (λ (z : List W). get_elem? z other ≡ some x) (second_set s.views id both both') (second_at (set s.views id (both, both')) other w x at') in
      record {
        words = h.words;
        more_words = h.more_words;
        homes = h.homes;
        more_homes = h.more_homes;
        words_are = h.words_are;
        homes_are = h.homes_are;
        wide = h.wide;
        many = h.many;
        first = subst (λ (z : List V). A (part h.words h.homes z)) (sym (first_set (set s.views id (both, both')) other spent spent' ∙ ap (λ (z : List V). set z other spent) (first_set s.views id both both')))
            (one (part h.words h.homes (firsts s.views)) h.first (first_at s.views id v u at) apart near);
        second = subst (λ (z : List W). B (part h.more_words h.more_homes z)) (sym (second_set (set s.views id (both, both')) other spent spent' ∙ ap (λ (z : List W). set z other spent') (second_set s.views id both both')))
            (two (part h.more_words h.more_homes (seconds s.views)) h.second (second_at s.views id v u at) apart near');
        tied = ties s.views h.tied at apart at';
      }

  -- the whole at the start, of both parts at theirs
  pub both_open : (ws ws' : List ℕ) (xs : List X) (ys : List Y) (v : V) (u : W) → length ws ≡ count (length xs) → length ys ≡ m → A (opening ws xs v) → B (opening ws' ys u) → Tied ((v, u) ∷ [])
      → Whole (opening (ws ++ ws') (map here xs ++ map there ys) (v, u))
  both_open ws ws' xs ys v u wide many one two tie = record {
    words = ws;
    more_words = ws';
    homes = map some xs;
    more_homes = map some ys;
    words_are = refl;
    homes_are = map-append some (map here xs) (map there ys) ∙ (λ k. kept_all here xs k ++ kept_all there ys k);
    wide = wide ∙ ap count (sym (length-map xs some));
    many = length-map ys some ∙ many;
    first = one;
    second = two;
    tied = tie;
  }
    where
      kept_all : {Z : Type 0} (of : Z → S) (zs : List Z) → map some (map of zs) ≡ all_kept_as of (map some zs)
      kept_all of [] = refl
      kept_all of (z ∷ zs) = ap (λ (l : List (Option S)). some (of z) ∷ l) (kept_all of zs)
