-- So many items, one after another.
use Rattle.std.{proofs.{Common.{◌≡◌, ℕ, zero, suc, List, [], ◌∷◌, ◌++◌, length, Ok, refl, sym, ap, subst, ◌∙◌}, lemmas.List.Concat.flat_map-cons}, specs.List.flat_map}
use Rattle.pm_record.{specs.{Reading.{Read, ◌>>=◌}, Repeated.items_at}, proofs.{Words.Begins, Readers.{Reading, Behind, Spelled, same_words, field_then, done_reads, made_reads, one_word}}}

-- each may stand where it does, and after the last may what has to
abbrev pub MayAll : {X State : Type 0} → (ℕ → State → X → Type 0) → (State → X → State) → (ℕ → State → Type 0) → ℕ → State → List X → Type 0
MayAll May next Can zero state [] = Can zero state
MayAll May next Can zero state (x ∷ xs) = ⊥
MayAll May next Can (suc n) state [] = ⊥
MayAll May next Can (suc n) state (x ∷ xs) = May n state x × MayAll May next Can n (next state x) xs

abbrev pub counted_bytes : {X : Type 0} → (ℕ → List ℕ) → (X → List ℕ) → List X → List ℕ
counted_bytes spell_count spell xs = spell_count (length xs) ++ flat_map spell xs

module _ {X State : Type 0} (spell : X → List ℕ) (May : ℕ → State → X → Type 0) (next : State → X → State) (Can : ℕ → State → Type 0) (item_at : ℕ → State → List ℕ → Read X)
    (item_reads : (n : ℕ) (state : State) → Can (suc n) state → Reading (Spelled (May n state) spell) (item_at n state))
    (some : (n : ℕ) (state : State) → Can (suc n) state → (x : X) × May n state x)
    (on : (n : ℕ) (state : State) (x : X) → May n state x → Can n (next state x)) where
  abbrev AllMay : ℕ → State → List X → Type 0
  AllMay n state xs = MayAll May next Can n state xs

  abbrev pub spell_all : List X → List ℕ
  spell_all xs = flat_map spell xs

  pub all_some : (n : ℕ) (state : State) → Can n state → (xs : List X) × AllMay n state xs
  all_some zero state can = ([], can)
  all_some (suc n) state can = let x = some n state can in let xs = all_some n (next state x.0) (on n state x.0 x.1) in (x.0 ∷ xs.0, (x.1, xs.1))

  nothing : (state : State) (xs : List X) (word : List ℕ) → Spelled (AllMay zero state) spell_all xs word → (xs ≡ []) × (word ≡ [])
  nothing state [] word is = (refl, is.1)
  nothing state (x ∷ xs) word is = absurd is.0

  first_item : (n : ℕ) (state : State) (xs : List X) (word : List ℕ) → Spelled (AllMay (suc n) state) spell_all xs word → (x : X) × (behind : List ℕ) × May n state x × (word ≡ spell x ++ behind)
  first_item n state [] word is = absurd is.0
  first_item n state (x ∷ xs) word is = (x, spell_all xs, is.0.0, is.1 ∙ flat_map-cons spell x xs)

  others : (n : ℕ) (state : State) (x : X) (can : Can (suc n) state) (ys : List X) (word : List ℕ) → May n state x → Spelled (AllMay (suc n) state) spell_all ys (spell x ++ word)
      → (xs : List X) × Spelled (AllMay n (next state x)) spell_all xs word × (ys ≡ x ∷ xs)
  others n state x can [] word may is = absurd is.0
  others n state x can (y ∷ ys) word may is =
      let o = one_word (Begins (Spelled (May n state) spell)) (Spelled (May n state) spell) (item_at n state) (item_reads n state can) x y (spell x) (spell y) word (spell_all ys) (may, refl) (is.0.0, refl) (is.1 ∙ flat_map-cons spell y ys) in
      (ys, (subst (λ (t : X). AllMay n (next state t) ys) (sym o.0) is.0.1, o.1), ap (λ (t : X). t ∷ ys) (sym o.0))

  pub items_reads : (n : ℕ) (state : State) → Can n state → Reading (Spelled (AllMay n state) spell_all) (items_at item_at next n state)
  items_reads zero state can = done_reads [] (Spelled (AllMay zero state) spell_all) (can, refl) (nothing state)
  items_reads (suc n) state can = field_then (May n state) spell (item_at n state) (Spelled (AllMay (suc n) state) spell_all) (λ x bytes. items_at item_at next n (next state x) bytes >>= λ p. Ok (x ∷ p.0, p.1))
      (item_reads n state can)
      (λ x may. made_reads (Spelled (AllMay n (next state x)) spell_all) (Behind (Spelled (AllMay (suc n) state) spell_all) (spell x)) (items_at item_at next n (next state x)) (λ xs. x ∷ xs)
      (items_reads n (next state x) (on n state x may))
      (λ xs word is. ((may, is.0), ap (λ (t : List ℕ). spell x ++ t) is.1 ∙ sym (flat_map-cons spell x xs)))
      (λ ys word is. others n state x can ys word may is))
      (first_item n state)
      (λ x may. let xs = all_some n (next state x) (on n state x may) in (x ∷ xs.0, spell_all xs.0, ((may, xs.1), sym (flat_map-cons spell x xs.0))))

  -- ---- as many as a number in front says

  all_long : (n : ℕ) (state : State) (xs : List X) → AllMay n state xs → length xs ≡ n
  all_long zero state [] all = refl
  all_long zero state (x ∷ xs) all = absurd all
  all_long (suc n) state [] all = absurd all
  all_long (suc n) state (x ∷ xs) all = ap suc (all_long n (next state x) xs all.1)

  module _ (MayCount : ℕ → Type 0) (spell_count : ℕ → List ℕ) (count_at : List ℕ → Read ℕ) (count_reads : Reading (Spelled MayCount spell_count) count_at)
      (state : State) (can : (n : ℕ) → MayCount n → Can n state) (MayList : List X → Type 0)
      (to : (xs : List X) → MayCount (length xs) → MayAll May next Can (length xs) state xs → MayList xs)
      (from : (xs : List X) → MayList xs → MayCount (length xs) × MayAll May next Can (length xs) state xs) where
    abbrev listed : List X → List ℕ
    listed = counted_bytes spell_count spell

    same_count : (n : ℕ) → MayCount n → (xs : List X) (word : List ℕ) → Behind (Spelled MayList listed) (spell_count n) xs word → (n ≡ length xs) × (word ≡ spell_all xs)
    same_count n may xs word is = one_word (Begins (Spelled MayCount spell_count)) (Spelled MayCount spell_count) count_at count_reads n (length xs) (spell_count n) (spell_count (length xs)) word (spell_all xs) (may, refl) ((from xs is.0).0, refl) is.1

    pub counted_reads : Reading (Spelled MayList listed) (λ bytes. count_at bytes >>= λ p. items_at item_at next p.0 state p.1)
    counted_reads = field_then MayCount spell_count count_at (Spelled MayList listed) (λ n bytes. items_at item_at next n state bytes) count_reads
        (λ n may. same_words (Spelled (AllMay n state) spell_all) (Behind (Spelled MayList listed) (spell_count n)) (items_at item_at next n state) (items_reads n state (can n may))
        (λ xs word is.
        let long = all_long n state xs is.0 in
        (to xs (subst MayCount (sym long) may) (subst (λ (k : ℕ). AllMay k state xs) (sym long) is.0), ap (λ (t : List ℕ). spell_count n ++ t) is.1 ∙ ap (λ (k : ℕ). spell_count k ++ spell_all xs) (sym long)))
        (λ xs word is.
        let o = same_count n may xs word is in
        (subst (λ (k : ℕ). AllMay k state xs) (sym o.0) (from xs is.0).1, o.1)))
        (λ xs word is. (length xs, spell_all xs, (from xs is.0).0, is.1))
        (λ n may.
        let a = all_some n state (can n may) in
        let long = all_long n state a.0 a.1 in
        (a.0, spell_all a.0, (to a.0 (subst MayCount (sym long) may) (subst (λ (k : ℕ). AllMay k state a.0) (sym long) a.1), ap (λ (k : ℕ). spell_count k ++ spell_all a.0) (sym long))))

-- ---- two fields that don't hang on one another

abbrev pub MayPair : {A B : Type 0} → (A → Type 0) → (B → Type 0) → A × B → Type 0
MayPair May MayToo pair = May pair.0 × MayToo pair.1

abbrev pub pair_bytes : {A B : Type 0} → (A → List ℕ) → (B → List ℕ) → A × B → List ℕ
pair_bytes spell spell_too pair = spell pair.0 ++ spell_too pair.1

abbrev pub pair_at : {A B : Type 0} → (List ℕ → Read A) → (List ℕ → Read B) → List ℕ → Read (A × B)
pair_at read read_too bytes = read bytes >>= λ a. read_too a.1 >>= λ b. Ok ((a.0, b.0), b.1)

module _ {A B : Type 0} (May : A → Type 0) (spell : A → List ℕ) (read : List ℕ → Read A) (MayToo : B → Type 0) (spell_too : B → List ℕ) (read_too : List ℕ → Read B)
    (first : Reading (Spelled May spell) read) (second : Reading (Spelled MayToo spell_too) read_too) (some : (b : B) × MayToo b) where
  abbrev PairIs : A × B → List ℕ → Type 0
  PairIs = Spelled (MayPair May MayToo) (pair_bytes spell spell_too)

  pub pair_reads : Reading (Spelled (MayPair May MayToo) (pair_bytes spell spell_too)) (pair_at read read_too)
  pair_reads = field_then May spell read PairIs (λ a bytes. read_too bytes >>= λ b. Ok ((a, b.0), b.1)) first
      (λ a may. made_reads (Spelled MayToo spell_too) (Behind PairIs (spell a)) read_too (λ b. (a, b)) second
      (λ b word is. ((may, is.0), ap (λ (t : List ℕ). spell a ++ t) is.1))
      (λ pair word is.
      let o = one_word (Begins (Spelled May spell)) (Spelled May spell) read first a pair.0 (spell a) (spell pair.0) word (spell_too pair.1) (may, refl) (is.0.0, refl) is.1 in
      (pair.1, (is.0.1, o.1), λ i. (sym o.0 i, pair.1))))
      (λ pair word is. (pair.0, spell_too pair.1, is.0.0, is.1))
      (λ a may. ((a, some.0), spell_too some.0, ((may, some.1), refl)))
