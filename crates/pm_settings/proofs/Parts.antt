-- Parts of lexemes that are read one after another.
use Rattle.std.{proofs.{Common.{◌≡◌, ℕ, zero, suc, ◌+◌, ◌<◌, Bool, true, false, cond, List, [], ◌∷◌, ◌++◌, length, get_or, take, Option, Some, None, codes, append_assoc, refl, sym, ap, ◌∙◌, true≢false, arith}, lemmas.List.{append-nil, take_more}}, specs.List.filter}
use Rattle.pm_settings.specs.{declared.lexeme.Lexeme.Lexeme, Statements.{is_filled, joined}, Reading.{both, all_of, is_empty}}

both_more : {B : Type 0} (first : Option B) (more : Option (List B)) → more ≡ None → both first more ≡ None
both_more None more e = refl
both_more (Some first) more e = ap (both (Some first)) e

-- one more at the end
pub all_of-push : {A B : Type 0} (read : A → Option B) (xs : List A) (ys : List B) (x : A) (y : B) → all_of read xs ≡ Some ys → read x ≡ Some y → all_of read (xs ++ x ∷ []) ≡ Some (ys ++ y ∷ [])
all_of-push {B = B} read [] [] x y e f = ap (λ o. both o (Some [])) f
all_of-push read [] (z ∷ zs) x y e f = cc e
all_of-push {B = B} read (w ∷ xs) ys x y e f = by_parts (λ zs g. all_of-push read xs zs x y g f) (read w) (all_of read xs) ys refl refl e where
  by_parts : ((zs : List B) → all_of read xs ≡ Some zs → all_of read (xs ++ x ∷ []) ≡ Some (zs ++ y ∷ [])) → (first : Option B) (more : Option (List B)) (ys : List B) → read w ≡ first → all_of read xs ≡ more → both first more ≡ Some ys → both (read w) (all_of read (xs ++ x ∷ [])) ≡ Some (ys ++ y ∷ [])
  by_parts others None more ys g h i = cc i
  by_parts others (Some first) None ys g h i = cc i
  by_parts others (Some first) (Some more) [] g h i = cc i
  by_parts others (Some first) (Some more) (z ∷ zs) g h i =
      let one : first ≡ z = cc i in
      let rest : more ≡ zs = cc i in
      ap (λ o. both o (all_of read (xs ++ x ∷ []))) (g ∙ ap Some one) ∙ ap (both (Some z)) (others zs (h ∙ ap Some rest))

-- one that stands for nothing
pub all_of-none : {A B : Type 0} (read : A → Option B) (xs : List A) (i : ℕ) (x : A) → i < length xs → x ≡ get_or xs i x → read x ≡ None → all_of read xs ≡ None
all_of-none read [] i x within e f = absurd (omega (arith, within))
all_of-none read (w ∷ xs) zero x within e f = ap (λ o. both o (all_of read xs)) (ap read (sym e) ∙ f)
all_of-none read (w ∷ xs) (suc i) x within e f = both_more (read w) (all_of read xs) (all_of-none read xs i x (omega (arith, within)) e f)

-- ---- of those that aren't empty

filled_is : (part : List Lexeme) → is_empty part ≡ false → is_filled part ≡ true
filled_is [] e = absurd (true≢false e)
filled_is (lexeme ∷ part) e = refl

hollow_is : (part : List Lexeme) → is_empty part ≡ true → is_filled part ≡ false
hollow_is [] e = refl
hollow_is (lexeme ∷ part) e = absurd (true≢false (sym e))

filter-push : {A : Type 0} (test : A → Bool) (xs : List A) (x : A) (b : Bool) → test x ≡ b → filter test (xs ++ x ∷ []) ≡ filter test xs ++ cond b (x ∷ []) []
filter-push test [] x true e = ap (λ t. cond t (x ∷ []) []) e
filter-push test [] x false e = ap (λ t. cond t (x ∷ []) []) e
filter-push test (w ∷ xs) x b e = by_test (filter-push test xs x b e) (test w) where
  by_test : filter test (xs ++ x ∷ []) ≡ filter test xs ++ cond b (x ∷ []) [] → (t : Bool) → cond t (w ∷ filter test (xs ++ x ∷ [])) (filter test (xs ++ x ∷ [])) ≡ cond t (w ∷ filter test xs) (filter test xs) ++ cond b (x ∷ []) []
  by_test others true = ap (λ l. w ∷ l) others
  by_test others false = others

pub filled-skip : {B : Type 0} (read : List Lexeme → Option B) (parts : List (List Lexeme)) (ys : List B) (part : List Lexeme) → all_of read (filter is_filled parts) ≡ Some ys → is_empty part ≡ true
    → all_of read (filter is_filled (parts ++ part ∷ [])) ≡ Some ys
filled-skip read parts ys part e empty = ap (all_of read) (filter-push is_filled parts part false (hollow_is part empty) ∙ append-nil (filter is_filled parts)) ∙ e

pub filled-push : {B : Type 0} (read : List Lexeme → Option B) (parts : List (List Lexeme)) (ys : List B) (part : List Lexeme) (y : B) → all_of read (filter is_filled parts) ≡ Some ys → is_empty part ≡ false → read part ≡ Some y
    → all_of read (filter is_filled (parts ++ part ∷ [])) ≡ Some (ys ++ y ∷ [])
filled-push read parts ys part y e filled f =
    ap (all_of read) (filter-push is_filled parts part true (filled_is part filled)) ∙ all_of-push read (filter is_filled parts) ys part y e f

pub filled-none : {B : Type 0} (read : List Lexeme → Option B) (parts : List (List Lexeme)) (i : ℕ) (part : List Lexeme) → i < length parts → part ≡ get_or parts i part → is_empty part ≡ false → read part ≡ None
    → all_of read (filter is_filled parts) ≡ None
filled-none read [] i part within e filled f = absurd (omega (arith, within))
filled-none read (w ∷ parts) zero part within e filled f =
    ap (λ t. all_of read (cond t (w ∷ filter is_filled parts) (filter is_filled parts))) (ap is_filled (sym e) ∙ filled_is part filled)
    ∙ ap (λ o. both o (all_of read (filter is_filled parts))) (ap read (sym e) ∙ f)
filled-none read (w ∷ parts) (suc i) part within e filled f = by_test (is_filled w) (filled-none read parts i part (omega (arith, within)) e filled f) where
  by_test : (t : Bool) → all_of read (filter is_filled parts) ≡ None → all_of read (cond t (w ∷ filter is_filled parts) (filter is_filled parts)) ≡ None
  by_test true rest = both_more (read w) (all_of read (filter is_filled parts)) rest
  by_test false rest = rest

-- ---- values as one text

regroup : (a b comma c : List ℕ) → a ++ ((b ++ comma) ++ c) ≡ ((a ++ b) ++ comma) ++ c
regroup a b comma c = simp append_assoc

joined_more : (first : List ℕ) (values : List (List ℕ)) (value : List ℕ) → joined (first ∷ (values ++ value ∷ [])) ≡ (joined (first ∷ values) ++ codes ", ") ++ value
joined_more first [] value = refl
joined_more first (next ∷ values) value = ap (λ text. (first ++ codes ", ") ++ text) (joined_more next values value) ∙ regroup (first ++ codes ", ") (joined (next ∷ values)) (codes ", ") value

pub joined_first : (values : List (List ℕ)) (i : ℕ) (value : List ℕ) → i < length values → value ≡ get_or values i value → i ≡ 0 → joined (take i values) ++ value ≡ joined (take (i + 1) values)
joined_first [] i value within e none = absurd (omega (arith, within))
joined_first (first ∷ values) zero value within e none = e
joined_first (first ∷ values) (suc i) value within e none = absurd (omega (arith, none))

pub joined_next : (values : List (List ℕ)) (i : ℕ) (value : List ℕ) → i < length values → value ≡ get_or values i value → 0 < i → (joined (take i values) ++ codes ", ") ++ value ≡ joined (take (i + 1) values)
joined_next [] i value within e some = absurd (omega (arith, within))
joined_next (first ∷ values) zero value within e some = absurd (omega (arith, some))
joined_next (first ∷ values) (suc i) value within e some =
    sym (joined_more first (take i values) value)
    ∙ ap joined (ap (λ v. take (suc i) (first ∷ values) ++ v ∷ []) e ∙ sym (take_more (first ∷ values) (suc i) value within))
