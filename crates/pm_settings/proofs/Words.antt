-- Words at the front of lexemes.
use Rattle.std.{proofs.{Common.{◌≡◌, ℕ, ◌+◌, ◌<◌, Bool, true, false, cond, List, [], ◌∷◌, ◌++◌, map, length, get_or, drop, Option, Some, None, bytes_eq, refl, sym, ap, ◌∙◌, true≢false}, lemmas.{Bool.eqb-true, List.{append-nil, at_drop_more}, Option.same_Some, Slice.Eq.bytes_eq-Decides}}, specs.{List.AllZip, Option.option_map}}
use Rattle.pm_settings.specs.{declared.lexeme.Lexeme.{Lexeme, TheVariants.{Word, Digits, Quoted, Mark}}, Lexemes.{is_word, is_mark}, Reading.{choose, both, all_of, is_empty, after_words, is_end, are_words}}

-- ---- parts

pub chose_some : {A B : Type 0} (found : Option A) (x : A) (read : A → Option B) (others : Option B) → Some x ≡ found → choose found read others ≡ read x
chose_some found x read others e = ap (λ f. choose f read others) (sym e)

pub chose_none : {A B : Type 0} (found : Option A) (read : A → Option B) (others : Option B) → None ≡ found → choose found read others ≡ others
chose_none found read others e = ap (λ f. choose f read others) (sym e)

pub when_true : {B : Type 0} (b : Bool) (x others : B) → true ≡ b → cond b x others ≡ x
when_true b x others e = ap (λ t. cond t x others) (sym e)

pub when_false : {B : Type 0} (b : Bool) (x others : B) → false ≡ b → cond b x others ≡ others
when_false b x others e = ap (λ t. cond t x others) (sym e)

-- by what was read
pub chosen : {A B P : Type 0} (found : Option A) (read : A → Option B) (others : Option B) (y : B) → ((x : A) → found ≡ Some x → read x ≡ Some y → P) → (others ≡ Some y → P) → choose found read others ≡ Some y → P
chosen None read others y some none e = none e
chosen (Some x) read others y some none e = some x refl e

pub tested : {B P : Type 0} (b : Bool) (x others : Option B) (y : B) → (b ≡ true → x ≡ Some y → P) → (others ≡ Some y → P) → cond b x others ≡ Some y → P
tested true x others y holds fails e = holds refl e
tested false x others y holds fails e = fails e

pub mapped : {A B P : Type 0} (f : A → B) (found : Option A) (y : B) → ((x : A) → found ≡ Some x → f x ≡ y → P) → option_map f found ≡ Some y → P
mapped f None y some e = cc e
mapped f (Some x) y some e = some x refl (same_Some (f x) y e)

-- what is read of each
pub zip_of_all : {A B : Type 0} (read : A → Option B) (R : A → B → Type 0) → ((x : A) (y : B) → read x ≡ Some y → R x y) → (xs : List A) (ys : List B) → all_of read xs ≡ Some ys → AllZip R xs ys
zip_of_all read R is [] [] e = tt
zip_of_all read R is [] (y ∷ ys) e = cc e
zip_of_all {B = B} read R is (x ∷ xs) ys e = by_parts (λ zs f. zip_of_all read R is xs zs f) (read x) (all_of read xs) ys refl refl e where
  by_parts : ((zs : List B) → all_of read xs ≡ Some zs → AllZip R xs zs) → (first : Option B) (more : Option (List B)) (ys : List B) → read x ≡ first → all_of read xs ≡ more → both first more ≡ Some ys → AllZip R (x ∷ xs) ys
  by_parts others None more ys f g h = cc h
  by_parts others (Some y) None ys f g h = cc h
  by_parts others (Some y) (Some rest) [] f g h = cc h
  by_parts others (Some y) (Some rest) (z ∷ zs) f g h =
      let first : y ≡ z = cc h in
      let same : rest ≡ zs = cc h in
      (is x z (f ∙ ap Some first), others zs (g ∙ ap Some same))

pub all_of_zip : {A B : Type 0} (read : A → Option B) (R : A → B → Type 0) → ((x : A) (y : B) → R x y → read x ≡ Some y) → (xs : List A) (ys : List B) → AllZip R xs ys → all_of read xs ≡ Some ys
all_of_zip read R is [] [] zip = refl
all_of_zip read R is [] (y ∷ ys) zip = absurd zip
all_of_zip read R is (x ∷ xs) [] zip = absurd zip
all_of_zip read R is (x ∷ xs) (y ∷ ys) zip = ap (λ f. both f (all_of read xs)) (is x y zip.0) ∙ ap (both (Some y)) (all_of_zip read R is xs ys zip.1)

pub cond_same : {A : Type 0} (b : Bool) (x : A) → cond b x x ≡ x
cond_same true x = refl
cond_same false x = refl

pub empty_is : (lexemes : List Lexeme) → is_empty lexemes ≡ true → lexemes ≡ []
empty_is [] e = refl
empty_is (lexeme ∷ lexemes) e = absurd (true≢false (sym e))

-- ---- lexemes

pub same_bytes : (xs ys : List ℕ) → bytes_eq xs ys ≡ true → xs ≡ ys
same_bytes xs ys e = (bytes_eq-Decides xs ys).0 e

pub other_bytes : (xs ys : List ℕ) → (xs ≡ ys → ⊥) → bytes_eq xs ys ≡ false
other_bytes xs ys other = by_test (bytes_eq xs ys) refl where
  by_test : (b : Bool) → bytes_eq xs ys ≡ b → b ≡ false
  by_test true e = absurd (other (same_bytes xs ys e))
  by_test false e = refl

pub word_is : (letters : List ℕ) (lexeme : Lexeme) → is_word letters lexeme ≡ true → lexeme ≡ Word letters
word_is letters (Word own) e = ap Word (same_bytes own letters e)
word_is letters (Digits digits) e = absurd (true≢false (sym e))
word_is letters (Quoted content) e = absurd (true≢false (sym e))
word_is letters (Mark byte) e = absurd (true≢false (sym e))

pub is_that_word : (letters : List ℕ) → is_word letters (Word letters) ≡ true
is_that_word letters = (bytes_eq-Decides letters letters).1 refl

pub mark_is : (byte : ℕ) (lexeme : Lexeme) → is_mark byte lexeme ≡ true → lexeme ≡ Mark byte
mark_is byte (Word letters) e = absurd (true≢false (sym e))
mark_is byte (Digits digits) e = absurd (true≢false (sym e))
mark_is byte (Quoted content) e = absurd (true≢false (sym e))
mark_is byte (Mark own) e = ap Mark (eqb-true own byte e)

-- ---- words in front

pub after_words_is : (words : List (List ℕ)) (lexemes rest : List Lexeme) → after_words words lexemes ≡ Some rest → lexemes ≡ map Word words ++ rest
after_words_is [] lexemes rest e = same_Some lexemes rest e
after_words_is (word ∷ words) [] rest e = cc e
after_words_is (word ∷ words) (lexeme ∷ lexemes) rest e = by_test (λ h. after_words_is words lexemes rest h) (is_word word lexeme) refl e where
  by_test : (after_words words lexemes ≡ Some rest → lexemes ≡ map Word words ++ rest) → (b : Bool) → is_word word lexeme ≡ b → cond b (after_words words lexemes) None ≡ Some rest → lexeme ∷ lexemes ≡ Word word ∷ (map Word words ++ rest)
  by_test others true f h = ap (λ l. l ∷ lexemes) (word_is word lexeme f) ∙ ap (λ ls. Word word ∷ ls) (others h)
  by_test others false f h = cc h

pub after_words_front : (words : List (List ℕ)) (rest : List Lexeme) → after_words words (map Word words ++ rest) ≡ Some rest
after_words_front [] rest = refl
after_words_front (word ∷ words) rest = ap (λ b. cond b (after_words words (map Word words ++ rest)) None) (is_that_word word) ∙ after_words_front words rest

pub words_are : (words : List (List ℕ)) (lexemes : List Lexeme) → are_words words lexemes ≡ true → lexemes ≡ map Word words
words_are words lexemes = by_rest (after_words words lexemes) refl where
  by_rest : (found : Option (List Lexeme)) → after_words words lexemes ≡ found → is_end found ≡ true → lexemes ≡ map Word words
  by_rest None e h = absurd (true≢false (sym h))
  by_rest (Some rest) e h = after_words_is words lexemes rest e ∙ ap (λ r. map Word words ++ r) (empty_is rest h) ∙ append-nil (map Word words)

pub are_those_words : (words : List (List ℕ)) → are_words words (map Word words) ≡ true
are_those_words words = ap (are_words words) (sym (append-nil (map Word words))) ∙ ap is_end (after_words_front words [])

pub other_words : (words : List (List ℕ)) (lexemes : List Lexeme) → (lexemes ≡ map Word words → ⊥) → are_words words lexemes ≡ false
other_words words lexemes other = by_test (are_words words lexemes) refl where
  by_test : (b : Bool) → are_words words lexemes ≡ b → b ≡ false
  by_test true e = absurd (other (words_are words lexemes e))
  by_test false e = refl

-- the first word, and then the others
pub first_word : (word : List ℕ) (words : List (List ℕ)) (lexemes : List Lexeme) → after_words (word ∷ words) lexemes ≡ choose (after_words (word ∷ []) lexemes) (after_words words) None
first_word word words [] = refl
first_word word words (lexeme ∷ lexemes) = by_test (is_word word lexeme) where
  by_test : (b : Bool) → cond b (after_words words lexemes) None ≡ choose (cond b (Some lexemes) None) (after_words words) None
  by_test true = refl
  by_test false = refl

-- of the words from this place on
pub word_there : (words : List (List ℕ)) (i : ℕ) (word : List ℕ) (lexemes : List Lexeme) → (i < length words) × (word ≡ get_or words i word)
    → after_words (drop i words) lexemes ≡ choose (after_words (word ∷ []) lexemes) (after_words (drop (i + 1) words)) None
word_there words i word lexemes there =
    at_drop_more (λ ws. after_words ws lexemes) words i word there.0 ∙ ap (λ w. after_words (w ∷ drop (i + 1) words) lexemes) (sym there.1) ∙ first_word word (drop (i + 1) words) lexemes
