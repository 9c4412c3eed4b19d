-- The tokens of a text, from its front on.
use Rattle.std.{proofs.{Common.{◌≡◌, ℕ, suc, ◌+◌, Bool, true, false, cond, ◌==◌, ◌&&◌, IsTrue, List, [], ◌∷◌, ◌++◌, map, take, drop, length, Option, Some, None, bytes_eq, refl, sym, ap, ◌∙◌, subst, true≢false, take-append-drop, arith}, lemmas.{Bool.{and_parts, and_from, Decides.nat_tests}, Slice.Eq.bytes_eq-Decides}, Math.Dec.eqb-zero-suc}, specs.{List.{list_all, prefix_len}, Char.{is_ascii_whitespace, is_ascii_lowercase, to_ascii_lowercase}}}
use Rattle.pm_sql.specs.{Tokens.{skipped, is_word_byte, starts_with_letter}, Token.{Token, Word, Digits, Quoted, Mark, begins_with, IsWhite, IsFront}}
use Rattle.pm_xact.specs.Reading.{with_letter, tokens_of, is_blank, is_keyword, after_word, after_comma, after_semicolons, is_end}

-- ---- bytes

word_isnt_white : (b : ℕ) → is_word_byte b ≡ true → is_ascii_whitespace b ≡ false
word_isnt_white b e = grind (arith, nat_tests, e)

word_isnt_blank : (b : ℕ) → is_word_byte b ≡ true → is_blank b ≡ false
word_isnt_blank b e = grind (arith, nat_tests, e)

one-more : (n : ℕ) → 1 + n ≡ suc n
one-more n = omega arith

-- ---- how far elements pass

pub front_passes : (p : ℕ → Bool) (s : List ℕ) → IsTrue (list_all p (take (prefix_len p s) s))
front_passes p [] = refl
front_passes p (b ∷ bs) =
    elim (p b) as (λ t. p b ≡ t → IsTrue (list_all p (take (cond t (1 + prefix_len p bs) 0) (b ∷ bs)))) [
      | true ↦ λ e. rw (one-more, e) (front_passes p bs)
      | false ↦ λ e. refl
    ] refl

pub rest_stops : (p : ℕ → Bool) (s : List ℕ) → begins_with p (drop (prefix_len p s) s) ≡ false
rest_stops p [] = refl
rest_stops p (b ∷ bs) =
    elim (p b) as (λ t. p b ≡ t → begins_with p (drop (cond t (1 + prefix_len p bs) 0) (b ∷ bs)) ≡ false) [
      | true ↦ λ e. rw one-more (rest_stops p bs)
      | false ↦ λ e. e
    ] refl

-- ---- a byte, and the tokens after it

-- the tokens at a byte that isn't white space
abbrev black : ℕ → List ℕ → Bool → List Token
black b rest is_word = cond is_word (with_letter (to_ascii_lowercase b) (begins_with is_word_byte rest) (tokens_of rest)) (Mark b ∷ tokens_of rest)

at_white : (b : ℕ) (rest : List ℕ) → is_ascii_whitespace b ≡ true → tokens_of (b ∷ rest) ≡ tokens_of rest
unfolding tokens_of
at_white b rest e = ap (λ t. cond t (tokens_of rest) (black b rest (is_word_byte b))) e

at_letter : (b : ℕ) (rest : List ℕ) → is_word_byte b ≡ true → tokens_of (b ∷ rest) ≡ with_letter (to_ascii_lowercase b) (begins_with is_word_byte rest) (tokens_of rest)
unfolding tokens_of
at_letter b rest e = ap (λ t. cond t (tokens_of rest) (black b rest (is_word_byte b))) (word_isnt_white b e) ∙ ap (black b rest) e

pub at_mark : (b : ℕ) (rest : List ℕ) → is_ascii_whitespace b ≡ false → is_word_byte b ≡ false → tokens_of (b ∷ rest) ≡ Mark b ∷ tokens_of rest
unfolding tokens_of
at_mark b rest white word = ap (λ t. cond t (tokens_of rest) (black b rest (is_word_byte b))) white ∙ ap (black b rest) word

no_tokens : tokens_of [] ≡ []
unfolding tokens_of
no_tokens = refl

-- ---- white space

white_before : (space here : List ℕ) → IsWhite space → tokens_of (space ++ here) ≡ tokens_of here
white_before [] here white = refl
white_before (b ∷ space) here white = let both = and_parts (is_ascii_whitespace b) (list_all is_ascii_whitespace space) white in at_white b (space ++ here) both.0 ∙ white_before space here both.1

pub after_white : (text : List ℕ) → tokens_of (skipped text) ≡ tokens_of text
after_white text =
    let n = prefix_len is_ascii_whitespace text in
    sym (ap tokens_of (sym (take-append-drop n text)) ∙ white_before (take n text) (drop n text) (front_passes is_ascii_whitespace text))

-- ---- the token that stands in front

run : (b : ℕ) (bs rest : List ℕ) → IsTrue (list_all is_word_byte (b ∷ bs)) → begins_with is_word_byte rest ≡ false → tokens_of ((b ∷ bs) ++ rest) ≡ Word (map to_ascii_lowercase (b ∷ bs)) ∷ tokens_of rest
run b [] rest all ends = let both = and_parts (is_word_byte b) true all in at_letter b rest both.0 ∙ ap (λ t. with_letter (to_ascii_lowercase b) t (tokens_of rest)) ends
run b (c ∷ cs) rest all ends =
    let both = and_parts (is_word_byte b) (list_all is_word_byte (c ∷ cs)) all in
    let next = and_parts (is_word_byte c) (list_all is_word_byte cs) both.1 in
    at_letter b ((c ∷ cs) ++ rest) both.0
    ∙ ap (λ t. with_letter (to_ascii_lowercase b) t (tokens_of ((c ∷ cs) ++ rest))) next.0
    ∙ ap (with_letter (to_ascii_lowercase b) true) (run c cs rest both.1 ends)

pub word_front : (text letters rest : List ℕ) → IsFront text (Word letters) rest → tokens_of text ≡ Word (map to_ascii_lowercase letters) ∷ tokens_of rest
word_front text [] rest is = absurd (true≢false (sym is.made.0))
word_front text (b ∷ bs) rest is = ap tokens_of is.split ∙ white_before is.space ((b ∷ bs) ++ rest) is.white ∙ run b bs rest is.made.1 is.ends

pub mark_front : (text : List ℕ) (b : ℕ) (rest : List ℕ) → IsFront text (Mark b) rest → tokens_of text ≡ Mark b ∷ tokens_of rest
mark_front text b rest is = ap tokens_of is.split ∙ white_before is.space (b ∷ rest) is.white ∙ at_mark b rest is.made.1 is.made.2

-- a word up to its end
pub run_front : (b : ℕ) (bs : List ℕ) → is_word_byte b ≡ true → let n = prefix_len is_word_byte (b ∷ bs) in tokens_of (b ∷ bs) ≡ Word (map to_ascii_lowercase (take n (b ∷ bs))) ∷ tokens_of (drop n (b ∷ bs))
run_front b bs e =
    let n = prefix_len is_word_byte bs in
    let len : prefix_len is_word_byte (b ∷ bs) ≡ suc n = ap (λ t. cond t (1 + n) 0) e ∙ one-more n in
    let all = and_from (is_word_byte b) (list_all is_word_byte (take n bs)) e (front_passes is_word_byte bs) in
    let whole = ap (λ x. tokens_of (b ∷ x)) (sym (take-append-drop n bs)) ∙ run b (take n bs) (drop n bs) all (rest_stops is_word_byte bs) in
    subst (λ k. tokens_of (b ∷ bs) ≡ Word (map to_ascii_lowercase (take k (b ∷ bs))) ∷ tokens_of (drop k (b ∷ bs))) (sym len) whole

-- ---- what a search finds

no_keyword : (word : List ℕ) → IsTrue (is_keyword word) → bytes_eq [] word ≡ false
no_keyword [] is = absurd (true≢false (sym is))
no_keyword (w ∷ ws) is = refl

-- what a word is compared with, and what is left then
abbrev found_at : List ℕ → List ℕ → ℕ → Option (List Token)
found_at word here n = cond (bytes_eq (map to_ascii_lowercase (take n here)) word) (Some (tokens_of (drop n here))) None

keyword_here : (word here : List ℕ) → IsTrue (is_keyword word) → begins_with is_ascii_whitespace here ≡ false → after_word word (tokens_of here) ≡ found_at word here (prefix_len is_word_byte here)
keyword_here word [] is none = ap (after_word word) no_tokens ∙ sym (ap (λ t. cond t (Some (tokens_of [])) None) (no_keyword word is))
keyword_here word (b ∷ bs) is none =
    elim (is_word_byte b) as (λ t. is_word_byte b ≡ t → after_word word (tokens_of (b ∷ bs)) ≡ found_at word (b ∷ bs) (prefix_len is_word_byte (b ∷ bs))) [
      | true ↦ λ e. ap (after_word word) (run_front b bs e)
      | false ↦ λ e.
          ap (after_word word) (at_mark b bs none e) ∙ sym (ap (λ t. found_at word (b ∷ bs) (cond t (1 + prefix_len is_word_byte bs) 0)) e ∙ ap (λ t. cond t (Some (tokens_of (b ∷ bs))) None) (no_keyword word is))
    ] refl

pub keyword_found : (word text : List ℕ) → IsTrue (is_keyword word) → after_word word (tokens_of text) ≡ found_at word (skipped text) (prefix_len is_word_byte (skipped text))
keyword_found word text is = ap (after_word word) (sym (after_white text)) ∙ keyword_here word (skipped text) is (rest_stops is_ascii_whitespace text)

-- a keyword is in lower case
letters_stay : (word : List ℕ) → IsTrue (list_all is_ascii_lowercase word) → map to_ascii_lowercase word ≡ word
letters_stay [] all = refl
letters_stay (w ∷ ws) all =
    let both = and_parts (is_ascii_lowercase w) (list_all is_ascii_lowercase ws) all in
    let own : to_ascii_lowercase w ≡ w = grind (arith, nat_tests, both.0) in
    ap (λ letter. letter ∷ map to_ascii_lowercase ws) own ∙ ap (λ letters. w ∷ letters) (letters_stay ws both.1)

pub keyword_stays : (word : List ℕ) → IsTrue (is_keyword word) → map to_ascii_lowercase word ≡ word
keyword_stays word is = letters_stay word (and_parts (starts_with_letter word) (list_all is_ascii_lowercase word) is).1

-- the front is the word, or isn't
pub word_found : (word text : List ℕ) → IsTrue (is_keyword word) → let n = prefix_len is_word_byte (skipped text) in map to_ascii_lowercase (take n (skipped text)) ≡ word → after_word word (tokens_of text) ≡ Some (tokens_of (drop n (skipped text)))
word_found word text is same =
    let n = prefix_len is_word_byte (skipped text) in
    keyword_found word text is ∙ ap (λ t. cond t (Some (tokens_of (drop n (skipped text)))) None) ((bytes_eq-Decides (map to_ascii_lowercase (take n (skipped text))) word).1 same)

pub word_missed : (word text : List ℕ) → IsTrue (is_keyword word) → let n = prefix_len is_word_byte (skipped text) in (map to_ascii_lowercase (take n (skipped text)) ≡ word → ⊥) → after_word word (tokens_of text) ≡ None
word_missed word text is other =
    let n = prefix_len is_word_byte (skipped text) in
    let front = map to_ascii_lowercase (take n (skipped text)) in
    keyword_found word text is ∙ elim (bytes_eq front word) as (λ t. bytes_eq front word ≡ t → cond t (Some (tokens_of (drop n (skipped text)))) None ≡ None) [
      | true ↦ λ e. absurd (other ((bytes_eq-Decides front word).0 e))
      | false ↦ λ e. refl
    ] refl

-- ---- a comma

pub comma_found : (rest : List ℕ) → after_comma (tokens_of (44 ∷ rest)) ≡ tokens_of rest
comma_found rest = ap after_comma (at_mark 44 rest refl refl)

no_comma_in : (letter : ℕ) (goes_on : Bool) (tokens : List Token) → after_comma (with_letter letter goes_on tokens) ≡ with_letter letter goes_on tokens
no_comma_in letter false tokens = refl
no_comma_in letter true [] = refl
no_comma_in letter true (Word letters ∷ tokens) = refl
no_comma_in letter true (Digits digits ∷ tokens) = refl
no_comma_in letter true (Quoted content ∷ tokens) = refl
no_comma_in letter true (Mark byte ∷ tokens) = refl

pub no_comma : (here : List ℕ) → begins_with is_ascii_whitespace here ≡ false → begins_with (λ b. b == 44) here ≡ false → after_comma (tokens_of here) ≡ tokens_of here
no_comma [] none other = ap after_comma no_tokens ∙ sym no_tokens
no_comma (b ∷ bs) none other =
    elim (is_word_byte b) as (λ t. is_word_byte b ≡ t → after_comma (tokens_of (b ∷ bs)) ≡ tokens_of (b ∷ bs)) [
      | true ↦ λ e. ap after_comma (at_letter b bs e) ∙ no_comma_in (to_ascii_lowercase b) (begins_with is_word_byte bs) (tokens_of bs) ∙ sym (at_letter b bs e)
      | false ↦ λ e. ap after_comma (at_mark b bs none e) ∙ ap (λ t. cond t (tokens_of bs) (Mark b ∷ tokens_of bs)) other ∙ sym (at_mark b bs none e)
    ] refl

-- no comma comes after white space
pub no_comma_here : (text here : List ℕ) → here ≡ skipped text → begins_with (λ b. b == 44) here ≡ false → tokens_of here ≡ after_comma (tokens_of text)
no_comma_here text here e other =
    let none = subst (λ h. begins_with is_ascii_whitespace h ≡ false) (sym e) (rest_stops is_ascii_whitespace text) in
    sym (no_comma here none other) ∙ ap (λ h. after_comma (tokens_of h)) e ∙ ap after_comma (after_white text)

pub isnt_comma : (b : ℕ) → (b ≡ 44 → ⊥) → (b == 44) ≡ false
isnt_comma b other = grind (arith, nat_tests, other)

-- ---- semicolons

letter_stays : (letter : ℕ) (goes_on : Bool) (tokens : List Token) → after_semicolons (with_letter letter goes_on tokens) ≡ with_letter letter goes_on tokens
letter_stays letter false tokens = refl
letter_stays letter true [] = refl
letter_stays letter true (Word letters ∷ tokens) = refl
letter_stays letter true (Digits digits ∷ tokens) = refl
letter_stays letter true (Quoted content ∷ tokens) = refl
letter_stays letter true (Mark byte ∷ tokens) = refl

letter_is_no_end : (letter : ℕ) (goes_on : Bool) (tokens : List Token) → is_end (with_letter letter goes_on tokens) ≡ false
letter_is_no_end letter false tokens = refl
letter_is_no_end letter true [] = refl
letter_is_no_end letter true (Word letters ∷ tokens) = refl
letter_is_no_end letter true (Digits digits ∷ tokens) = refl
letter_is_no_end letter true (Quoted content ∷ tokens) = refl
letter_is_no_end letter true (Mark byte ∷ tokens) = refl

-- a byte is white space, a semicolon, of a word or another
data Kind : ℕ → Type 0 where
  white : {b : ℕ} → is_ascii_whitespace b ≡ true → Kind b
  semicolon : {b : ℕ} → is_ascii_whitespace b ≡ false → is_word_byte b ≡ false → b == 59 ≡ true → Kind b
  letter : {b : ℕ} → is_word_byte b ≡ true → Kind b
  other : {b : ℕ} → is_ascii_whitespace b ≡ false → is_word_byte b ≡ false → b == 59 ≡ false → Kind b

kind_of : (b : ℕ) → Kind b
kind_of b = by_tests (is_ascii_whitespace b) (is_word_byte b) (b == 59) refl refl refl where
  by_tests : (w l s : Bool) → is_ascii_whitespace b ≡ w → is_word_byte b ≡ l → b == 59 ≡ s → Kind b
  by_tests true l s ew el es = white ew
  by_tests false true s ew el es = letter el
  by_tests false false true ew el es = semicolon ew el es
  by_tests false false false ew el es = other ew el es

-- what a byte at the front is to the semicolons there
white_is_blank : (b : ℕ) → is_ascii_whitespace b ≡ true → is_blank b ≡ true
white_is_blank b e = grind (arith, nat_tests, e)

semicolon_is_blank : (b : ℕ) → b == 59 ≡ true → is_blank b ≡ true
semicolon_is_blank b e = grind (arith, nat_tests, e)

other_isnt_blank : (b : ℕ) → is_ascii_whitespace b ≡ false → b == 59 ≡ false → is_blank b ≡ false
other_isnt_blank b e f = grind (arith, nat_tests, e, f)

pub semicolons_skipped : (text : List ℕ) → tokens_of (drop (prefix_len is_blank text) text) ≡ after_semicolons (tokens_of text)
semicolons_skipped [] = no_tokens ∙ sym (ap after_semicolons no_tokens)
semicolons_skipped (b ∷ bs) = by_kind (kind_of b) (semicolons_skipped bs) where
  Rest : Type 0
  Rest = tokens_of (drop (prefix_len is_blank bs) bs) ≡ after_semicolons (tokens_of bs)

  Skips : Bool → Type 0
  Skips blank = tokens_of (drop (cond blank (1 + prefix_len is_blank bs) 0) (b ∷ bs)) ≡ after_semicolons (tokens_of (b ∷ bs))

  stays : is_blank b ≡ false → tokens_of (b ∷ bs) ≡ after_semicolons (tokens_of (b ∷ bs)) → Skips (is_blank b)
  stays e same = subst Skips (sym e) same

  goes : is_blank b ≡ true → Rest → after_semicolons (tokens_of bs) ≡ after_semicolons (tokens_of (b ∷ bs)) → Skips (is_blank b)
  goes e rest same = subst Skips (sym e) (rw one-more (rest ∙ same))

  by_kind : Kind b → Rest → Skips (is_blank b)
  by_kind (white e) rest = goes (white_is_blank b e) rest (ap after_semicolons (sym (at_white b bs e)))
  by_kind (semicolon w l e) rest = goes (semicolon_is_blank b e) rest (sym (ap after_semicolons (at_mark b bs w l) ∙ ap (λ t. cond t (after_semicolons (tokens_of bs)) (Mark b ∷ tokens_of bs)) e))
  by_kind (letter e) rest = stays (word_isnt_blank b e) (at_letter b bs e ∙ sym (ap after_semicolons (at_letter b bs e) ∙ letter_stays (to_ascii_lowercase b) (begins_with is_word_byte bs) (tokens_of bs)))
  by_kind (other w l e) rest = stays (other_isnt_blank b w e) (at_mark b bs w l ∙ sym (ap after_semicolons (at_mark b bs w l) ∙ ap (λ t. cond t (after_semicolons (tokens_of bs)) (Mark b ∷ tokens_of bs)) e))

pub end_is : (text : List ℕ) → list_all is_blank text ≡ is_end (tokens_of text)
end_is [] = sym (ap is_end no_tokens)
end_is (b ∷ bs) = by_kind (kind_of b) (end_is bs) where
  by_kind : Kind b → list_all is_blank bs ≡ is_end (tokens_of bs) → (is_blank b && list_all is_blank bs) ≡ is_end (tokens_of (b ∷ bs))
  by_kind (white e) rest = ap (λ t. t && list_all is_blank bs) (white_is_blank b e) ∙ rest ∙ ap is_end (sym (at_white b bs e))
  by_kind (semicolon w l e) rest = ap (λ t. t && list_all is_blank bs) (semicolon_is_blank b e) ∙ rest ∙ sym (ap is_end (at_mark b bs w l) ∙ ap (λ t. t && is_end (tokens_of bs)) e)
  by_kind (letter e) rest = ap (λ t. t && list_all is_blank bs) (word_isnt_blank b e) ∙ sym (ap is_end (at_letter b bs e) ∙ letter_is_no_end (to_ascii_lowercase b) (begins_with is_word_byte bs) (tokens_of bs))
  by_kind (other w l e) rest = ap (λ t. t && list_all is_blank bs) (other_isnt_blank b w e) ∙ sym (ap is_end (at_mark b bs w l) ∙ ap (λ t. t && is_end (tokens_of bs)) e)

one_less : (m n : ℕ) → (suc m == suc n) ≡ (m == n)
one_less m n = grind (arith, nat_tests)

-- so many pass at the front as there are, where all do
pub all_of_front : (p : ℕ → Bool) (s : List ℕ) → (prefix_len p s == length s) ≡ list_all p s
all_of_front p [] = refl
all_of_front p (b ∷ bs) = elim (p b) as (λ t. (cond t (1 + prefix_len p bs) 0 == length (b ∷ bs)) ≡ (t && list_all p bs)) [
  | true ↦ ap (λ n. n == length (b ∷ bs)) (one-more (prefix_len p bs)) ∙ one_less (prefix_len p bs) (length bs) ∙ all_of_front p bs
  | false ↦ eqb-zero-suc (length bs)
]
