-- The token at the front of a text: what is found there is what stands there.
use Rattle.std.{proofs.{Common.{◌≡◌, ℕ, ◌+◌, ◌<◌, Bool, true, false, cond, ◌==◌, nat_lt, IsFalse, List, [], ◌∷◌, ◌++◌, length, take, drop, Option, Some, None, IfSome, refl, sym, ap, ◌∙◌, subst, true≢false, take-append-drop, ltb-true, lt-ltb, arith}, lemmas.{Bool.{and_parts, Decides.nat_tests}, List.Folds.length-prefix_len}, Math.Seq.{take-append_seam, drop-append_seam}}, specs.{List.{list_all, prefix_len}, Char.{is_ascii_whitespace, is_ascii_digit}}}
use Rattle.pm_sql.specs.{Tokens.{skipped, is_letter, is_word_byte, starts_with_letter, digits_len, with_byte, string_in}, Token.{Token, Word, Digits, Quoted, Mark, doubled, spelling, IsToken, begins_with, is_continued, IsFront}}
use Rattle.pm_settings.{specs.Lexing.{quoted_at, other_at, token_at}, proofs.{Texts.one-more, Fronts.{passes_up_to, front_passes, rest_stops, front_skipped, front_from}}}

-- ---- the function

abbrev by_first : ℕ → List ℕ → Bool → Bool → Bool → Bool → Option (Token × List ℕ)
by_first b bs true digit quote small = Some (Word (take (prefix_len is_word_byte (b ∷ bs)) (b ∷ bs)), drop (prefix_len is_word_byte (b ∷ bs)) (b ∷ bs))
by_first b bs false true quote small = Some (Digits (take (digits_len (b ∷ bs)) (b ∷ bs)), drop (digits_len (b ∷ bs)) (b ∷ bs))
by_first b bs false false true small = quoted_at (string_in bs)
by_first b bs false false false true = Some (Mark b, bs)
by_first b bs false false false false = None

-- the token at the front by its first byte
unfoldable next_token : List ℕ → Option (Token × List ℕ)
next_token [] = None
next_token (b ∷ bs) = by_first b bs (is_letter b) (is_ascii_digit b) (b == 39) (nat_lt b 128)

-- ---- bytes

eq_of_test : (b c : ℕ) → b == c ≡ true → b ≡ c
eq_of_test b c e = grind (arith, nat_tests, e)

letter_is_word_byte : (b : ℕ) → is_letter b ≡ true → is_word_byte b ≡ true
letter_is_word_byte b e = grind (arith, nat_tests, e)

digit_isnt_letter : (b : ℕ) → is_ascii_digit b ≡ true → is_letter b ≡ false
digit_isnt_letter b e = grind (arith, nat_tests, e)

isnt_letter : (b : ℕ) → is_word_byte b ≡ false → is_letter b ≡ false
isnt_letter b e = grind (arith, nat_tests, e)

isnt_digit : (b : ℕ) → is_word_byte b ≡ false → is_ascii_digit b ≡ false
isnt_digit b e = grind (arith, nat_tests, e)

neither : (b : ℕ) → is_letter b ≡ false → is_ascii_digit b ≡ false → is_word_byte b ≡ false
neither b e f = grind (arith, nat_tests, e, f)

-- ---- strings

step_in : (b : ℕ) (rest : List ℕ) → b == 39 ≡ false → string_in (b ∷ rest) ≡ with_byte b (string_in rest)
unfolding string_in
step_in b [] e = ap (λ t. cond t (Some ([], [])) None) e
step_in b (c ∷ rest) e = ap (λ t. cond t (cond (c == 39) (with_byte 39 (string_in rest)) (Some ([], c ∷ rest))) (with_byte b (string_in (c ∷ rest)))) e

content_in : (content rest : List ℕ) → begins_with (λ b. b == 39) rest ≡ false → string_in ((doubled content ++ 39 ∷ []) ++ rest) ≡ Some (content, rest)
unfolding string_in
content_in [] [] ends = refl
content_in [] (b ∷ bs) ends = ap (λ t. cond t (with_byte 39 (string_in bs)) (Some ([], b ∷ bs))) ends
content_in (b ∷ content) rest ends =
    elim (b == 39) as (λ t. b == 39 ≡ t → string_in ((cond t (39 ∷ 39 ∷ doubled content) (b ∷ doubled content) ++ 39 ∷ []) ++ rest) ≡ Some (b ∷ content, rest)) [
      | true ↦ λ e. ap (with_byte 39) (content_in content rest ends) ∙ ap (λ (x : ℕ). Some (x ∷ content, rest)) (sym (eq_of_test b 39 e))
      | false ↦ λ e. step_in b ((doubled content ++ 39 ∷ []) ++ rest) e ∙ ap (with_byte b) (content_in content rest ends)
    ] refl

-- a string is its content with its quotes doubled, up to the closing one
abbrev StringShape : List ℕ → List ℕ × List ℕ → Type 0
StringShape begin found = (begin ≡ (doubled found.0 ++ 39 ∷ []) ++ found.1) × (begins_with (λ b. b == 39) found.1 ≡ false)

with_plain : (b : ℕ) (begin : List ℕ) (found : Option (List ℕ × List ℕ)) → b == 39 ≡ false → IfSome found (StringShape begin) → IfSome (with_byte b found) (StringShape (b ∷ begin))
with_plain b begin None e shape = tt
with_plain b begin (Some found) e shape = (ap (λ x. b ∷ x) shape.0 ∙ ap (λ t. (cond t (39 ∷ 39 ∷ doubled found.0) (b ∷ doubled found.0) ++ 39 ∷ []) ++ found.1) (sym e), shape.1)

with_quote : (begin : List ℕ) (found : Option (List ℕ × List ℕ)) → IfSome found (StringShape begin) → IfSome (with_byte 39 found) (StringShape (39 ∷ 39 ∷ begin))
with_quote begin None shape = tt
with_quote begin (Some found) shape = (ap (λ x. 39 ∷ 39 ∷ x) shape.0, shape.1)

shape_by : (b c : ℕ) (begin : List ℕ) (closes again : Bool) → b == 39 ≡ closes → c == 39 ≡ again → IfSome (string_in begin) (StringShape begin) → IfSome (string_in (c ∷ begin)) (StringShape (c ∷ begin))
    → IfSome (cond closes (cond again (with_byte 39 (string_in begin)) (Some ([], c ∷ begin))) (with_byte b (string_in (c ∷ begin)))) (StringShape (b ∷ c ∷ begin))
shape_by b c begin true true e f two one =
    let first = eq_of_test b 39 e in
    let second = eq_of_test c 39 f in
    rw (first, second) (with_quote begin (string_in begin) two)
shape_by b c begin true false e f two one = (ap (λ x. x ∷ c ∷ begin) (eq_of_test b 39 e), f)
shape_by b c begin false again e f two one = with_plain b (c ∷ begin) (string_in (c ∷ begin)) e one

shape_of_one : (b : ℕ) (closes : Bool) → b == 39 ≡ closes → IfSome (cond closes (Some ([], [])) None) (StringShape (b ∷ []))
shape_of_one b true e = (ap (λ x. x ∷ []) (eq_of_test b 39 e), refl)
shape_of_one b false e = tt

string_shape : (begin : List ℕ) → IfSome (string_in begin) (StringShape begin)
unfolding string_in
string_shape [] = tt
string_shape (b ∷ []) = shape_of_one b (b == 39) refl
string_shape (b ∷ c ∷ begin) = shape_by b c begin (b == 39) (c == 39) refl refl (string_shape begin) (string_shape (c ∷ begin))

-- ---- the token that stands there is found

next_word : (b : ℕ) (bs rest : List ℕ) → IsToken (Word (b ∷ bs)) → begins_with is_word_byte rest ≡ false → next_token (b ∷ bs ++ rest) ≡ Some (Word (b ∷ bs), rest)
unfolding next_token
next_word b bs rest made ends =
    let len : prefix_len is_word_byte (b ∷ bs ++ rest) ≡ length (b ∷ bs) = passes_up_to is_word_byte (b ∷ bs) rest made.1 ends in
    ap (λ t. by_first b (bs ++ rest) t (is_ascii_digit b) (b == 39) (nat_lt b 128)) made.0
    ∙ ap (λ n. Some (Word (take n (b ∷ bs ++ rest)), drop n (b ∷ bs ++ rest))) len
    ∙ ap (λ (t : List ℕ). Some (Word t, drop (length (b ∷ bs)) (b ∷ bs ++ rest))) (take-append_seam (b ∷ bs) rest)
    ∙ ap (λ (t : List ℕ). Some (Word (b ∷ bs), t)) (drop-append_seam (b ∷ bs) rest)

next_digits : (b : ℕ) (bs rest : List ℕ) → IsToken (Digits (b ∷ bs)) → begins_with is_ascii_digit rest ≡ false → next_token (b ∷ bs ++ rest) ≡ Some (Digits (b ∷ bs), rest)
unfolding next_token
next_digits b bs rest made ends =
    let digit = (and_parts (is_ascii_digit b) (list_all is_ascii_digit bs) made.1).0 in
    let len : digits_len (b ∷ bs ++ rest) ≡ length (b ∷ bs) = passes_up_to is_ascii_digit (b ∷ bs) rest made.1 ends in
    ap (λ t. by_first b (bs ++ rest) t (is_ascii_digit b) (b == 39) (nat_lt b 128)) (digit_isnt_letter b digit)
    ∙ ap (λ t. by_first b (bs ++ rest) false t (b == 39) (nat_lt b 128)) digit
    ∙ ap (λ n. Some (Digits (take n (b ∷ bs ++ rest)), drop n (b ∷ bs ++ rest))) len
    ∙ ap (λ (t : List ℕ). Some (Digits t, drop (length (b ∷ bs)) (b ∷ bs ++ rest))) (take-append_seam (b ∷ bs) rest)
    ∙ ap (λ (t : List ℕ). Some (Digits (b ∷ bs), t)) (drop-append_seam (b ∷ bs) rest)

next_mark : (b : ℕ) (rest : List ℕ) → b < 128 → is_word_byte b ≡ false → b == 39 ≡ false → next_token (b ∷ rest) ≡ Some (Mark b, rest)
unfolding next_token
next_mark b rest small other quote =
    ap (λ t. by_first b rest t (is_ascii_digit b) (b == 39) (nat_lt b 128)) (isnt_letter b other)
    ∙ ap (λ t. by_first b rest false t (b == 39) (nat_lt b 128)) (isnt_digit b other)
    ∙ ap (λ t. by_first b rest false false t (nat_lt b 128)) quote
    ∙ ap (λ t. by_first b rest false false false t) (lt-ltb b 128 small)

next_of : (token : Token) (rest : List ℕ) → IsToken token → IsFalse (is_continued token rest) → next_token (spelling token ++ rest) ≡ Some (token, rest)
unfolding next_token
next_of (Word []) rest made ends = absurd (true≢false (sym made.0))
next_of (Word (b ∷ bs)) rest made ends = next_word b bs rest made ends
next_of (Digits []) rest made ends = absurd (made.0 refl)
next_of (Digits (b ∷ bs)) rest made ends = next_digits b bs rest made ends
next_of (Quoted content) rest made ends = ap quoted_at (content_in content rest ends)
next_of (Mark b) rest made ends = next_mark b rest made.0 made.2 made.3

front_next : (text : List ℕ) (token : Token) (rest : List ℕ) → IsFront text token rest → next_token (skipped text) ≡ Some (token, rest)
front_next text token rest is = ap next_token (front_skipped text token rest is) ∙ next_of token rest is.made is.ends

-- ---- and what is found stands there

abbrev Stands : List ℕ → Token → List ℕ → Type 0
Stands here token rest = (here ≡ spelling token ++ rest) × IsToken token × IsFalse (is_continued token rest)

abbrev StandsIn : List ℕ → Option (Token × List ℕ) → Type 0
StandsIn here seen = IfSome seen (λ found. Stands here found.0 found.1)

starts_taken : (b : ℕ) (bs : List ℕ) → is_letter b ≡ true → starts_with_letter (take (prefix_len is_word_byte (b ∷ bs)) (b ∷ bs)) ≡ true
starts_taken b bs e = ap (λ t. starts_with_letter (take (cond t (1 + prefix_len is_word_byte bs) 0) (b ∷ bs))) (letter_is_word_byte b e) ∙ rw one-more e

no_digits : (digits : List ℕ) → (length digits ≡ 0 → ⊥) → digits ≡ [] → ⊥
no_digits digits some same = some (ap length same)

some_digits : (b : ℕ) (bs : List ℕ) → is_ascii_digit b ≡ true → length (take (digits_len (b ∷ bs)) (b ∷ bs)) ≡ 0 → ⊥
some_digits b bs e none =
    let len : length (take (digits_len (b ∷ bs)) (b ∷ bs)) ≡ digits_len (b ∷ bs) = length-prefix_len is_ascii_digit (b ∷ bs) in
    let more : digits_len (b ∷ bs) ≡ 1 + digits_len bs = ap (λ t. cond t (1 + digits_len bs) 0) e in
    absurd (omega (arith, none, len, more))

stands_by : (b : ℕ) (bs : List ℕ) (letter digit quote small : Bool) → is_letter b ≡ letter → is_ascii_digit b ≡ digit → b == 39 ≡ quote → nat_lt b 128 ≡ small → is_ascii_whitespace b ≡ false
    → StandsIn (b ∷ bs) (by_first b bs letter digit quote small)
stands_by b bs true digit quote small e f g h white =
    (sym (take-append-drop (prefix_len is_word_byte (b ∷ bs)) (b ∷ bs)), (starts_taken b bs e, front_passes is_word_byte (b ∷ bs)), rest_stops is_word_byte (b ∷ bs))
stands_by b bs false true quote small e f g h white =
    (sym (take-append-drop (digits_len (b ∷ bs)) (b ∷ bs)), (no_digits _ (some_digits b bs f), front_passes is_ascii_digit (b ∷ bs)), rest_stops is_ascii_digit (b ∷ bs))
stands_by b bs false false true small e f g h white = by_string (string_in bs) (string_shape bs) where
  by_string : (found : Option (List ℕ × List ℕ)) → IfSome found (StringShape bs) → StandsIn (b ∷ bs) (quoted_at found)
  by_string None shape = tt
  by_string (Some found) shape = (ap (λ x. x ∷ bs) (eq_of_test b 39 g) ∙ ap (λ x. 39 ∷ x) shape.0, tt, shape.1)
stands_by b bs false false false true e f g h white = (refl, (ltb-true b 128 h, white, neither b e f, g), refl)
stands_by b bs false false false false e f g h white = tt

stands : (here : List ℕ) → begins_with is_ascii_whitespace here ≡ false → StandsIn here (next_token here)
unfolding next_token
stands [] black = tt
stands (b ∷ bs) black = stands_by b bs (is_letter b) (is_ascii_digit b) (b == 39) (nat_lt b 128) refl refl refl refl black

next_front : (text : List ℕ) (token : Token) (rest : List ℕ) → next_token (skipped text) ≡ Some (token, rest) → IsFront text token rest
next_front text token rest e =
    let found : Stands (skipped text) token rest = subst (StandsIn (skipped text)) e (stands (skipped text) (rest_stops is_ascii_whitespace text)) in
    front_from text token rest found.0 found.1 found.2

-- ---- as it is read

digits_by : (b : ℕ) (bs : List ℕ) (digit quote : Bool) → is_ascii_digit b ≡ digit
    → cond (cond digit (1 + digits_len bs) 0 == 0) (other_at (b ∷ bs) (cond quote (Some bs) None)) (Some (Digits (take (digits_len (b ∷ bs)) (b ∷ bs)), drop (digits_len (b ∷ bs)) (b ∷ bs))) ≡ by_first b bs false digit quote (nat_lt b 128)
digits_by b bs true quote e = ap (λ t. cond t (other_at (b ∷ bs) (cond quote (Some bs) None)) (Some (Digits (take (digits_len (b ∷ bs)) (b ∷ bs)), drop (digits_len (b ∷ bs)) (b ∷ bs)))) (not_none (digits_len bs)) where
  not_none : (n : ℕ) → 1 + n == 0 ≡ false
  not_none n = grind (arith, nat_tests)
digits_by b bs false true e = refl
digits_by b bs false false e = by_size (nat_lt b 128) where
  by_size : (small : Bool) → cond small (Some (Mark b, bs)) None ≡ by_first b bs false false false small
  by_size true = refl
  by_size false = refl

token_by : (b : ℕ) (bs : List ℕ) (letter : Bool)
    → cond letter (Some (Word (take (cond letter (prefix_len is_word_byte (b ∷ bs)) 0) (b ∷ bs)), drop (cond letter (prefix_len is_word_byte (b ∷ bs)) 0) (b ∷ bs)))
    (cond (digits_len (b ∷ bs) == 0) (other_at (b ∷ bs) (cond (b == 39) (Some bs) None)) (Some (Digits (take (digits_len (b ∷ bs)) (b ∷ bs)), drop (digits_len (b ∷ bs)) (b ∷ bs))))
    ≡ by_first b bs letter (is_ascii_digit b) (b == 39) (nat_lt b 128)
token_by b bs true = refl
token_by b bs false = digits_by b bs (is_ascii_digit b) (b == 39) refl

token_is : (here : List ℕ) → token_at here ≡ next_token here
unfolding token_at next_token
token_is [] = refl
token_is (b ∷ bs) = token_by b bs (is_letter b)

pub front_token : (text : List ℕ) (token : Token) (rest : List ℕ) → IsFront text token rest → token_at (skipped text) ≡ Some (token, rest)
front_token text token rest is = token_is (skipped text) ∙ front_next text token rest is

pub token_front : (text : List ℕ) (token : Token) (rest : List ℕ) → token_at (skipped text) ≡ Some (token, rest) → IsFront text token rest
token_front text token rest e = next_front text token rest (sym (token_is (skipped text)) ∙ e)

pub no_token : (token : Token) (rest : List ℕ) → token_at [] ≡ Some (token, rest) → ⊥
unfolding token_at
no_token token rest e = let no : ◌≡◌ {A = Option (Token × List ℕ)} None (Some (token, rest)) = e in cc no
