-- The token at the front of a text, as a function that agrees with the relation.
use Rattle.std.{proofs.{Common.{◌≡◌, ℕ, ◌+◌, ◌<◌, Bool, true, false, cond, ◌==◌, nat_lt, IsFalse, List, [], ◌∷◌, ◌++◌, map, length, take, drop, Option, Some, None, IfSome, bytes_eq, refl, sym, ap, ◌∙◌, subst, true≢false, take-append-drop, ltb-true, lt-ltb, arith}, lemmas.{Bool.{and_parts, Decides.nat_tests}, List.Folds.length-prefix_len}, Math.Seq.{take-append_seam, drop-append_seam}}, specs.{List.{list_all, prefix_len}, Char.{is_ascii_whitespace, is_ascii_digit, to_ascii_lowercase}}}
use Rattle.pm_sql.{specs.{Tokens.{skipped, is_letter, is_word_byte, starts_with_letter, word_len, digits_len, is_same_word, behind_word, behind_mark, with_byte, string_in}, Token.{Token, Word, Digits, Quoted, Mark, doubled, spelling, IsToken, begins_with, is_continued, IsFront}}, proofs.{Texts.one-more, Fronts.{passes_up_to, front_passes, rest_stops, front_skipped, front_from}}}

-- ---- the function

abbrev quoted_in : Option (List ℕ × List ℕ) → Option (Token × List ℕ)
quoted_in None = None
quoted_in (Some found) = Some (Quoted found.0, found.1)

abbrev by_first : ℕ → List ℕ → Bool → Bool → Bool → Bool → Option (Token × List ℕ)
by_first b bs true digit quote small = Some (Word (take (prefix_len is_word_byte (b ∷ bs)) (b ∷ bs)), drop (prefix_len is_word_byte (b ∷ bs)) (b ∷ bs))
by_first b bs false true quote small = Some (Digits (take (digits_len (b ∷ bs)) (b ∷ bs)), drop (digits_len (b ∷ bs)) (b ∷ bs))
by_first b bs false false true small = quoted_in (string_in bs)
by_first b bs false false false true = Some (Mark b, bs)
by_first b bs false false false false = None

-- the token at the front, where no white space stands before it
unfoldable pub next_token : List ℕ → Option (Token × List ℕ)
next_token [] = None
next_token (b ∷ bs) = by_first b bs (is_letter b) (is_ascii_digit b) (b == 39) (nat_lt b 128)

pub no_token : (token : Token) (rest : List ℕ) → next_token [] ≡ Some (token, rest) → ⊥
unfolding next_token
no_token token rest e = let no : ◌≡◌ {A = Option (Token × List ℕ)} None (Some (token, rest)) = e in cc no

-- ---- bytes

pub eq_of_test : (b c : ℕ) → b == c ≡ true → b ≡ c
eq_of_test b c e = grind (arith, nat_tests, e)

letter_is_word_byte : (b : ℕ) → is_letter b ≡ true → is_word_byte b ≡ true
letter_is_word_byte b e = grind (arith, nat_tests, e)

digit_isnt_letter : (b : ℕ) → is_ascii_digit b ≡ true → is_letter b ≡ false
digit_isnt_letter b e = grind (arith, nat_tests, e)

isnt_letter : (b : ℕ) → is_word_byte b ≡ false → is_letter b ≡ false
isnt_letter b e = grind (arith, nat_tests, e)

isnt_digit : (b : ℕ) → is_word_byte b ≡ false → is_ascii_digit b ≡ false
isnt_digit b e = grind (arith, nat_tests, e)

neither : (b : ℕ) → is_letter b ≡ false → is_ascii_digit b ≡ false → is_word_byte b ≡ false
neither b e f = grind (arith, nat_tests, e, f)

-- ---- strings

step_in : (b : ℕ) (rest : List ℕ) → b == 39 ≡ false → string_in (b ∷ rest) ≡ with_byte b (string_in rest)
unfolding string_in
step_in b [] e = ap (λ t. cond t (Some ([], [])) None) e
step_in b (c ∷ rest) e = ap (λ t. cond t (cond (c == 39) (with_byte 39 (string_in rest)) (Some ([], c ∷ rest))) (with_byte b (string_in (c ∷ rest)))) e

content_in : (content rest : List ℕ) → begins_with (λ b. b == 39) rest ≡ false → string_in ((doubled content ++ 39 ∷ []) ++ rest) ≡ Some (content, rest)
unfolding string_in
content_in [] [] ends = refl
content_in [] (b ∷ bs) ends = ap (λ t. cond t (with_byte 39 (string_in bs)) (Some ([], b ∷ bs))) ends
content_in (b ∷ content) rest ends =
    elim (b == 39) as (λ t. b == 39 ≡ t → string_in ((cond t (39 ∷ 39 ∷ doubled content) (b ∷ doubled content) ++ 39 ∷ []) ++ rest) ≡ Some (b ∷ content, rest)) [
      | true ↦ λ e. ap (with_byte 39) (content_in content rest ends) ∙ ap (λ (x : ℕ). Some (x ∷ content, rest)) (sym (eq_of_test b 39 e))
      | false ↦ λ e. step_in b ((doubled content ++ 39 ∷ []) ++ rest) e ∙ ap (with_byte b) (content_in content rest ends)
    ] refl

-- a string is its content with its quotes doubled, up to the closing one
abbrev pub StringShape : List ℕ → List ℕ × List ℕ → Type 0
StringShape begin found = (begin ≡ (doubled found.0 ++ 39 ∷ []) ++ found.1) × (begins_with (λ b. b == 39) found.1 ≡ false)

with_plain : (b : ℕ) (begin : List ℕ) (found : Option (List ℕ × List ℕ)) → b == 39 ≡ false → IfSome found (StringShape begin) → IfSome (with_byte b found) (StringShape (b ∷ begin))
with_plain b begin None e shape = tt
with_plain b begin (Some found) e shape = (ap (λ x. b ∷ x) shape.0 ∙ ap (λ t. (cond t (39 ∷ 39 ∷ doubled found.0) (b ∷ doubled found.0) ++ 39 ∷ []) ++ found.1) (sym e), shape.1)

with_quote : (begin : List ℕ) (found : Option (List ℕ × List ℕ)) → IfSome found (StringShape begin) → IfSome (with_byte 39 found) (StringShape (39 ∷ 39 ∷ begin))
with_quote begin None shape = tt
with_quote begin (Some found) shape = (ap (λ x. 39 ∷ 39 ∷ x) shape.0, shape.1)

shape_by : (b c : ℕ) (begin : List ℕ) (closes again : Bool) → b == 39 ≡ closes → c == 39 ≡ again → IfSome (string_in begin) (StringShape begin) → IfSome (string_in (c ∷ begin)) (StringShape (c ∷ begin))
    → IfSome (cond closes (cond again (with_byte 39 (string_in begin)) (Some ([], c ∷ begin))) (with_byte b (string_in (c ∷ begin)))) (StringShape (b ∷ c ∷ begin))
shape_by b c begin true true e f two one =
    let first = eq_of_test b 39 e in
    let second = eq_of_test c 39 f in
    rw (first, second) (with_quote begin (string_in begin) two)
shape_by b c begin true false e f two one = (ap (λ x. x ∷ c ∷ begin) (eq_of_test b 39 e), f)
shape_by b c begin false again e f two one = with_plain b (c ∷ begin) (string_in (c ∷ begin)) e one

shape_of_one : (b : ℕ) (closes : Bool) → b == 39 ≡ closes → IfSome (cond closes (Some ([], [])) None) (StringShape (b ∷ []))
shape_of_one b true e = (ap (λ x. x ∷ []) (eq_of_test b 39 e), refl)
shape_of_one b false e = tt

pub string_shape : (begin : List ℕ) → IfSome (string_in begin) (StringShape begin)
unfolding string_in
string_shape [] = tt
string_shape (b ∷ []) = shape_of_one b (b == 39) refl
string_shape (b ∷ c ∷ begin) = shape_by b c begin (b == 39) (c == 39) refl refl (string_shape begin) (string_shape (c ∷ begin))

-- ---- the token that stands there is found

next_word : (b : ℕ) (bs rest : List ℕ) → IsToken (Word (b ∷ bs)) → begins_with is_word_byte rest ≡ false → next_token (b ∷ bs ++ rest) ≡ Some (Word (b ∷ bs), rest)
unfolding next_token
next_word b bs rest made ends =
    let len : prefix_len is_word_byte (b ∷ bs ++ rest) ≡ length (b ∷ bs) = passes_up_to is_word_byte (b ∷ bs) rest made.1 ends in
    ap (λ t. by_first b (bs ++ rest) t (is_ascii_digit b) (b == 39) (nat_lt b 128)) made.0
    ∙ ap (λ n. Some (Word (take n (b ∷ bs ++ rest)), drop n (b ∷ bs ++ rest))) len
    ∙ ap (λ (t : List ℕ). Some (Word t, drop (length (b ∷ bs)) (b ∷ bs ++ rest))) (take-append_seam (b ∷ bs) rest)
    ∙ ap (λ (t : List ℕ). Some (Word (b ∷ bs), t)) (drop-append_seam (b ∷ bs) rest)

next_digits : (b : ℕ) (bs rest : List ℕ) → IsToken (Digits (b ∷ bs)) → begins_with is_ascii_digit rest ≡ false → next_token (b ∷ bs ++ rest) ≡ Some (Digits (b ∷ bs), rest)
unfolding next_token
next_digits b bs rest made ends =
    let digit = (and_parts (is_ascii_digit b) (list_all is_ascii_digit bs) made.1).0 in
    let len : digits_len (b ∷ bs ++ rest) ≡ length (b ∷ bs) = passes_up_to is_ascii_digit (b ∷ bs) rest made.1 ends in
    ap (λ t. by_first b (bs ++ rest) t (is_ascii_digit b) (b == 39) (nat_lt b 128)) (digit_isnt_letter b digit)
    ∙ ap (λ t. by_first b (bs ++ rest) false t (b == 39) (nat_lt b 128)) digit
    ∙ ap (λ n. Some (Digits (take n (b ∷ bs ++ rest)), drop n (b ∷ bs ++ rest))) len
    ∙ ap (λ (t : List ℕ). Some (Digits t, drop (length (b ∷ bs)) (b ∷ bs ++ rest))) (take-append_seam (b ∷ bs) rest)
    ∙ ap (λ (t : List ℕ). Some (Digits (b ∷ bs), t)) (drop-append_seam (b ∷ bs) rest)

pub next_mark : (b : ℕ) (rest : List ℕ) → b < 128 → is_word_byte b ≡ false → b == 39 ≡ false → next_token (b ∷ rest) ≡ Some (Mark b, rest)
unfolding next_token
next_mark b rest small other quote =
    ap (λ t. by_first b rest t (is_ascii_digit b) (b == 39) (nat_lt b 128)) (isnt_letter b other)
    ∙ ap (λ t. by_first b rest false t (b == 39) (nat_lt b 128)) (isnt_digit b other)
    ∙ ap (λ t. by_first b rest false false t (nat_lt b 128)) quote
    ∙ ap (λ t. by_first b rest false false false t) (lt-ltb b 128 small)

next_of : (token : Token) (rest : List ℕ) → IsToken token → IsFalse (is_continued token rest) → next_token (spelling token ++ rest) ≡ Some (token, rest)
unfolding next_token
next_of (Word []) rest made ends = absurd (true≢false (sym made.0))
next_of (Word (b ∷ bs)) rest made ends = next_word b bs rest made ends
next_of (Digits []) rest made ends = absurd (made.0 refl)
next_of (Digits (b ∷ bs)) rest made ends = next_digits b bs rest made ends
next_of (Quoted content) rest made ends = ap quoted_in (content_in content rest ends)
next_of (Mark b) rest made ends = next_mark b rest made.0 made.2 made.3

pub front_next : (text : List ℕ) (token : Token) (rest : List ℕ) → IsFront text token rest → next_token (skipped text) ≡ Some (token, rest)
front_next text token rest is = ap next_token (front_skipped text token rest is) ∙ next_of token rest is.made is.ends

-- ---- and what is found stands there

abbrev Stands : List ℕ → Token → List ℕ → Type 0
Stands here token rest = (here ≡ spelling token ++ rest) × IsToken token × IsFalse (is_continued token rest)

abbrev StandsIn : List ℕ → Option (Token × List ℕ) → Type 0
StandsIn here seen = IfSome seen (λ found. Stands here found.0 found.1)

starts_taken : (b : ℕ) (bs : List ℕ) → is_letter b ≡ true → starts_with_letter (take (prefix_len is_word_byte (b ∷ bs)) (b ∷ bs)) ≡ true
starts_taken b bs e = ap (λ t. starts_with_letter (take (cond t (1 + prefix_len is_word_byte bs) 0) (b ∷ bs))) (letter_is_word_byte b e) ∙ rw one-more e

no_digits : (digits : List ℕ) → (length digits ≡ 0 → ⊥) → digits ≡ [] → ⊥
no_digits digits some same = some (ap length same)

some_digits : (b : ℕ) (bs : List ℕ) → is_ascii_digit b ≡ true → length (take (digits_len (b ∷ bs)) (b ∷ bs)) ≡ 0 → ⊥
some_digits b bs e none =
    let len : length (take (digits_len (b ∷ bs)) (b ∷ bs)) ≡ digits_len (b ∷ bs) = length-prefix_len is_ascii_digit (b ∷ bs) in
    let more : digits_len (b ∷ bs) ≡ 1 + digits_len bs = ap (λ t. cond t (1 + digits_len bs) 0) e in
    absurd (omega (arith, none, len, more))

stands_by : (b : ℕ) (bs : List ℕ) (letter digit quote small : Bool) → is_letter b ≡ letter → is_ascii_digit b ≡ digit → b == 39 ≡ quote → nat_lt b 128 ≡ small → is_ascii_whitespace b ≡ false
    → StandsIn (b ∷ bs) (by_first b bs letter digit quote small)
stands_by b bs true digit quote small e f g h white =
    (sym (take-append-drop (prefix_len is_word_byte (b ∷ bs)) (b ∷ bs)), (starts_taken b bs e, front_passes is_word_byte (b ∷ bs)), rest_stops is_word_byte (b ∷ bs))
stands_by b bs false true quote small e f g h white =
    (sym (take-append-drop (digits_len (b ∷ bs)) (b ∷ bs)), (no_digits _ (some_digits b bs f), front_passes is_ascii_digit (b ∷ bs)), rest_stops is_ascii_digit (b ∷ bs))
stands_by b bs false false true small e f g h white = by_string (string_in bs) (string_shape bs) where
  by_string : (found : Option (List ℕ × List ℕ)) → IfSome found (StringShape bs) → StandsIn (b ∷ bs) (quoted_in found)
  by_string None shape = tt
  by_string (Some found) shape = (ap (λ x. x ∷ bs) (eq_of_test b 39 g) ∙ ap (λ x. 39 ∷ x) shape.0, tt, shape.1)
stands_by b bs false false false true e f g h white = (refl, (ltb-true b 128 h, white, neither b e f, g), refl)
stands_by b bs false false false false e f g h white = tt

stands : (here : List ℕ) → begins_with is_ascii_whitespace here ≡ false → StandsIn here (next_token here)
unfolding next_token
stands [] black = tt
stands (b ∷ bs) black = stands_by b bs (is_letter b) (is_ascii_digit b) (b == 39) (nat_lt b 128) refl refl refl refl black

pub next_front : (text : List ℕ) (token : Token) (rest : List ℕ) → next_token (skipped text) ≡ Some (token, rest) → IsFront text token rest
next_front text token rest e =
    let found : Stands (skipped text) token rest = subst (StandsIn (skipped text)) e (stands (skipped text) (rest_stops is_ascii_whitespace text)) in
    front_from text token rest found.0 found.1 found.2

-- ---- what a search for a word or a mark finds

-- a word that isn't empty
abbrev pub NotEmpty : List ℕ → Type 0
NotEmpty word = bytes_eq [] (map to_ascii_lowercase word) ≡ false

abbrev pub says_word : List ℕ → Option (Token × List ℕ) → Option (List ℕ)
says_word letters None = None
says_word letters (Some (Word own, rest)) = cond (is_same_word own letters) (Some rest) None
says_word letters (Some (Digits digits, rest)) = None
says_word letters (Some (Quoted content, rest)) = None
says_word letters (Some (Mark byte, rest)) = None

no_quoted_word : (letters : List ℕ) (found : Option (List ℕ × List ℕ)) → None ≡ says_word letters (quoted_in found)
no_quoted_word letters None = refl
no_quoted_word letters (Some found) = refl

word_by : (letters : List ℕ) (b : ℕ) (bs : List ℕ) (letter digit quote small : Bool) → NotEmpty letters
    → cond (is_same_word (take (cond letter (prefix_len is_word_byte (b ∷ bs)) 0) (b ∷ bs)) letters) (Some (drop (cond letter (prefix_len is_word_byte (b ∷ bs)) 0) (b ∷ bs))) None ≡ says_word letters (by_first b bs letter digit quote small)
word_by letters b bs true digit quote small some = refl
word_by letters b bs false true quote small some = ap (λ t. cond t (Some (b ∷ bs)) None) some
word_by letters b bs false false true small some = ap (λ t. cond t (Some (b ∷ bs)) None) some ∙ no_quoted_word letters (string_in bs)
word_by letters b bs false false false true some = ap (λ t. cond t (Some (b ∷ bs)) None) some
word_by letters b bs false false false false some = ap (λ t. cond t (Some (b ∷ bs)) None) some

pub word_seen : (letters here : List ℕ) → NotEmpty letters → behind_word letters here ≡ says_word letters (next_token here)
unfolding next_token
word_seen letters [] some = ap (λ t. cond t (Some []) None) some
word_seen letters (b ∷ bs) some = word_by letters b bs (is_letter b) (is_ascii_digit b) (b == 39) (nat_lt b 128) some

abbrev pub says_mark : ℕ → Option (Token × List ℕ) → Option (List ℕ)
says_mark c None = None
says_mark c (Some (Word own, rest)) = None
says_mark c (Some (Digits digits, rest)) = None
says_mark c (Some (Quoted content, rest)) = None
says_mark c (Some (Mark byte, rest)) = cond (byte == c) (Some rest) None

no_quoted_mark : (c : ℕ) (found : Option (List ℕ × List ℕ)) → None ≡ says_mark c (quoted_in found)
no_quoted_mark c None = refl
no_quoted_mark c (Some found) = refl

-- a character that is a token by itself
abbrev pub IsMark : ℕ → Type 0
IsMark c = (c < 128) × (is_word_byte c ≡ false) × (c == 39 ≡ false)

letter_isnt : (b c : ℕ) → IsMark c → is_letter b ≡ true → b == c ≡ false
letter_isnt b c made e = let other : b ≡ c → ⊥ = λ same. true≢false (sym (letter_is_word_byte b e) ∙ ap is_word_byte same ∙ made.1) in grind (arith, nat_tests, other)

digit_isnt : (b c : ℕ) → IsMark c → is_ascii_digit b ≡ true → b == c ≡ false
digit_isnt b c made e = let other : b ≡ c → ⊥ = λ same. true≢false (sym e ∙ ap is_ascii_digit same ∙ isnt_digit c made.1) in grind (arith, nat_tests, other)

quote_isnt : (b c : ℕ) → IsMark c → b == 39 ≡ true → b == c ≡ false
quote_isnt b c made e = let f = made.2 in grind (arith, nat_tests, e, f)

large_isnt : (b c : ℕ) → IsMark c → nat_lt b 128 ≡ false → b == c ≡ false
large_isnt b c made e = let small = made.0 in grind (arith, nat_tests, e, small)

mark_by : (c b : ℕ) (bs : List ℕ) (letter digit quote small : Bool) → IsMark c → is_letter b ≡ letter → is_ascii_digit b ≡ digit → b == 39 ≡ quote → nat_lt b 128 ≡ small
    → cond (b == c) (Some bs) None ≡ says_mark c (by_first b bs letter digit quote small)
mark_by c b bs true digit quote small made e f g h = ap (λ t. cond t (Some bs) None) (letter_isnt b c made e)
mark_by c b bs false true quote small made e f g h = ap (λ t. cond t (Some bs) None) (digit_isnt b c made f)
mark_by c b bs false false true small made e f g h = ap (λ t. cond t (Some bs) None) (quote_isnt b c made g) ∙ no_quoted_mark c (string_in bs)
mark_by c b bs false false false true made e f g h = refl
mark_by c b bs false false false false made e f g h = ap (λ t. cond t (Some bs) None) (large_isnt b c made h)

pub mark_seen : (c : ℕ) (here : List ℕ) → IsMark c → behind_mark c here ≡ says_mark c (next_token here)
unfolding next_token
mark_seen c [] made = refl
mark_seen c (b ∷ bs) made = mark_by c b bs (is_letter b) (is_ascii_digit b) (b == 39) (nat_lt b 128) made refl refl refl refl

-- ---- words, digits and strings, whatever they are

-- what stands at the front, word or not
abbrev pub says_any_word : Option (Token × List ℕ) → Option (List ℕ × List ℕ)
says_any_word None = None
says_any_word (Some (Word own, rest)) = Some (own, rest)
says_any_word (Some (Digits digits, rest)) = None
says_any_word (Some (Quoted content, rest)) = None
says_any_word (Some (Mark byte, rest)) = None

abbrev pub says_digits : Option (Token × List ℕ) → Option (List ℕ × List ℕ)
says_digits None = None
says_digits (Some (Word own, rest)) = None
says_digits (Some (Digits digits, rest)) = Some (digits, rest)
says_digits (Some (Quoted content, rest)) = None
says_digits (Some (Mark byte, rest)) = None

-- a piece at the front, where it isn't empty
abbrev pub cut : ℕ → List ℕ → Option (List ℕ × List ℕ)
cut n here = cond (n == 0) None (Some (take n here, drop n here))

positive : (n : ℕ) → 1 + n == 0 ≡ false
positive n = grind (arith, nat_tests)

no_quoted_any : (found : Option (List ℕ × List ℕ)) → None ≡ says_any_word (quoted_in found)
no_quoted_any None = refl
no_quoted_any (Some found) = refl

no_quoted_digits : (found : Option (List ℕ × List ℕ)) → None ≡ says_digits (quoted_in found)
no_quoted_digits None = refl
no_quoted_digits (Some found) = refl

some_cut : (n : ℕ) (here : List ℕ) → n == 0 ≡ false → cut n here ≡ Some (take n here, drop n here)
some_cut n here e = ap (λ t. cond t None (Some (take n here, drop n here))) e

letter_counts : (b : ℕ) (bs : List ℕ) → is_letter b ≡ true → prefix_len is_word_byte (b ∷ bs) == 0 ≡ false
letter_counts b bs e = ap (λ t. cond t (1 + prefix_len is_word_byte bs) 0 == 0) (letter_is_word_byte b e) ∙ positive (prefix_len is_word_byte bs)

any_word_by : (b : ℕ) (bs : List ℕ) (letter digit quote small : Bool) → is_letter b ≡ letter → cut (cond letter (prefix_len is_word_byte (b ∷ bs)) 0) (b ∷ bs) ≡ says_any_word (by_first b bs letter digit quote small)
any_word_by b bs true digit quote small e = some_cut (prefix_len is_word_byte (b ∷ bs)) (b ∷ bs) (letter_counts b bs e)
any_word_by b bs false true quote small e = refl
any_word_by b bs false false true small e = no_quoted_any (string_in bs)
any_word_by b bs false false false true e = refl
any_word_by b bs false false false false e = refl

pub any_word_seen : (here : List ℕ) → cut (word_len here) here ≡ says_any_word (next_token here)
unfolding next_token
any_word_seen [] = refl
any_word_seen (b ∷ bs) = any_word_by b bs (is_letter b) (is_ascii_digit b) (b == 39) (nat_lt b 128) refl

digit_counts : (b : ℕ) (bs : List ℕ) → is_ascii_digit b ≡ true → digits_len (b ∷ bs) == 0 ≡ false
digit_counts b bs e = ap (λ t. cond t (1 + digits_len bs) 0 == 0) e ∙ positive (digits_len bs)

no_digit_counts : (b : ℕ) (bs : List ℕ) → is_ascii_digit b ≡ false → cut (digits_len (b ∷ bs)) (b ∷ bs) ≡ None
no_digit_counts b bs e = ap (λ t. cut (cond t (1 + digits_len bs) 0) (b ∷ bs)) e

letter_isnt_digit : (b : ℕ) → is_letter b ≡ true → is_ascii_digit b ≡ false
letter_isnt_digit b e = grind (arith, nat_tests, e)

digits_by : (b : ℕ) (bs : List ℕ) (letter digit quote small : Bool) → is_letter b ≡ letter → is_ascii_digit b ≡ digit → cut (digits_len (b ∷ bs)) (b ∷ bs) ≡ says_digits (by_first b bs letter digit quote small)
digits_by b bs true digit quote small e f = no_digit_counts b bs (letter_isnt_digit b e)
digits_by b bs false true quote small e f = some_cut (digits_len (b ∷ bs)) (b ∷ bs) (digit_counts b bs f)
digits_by b bs false false true small e f = no_digit_counts b bs f ∙ no_quoted_digits (string_in bs)
digits_by b bs false false false true e f = no_digit_counts b bs f
digits_by b bs false false false false e f = no_digit_counts b bs f

pub digits_seen : (here : List ℕ) → cut (digits_len here) here ≡ says_digits (next_token here)
unfolding next_token
digits_seen [] = refl
digits_seen (b ∷ bs) = digits_by b bs (is_letter b) (is_ascii_digit b) (b == 39) (nat_lt b 128) refl refl

-- a string after its opening quote, where one stands
abbrev pub string_behind : Option (List ℕ) → Option (List ℕ × List ℕ)
string_behind None = None
string_behind (Some begin) = string_in begin

abbrev pub says_string : Option (Token × List ℕ) → Option (List ℕ × List ℕ)
says_string None = None
says_string (Some (Word own, rest)) = None
says_string (Some (Digits digits, rest)) = None
says_string (Some (Quoted content, rest)) = Some (content, rest)
says_string (Some (Mark byte, rest)) = None

quoted_says : (found : Option (List ℕ × List ℕ)) → found ≡ says_string (quoted_in found)
quoted_says None = refl
quoted_says (Some found) = refl

string_by : (b : ℕ) (bs : List ℕ) (letter digit quote small : Bool) → is_letter b ≡ letter → is_ascii_digit b ≡ digit → b == 39 ≡ quote
    → string_behind (cond quote (Some bs) None) ≡ says_string (by_first b bs letter digit quote small)
string_by b bs true digit true small e f g = absurd (true≢false (sym e ∙ ap is_letter (eq_of_test b 39 g)))
string_by b bs true digit false small e f g = refl
string_by b bs false true true small e f g = absurd (true≢false (sym f ∙ ap is_ascii_digit (eq_of_test b 39 g)))
string_by b bs false true false small e f g = refl
string_by b bs false false true small e f g = quoted_says (string_in bs)
string_by b bs false false false true e f g = refl
string_by b bs false false false false e f g = refl

pub string_seen : (here : List ℕ) → string_behind (behind_mark 39 here) ≡ says_string (next_token here)
unfolding next_token
string_seen [] = refl
string_seen (b ∷ bs) = string_by b bs (is_letter b) (is_ascii_digit b) (b == 39) (nat_lt b 128) refl refl refl
