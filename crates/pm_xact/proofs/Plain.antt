-- Tokens that are words, commas and semicolons are read from a text exactly where the text spells them.
use Rattle.std.{proofs.{Common.{◌≡◌, ℕ, Bool, true, false, not, nat_lt, ◌==◌, ◌&&◌, List, [], ◌∷◌, ◌++◌, map, take, drop, refl, sym, ap, ◌∙◌, subst, true≢false, take-append-drop, ltb-true, arith}, lemmas.Bool.{and_parts, and_from, not-true, Decides.nat_tests}}, specs.{List.{list_all, prefix_len}, Char.{is_ascii_whitespace, to_ascii_lowercase}}}
use Rattle.pm_sql.specs.{Tokens.{skipped, is_letter, is_word_byte, starts_with_letter}, Token.{Token, Word, Digits, Quoted, Mark, in_lower_case, begins_with, IsFront, IsApart, Spells}}
use Rattle.pm_xact.{specs.Reading.tokens_of, proofs.Lexing.{front_passes, rest_stops, after_white, word_front, mark_front, run_front, at_mark}}

-- a word, or a mark but a quote
abbrev pub is_plain : Token → Bool
is_plain (Word letters) = starts_with_letter letters
is_plain (Digits digits) = false
is_plain (Quoted content) = false
is_plain (Mark byte) = nat_lt byte 128 && not (byte == 39)

abbrev pub are_plain : List Token → Bool
are_plain tokens = list_all is_plain tokens

pub plain_append : (first more : List Token) → are_plain first ≡ true → are_plain more ≡ true → are_plain (first ++ more) ≡ true
plain_append [] more a b = b
plain_append (token ∷ first) more a b = let both = and_parts (is_plain token) (are_plain first) a in and_from (is_plain token) (are_plain (first ++ more)) both.0 (plain_append first more both.1 b)

-- ---- what a text spells is read

token_read : (text : List ℕ) (token : Token) (rest : List ℕ) → is_plain (in_lower_case token) ≡ true → IsFront text token rest → tokens_of text ≡ in_lower_case token ∷ tokens_of rest
token_read text (Word letters) rest plain is = word_front text letters rest is
token_read text (Digits digits) rest plain is = absurd (true≢false (sym plain))
token_read text (Quoted content) rest plain is = absurd (true≢false (sym plain))
token_read text (Mark byte) rest plain is = mark_front text byte rest is

nothing_read : (text : List ℕ) → skipped text ≡ [] → tokens_of text ≡ []
unfolding tokens_of
nothing_read text e = sym (after_white text) ∙ ap tokens_of e

pub spelled_is_read : (text : List ℕ) (tokens : List Token) → Spells text tokens → are_plain (map in_lower_case tokens) ≡ true → tokens_of text ≡ map in_lower_case tokens
spelled_is_read text [] e plain = nothing_read text (sym e)
spelled_is_read text (token ∷ tokens) (rest, is, apart, more) plain =
    let both = and_parts (is_plain (in_lower_case token)) (are_plain (map in_lower_case tokens)) plain in
    token_read text token rest both.0 is ∙ ap (λ t. in_lower_case token ∷ t) (spelled_is_read rest tokens more both.1)

-- ---- what is read the text spells

lower_letter : (b : ℕ) → is_letter (to_ascii_lowercase b) ≡ true → is_letter b ≡ true
lower_letter b e = grind (arith, nat_tests, e)

starts_lower : (letters : List ℕ) → starts_with_letter (map to_ascii_lowercase letters) ≡ true → starts_with_letter letters ≡ true
starts_lower [] e = e
starts_lower (b ∷ bs) e = lower_letter b e

-- the first token of a text, with what comes after it
record IsFirst (text : List ℕ) (token : Token) (tokens : List Token) : Type 0 where
  own : Token
  rest : List ℕ
  front : IsFront text own rest
  same : in_lower_case own ≡ token
  plain : is_plain own ≡ true
  follows : tokens_of rest ≡ tokens

word_first : (text : List ℕ) (b : ℕ) (bs : List ℕ) (token : Token) (tokens : List Token) → skipped text ≡ b ∷ bs → is_word_byte b ≡ true → tokens_of text ≡ token ∷ tokens → is_plain token ≡ true → IsFirst text token tokens
word_first text b bs token tokens here word read plain =
    let n = prefix_len is_word_byte (b ∷ bs) in
    let letters = take n (b ∷ bs) in
    let whole : Word (map to_ascii_lowercase letters) ∷ tokens_of (drop n (b ∷ bs)) ≡ token ∷ tokens = sym (run_front b bs word) ∙ ap tokens_of (sym here) ∙ after_white text ∙ read in
    let same : Word (map to_ascii_lowercase letters) ≡ token = cc whole in
    let starts : starts_with_letter letters ≡ true = starts_lower letters (subst (λ t. is_plain t ≡ true) (sym same) plain) in
    record {
      own = Word letters;
      rest = drop n (b ∷ bs);
      front = record {
        space = take (prefix_len is_ascii_whitespace text) text;
        split = sym (take-append-drop (prefix_len is_ascii_whitespace text) text) ∙ ap (λ t. take (prefix_len is_ascii_whitespace text) text ++ t) (here ∙ sym (take-append-drop n (b ∷ bs)));
        white = front_passes is_ascii_whitespace text;
        made = (starts, front_passes is_word_byte (b ∷ bs));
        ends = rest_stops is_word_byte (b ∷ bs);
      };
      same = same;
      plain = starts;
      follows = cc whole;
    }

mark_first : (text : List ℕ) (b : ℕ) (bs : List ℕ) (token : Token) (tokens : List Token) → skipped text ≡ b ∷ bs → is_ascii_whitespace b ≡ false → is_word_byte b ≡ false → tokens_of text ≡ token ∷ tokens → is_plain token ≡ true → IsFirst text token tokens
mark_first text b bs token tokens here white word read plain =
    let whole : Mark b ∷ tokens_of bs ≡ token ∷ tokens = sym (at_mark b bs white word) ∙ ap tokens_of (sym here) ∙ after_white text ∙ read in
    let same : Mark b ≡ token = cc whole in
    let mark : (nat_lt b 128 && not (b == 39)) ≡ true = subst (λ t. is_plain t ≡ true) (sym same) plain in
    let both = and_parts (nat_lt b 128) (not (b == 39)) mark in
    record {
      own = Mark b;
      rest = bs;
      front = record {
        space = take (prefix_len is_ascii_whitespace text) text;
        split = sym (take-append-drop (prefix_len is_ascii_whitespace text) text) ∙ ap (λ t. take (prefix_len is_ascii_whitespace text) text ++ t) here;
        white = front_passes is_ascii_whitespace text;
        made = (ltb-true b 128 both.0, white, word, not-true (b == 39) both.1);
        ends = refl;
      };
      same = same;
      plain = mark;
      follows = cc whole;
    }

first_of : (text here : List ℕ) (token : Token) (tokens : List Token) → skipped text ≡ here → begins_with is_ascii_whitespace here ≡ false → tokens_of text ≡ token ∷ tokens → is_plain token ≡ true → IsFirst text token tokens
first_of text [] token tokens here black read plain = let none : [] ≡ token ∷ tokens = sym (nothing_read text here) ∙ read in cc none
first_of text (b ∷ bs) token tokens here black read plain = by_test (is_word_byte b) refl where
  by_test : (t : Bool) → is_word_byte b ≡ t → IsFirst text token tokens
  by_test true e = word_first text b bs token tokens here e read plain
  by_test false e = mark_first text b bs token tokens here black e read plain

apart : (token : Token) (rest : List ℕ) (tokens : List Token) → is_plain token ≡ true → IsApart token rest tokens
apart token rest [] plain = tt
apart (Word letters) rest (next ∷ tokens) plain = refl
apart (Digits digits) rest (next ∷ tokens) plain = absurd (true≢false (sym plain))
apart (Quoted content) rest (next ∷ tokens) plain = absurd (true≢false (sym plain))
apart (Mark byte) rest (next ∷ tokens) plain = refl

nothing_stands : (text here : List ℕ) → skipped text ≡ here → begins_with is_ascii_whitespace here ≡ false → tokens_of text ≡ [] → [] ≡ skipped text
nothing_stands text [] here black read = sym here
nothing_stands text (b ∷ bs) here black read = by_test (is_word_byte b) refl where
  by_test : (t : Bool) → is_word_byte b ≡ t → [] ≡ skipped text
  by_test true e = let no : ◌≡◌ {A = List Token} (Word _ ∷ _) [] = sym (run_front b bs e) ∙ ap tokens_of (sym here) ∙ after_white text ∙ read in cc no
  by_test false e = let no : ◌≡◌ {A = List Token} (Mark b ∷ tokens_of bs) [] = sym (at_mark b bs black e) ∙ ap tokens_of (sym here) ∙ after_white text ∙ read in cc no

pub read_is_spelled : (read : List Token) (text : List ℕ) → tokens_of text ≡ read → are_plain read ≡ true → (tokens : List Token) × Spells text tokens × (map in_lower_case tokens ≡ read)
read_is_spelled [] text e plain = ([], nothing_stands text (skipped text) refl (rest_stops is_ascii_whitespace text) e, refl)
read_is_spelled (token ∷ read) text e plain =
    let both = and_parts (is_plain token) (are_plain read) plain in
    let first = first_of text (skipped text) token read refl (rest_stops is_ascii_whitespace text) e both.0 in
    let (tokens, spells, same) = read_is_spelled read first.rest first.follows both.1 in
    (first.own ∷ tokens, (first.rest, first.front, apart first.own first.rest tokens first.plain, spells), ap (λ t. t ∷ map in_lower_case tokens) first.same ∙ ap (λ t. token ∷ t) same)
