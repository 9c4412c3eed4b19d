-- The text of a fault is short, and holds a zero byte only where the text that it is told of does.
use Rattle.std.{proofs.{Common.{◌≡◌, ℕ, zero, suc, ◌+◌, ◌-◌, ◌≤◌, Bool, true, false, cond, ◌==◌, ◌||◌, List, [], ◌∷◌, ◌++◌, map, length, take, drop, Option, Some, None, Result, Ok, Err, IfOk, codes, refl, sym, ap, ◌∙◌, subst, length-append, arith}, lemmas.Bool.Decides.nat_tests}, specs.{List.list_any, Char.to_ascii_lowercase, Str.str_to_ascii_lowercase}}
use Rattle.pm_rows.specs.pm_facts.Zeros.{HasNoZero, no_zero-append}
use Rattle.pm_sql.specs.{declared.query.SqlFault.{SqlFault, TheVariants.{Syntax, Table, Range, TooLong, TooMany, NoMemory}}, Tokens.{starts_with_letter, word_len, digits_len, behind_mark, string_in, string_end}, Message.{is_boundary, from_place, up_to_place, char_len, string_token, other_token, token_of, syntax_message, message_of}}

-- ---- pieces of a text

-- no longer than a text, and without a zero where the text has none
pub record IsPiece (text piece : List ℕ) : Type 0 where
  pub shorter : length piece ≤ length text
  pub zero_free : HasNoZero text → HasNoZero piece

zero_parts : (x : ℕ) (xs : List ℕ) → HasNoZero (x ∷ xs) → (x == 0 ≡ false) × HasNoZero xs
zero_parts x xs = by_zero (x == 0) where
  by_zero : (b : Bool) → b || list_any (λ byte. byte == 0) xs ≡ false → (b ≡ false) × HasNoZero xs
  by_zero true e = cc e
  by_zero false e = (refl, e)

zero_free_cons : (x : ℕ) (xs : List ℕ) → x == 0 ≡ false → HasNoZero xs → HasNoZero (x ∷ xs)
zero_free_cons x xs e more = ap (λ b. b || list_any (λ byte. byte == 0) xs) e ∙ more

whole : (text : List ℕ) → IsPiece text text
whole text = record { shorter = omega arith; zero_free = λ h. h }

none : (text : List ℕ) → IsPiece text []
none text = record { shorter = omega arith; zero_free = λ h. refl }

piece_of : (a b c : List ℕ) → IsPiece a b → IsPiece b c → IsPiece a c
piece_of a b c first then = let x = first.shorter in let y = then.shorter in record { shorter = omega (arith, x, y); zero_free = λ h. then.zero_free (first.zero_free h) }

front : (n : ℕ) (text : List ℕ) → IsPiece text (take n text)
front zero text = none text
front (suc n) [] = none []
front (suc n) (b ∷ bs) =
    let more = front n bs in
    let small = more.shorter in
    record { shorter = omega (arith, small); zero_free = λ h. let both = zero_parts b bs h in zero_free_cons b (take n bs) both.0 (more.zero_free both.1) }

behind : (n : ℕ) (text : List ℕ) → IsPiece text (drop n text)
behind zero text = whole text
behind (suc n) [] = none []
behind (suc n) (b ∷ bs) =
    let more = behind n bs in
    let small = more.shorter in
    record { shorter = omega (arith, small); zero_free = λ h. more.zero_free (zero_parts b bs h).1 }

either : (b : Bool) (text x y : List ℕ) → IsPiece text x → IsPiece text y → IsPiece text (cond b x y)
either true text x y first other = first
either false text x y first other = other

lower_zero : (b : ℕ) → b == 0 ≡ false → to_ascii_lowercase b == 0 ≡ false
lower_zero b e = grind (arith, nat_tests, e)

lowered : (text : List ℕ) → IsPiece text (map to_ascii_lowercase text)
lowered [] = none []
lowered (b ∷ bs) =
    let more = lowered bs in
    let small = more.shorter in
    record { shorter = omega (arith, small); zero_free = λ h. let both = zero_parts b bs h in zero_free_cons (to_ascii_lowercase b) (map to_ascii_lowercase bs) (lower_zero b both.0) (more.zero_free both.1) }

-- ---- tokens

place_piece : (text : List ℕ) (place : ℕ) → IsPiece text (from_place text place)
place_piece text place = either (is_boundary text place) text (drop place text) [] (behind place text) (none text)

up_piece : (text : List ℕ) (place : ℕ) → IsPiece text (up_to_place text place)
up_piece text place = either (is_boundary text place) text (take place text) text (front place text) (whole text)

string_piece : (b : ℕ) (bs : List ℕ) (found : Option (List ℕ)) → IsPiece (b ∷ bs) (string_token (b ∷ bs) found)
string_piece b bs None = record { shorter = omega arith; zero_free = λ h. refl }
string_piece b bs (Some left) = up_piece (b ∷ bs) (length (b ∷ bs) - length left)

other_piece : (here : List ℕ) → IsPiece here (other_token here (behind_mark 39 here))
other_piece [] = up_piece [] (char_len 0)
other_piece (b ∷ bs) = by_quote (b == 39) where
  by_quote : (t : Bool) → IsPiece (b ∷ bs) (other_token (b ∷ bs) (cond t (Some bs) None))
  by_quote true = string_piece b bs (string_end (string_in bs))
  by_quote false = up_piece (b ∷ bs) (char_len b)

token_piece : (here : List ℕ) → IsPiece here (token_of here)
token_piece here =
    either (starts_with_letter here) here (take (word_len here) here) _ (front (word_len here) here)
    (either (digits_len here == 0) here (other_token here (behind_mark 39 here)) (take (digits_len here) here) (other_piece here) (front (digits_len here) here))

-- ---- messages

pub record IsMessage (text message : List ℕ) : Type 0 where
  pub short : length message ≤ length text + 37
  pub zero_free : HasNoZero text → HasNoZero message

fixed : (text message : List ℕ) → length message ≤ 37 → HasNoZero message → IsMessage text message
fixed text message short free = record { short = omega (arith, short); zero_free = λ h. free }

framed : (text first piece last : List ℕ) → IsPiece text piece → length first + length last ≤ 37 → HasNoZero first → HasNoZero last → IsMessage text ((first ++ piece) ++ last)
framed text first piece last is small a b =
    let long = is.shorter in
    record {
      short = omega (arith, long, small, length-append (first ++ piece) last, length-append first piece);
      zero_free = λ h. no_zero-append (first ++ piece) last (no_zero-append first piece a (is.zero_free h)) b;
    }

syntax_is : (text here : List ℕ) → IsPiece text here → IsMessage text (syntax_message here)
syntax_is text [] is = fixed text (codes "syntax error at end of input") (omega arith) refl
syntax_is text (b ∷ bs) is = framed text (codes "syntax error at or near \"") (token_of (b ∷ bs)) (codes "\"") (piece_of text (b ∷ bs) (token_of (b ∷ bs)) is (token_piece (b ∷ bs))) (omega arith) refl refl

pub message_is : (text : List ℕ) (fault : SqlFault) → IsMessage text (message_of text fault)
message_is text (Syntax place) = syntax_is text (from_place text place) (place_piece text place)
message_is text (Table place) =
    let here = from_place text place in
    framed text (codes "relation \"") (str_to_ascii_lowercase (token_of here)) (codes "\" does not exist")
    (piece_of text here (str_to_ascii_lowercase (token_of here)) (place_piece text place) (piece_of here (token_of here) (str_to_ascii_lowercase (token_of here)) (token_piece here) (lowered (token_of here)))) (omega arith) refl refl
message_is text (Range place) = fixed text (codes "bigint out of range") (omega arith) refl
message_is text (TooLong place) = fixed text (codes "value exceeds 8192 bytes") (omega arith) refl
message_is text (TooMany place) = fixed text (codes "query exceeds 1000 writing statements") (omega arith) refl
message_is text NoMemory = fixed text (codes "out of memory") (omega arith) refl

-- so a text that holds the message is short and free of zeros
pub short_of : {E : Type 0} (text : List ℕ) (fault : SqlFault) (made : Result (List ℕ) E) → IfOk made (λ message. message ≡ message_of text fault) → IfOk made (λ message. length message ≤ length text + 37)
short_of text fault (Ok message) e = subst (λ m. length m ≤ length text + 37) (sym e) (message_is text fault).short
short_of text fault (Err error) e = tt

pub zero_free_of : {E : Type 0} (text : List ℕ) (fault : SqlFault) (made : Result (List ℕ) E) → IfOk made (λ message. message ≡ message_of text fault) → HasNoZero text → IfOk made HasNoZero
zero_free_of text fault (Ok message) e free = subst HasNoZero (sym e) ((message_is text fault).zero_free free)
zero_free_of text fault (Err error) e free = tt
