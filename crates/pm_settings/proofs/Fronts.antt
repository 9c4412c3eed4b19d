-- White space before a token, and where a token ends.
use Rattle.std.{proofs.{Common.{◌≡◌, ℕ, ◌+◌, Bool, true, false, cond, IsTrue, IsFalse, List, [], ◌∷◌, ◌++◌, length, take, drop, refl, sym, ap, ◌∙◌, true≢false, take-append-drop, arith}, lemmas.Bool.{and_parts, Decides.nat_tests}, Math.Seq.drop-append_seam}, specs.{List.{list_all, prefix_len}, Char.{is_ascii_whitespace, is_ascii_digit}}}
use Rattle.pm_sql.specs.{Tokens.{skipped, is_letter}, Token.{Token, Word, Digits, Quoted, Mark, spelling, IsToken, begins_with, is_continued, IsWhite, IsFront}}
use Rattle.pm_settings.proofs.Texts.{one-more}

-- ---- where the elements of a list stop to pass

pub passes_up_to : (p : ℕ → Bool) (front rest : List ℕ) → IsTrue (list_all p front) → begins_with p rest ≡ false → prefix_len p (front ++ rest) ≡ length front
passes_up_to p [] [] all stops = refl
passes_up_to p [] (b ∷ bs) all stops = ap (λ t. cond t (1 + prefix_len p bs) 0) stops
passes_up_to p (b ∷ front) rest all stops =
    let both = and_parts (p b) (list_all p front) all in
    let more : prefix_len p (front ++ rest) ≡ length front = passes_up_to p front rest both.1 stops in
    ap (λ t. cond t (1 + prefix_len p (front ++ rest)) 0) both.0 ∙ omega (arith, more)

pub front_passes : (p : ℕ → Bool) (s : List ℕ) → IsTrue (list_all p (take (prefix_len p s) s))
front_passes p [] = refl
front_passes p (b ∷ bs) =
    elim (p b) as (λ t. p b ≡ t → IsTrue (list_all p (take (cond t (1 + prefix_len p bs) 0) (b ∷ bs)))) [
      | true ↦ λ e. rw (one-more, e) (front_passes p bs)
      | false ↦ λ e. refl
    ] refl

pub rest_stops : (p : ℕ → Bool) (s : List ℕ) → begins_with p (drop (prefix_len p s) s) ≡ false
rest_stops p [] = refl
rest_stops p (b ∷ bs) =
    elim (p b) as (λ t. p b ≡ t → begins_with p (drop (cond t (1 + prefix_len p bs) 0) (b ∷ bs)) ≡ false) [
      | true ↦ λ e. rw one-more (rest_stops p bs)
      | false ↦ λ e. e
    ] refl

-- ---- white space

pub letter_isnt_white : (b : ℕ) → is_letter b ≡ true → is_ascii_whitespace b ≡ false
letter_isnt_white b e = grind (arith, nat_tests, e)

pub digit_isnt_white : (b : ℕ) → is_ascii_digit b ≡ true → is_ascii_whitespace b ≡ false
digit_isnt_white b e = grind (arith, nat_tests, e)

no_white : (token : Token) (rest : List ℕ) → IsToken token → begins_with is_ascii_whitespace (spelling token ++ rest) ≡ false
no_white (Word []) rest made = absurd (true≢false (sym made.0))
no_white (Word (b ∷ bs)) rest made = letter_isnt_white b made.0
no_white (Digits []) rest made = absurd (made.0 refl)
no_white (Digits (b ∷ bs)) rest made = digit_isnt_white b (and_parts (is_ascii_digit b) (list_all is_ascii_digit bs) made.1).0
no_white (Quoted content) rest made = refl
no_white (Mark b) rest made = made.1

pub after_space : (space text : List ℕ) → IsWhite space → begins_with is_ascii_whitespace text ≡ false → skipped (space ++ text) ≡ text
after_space space text white stops = rw (passes_up_to is_ascii_whitespace space text white stops) (drop-append_seam space text)

-- after the white space a text begins with its first token
pub front_skipped : (text : List ℕ) (token : Token) (rest : List ℕ) → IsFront text token rest → skipped text ≡ spelling token ++ rest
front_skipped text token rest is = ap skipped is.split ∙ after_space is.space (spelling token ++ rest) is.white (no_white token rest is.made)

pub front_from : (text : List ℕ) (token : Token) (rest : List ℕ) → skipped text ≡ spelling token ++ rest → IsToken token → IsFalse (is_continued token rest) → IsFront text token rest
front_from text token rest e made ends = record {
  space = take (prefix_len is_ascii_whitespace text) text;
  split = sym (take-append-drop (prefix_len is_ascii_whitespace text) text) ∙ ap (λ t. take (prefix_len is_ascii_whitespace text) text ++ t) e;
  white = front_passes is_ascii_whitespace text;
  made = made;
  ends = ends;
}
