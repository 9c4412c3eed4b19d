-- The lexemes of a text, one after another.
use Rattle.std.{proofs.{Common.{◌≡◌, ℕ, ◌+◌, ◌<◌, Bool, true, false, cond, ◌==◌, List, [], ◌∷◌, ◌++◌, map, length, drop, Option, Some, None, refl, sym, ap, ◌∙◌, subst, true≢false, append_assoc, length-append, arith}, lemmas.{Bool.eqb-true, List.append-nil, Option.some_pair_parts}}, specs.{Char.is_ascii_whitespace, List.prefix_len}}
use Rattle.pm_sql.specs.{Tokens.{skipped, starts_with_letter}, Token.{Token, Word, Digits, Quoted, Mark, spelling, IsToken, is_joined, IsApart, Spells}}
use Rattle.pm_settings.{specs.{declared.lexeme.Lexeme.Lexeme, Lexemes.{lexeme_of, IsLexed}, Lexing.{token_at, unless_joined, lexeme_at}}, proofs.{Fronts.letter_isnt_white, Tokens.{front_token, token_front, no_token}}}

-- what stands at the front, and what it is
record Stands (rest : List ℕ) (lexeme : Lexeme) (later : List ℕ) : Type 0 where
  token : Token
  found : token_at (skipped rest) ≡ Some (token, later)
  apart : is_joined token later ≡ false
  same : lexeme ≡ lexeme_of token

stands : (rest : List ℕ) (lexeme : Lexeme) (later : List ℕ) → lexeme_at (token_at (skipped rest)) ≡ Some (lexeme, later) → Stands rest lexeme later
stands rest lexeme later = by_token (token_at (skipped rest)) refl where
  by_joined : (token : Token) (after : List ℕ) (b : Bool) → token_at (skipped rest) ≡ Some (token, after) → is_joined token after ≡ b → unless_joined b token after ≡ Some (lexeme, later) → Stands rest lexeme later
  by_joined token after true e joined h = let no : ◌≡◌ {A = Option (Lexeme × List ℕ)} None (Some (lexeme, later)) = h in cc no
  by_joined token after false e joined h =
      let parts = some_pair_parts (lexeme_of token) lexeme after later h in
      record { token = token; found = e ∙ ap (λ (a : List ℕ). Some (token, a)) parts.1; apart = ap (is_joined token) (sym parts.1) ∙ joined; same = sym parts.0 }

  by_token : (seen : Option (Token × List ℕ)) → token_at (skipped rest) ≡ seen → lexeme_at seen ≡ Some (lexeme, later) → Stands rest lexeme later
  by_token None e h = let no : ◌≡◌ {A = Option (Lexeme × List ℕ)} None (Some (lexeme, later)) = h in cc no
  by_token (Some found) e h = by_joined found.0 found.1 (is_joined found.0 found.1) e refl h

-- ---- one step

apart_by : (token : Token) (later : List ℕ) (tokens : List Token) → is_joined token later ≡ false → IsApart token later tokens
apart_by token later [] e = tt
apart_by token later (next ∷ tokens) e = e

goes_on : (rest : List ℕ) (lexeme : Lexeme) (later : List ℕ) (more : List Lexeme) → Stands rest lexeme later → IsLexed later more → IsLexed rest (lexeme ∷ more)
goes_on rest lexeme later more is lexed = (
  is.token ∷ lexed.0,
  (later, token_front rest is.token later is.found, apart_by is.token later lexed.0 is.apart, lexed.1),
  ap (λ l. l ∷ more) is.same ∙ ap (λ l. lexeme_of is.token ∷ l) lexed.2,
)

-- with that one the lexemes of the text begin
begins : (rest : List ℕ) (lexeme : Lexeme) (later : List ℕ) (all : List Lexeme) (tokens : List Token) → Stands rest lexeme later → Spells rest tokens → all ≡ map lexeme_of tokens
    → (more : List Lexeme) × (all ≡ lexeme ∷ more) × IsLexed later more
begins rest lexeme later all [] is spells same = absurd (no_token is.token later (ap token_at spells ∙ is.found))
begins rest lexeme later all (token ∷ tokens) is spells same =
    let parts = some_pair_parts token is.token spells.0 later (sym (front_token rest token spells.0 spells.1) ∙ is.found) in (
      map lexeme_of tokens,
      same ∙ ap (λ t. lexeme_of t ∷ map lexeme_of tokens) parts.0 ∙ ap (λ l. l ∷ map lexeme_of tokens) (sym is.same),
      (tokens, subst (λ r. Spells r tokens) parts.1 spells.3, refl),
    )

white_ends : (rest : List ℕ) → starts_with_letter rest ≡ true → [] ≡ skipped rest → ⊥
white_ends [] letter e = true≢false (sym letter)
white_ends (b ∷ bs) letter e =
    let no : [] ≡ b ∷ bs = e ∙ ap (λ t. drop (cond t (1 + prefix_len is_ascii_whitespace bs) 0) (b ∷ bs)) (letter_isnt_white b letter) in cc no

joined_ends : (token : Token) (rest : List ℕ) → is_joined token rest ≡ true → [] ≡ skipped rest → ⊥
joined_ends (Word letters) rest e = λ h. true≢false (sym e)
joined_ends (Digits digits) rest e = white_ends rest e
joined_ends (Quoted content) rest e = λ h. true≢false (sym e)
joined_ends (Mark byte) rest e = λ h. true≢false (sym e)

never_joined : (token : Token) (rest : List ℕ) (tokens : List Token) → is_joined token rest ≡ true → IsApart token rest tokens → Spells rest tokens → ⊥
never_joined token rest [] e apart spells = joined_ends token rest e spells
never_joined token rest (next ∷ tokens) e apart spells = true≢false (sym e ∙ apart)

-- no lexeme stands there
stuck : (rest : List ℕ) (tokens : List Token) → ([] ≡ skipped rest → ⊥) → lexeme_at (token_at (skipped rest)) ≡ None → Spells rest tokens → ⊥
stuck rest [] more none spells = more spells
stuck rest (token ∷ tokens) more none spells =
    by_joined (is_joined token spells.0) refl (ap lexeme_at (sym (front_token rest token spells.0 spells.1)) ∙ none) where
      by_joined : (b : Bool) → is_joined token spells.0 ≡ b → unless_joined b token spells.0 ≡ None → ⊥
      by_joined true e h = never_joined token spells.0 tokens e spells.2 spells.3
      by_joined false e h = let no : ◌≡◌ {A = Option (Lexeme × List ℕ)} (Some (lexeme_of token, spells.0)) None = h in cc no

-- ---- all of them

-- the lexemes of a text are these, and then those of the rest
pub record Goes (text : List ℕ) (done : List Lexeme) (rest : List ℕ) : Type 0 where
  pub on : (more : List Lexeme) → IsLexed rest more → IsLexed text (done ++ more)
  pub back : (all : List Lexeme) → IsLexed text all → (more : List Lexeme) × (all ≡ done ++ more) × IsLexed rest more

pub at_start : (text : List ℕ) → Goes text [] text
at_start text = record { on = λ more is. is; back = λ all is. (all, refl, is) }

pub one_more : (text : List ℕ) (done : List Lexeme) (rest : List ℕ) (lexeme : Lexeme) (later : List ℕ) → Goes text done rest → lexeme_at (token_at (skipped rest)) ≡ Some (lexeme, later) → Goes text (done ++ lexeme ∷ []) later
one_more text done rest lexeme later goes e =
    let is = stands rest lexeme later e in record {
      on = λ more lexed. rw append_assoc (goes.on (lexeme ∷ more) (goes_on rest lexeme later more is lexed));
      back = λ all lexed.
          let left = goes.back all lexed in
          let next = begins rest lexeme later left.0 left.2.0 is left.2.1 left.2.2 in
          (next.0, left.1 ∙ ap (λ l. done ++ l) next.1 ∙ sym (append_assoc done (lexeme ∷ []) next.0), next.2);
    }

pub at_end : (text : List ℕ) (done : List Lexeme) (rest : List ℕ) → Goes text done rest → [] ≡ skipped rest → IsLexed text done
at_end text done rest goes e = subst (IsLexed text) (append-nil done) (goes.on [] ([], e, refl))

pub none_there : (text : List ℕ) (done : List Lexeme) (rest : List ℕ) (all : List Lexeme) → Goes text done rest → ([] ≡ skipped rest → ⊥) → lexeme_at (token_at (skipped rest)) ≡ None → IsLexed text all → ⊥
none_there text done rest all goes more none lexed = let left = goes.back all lexed in stuck rest left.2.0 more none left.2.1

-- each takes a byte at least
spelled : (token : Token) → IsToken token → 0 < length (spelling token)
spelled (Word []) made = absurd (true≢false (sym made.0))
spelled (Word (b ∷ bs)) made = omega arith
spelled (Digits []) made = absurd (made.0 refl)
spelled (Digits (b ∷ bs)) made = omega arith
spelled (Quoted content) made = omega arith
spelled (Mark byte) made = omega arith

pub shorter : (rest : List ℕ) (lexeme : Lexeme) (later : List ℕ) → lexeme_at (token_at (skipped rest)) ≡ Some (lexeme, later) → length later < length rest
shorter rest lexeme later e =
    let is = stands rest lexeme later e in
    let front = token_front rest is.token later is.found in
    let some = spelled is.token front.made in
    let all = ap length front.split in
    omega (arith, some, all, length-append front.space (spelling is.token ++ later), length-append (spelling is.token) later)

-- ---- a text has its lexemes alone

one_spelling : (text : List ℕ) (tokens others : List Token) → Spells text tokens → Spells text others → tokens ≡ others
one_spelling text [] [] a b = refl
one_spelling text [] (other ∷ others) a b = absurd (no_token other b.0 (ap token_at a ∙ front_token text other b.0 b.1))
one_spelling text (token ∷ tokens) [] a b = absurd (no_token token a.0 (ap token_at b ∙ front_token text token a.0 a.1))
one_spelling text (token ∷ tokens) (other ∷ others) a b =
    let parts = some_pair_parts token other a.0 b.0 (sym (front_token text token a.0 a.1) ∙ front_token text other b.0 b.1) in
    let same : tokens ≡ others = one_spelling a.0 tokens others a.3 (subst (λ r. Spells r others) (sym parts.1) b.3) in
    ap (λ t. t ∷ tokens) parts.0 ∙ ap (λ ts. other ∷ ts) same

pub one_lexing : (text : List ℕ) (lexemes others : List Lexeme) → IsLexed text lexemes → IsLexed text others → lexemes ≡ others
one_lexing text lexemes others a b = a.2 ∙ ap (map lexeme_of) (one_spelling text a.0 b.0 a.1 b.1) ∙ sym b.2

-- ---- as they are read

pub nothing_left : (here black : List ℕ) → here ≡ black → true ≡ (length here == 0) → [] ≡ black
nothing_left [] black same e = same
nothing_left (b ∷ bs) black same e = let none = eqb-true (length (b ∷ bs)) 0 (sym e) in absurd (omega (arith, none))

pub something_left : (here black : List ℕ) → here ≡ black → false ≡ (length here == 0) → [] ≡ black → ⊥
something_left here black same e none = true≢false (sym (e ∙ ap (λ h. length h == 0) (same ∙ sym none)))
