-- The modes of transactions are read as the grammar has them.
use Rattle.std.{proofs.{Common.{◌≡◌, ℕ, zero, suc, ◌<◌, ◌≤◌, inl, inr, Bool, true, false, cond, ◌||◌, List, [], ◌∷◌, ◌++◌, map, length, Option, Some, None, option_and_then, codes, refl, sym, ap, ◌∙◌, subst, true≢false, length-append, arith}, lemmas.{List.append-nil, Option.{same_Some, some_pair_parts}}}, specs.List.list_any}
use Rattle.pm_settings.{specs.{declared.lexeme.Lexeme.{Lexeme, TheVariants.{Word}}, Statements.{words, mark, is_comma, IsMode, IsCommaOrNone, AreModes}, Reading.{choose, is_empty, phrase, after_words, is_to, flagged, mode_in, after_comma, after_mode, modes_within, modes_in}}, proofs.Words.{chosen, after_words_is, mark_is}}

abbrev any : List Bool → Bool
any flags = list_any (λ flag. flag) flags

-- ---- one mode

record Front (lexemes : List Lexeme) (found : Bool × List Lexeme) : Type 0 where
  first : List Lexeme
  mode : IsMode first found.0
  split : lexemes ≡ first ++ found.1

-- one of the modes by its words, or another
flagged_is : (text : List (List ℕ)) (flag : Bool) (lexemes : List Lexeme) (others : Option (Bool × List Lexeme)) (found : Bool × List Lexeme)
    → IsMode (map Word text) flag → (others ≡ Some found → Front lexemes found) → flagged text flag lexemes others ≡ Some found → Front lexemes found
flagged_is text flag lexemes others found mode other =
    chosen (after_words text lexemes) (λ rest. Some (flag, rest)) others found
    (λ rest b same.
    let parts = some_pair_parts flag found.0 rest found.1 same in
    record { first = map Word text; mode = subst (IsMode (map Word text)) parts.0 mode; split = after_words_is text lexemes rest b ∙ ap (λ r. map Word text ++ r) parts.1 })
    other

mode_is : (lexemes : List Lexeme) (found : Bool × List Lexeme) → mode_in lexemes ≡ Some found → Front lexemes found
unfolding mode_in
mode_is lexemes found =
    flagged_is (phrase "read only") true lexemes _ found refl
    (flagged_is (phrase "read write") false lexemes _ found (inl refl)
    (flagged_is (phrase "isolation level serializable") false lexemes _ found (inr (inl refl))
    (flagged_is (phrase "isolation level repeatable read") false lexemes _ found (inr (inr (inl refl)))
    (flagged_is (phrase "isolation level read committed") false lexemes _ found (inr (inr (inr (inl refl))))
    (flagged_is (phrase "isolation level read uncommitted") false lexemes None found (inr (inr (inr (inr refl)))) (λ e. cc e))))))

is_mode : (first rest : List Lexeme) (flag : Bool) → IsMode first flag → mode_in (first ++ rest) ≡ Some (flag, rest)
unfolding mode_in
is_mode first rest true e = ap (λ f. mode_in (f ++ rest)) e
is_mode first rest false (inl e) = ap (λ f. mode_in (f ++ rest)) e
is_mode first rest false (inr (inl e)) = ap (λ f. mode_in (f ++ rest)) e
is_mode first rest false (inr (inr (inl e))) = ap (λ f. mode_in (f ++ rest)) e
is_mode first rest false (inr (inr (inr (inl e)))) = ap (λ f. mode_in (f ++ rest)) e
is_mode first rest false (inr (inr (inr (inr e)))) = ap (λ f. mode_in (f ++ rest)) e

-- it begins with a word that stands nowhere else
pub record Begins (lexemes : List Lexeme) : Type 0 where
  pub letters : List ℕ
  pub rest : List Lexeme
  pub split : lexemes ≡ Word letters ∷ rest
  pub other : is_to (Word letters) ≡ false

begins_by : (letters : List ℕ) (more first rest : List Lexeme) → is_to (Word letters) ≡ false → first ≡ Word letters ∷ more → Begins (first ++ rest)
begins_by letters more first rest other e = record { letters = letters; rest = more ++ rest; split = ap (λ f. f ++ rest) e; other = other }

mode_begins : (first rest : List Lexeme) (flag : Bool) → IsMode first flag → Begins (first ++ rest)
mode_begins first rest true e = begins_by (codes "read") (words "only") first rest refl e
mode_begins first rest false (inl e) = begins_by (codes "read") (words "write") first rest refl e
mode_begins first rest false (inr (inl e)) = begins_by (codes "isolation") (words "level serializable") first rest refl e
mode_begins first rest false (inr (inr (inl e))) = begins_by (codes "isolation") (words "level repeatable read") first rest refl e
mode_begins first rest false (inr (inr (inr (inl e)))) = begins_by (codes "isolation") (words "level read committed") first rest refl e
mode_begins first rest false (inr (inr (inr (inr e)))) = begins_by (codes "isolation") (words "level read uncommitted") first rest refl e

pub modes_begin : (lexemes : List Lexeme) (flags : List Bool) → AreModes lexemes flags → Begins lexemes
modes_begin lexemes [] are = absurd are
modes_begin lexemes (flag ∷ []) mode = subst Begins (append-nil lexemes) (mode_begins lexemes [] flag mode)
modes_begin lexemes (flag ∷ next ∷ more) (first, comma, rest, mode, is_comma, modes, e) = subst Begins (sym e) (mode_begins first (comma ++ rest) flag mode)

-- ---- several

any_more : (a b c : Bool) → ((a || b) || c) ≡ (a || (b || c))
any_more true b c = refl
any_more false b c = refl

any_one : (a b : Bool) → (a || b) ≡ (a || (b || false))
any_one true b = refl
any_one false true = refl
any_one false false = refl

-- after the modes so far these are modes too, and this comes of them all
record Are (so_far : Bool) (lexemes : List Lexeme) (whole : Bool) : Type 0 where
  flags : List Bool
  modes : AreModes lexemes flags
  all : whole ≡ (so_far || any flags)

with_first : (so_far flag whole : Bool) (first comma rest : List Lexeme) → IsMode first flag → IsCommaOrNone comma → Are (so_far || flag) rest whole → Are so_far (first ++ (comma ++ rest)) whole
with_first so_far flag whole first comma rest mode is_comma are = by_flags are.flags are.modes are.all where
  by_flags : (flags : List Bool) → AreModes rest flags → whole ≡ ((so_far || flag) || any flags) → Are so_far (first ++ (comma ++ rest)) whole
  by_flags [] modes e = absurd modes
  by_flags (next ∷ more) modes e = record {
    flags = flag ∷ next ∷ more;
    modes = (first, comma, rest, mode, is_comma, modes, refl);
    all = e ∙ any_more so_far flag (any (next ∷ more));
  }

modes_are_within : (steps : ℕ) (so_far : Bool) (lexemes : List Lexeme) (whole : Bool) → modes_within steps so_far lexemes ≡ Some whole → Are so_far lexemes whole
unfolding modes_within
modes_are_within zero so_far lexemes whole e = cc e
modes_are_within (suc steps) so_far lexemes whole e = by_mode (λ far ls e. modes_are_within steps far ls whole e) (mode_in lexemes) refl e where
  by_rest : ((far : Bool) (ls : List Lexeme) → modes_within steps far ls ≡ Some whole → Are far ls whole) → (flag : Bool) (rest : List Lexeme) → Front lexemes (flag, rest) → after_mode rest (so_far || flag) (modes_within steps (so_far || flag)) ≡ Some whole → Are so_far lexemes whole
  by_rest others flag [] front h = record {
    flags = flag ∷ [];
    modes = subst (λ ls. IsMode ls flag) (sym (append-nil front.first) ∙ sym front.split) front.mode;
    all = sym (same_Some (so_far || flag) whole h) ∙ any_one so_far flag;
  }
  by_rest others flag (lexeme ∷ rest) front h = by_comma (is_comma lexeme) refl h where
    by_comma : (b : Bool) → is_comma lexeme ≡ b → modes_within steps (so_far || flag) (cond b rest (lexeme ∷ rest)) ≡ Some whole → Are so_far lexemes whole
    by_comma true c g =
        let split : lexemes ≡ front.first ++ (mark "," ∷ [] ++ rest) = front.split ∙ ap (λ l. front.first ++ (l ∷ rest)) (mark_is 44 lexeme c) in
        subst (λ ls. Are so_far ls whole) (sym split) (with_first so_far flag whole front.first (mark "," ∷ []) rest front.mode (inr refl) (others (so_far || flag) rest g))
    by_comma false c g = subst (λ ls. Are so_far ls whole) (sym front.split) (with_first so_far flag whole front.first [] (lexeme ∷ rest) front.mode (inl refl) (others (so_far || flag) (lexeme ∷ rest) g))

  by_mode : ((far : Bool) (ls : List Lexeme) → modes_within steps far ls ≡ Some whole → Are far ls whole) → (found : Option (Bool × List Lexeme)) → mode_in lexemes ≡ found → option_and_then (λ found. after_mode found.1 (so_far || found.0) (modes_within steps (so_far || found.0))) found ≡ Some whole → Are so_far lexemes whole
  by_mode others None e h = cc h
  by_mode others (Some found) e h = by_rest others found.0 found.1 (mode_is lexemes found e) h

pub modes_are : (lexemes : List Lexeme) (whole : Bool) → modes_in lexemes ≡ Some whole → (flags : List Bool) × AreModes lexemes flags × (whole ≡ list_any (λ flag. flag) flags)
modes_are lexemes whole e = let are = modes_are_within (length lexemes) false lexemes whole e in (are.flags, are.modes, are.all)

-- what a step reads
step : (steps : ℕ) (so_far flag : Bool) (first rest : List Lexeme) → IsMode first flag → modes_within (suc steps) so_far (first ++ rest) ≡ after_mode rest (so_far || flag) (modes_within steps (so_far || flag))
unfolding modes_within
step steps so_far flag first rest mode = ap (option_and_then (λ found. after_mode found.1 (so_far || found.0) (modes_within steps (so_far || found.0)))) (is_mode first rest flag mode)

after_comma_by : (steps : ℕ) (so_far : Bool) (comma rest : List Lexeme) → IsCommaOrNone comma → Begins rest → after_mode (comma ++ rest) so_far (modes_within steps so_far) ≡ modes_within steps so_far rest
after_comma_by steps so_far comma rest (inl e) begins =
    ap (λ c. after_mode (c ++ rest) so_far (modes_within steps so_far)) e ∙ ap (λ r. after_mode r so_far (modes_within steps so_far)) begins.split ∙ ap (modes_within steps so_far) (sym begins.split)
after_comma_by steps so_far comma rest (inr e) begins = ap (λ c. after_mode (c ++ rest) so_far (modes_within steps so_far)) e

first_has : (first : List Lexeme) (flag : Bool) → IsMode first flag → 0 < length first
first_has first flag mode =
    let begins = mode_begins first [] flag mode in
    let all = ap length begins.split in
    omega (arith, all, ap length (append-nil first))

are_modes_within : (flags : List Bool) (lexemes : List Lexeme) (steps : ℕ) (so_far : Bool) → AreModes lexemes flags → length lexemes ≤ steps → modes_within steps so_far lexemes ≡ Some (so_far || any flags)
are_modes_within [] lexemes steps so_far are enough = absurd are
are_modes_within (flag ∷ []) lexemes zero so_far mode enough = let has = first_has lexemes flag mode in absurd (omega (arith, has, enough))
are_modes_within (flag ∷ []) lexemes (suc steps) so_far mode enough =
    ap (modes_within (suc steps) so_far) (sym (append-nil lexemes)) ∙ step steps so_far flag lexemes [] mode ∙ ap Some (any_one so_far flag)
are_modes_within (flag ∷ next ∷ more) lexemes zero so_far (first, comma, rest, mode, is_comma, modes, e) enough =
    let has = first_has first flag mode in
    let all = ap length e in
    absurd (omega (arith, has, enough, all, length-append first (comma ++ rest)))
are_modes_within (flag ∷ next ∷ more) lexemes (suc steps) so_far (first, comma, rest, mode, is_comma, modes, e) enough =
    let has = first_has first flag mode in
    let all = ap length e in
    let left : length rest ≤ steps = omega (arith, has, enough, all, length-append first (comma ++ rest), length-append comma rest) in
    ap (modes_within (suc steps) so_far) e
    ∙ step steps so_far flag first (comma ++ rest) mode
    ∙ after_comma_by steps (so_far || flag) comma rest is_comma (modes_begin rest (next ∷ more) modes)
    ∙ are_modes_within (next ∷ more) rest steps (so_far || flag) modes left
    ∙ ap Some (any_more so_far flag (any (next ∷ more)))

pub are_modes : (lexemes : List Lexeme) (flags : List Bool) → AreModes lexemes flags → modes_in lexemes ≡ Some (list_any (λ flag. flag) flags)
are_modes lexemes flags modes = are_modes_within flags lexemes (length lexemes) false modes (omega arith)

-- ---- as they are read

pub flagged_here : (text : List (List ℕ)) (flag : Bool) (lexemes : List Lexeme) (others : Option (Bool × List Lexeme)) (rest : List Lexeme) → Some rest ≡ after_words text lexemes → flagged text flag lexemes others ≡ Some (flag, rest)
flagged_here text flag lexemes others rest e = ap (λ found. choose found (λ r. Some (flag, r)) others) (sym e)

pub flagged_else : (text : List (List ℕ)) (flag : Bool) (lexemes : List Lexeme) (others : Option (Bool × List Lexeme)) → None ≡ after_words text lexemes → flagged text flag lexemes others ≡ others
flagged_else text flag lexemes others e = ap (λ found. choose found (λ r. Some (flag, r)) others) (sym e)

pub none_within : (steps : ℕ) (so_far : Bool) (lexemes : List Lexeme) → None ≡ mode_in lexemes → modes_within steps so_far lexemes ≡ None
unfolding modes_within
none_within zero so_far lexemes e = refl
none_within (suc steps) so_far lexemes e = ap (option_and_then (λ found. after_mode found.1 (so_far || found.0) (modes_within steps (so_far || found.0)))) (sym e)

pub last_within : (steps : ℕ) (so_far flag : Bool) (lexemes rest : List Lexeme) → 0 < steps → Some (flag, rest) ≡ mode_in lexemes → is_empty rest ≡ true → modes_within steps so_far lexemes ≡ Some (so_far || flag)
unfolding modes_within
last_within zero so_far flag lexemes rest some e ends = absurd (omega (arith, some))
last_within (suc steps) so_far flag lexemes [] some e ends = ap (option_and_then (λ found. after_mode found.1 (so_far || found.0) (modes_within steps (so_far || found.0)))) (sym e)
last_within (suc steps) so_far flag lexemes (lexeme ∷ rest) some e ends = absurd (true≢false (sym ends))

pub more_within : (steps : ℕ) (so_far flag : Bool) (lexemes rest : List Lexeme) → Some (flag, rest) ≡ mode_in lexemes → is_empty rest ≡ false → modes_within (suc steps) so_far lexemes ≡ modes_within steps (so_far || flag) (after_comma rest)
unfolding modes_within
more_within steps so_far flag lexemes [] e more = absurd (true≢false more)
more_within steps so_far flag lexemes (lexeme ∷ rest) e more = ap (option_and_then (λ found. after_mode found.1 (so_far || found.0) (modes_within steps (so_far || found.0)))) (sym e)

pub no_steps : (so_far : Bool) (lexemes : List Lexeme) → modes_within 0 so_far lexemes ≡ None
unfolding modes_within
no_steps so_far lexemes = refl
