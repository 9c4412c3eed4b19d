-- How a string is read piece by piece.
use Rattle.std.proofs.{Common.{◌≡◌, ◌≢◌, ℕ, suc, ◌<◌, false, cond, ◌==◌, List, [], ◌∷◌, ◌++◌, length, get_or, Option, Some, None, refl, sym, ap, ◌∙◌, append_assoc, arith}, lemmas.{List.append-nil, Bool.Decides.nat_tests}}
use Rattle.pm_sql.specs.Tokens.{string_in, with_byte}

-- with this content in front
abbrev pub with_content : List ℕ → Option (List ℕ × List ℕ) → Option (List ℕ × List ℕ)
with_content front None = None
with_content front (Some found) = Some (front ++ found.0, found.1)

with_nothing : (o : Option (List ℕ × List ℕ)) → o ≡ with_content [] o
with_nothing None = refl
with_nothing (Some found) = refl

with_first : (b : ℕ) (front : List ℕ) (o : Option (List ℕ × List ℕ)) → with_byte b (with_content front o) ≡ with_content (b ∷ front) o
with_first b front None = refl
with_first b front (Some found) = refl

with_both : (content front : List ℕ) (o : Option (List ℕ × List ℕ)) → with_content content (with_content front o) ≡ with_content (content ++ front) o
with_both content front None = refl
with_both content front (Some found) = ap (λ (bytes : List ℕ). Some (bytes, found.1)) (sym (append_assoc content front found.0))

with_one : (b : ℕ) (o : Option (List ℕ × List ℕ)) → with_byte b o ≡ with_content (b ∷ []) o
with_one b None = refl
with_one b (Some found) = refl

not_quote : (b : ℕ) → b ≢ 39 → b == 39 ≡ false
not_quote b h = grind (arith, nat_tests, h)

step : (b next : ℕ) (rest : List ℕ) → b ≢ 39 → string_in (b ∷ next ∷ rest) ≡ with_byte b (string_in (next ∷ rest))
unfolding string_in
step b next rest h = ap (λ t. cond t (cond (next == 39) (with_byte 39 (string_in rest)) (Some ([], next ∷ rest))) (with_byte b (string_in (next ∷ rest)))) (not_quote b h)

later : (b : ℕ) (bs : List ℕ) → ((i : ℕ) → i < length (b ∷ bs) → get_or (b ∷ bs) i 0 ≢ 39) → (i : ℕ) → i < length bs → get_or bs i 0 ≢ 39
later b bs none i h = none (suc i) (omega arith)

-- a piece without a quote stands for itself
pieces : (front rest : List ℕ) → ((i : ℕ) → i < length front → get_or front i 0 ≢ 39) → string_in (front ++ 39 ∷ rest) ≡ with_content front (string_in (39 ∷ rest))
pieces [] rest none = with_nothing (string_in (39 ∷ rest))
pieces (b ∷ []) rest none = step b 39 rest (none 0 (omega arith)) ∙ with_one b (string_in (39 ∷ rest))
pieces (b ∷ c ∷ front) rest none =
    step b c (front ++ 39 ∷ rest) (none 0 (omega arith)) ∙ ap (with_byte b) (pieces (c ∷ front) rest (later b (c ∷ front) none)) ∙ with_first b (c ∷ front) (string_in (39 ∷ rest))

doubled : (rest : List ℕ) → string_in (39 ∷ 39 ∷ rest) ≡ with_byte 39 (string_in rest)
unfolding string_in
doubled rest = refl

closing : (rest : List ℕ) → ((more : List ℕ) → rest ≢ 39 ∷ more) → string_in (39 ∷ rest) ≡ Some ([], rest)
unfolding string_in
closing [] h = refl
closing (b ∷ bs) h = ap (λ t. cond t (with_byte 39 (string_in bs)) (Some ([], b ∷ bs))) (not_quote b (λ e. h bs (ap (λ x. x ∷ bs) e)))

-- where no quote stands, no string ends
endless : (bs : List ℕ) → ((i : ℕ) → i < length bs → get_or bs i 0 ≢ 39) → string_in bs ≡ None
unfolding string_in
endless [] none = refl
endless (b ∷ []) none = ap (λ t. cond t (Some ([], [])) None) (not_quote b (none 0 (omega arith)))
endless (b ∷ c ∷ bs) none = step b c bs (none 0 (omega arith)) ∙ ap (with_byte b) (endless (c ∷ bs) (later b (c ∷ bs) none))

-- one piece more, up to two quotes
pub goes_on : (content front after more rest : List ℕ) (whole : Option (List ℕ × List ℕ)) → with_content content (string_in rest) ≡ whole → rest ≡ front ++ 39 ∷ after
    → ((i : ℕ) → i < length front → get_or front i 0 ≢ 39) → after ≡ 39 ∷ more → with_content ((content ++ front) ++ 39 ∷ []) (string_in more) ≡ whole
goes_on content front after more rest whole e cut none again =
    sym (with_both (content ++ front) (39 ∷ []) (string_in more))
    ∙ ap (with_content (content ++ front)) (sym (with_one 39 (string_in more)) ∙ sym (doubled more) ∙ ap (λ a. string_in (39 ∷ a)) (sym again))
    ∙ sym (with_both content front (string_in (39 ∷ after)))
    ∙ ap (with_content content) (sym (pieces front after none) ∙ ap string_in (sym cut))
    ∙ e

-- the last piece, up to the closing quote
pub is_closed : (content front after rest : List ℕ) (whole : Option (List ℕ × List ℕ)) → with_content content (string_in rest) ≡ whole → rest ≡ front ++ 39 ∷ after
    → ((i : ℕ) → i < length front → get_or front i 0 ≢ 39) → ((more : List ℕ) → after ≢ 39 ∷ more) → Some (content ++ front, after) ≡ whole
is_closed content front after rest whole e cut none last =
    ap (λ (bytes : List ℕ). Some (bytes, after)) (sym (append-nil (content ++ front)))
    ∙ ap (with_content (content ++ front)) (sym (closing after last))
    ∙ sym (with_both content front (string_in (39 ∷ after)))
    ∙ ap (with_content content) (sym (pieces front after none) ∙ ap string_in (sym cut))
    ∙ e

-- no closing quote
pub is_open : (content rest : List ℕ) (whole : Option (List ℕ × List ℕ)) → with_content content (string_in rest) ≡ whole → ((i : ℕ) → i < length rest → get_or rest i 0 ≢ 39) → None ≡ whole
is_open content rest whole e none = ap (with_content content) (sym (endless rest none)) ∙ e
