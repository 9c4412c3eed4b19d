-- Where tokens end in a text.
use Rattle.std.{proofs.{Common.{◌≡◌, ◌≢◌, ℕ, zero, suc, ◌+◌, ◌<◌, ◌≤◌, Bool, true, false, cond, ◌==◌, List, [], ◌∷◌, length, get_or, drop, Option, Some, None, MatchOption, Bor, refl, sym, ap, ◌∙◌, arith}, lemmas.{Str.{IsUtf8-drop, IsCharBoundary-after_ascii, IsCharBoundary-from_drop, IsCharBoundary-start}, List.Sums.prefix_len-le-length, Bool.Decides.nat_tests}}, specs.{List.prefix_len, Option.option_copied, Str.{IsUtf8, IsCharBoundary}, Char.is_ascii_digit}}
use Rattle.pm_sql.specs.Tokens.{behind_mark, is_word_byte, word_len, starts_with_letter}

-- the elements at the front that pass are as many as pass before one that doesn't
pub prefix_len-stops : (p : ℕ → Bool) (s : List ℕ) (n : ℕ) → n ≤ length s → ((i : ℕ) → i < n → p (get_or s i 0) ≡ true) → (n < length s → p (get_or s n 0) ≡ false) → prefix_len p s ≡ n
prefix_len-stops p [] n small passes stops = omega arith
prefix_len-stops p (b ∷ bs) zero small passes stops = ap (λ t. cond t (1 + prefix_len p bs) 0) (stops (omega arith))
prefix_len-stops p (b ∷ bs) (suc n) small passes stops =
    let rest : prefix_len p bs ≡ n = prefix_len-stops p bs n (omega arith) (λ i h. passes (suc i) (omega arith)) (λ h. stops (omega arith)) in
    ap (λ t. cond t (1 + prefix_len p bs) 0) (passes 0 (omega arith)) ∙ omega (arith, rest)

-- a test that ASCII alone passes
abbrev pub IsOfAscii : (ℕ → Bool) → Type 0
IsOfAscii p = (b : ℕ) → p b ≡ true → b < 128

after_ascii : (b : ℕ) (bs : List ℕ) → IsUtf8 (b ∷ bs) → b < 128 → IsUtf8 bs
after_ascii b bs u h = IsUtf8-drop (b ∷ bs) 1 u (IsCharBoundary-after_ascii (b ∷ bs) 0 u (omega arith) h)

pub one-more : (n : ℕ) → 1 + n ≡ suc n
one-more n = omega arith

after_prefix : (p : ℕ → Bool) (bs : List ℕ) → IsOfAscii p → IsUtf8 bs → IsUtf8 (drop (prefix_len p bs) bs)
after_prefix p [] ascii u = u
after_prefix p (b ∷ bs) ascii u =
    elim (p b) as (λ t. p b ≡ t → IsUtf8 (drop (cond t (1 + prefix_len p bs) 0) (b ∷ bs))) [
      | true ↦ λ e. rw one-more (after_prefix p bs ascii (after_ascii b bs u (ascii b e)))
      | false ↦ λ e. u
    ] refl

-- a text may be cut there
pub prefix-boundary : (p : ℕ → Bool) (bs : List ℕ) → IsOfAscii p → IsUtf8 bs → IsCharBoundary bs (prefix_len p bs)
prefix-boundary p bs ascii u = IsCharBoundary-from_drop bs (prefix_len p bs) (prefix_len-le-length p bs) (after_prefix p bs ascii u)

pub digits-IsOfAscii : IsOfAscii is_ascii_digit
digits-IsOfAscii b e = grind (arith, nat_tests, e)

pub words-IsOfAscii : IsOfAscii is_word_byte
words-IsOfAscii b e = grind (arith, nat_tests, e)

pub eqb_refl : (n : ℕ) → n == n ≡ true
eqb_refl n = grind (arith, nat_tests)

pub mark_found : (c : ℕ) (bs : List ℕ) (r : Option (Bor (List ℕ))) → MatchOption r ((rest : List ℕ) → bs ≢ c ∷ rest) (λ x. bs ≡ c ∷ x.now) → option_copied r ≡ behind_mark c bs
mark_found c [] None h = refl
mark_found c (b ∷ bs) None h =
    elim (b == c) as (λ t. b == c ≡ t → None ≡ cond t (Some bs) None) [
      | true ↦ λ e. let same : b ≡ c = grind (arith, nat_tests, e) in absurd (h bs (ap (λ x. x ∷ bs) same))
      | false ↦ λ e. refl
    ] refl
mark_found c bs (Some x) h = sym (ap (behind_mark c) h ∙ ap (λ t. cond t (Some x.now) None) (eqb_refl c))

-- a word ends where the text may be cut
pub word-boundary : (bs : List ℕ) → IsUtf8 bs → IsCharBoundary bs (word_len bs)
word-boundary bs u =
    elim (starts_with_letter bs) as (λ t. IsCharBoundary bs (cond t (prefix_len is_word_byte bs) 0)) [
      | true ↦ prefix-boundary is_word_byte bs words-IsOfAscii u
      | false ↦ IsCharBoundary-start bs u
    ]
