-- How bytes are put together that are appended in turn.
use Rattle.std.{proofs.{Common.{◌≡◌, ℕ, ◌+◌, ◌<◌, List, [], ◌∷◌, ◌++◌, length, get_or, take, refl, sym, ◌∙◌, ap, append_assoc, add-one}, lemmas.List.flat_map_more, Math.Seq.take-suc}, specs.List.flat_map}

-- pieces appended in turn
pub appended-four : (a b c d e r s t u c' d' e' : List ℕ) → r ≡ a ++ b → s ≡ r ++ c → t ≡ s ++ d → u ≡ t ++ e → c ≡ c' → d ≡ d' → e ≡ e' → u ≡ a ++ (b ++ (c' ++ (d' ++ e')))
appended-four a b c d e r s t u c' d' e' p q v w x y z =
    let joined : u ≡ (((a ++ b) ++ c) ++ d) ++ e = cc in
    joined ∙ simp append_assoc (cc)

pub appended-key : (a b c d r s t b' c' d' : List ℕ) → r ≡ a ++ b → s ≡ r ++ c → t ≡ s ++ d → b ≡ b' → c ≡ c' → d ≡ d' → t ≡ a ++ (b' ++ (c' ++ d'))
appended-key a b c d r s t b' c' d' p q v w x y =
    let joined : t ≡ ((a ++ b') ++ c') ++ d' = cc in
    joined ∙ simp append_assoc (cc)

-- one piece more of a list of pieces
pub one_more : {A : Type 0} (f : A → List ℕ) (out head r s : List ℕ) (xs : List A) (i : ℕ) (x : A) → i < length xs → x ≡ get_or xs i x
    → r ≡ out ++ (head ++ flat_map f (take i xs)) → s ≡ r ++ f x → s ≡ out ++ (head ++ flat_map f (take (i + 1) xs))
one_more f out head r s xs i x lt is before now =
    let more : take (i + 1) xs ≡ take i xs ++ x ∷ [] = rw (add-one, take-suc xs i x lt, ← is) refl in
    now ∙ ap (λ (l : List ℕ). l ++ f x) (before ∙ sym (append_assoc out head (flat_map f (take i xs))))
    ∙ flat_map_more f (out ++ head) (take i xs) x
    ∙ ap (λ l. (out ++ head) ++ flat_map f l) (sym more)
    ∙ append_assoc out head (flat_map f (take (i + 1) xs))

-- one row less of the rows that are left
pub row_written : (out head rest now then row all : List ℕ) → now ++ (row ++ rest) ≡ out ++ all → then ≡ now ++ row → then ++ rest ≡ out ++ all
row_written out head rest now then row all before is = ap (λ (l : List ℕ). l ++ rest) is ∙ append_assoc now row rest ∙ before

-- one piece more after others
pub onto : (a b c c' r s : List ℕ) → r ≡ a ++ b → s ≡ r ++ c → c ≡ c' → s ≡ a ++ (b ++ c')
onto a b c c' r s p q e = q ∙ ap (λ (t : List ℕ). t ++ c) p ∙ append_assoc a b c ∙ ap (λ (t : List ℕ). a ++ (b ++ t)) e
