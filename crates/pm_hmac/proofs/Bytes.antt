-- Bytes joined by exclusive or, one by one.
use Rattle.std.{proofs.{Common.{◌≡◌, ◌∙◌, ◌↔◌, ◌<◌, ℕ, ◌+◌, List, [], ◌∷◌, ◌++◌, length, take, set, get_or, refl, ap, sym, bit_or, bit_xor, arith}, lemmas.{Grind.common_steps, List.{take_more, take_more_set, map_more, take_all, take_more_same, same_from_push}, Nat.{le_or_l, le_or_r}}}, specs.Int.Bits.{xor_self, xor_assoc, xor_zero_l, xor_zero_r, or_zero_l}}
use Rattle.pm_hmac.specs.Hmac.{xored, masked}

pub xored_push : (xs ys : List ℕ) (x y : ℕ) → length xs ≡ length ys
    → xored (xs ++ x ∷ []) (ys ++ y ∷ []) ≡ xored xs ys ++ bit_xor x y ∷ []
xored_push [] [] x y same = refl
xored_push [] (b ∷ ys) x y same = cc
xored_push (a ∷ xs) [] x y same = cc
xored_push (a ∷ xs) (b ∷ ys) x y same = ap (λ rest. bit_xor a b ∷ rest) (xored_push xs ys x y (omega (arith, same)))

pub xor_none : (a b : ℕ) → bit_xor a b ≡ 0 → a ≡ b
xor_none a b h =
    sym (xor_zero_r a) ∙ ap (λ n. bit_xor a n) (sym (xor_self b)) ∙ sym (xor_assoc a b b)
    ∙ ap (λ n. bit_xor n b) h ∙ xor_zero_l b

-- what differed before, or these two
pub or_none_l : (a b : ℕ) → bit_or a b ≡ 0 → a ≡ 0
or_none_l a b h = omega (arith, le_or_l a b, h)

pub or_none_r : (a b : ℕ) → bit_or a b ≡ 0 → b ≡ 0
or_none_r a b h = omega (arith, le_or_r a b, h)

-- ---- loops that write one byte more
pub masked_more : (mask i : ℕ) (block out : List ℕ) → i < length block → i < length out
    → take i out ≡ masked mask (take i block)
    → take (i + 1) (set out i (bit_xor (get_or block i 0) mask)) ≡ masked mask (take (i + 1) block)
masked_more mask i block out within room before =
    take_more_set out i (bit_xor (get_or block i 0) mask) room
    ∙ ap (λ front. front ++ bit_xor (get_or block i 0) mask ∷ []) before
    ∙ sym (map_more (λ byte. bit_xor byte mask) block i 0 within)

pub xored_more : (i : ℕ) (one other out : List ℕ) → i < length one → i < length other → i < length out
    → take i out ≡ xored (take i one) (take i other)
    → take (i + 1) (set out i (bit_xor (get_or one i 0) (get_or other i 0))) ≡ xored (take (i + 1) one) (take (i + 1) other)
xored_more i one other out a b room before =
    let same : length (take i one) ≡ length (take i other) = grind (arith, common_steps) in
    take_more_set out i (bit_xor (get_or one i 0) (get_or other i 0)) room
    ∙ ap (λ front. front ++ bit_xor (get_or one i 0) (get_or other i 0) ∷ []) before
    ∙ sym (xored_push (take i one) (take i other) (get_or one i 0) (get_or other i 0) same)
    ∙ sym (ap (λ front. xored front (take i other ++ get_or other i 0 ∷ [])) (take_more one i 0 a))
    ∙ sym (ap (λ front. xored (take (i + 1) one) front) (take_more other i 0 b))

pub masked_whole : (mask i n : ℕ) (block out : List ℕ) → i ≡ n → length block ≡ n → length out ≡ n
    → take i out ≡ masked mask (take i block) → out ≡ masked mask block
masked_whole mask i n block out end one two front =
    sym (take_all i out (omega (arith, end, two))) ∙ front
    ∙ ap (masked mask) (take_all i block (omega (arith, end, one)))

pub xored_whole : (i n : ℕ) (one other out : List ℕ) → i ≡ n → length one ≡ n → length other ≡ n → length out ≡ n
    → take i out ≡ xored (take i one) (take i other) → out ≡ xored one other
xored_whole i n one other out end a b o front =
    sym (take_all i out (omega (arith, end, o))) ∙ front
    ∙ ap (λ xs. xored xs (take i other)) (take_all i one (omega (arith, end, a)))
    ∙ ap (λ ys. xored one ys) (take_all i other (omega (arith, end, b)))

-- the test of a loop that compares
pub still_same : (i : ℕ) (one other : List ℕ) (differing : ℕ) → i < length one → i < length other
    → ((differing ≡ 0) ↔ (take i one ≡ take i other))
    → (bit_or differing (bit_xor (get_or one i 0) (get_or other i 0)) ≡ 0) ↔ (take (i + 1) one ≡ take (i + 1) other)
still_same i one other differing a b before = (
  λ none. take_more_same one other i 0 a b (before.0 (or_none_l _ _ none)) (xor_none _ _ (or_none_r _ _ none)),
  λ same.
      let pushed : take i one ++ get_or one i 0 ∷ [] ≡ take i other ++ get_or other i 0 ∷ [] =
      sym (take_more one i 0 a) ∙ same ∙ take_more other i 0 b in
      let parts = same_from_push (take i one) (take i other) (get_or one i 0) (get_or other i 0) pushed in
      ap (λ n. bit_or n (bit_xor (get_or one i 0) (get_or other i 0))) (before.1 parts.0)
      ∙ or_zero_l (bit_xor (get_or one i 0) (get_or other i 0))
      ∙ ap (λ n. bit_xor n (get_or other i 0)) parts.1
      ∙ xor_self (get_or other i 0),
)
