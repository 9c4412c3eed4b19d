-- The bytes of digests, and of what is joined by exclusive or.
use Rattle.std.{proofs.{Common.{◌≡◌, ◌∙◌, ℕ, zero, suc, ◌<◌, List, [], ◌∷◌, ◌++◌, length, refl, ap, bit_xor, arith, w32, lit<}, lemmas.Nat.xor_of_8}, specs.{Int.{byte_at, bytes_high_first, to_be_bytes, Bits.{xor_self, xor_assoc, xor_zero_r}}, List.AllByRecursion, Prelude.slice_index}}
use Rattle.sha2.specs.Sha256.{digest_bytes, sha256}
use Rattle.pm_hmac.specs.Hmac.{xored}

pub xored_twice : (xs ys : List ℕ) → length xs ≡ length ys → xored (xored xs ys) ys ≡ xs
xored_twice [] [] same = refl
xored_twice [] (y ∷ ys) same = refl
xored_twice (x ∷ xs) [] same = cc
xored_twice (x ∷ xs) (y ∷ ys) same =
    ap (λ n. n ∷ xored (xored xs ys) ys) (xor_assoc x y y ∙ ap (bit_xor x) (xor_self y) ∙ xor_zero_r x)
    ∙ ap (λ rest. x ∷ rest) (xored_twice xs ys (omega (arith, same)))

pub length-xored : (xs ys : List ℕ) → length xs ≡ length ys → length (xored xs ys) ≡ length xs
length-xored [] [] same = refl
length-xored [] (y ∷ ys) same = refl
length-xored (x ∷ xs) [] same = cc
length-xored (x ∷ xs) (y ∷ ys) same = let rest = length-xored xs ys (omega (arith, same)) in omega (arith, rest)

-- ---- bytes

-- each element is a byte
abbrev AreSmall : List ℕ → Type 0
AreSmall xs = AllByRecursion (λ x. x < 256) xs

small_at : (xs : List ℕ) → AreSmall xs → (i : ℕ) → slice_index xs i < 256
small_at [] small i = lit< tt
small_at (x ∷ xs) small zero = small.0
small_at (x ∷ xs) small (suc i) = small_at xs small.1 i

small_both : (xs ys : List ℕ) → AreSmall xs → AreSmall ys → AreSmall (xs ++ ys)
small_both [] ys one other = other
small_both (x ∷ xs) ys one other = (one.0, small_both xs ys one.1 other)

byte_small : (i n : ℕ) → byte_at i n < 256
byte_small zero n = omega arith
byte_small (suc i) n = omega arith

high_first_small : (k n : ℕ) → AreSmall (bytes_high_first k n)
high_first_small zero n = tt
high_first_small (suc k) n = (byte_small k n, high_first_small k n)

digest_small : (h : List ℕ) (n : ℕ) → AreSmall (digest_bytes h n)
unfolding digest_bytes
digest_small h zero = tt
digest_small h (suc n) = small_both (digest_bytes h n) (to_be_bytes w32 (slice_index h n)) (digest_small h n) (high_first_small 4 (slice_index h n))

pub byte-sha256 : (message : List ℕ) (i : ℕ) → slice_index (sha256 message) i < 256
unfolding sha256
byte-sha256 message = small_at (sha256 message) (digest_small _ 8)

pub byte-xored : (xs ys : List ℕ) → ((i : ℕ) → slice_index xs i < 256) → ((i : ℕ) → slice_index ys i < 256) → (i : ℕ) → slice_index (xored xs ys) i < 256
byte-xored [] ys a b i = lit< tt
byte-xored (x ∷ xs) [] a b i = lit< tt
byte-xored (x ∷ xs) (y ∷ ys) a b zero = xor_of_8 x y (a 0) (b 0)
byte-xored (x ∷ xs) (y ∷ ys) a b (suc i) = byte-xored xs ys (λ k. a (suc k)) (λ k. b (suc k)) i
